use Rattle.std.proofs.Common.{◌+◌, length}
use Rattle.core_invariant.specs.KernelStates.{own_save, own_restore}
use Rattle.scrub_rules.proofs.Joined.{joined}
use Rattle.scrub_rules.proofs.laws.parts_make_routines.Goals as goal

pub returns : goal.returns
returns c =
    let parts = c.own_parts_are_accepted.ensures.parts in
    record {
      routines = record {
        each = joined;
        own = joined own_save own_restore parts.save (parts.restore (length own_save + 1));
      };
    }
