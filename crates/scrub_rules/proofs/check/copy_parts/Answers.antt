-- Accepted parts save and restore.
use Rattle.std.proofs.Common.{ℕ, ◌+◌, ◌≤◌, List, length, sym, subst}
use Rattle.std.proofs.lemmas.List.{take_rest}
use Rattle.core_model.specs.Routines.{Restores, part_limit}
use Rattle.scrub_rules.specs.Division.{save_part, restore_part}
use Rattle.scrub_rules.proofs.check.copy_parts.Goals as goal

pub of-requires : goal.of-requires
of-requires c =
    let words = c.args.words.now in
    let at = c.args.at in
    let accepted = c.requires.accepted in
    let rest = sym (take_rest words (at + 1)) in
    record {
      parts = record {
        save_few = accepted.save.few;
        restore_few = subst (λ (ws : List ℕ). length ws ≤ part_limit) rest accepted.restore.few;
        saves = c.accepted_routines_do.ensures.routines.saves (save_part words at) accepted.save;
        restores = subst (λ (ws : List ℕ). Restores ws) rest
            (c.accepted_routines_do.ensures.routines.restores (at + 1) (restore_part words at) accepted.restore);
      };
    }
