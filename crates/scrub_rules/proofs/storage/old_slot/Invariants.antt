use Rattle.std.proofs.Common.{◌≡◌, replicate}
use Rattle.routine_laws.specs.declared.content.Content.TheVariants.{Unknown, OldSlotWord}
use Rattle.scrub_rules.proofs.Filled.{filled}
use Rattle.scrub_rules.proofs.storage.old_slot.Given as goal

abbrev pub invariant-loop-i : goal.invariant-loop-i
invariant-loop-i l = l.slot ≡ filled OldSlotWord (replicate 36 Unknown) l.i
