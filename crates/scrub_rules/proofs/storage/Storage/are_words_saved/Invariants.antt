use Rattle.std.proofs.Common.{◌≡◌, ℕ, ◌≤◌, ◌<◌}
use Rattle.hart_model.specs.declared.place.Place.TheVariants.{SlotWord}
use Rattle.routine_laws.specs.declared.content.Content.TheVariants.{TaskReg}
use Rattle.routine_laws.specs.Contents.{content_at}
use Rattle.scrub_rules.proofs.storage.Storage.are_words_saved.Given as goal

abbrev pub invariant-loop-i : goal.invariant-loop-i
invariant-loop-i l = (k : ℕ) → 1 ≤ k → k < l.i → content_at l.self (SlotWord k) ≡ TaskReg k
