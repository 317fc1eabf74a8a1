-- What is proved of the rules (this project's own).
use Rattle.std.specs.Prelude.{◌≡◌, ℕ, ◌+◌, List, ◌∷◌, ◌++◌, length}
use Rattle.core_invariant.specs.KernelStates.{own_save, own_restore}
use Rattle.routine_laws.specs.Accepted.{IsSaveAccepted, IsRestoreAccepted}
use Rattle.scrub_rules.specs.declared.rule.Rule.{Rule}
use Rattle.scrub_rules.specs.Division.{break_word}
use Rattle.scrub_rules.specs.Broken.{IsAccepted, IsFirstBroken}

-- At most one answer is right for the same words: they are accepted by one division, or one rule at one place is the first that is broken.
pub record AnswersAreExact : Type 0 where
  pub one_division : (words : List ℕ) (at other : ℕ) → IsAccepted words at → IsAccepted words other → at ≡ other
  pub never_both : (words : List ℕ) (place at : ℕ) (rule : Rule) → IsAccepted words place → IsFirstBroken words at rule → ⊥
  pub one_fault : (words : List ℕ) (at place : ℕ) (rule other : Rule) → IsFirstBroken words at rule → IsFirstBroken words place other
      → (at ≡ place) × (rule ≡ other)

-- Any accepted save part and any accepted restore part are accepted with EBREAK between them, and so are the kernel's own.
pub record PartsMakeRoutines : Type 0 where
  pub each : (save restore : List ℕ) → IsSaveAccepted save → IsRestoreAccepted (length save + 1) restore
      → IsAccepted (save ++ break_word ∷ restore) (length save)
  pub own : IsAccepted (own_save ++ break_word ∷ own_restore) (length own_save)
