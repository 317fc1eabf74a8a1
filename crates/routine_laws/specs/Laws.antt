-- What is proved of routines that break no rule (this project's own).
use Rattle.std.specs.Prelude.{ℕ, List}
use Rattle.core_model.specs.Routines.{Saves, Restores}
use Rattle.core_invariant.specs.KernelStates.{own_save, own_restore}
use Rattle.routine_laws.specs.Accepted.{IsSaveAccepted, IsRestoreAccepted}

-- Accepted save parts save and accepted restore parts restore, in all three statements, whatever code stands around them.
pub record AcceptedRoutinesDo : Type 0 where
  pub saves : (words : List ℕ) → IsSaveAccepted words → Saves words
  pub restores : (at : ℕ) (words : List ℕ) → IsRestoreAccepted at words → Restores words

-- The kernel's own parts break no rule.
pub record OwnPartsAreAccepted : Type 0 where
  pub save : IsSaveAccepted own_save
  pub restore : (at : ℕ) → IsRestoreAccepted at own_restore
