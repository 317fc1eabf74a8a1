-- The same by two probes.
use Rattle.std.specs.Prelude.{◌≡◌, ℕ, ◌<◌, ◌≤◌, Bool, true, false, List, ◌++◌, length, slice_get, Some}
use Rattle.isa_model.specs.declared.latch.Latch.{Latch}
use Rattle.isa_model.specs.declared.task.Task.{Task}
use Rattle.core_model.specs.declared.event.Event.{Event}
use Rattle.core_model.specs.declared.loaded.Loaded.{Loaded}
use Rattle.core_model.specs.Loaded.{IsLoaded}
use Rattle.core_model.specs.Security.{IsSecureByTwo}
use Rattle.core_model.specs.Places.{is_written}
use Rattle.core_invariant.specs.KernelStates.{KernelParts, IsKernel, IsAlikeKernel}
use Rattle.probing_laws.specs.Transfer.{log_in, AreLogsSecureByTwo}
use Rattle.masked_worlds.specs.declared.role.Role.{Role}
use Rattle.masked_worlds.specs.Tapes.{is_tape}
use Rattle.masked_worlds.specs.Secrets.{all_worlds, AreNumbered, TellsNothing}
use Rattle.masked_worlds.specs.Places.{with_tape, shown, AreSeenAlike}

-- No place before the fuel is written but these.
abbrev pub ArePlaces : Task → List Role → (ℕ → Latch → Bool) → Type 0
ArePlaces T roles is_place = (n : ℕ) (l : Latch) → n < T.fuel → is_place n l ≡ false
    → (t : List ℕ) → is_tape roles T.tape t ≡ true → is_written (with_tape T t) n l ≡ false

-- Every two of them together tell nothing.
abbrev pub ArePairsSilent : Task → List Role → (ℕ → Latch → Bool) → Type 0
ArePairsSilent T roles is_place = (n : ℕ) (l : Latch) (m : ℕ) (k : Latch) → n < T.fuel → m < T.fuel → is_place n l ≡ true → is_place m k ≡ true
    → TellsNothing roles T.tape (λ t. shown T n l t ++ shown T m k t)

-- Then the task is secure by two probes in all worlds.
abbrev pub SilentIsSecureByTwo : Type 0
SilentIsSecureByTwo = (T : Task) (roles : List Role) → 1 ≤ T.fuel → length roles ≡ length T.tape → AreNumbered roles → AreSeenAlike T roles
    → (is_place : ℕ → Latch → Bool) → ArePlaces T roles is_place → ArePairsSilent T roles is_place → IsSecureByTwo T (all_worlds roles T.tape)

-- And so it is in every core.
abbrev pub MaskedSecurityByTwoTransfers : Type 0
MaskedSecurityByTwoTransfers = (k : KernelParts) → IsKernel k → IsAlikeKernel k → (loaded : Loaded) → IsLoaded loaded
    → (t : ℕ) (T : Task) → slice_get loaded.tasks t ≡ Some T → (roles : List Role) → length roles ≡ length T.tape
    → IsSecureByTwo T (all_worlds roles T.tape)
    → (events : List Event) → AreLogsSecureByTwo (log_in k loaded t T events) (all_worlds roles T.tape)
