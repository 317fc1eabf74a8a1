-- What the places of a run alone show, as functions of the tape; and that a task is secure in all worlds where no written place tells anything.
use Rattle.std.specs.Prelude.{◌≡◌, ◌⊎◌, ℕ, ◌+◌, ◌<◌, ◌≤◌, true, false, List, [], ◌∷◌, All, length, slice_get, Some}
use Rattle.isa_model.specs.declared.latch.Latch.{Latch}
use Rattle.isa_model.specs.declared.task.Task.{Task}
use Rattle.isa_model.specs.AloneValue.{alone_value}
use Rattle.isa_model.specs.Course.{sight_at}
use Rattle.core_model.specs.declared.event.Event.{Event}
use Rattle.core_model.specs.declared.loaded.Loaded.{Loaded}
use Rattle.core_model.specs.Loaded.{IsLoaded}
use Rattle.core_model.specs.Security.{IsSecureByOne}
use Rattle.core_model.specs.Places.{written_at, is_written}
use Rattle.core_invariant.specs.KernelStates.{KernelParts, IsKernel, IsAlikeKernel}
use Rattle.probing_laws.specs.Transfer.{log_in, AreLogsSecure}
use Rattle.probing_laws.specs.Verdicts.{IsEarlier, IsIndependentAt, AllTakeOneCourse}
use Rattle.masked_worlds.specs.declared.role.Role.{Role}
use Rattle.masked_worlds.specs.Tapes.{is_tape}
use Rattle.masked_worlds.specs.Secrets.{all_worlds, AreNumbered, TellsNothing}

-- the task with other words on its tape
abbrev pub with_tape : Task → List ℕ → Task
with_tape T t = record T { tape = t }

-- the change of latch l by instruction n: the values before and after
abbrev pub shown : Task → ℕ → Latch → List ℕ → List ℕ
shown T n l t = alone_value (with_tape T t) n l ∷ alone_value (with_tape T t) (n + 1) l ∷ []

-- With every two tapes others see the same of the run alone, up to the fuel.
abbrev pub AreSeenAlike : Task → List Role → Type 0
AreSeenAlike T roles = (t u : List ℕ) → is_tape roles T.tape t ≡ true → is_tape roles T.tape u ≡ true
    → (n : ℕ) → n ≤ T.fuel → sight_at (with_tape T t) n ≡ sight_at (with_tape T u) n

-- Then they take one course.
abbrev pub SeenAlikeIsOneCourse : Type 0
SeenAlikeIsOneCourse = (T : Task) (roles : List Role) → AreSeenAlike T roles → AllTakeOneCourse T (all_worlds roles T.tape)

-- a place tells nothing: no tape makes the instruction write the latch, or its change tells nothing of the secrets
abbrev pub IsSilent : Task → List Role → ℕ → Latch → Type 0
IsSilent T roles n l =
    ((t : List ℕ) → is_tape roles T.tape t ≡ true → is_written (with_tape T t) n l ≡ false) ⊎ TellsNothing roles T.tape (shown T n l)

-- An instruction that writes the same latches with every tape is silent at each latch, if it is at these.
abbrev pub WrittenAreSilent : Type 0
WrittenAreSilent = (T : Task) (roles : List Role) (n : ℕ) (latches : List Latch)
    → ((t : List ℕ) → is_tape roles T.tape t ≡ true → written_at (with_tape T t) n ≡ latches)
    → All (λ l. TellsNothing roles T.tape (shown T n l)) latches → (l : Latch) → IsSilent T roles n l

-- A task is secure by one probe in all worlds, if they are seen alike and no place before the fuel tells anything.
abbrev pub SilentIsSecure : Type 0
SilentIsSecure = (T : Task) (roles : List Role) → 1 ≤ T.fuel → length roles ≡ length T.tape → AreNumbered roles → AreSeenAlike T roles
    → ((n : ℕ) (l : Latch) → n < T.fuel → IsSilent T roles n l) → IsSecureByOne T (all_worlds roles T.tape)

-- And where it is secure, no place tells anything.
abbrev pub SecureIsSilent : Type 0
SecureIsSilent = (T : Task) (roles : List Role) → IsSecureByOne T (all_worlds roles T.tape) → (n : ℕ) (l : Latch) → TellsNothing roles T.tape (shown T n l)

-- Where all places before one tell nothing, each change there is independent of the secrets.
abbrev pub EarlierIsIndependent : Type 0
EarlierIsIndependent = (T : Task) (roles : List Role) → length roles ≡ length T.tape → AreNumbered roles
    → (step : ℕ) (latch : Latch) → ((n : ℕ) (l : Latch) → IsEarlier n l step latch → IsSilent T roles n l)
    → (n : ℕ) (l : Latch) → IsEarlier n l step latch → IsIndependentAt T (all_worlds roles T.tape) n l

-- A task that is secure in all worlds alone is so in every core, beside any other tasks and after every list of events.
abbrev pub MaskedSecurityTransfers : Type 0
MaskedSecurityTransfers = (k : KernelParts) → IsKernel k → IsAlikeKernel k → (loaded : Loaded) → IsLoaded loaded
    → (t : ℕ) (T : Task) → slice_get loaded.tasks t ≡ Some T → (roles : List Role) → length roles ≡ length T.tape
    → IsSecureByOne T (all_worlds roles T.tape)
    → (events : List Event) → AreLogsSecure (log_in k loaded t T events) (all_worlds roles T.tape)
