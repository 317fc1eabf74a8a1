-- What it means that a task tells nothing of its secret by one probe, and by two.
use Rattle.std.specs.Prelude.{◌≡◌, ⊤, ℕ, List, slice_get, Some}
use Rattle.isa_model.specs.declared.task.Task.{Task}
use Rattle.core_model.specs.declared.event.Event.{Event}
use Rattle.core_model.specs.declared.loaded.Loaded.{Loaded}
use Rattle.core_model.specs.declared.world.World.{World}
use Rattle.core_model.specs.Loaded.{IsLoaded}
use Rattle.core_model.specs.Security.{IsSecureByOne, IsSecureByTwo}
use Rattle.core_invariant.specs.KernelStates.{emitted_parts}
use Rattle.probing_laws.specs.Transfer.{log_in, AreLogsSecure, AreLogsSecureByTwo}
use Rattle.kernel_cli.specs.Bundles.{LoadAs}
use Rattle.kernel_cli.specs.Commands.{IsHartCount}
use Rattle.kernel_cli.specs.declared.work.BundleWork.{BundleWork}
use Rattle.kernel_cli.specs.declared.work.BundleWork.TheVariants.{Certify, CertifyTwo}

-- A task is secure by one probe in these worlds in its run alone. And so is each core that runs it: beside any other tasks and after every list
-- of events, whatever may be asked of the entry at a place of the log is answered alike in equally many worlds of every two secrets.
pub record IsSecureEverywhere (T : Task) (worlds : List World) : Type 0 where
  pub alone : IsSecureByOne T worlds
  pub cores : (loaded : Loaded) → IsLoaded loaded → (t : ℕ) → slice_get loaded.tasks t ≡ Some T → (events : List Event)
      → AreLogsSecure (log_in emitted_parts loaded t T events) worlds

-- So it is by two probes: whatever may be asked of the entries at two places of the log is answered alike.
pub record IsSecureByTwoEverywhere (T : Task) (worlds : List World) : Type 0 where
  pub alone : IsSecureByTwo T worlds
  pub cores : (loaded : Loaded) → IsLoaded loaded → (t : ℕ) → slice_get loaded.tasks t ≡ Some T → (events : List Event)
      → AreLogsSecureByTwo (log_in emitted_parts loaded t T events) worlds

-- what a work that judges a task says of it where it ends fine
abbrev pub IsSecureFor : BundleWork → Task → List World → Type 0
IsSecureFor Certify T worlds = IsSecureEverywhere T worlds
IsSecureFor CertifyTwo T worlds = IsSecureByTwoEverywhere T worlds
IsSecureFor work T worlds = ⊤

-- A task that is secure in the worlds of whatever bundle bytes load as, for 1 to 8 harts, is so everywhere: by one probe, and by two.
pub record SecureTasksStaySecure : Type 0 where
  pub by_one : (harts : ℕ) → IsHartCount harts → (bytes : List ℕ) (loaded : Loaded) → LoadAs harts bytes loaded
      → (T : Task) → IsSecureByOne T loaded.worlds → IsSecureEverywhere T loaded.worlds
  pub by_two : (harts : ℕ) → IsHartCount harts → (bytes : List ℕ) (loaded : Loaded) → LoadAs harts bytes loaded
      → (T : Task) → IsSecureByTwo T loaded.worlds → IsSecureByTwoEverywhere T loaded.worlds
