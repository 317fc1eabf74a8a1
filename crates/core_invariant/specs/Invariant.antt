-- What every event keeps of a core (this project's own): as what is sound, but for the harts, which are on their way, and the contexts,
-- which may be given.
use Rattle.std.specs.Prelude.{◌≡◌, ℕ, ◌<◌, ◌≤◌, List, length, All, filter, slice_get, nat_lt, Option, Some, None, ◌==◌, if◌then◌else◌}
use Rattle.isa_model.specs.declared.task.Task.{Task}
use Rattle.isa_model.specs.TaskPlaces.{IsValidTask}
use Rattle.isa_model.specs.Limits.{max_fuel}
use Rattle.hart_model.specs.Context.{BodyState, ContextState, task_of}
use Rattle.hart_model.specs.HartState.{HartState}
use Rattle.core_model.specs.declared.loaded.Loaded.{Loaded}
use Rattle.core_model.specs.Board.{OutEntry, all_ready}
use Rattle.core_model.specs.Core.{CoreState}
use Rattle.core_model.specs.Explained.{IsLogExplained}
use Rattle.core_model.specs.Soundness.{IsWaitingCase, IsEndedCase, home_count, slot_count, entries_held}
use Rattle.core_invariant.specs.KernelStates.{KernelParts}
use Rattle.core_model.specs.Routines.{IsReadyContext}
use Rattle.core_invariant.specs.CutPoints.{IsOnItsWay}

-- A waiting task, which is a valid one.
abbrev pub IsWaitingTask : List Task → BodyState → Type 0
IsWaitingTask tasks b = IsWaitingCase tasks b × IsValidTask (task_of b)

-- A core of a loaded bundle whose harts execute the kernel's code, at every moment.
pub record IsCoreKept (k : KernelParts) (loaded : Loaded) (c : CoreState) : Type 0 where
  pub hart_count : length c.harts ≡ loaded.harts
  pub harts : (i : ℕ) (h : HartState) → slice_get c.harts i ≡ Some h → IsOnItsWay loaded.tasks k i h
  pub homes : (task_no : ℕ) → home_count c.board task_no ≡ (if nat_lt task_no (length loaded.tasks) then 1 else 0)
  pub slot_once : (slot : ℕ) → slot_count c.board slot ≤ 1
  pub ready_slots : All (λ (context : ContextState). context.slot < loaded.slots) (all_ready c.board.ready)
  pub out_slots : All (λ (o : OutEntry). o.slot < loaded.slots) c.board.out
  pub waiting : All (IsWaitingTask loaded.tasks) c.board.waiting
  pub ready : All (IsReadyContext loaded.tasks) (all_ready c.board.ready)
  pub ended : All (IsEndedCase loaded.tasks) c.board.ended
  pub out : (i : ℕ) (h : HartState) → slice_get c.harts i ≡ Some h → filter (λ (o : OutEntry). o.hart == i) c.board.out ≡ entries_held i h.held
  pub out_exists : All (λ (o : OutEntry). o.hart < loaded.harts) c.board.out
  pub log : IsLogExplained loaded.tasks c.log

-- The count of what a hart holds is no higher than a task's fuel may be.
abbrev pub HeldCountFits : Option ContextState → Type 0
HeldCountFits None = Unit {0}
HeldCountFits (Some c) = c.body.count ≤ max_fuel
