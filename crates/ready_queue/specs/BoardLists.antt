-- The lists that a board is made of where nothing is out (this project's own).
use Rattle.std.specs.Prelude.{◌≡◌, ℕ, ◌+◌, ◌<◌, ◌≤◌, List, length, All, count_by, nat_lt, ◌==◌, if◌then◌else◌}
use Rattle.hart_model.specs.Context.{BodyState, ContextState, DoneState}
use Rattle.core_model.specs.Board.{ReadyLists}
use Rattle.context_slot.specs.Fresh.{IsFresh}
use Rattle.ready_queue.specs.declared.kind.Kind.TheVariants.{Ready}
use Rattle.ready_queue.specs.Gives.{CanBeGiven}

-- how many tasks wait, are ready or have ended
abbrev pub task_count : List BodyState → List ContextState → List DoneState → ℕ
task_count waiting ready ended = length waiting + length ready + length ended

-- in how many places of these lists a task of this number is
abbrev pub place_count : List BodyState → List ContextState → List DoneState → ℕ → ℕ
place_count waiting ready ended task_no =
    count_by (λ (body : BodyState). body.task_no == task_no) waiting
    + count_by (λ (c : ContextState). c.body.task_no == task_no) ready
    + count_by (λ (d : DoneState). d.task_no == task_no) ended

-- There are 1 to 8 slots and 1 to 32 tasks, each number from 0 on is that of one of them, and a band for each, 0 or 1. What waits is at
-- its start. Each context that is ready stands for its task, without an end, in a slot of its own.
pub record AreListsOf (slots : ℕ) (waiting : List BodyState) (ready : List ContextState) (ended : List DoneState) (bands : List ℕ) : Type 0 where
  pub slots_least : 1 ≤ slots
  pub slots_limit : slots ≤ 8
  pub tasks_least : 1 ≤ task_count waiting ready ended
  pub tasks_limit : task_count waiting ready ended ≤ 32
  pub task_once : (task_no : ℕ) → place_count waiting ready ended task_no ≡ (if nat_lt task_no (task_count waiting ready ended) then 1 else 0)
  pub band_each : length bands ≡ task_count waiting ready ended
  pub band_limit : All (λ (band : ℕ). band ≤ 1) bands
  pub fresh : All IsFresh waiting
  pub stands : All (CanBeGiven Ready) ready
  pub slot_once : (slot : ℕ) → count_by (λ (c : ContextState). c.slot == slot) ready ≤ 1
  pub slot_there : All (λ (c : ContextState). c.slot < slots) ready

-- the ready contexts of a band, 0 or 1
abbrev pub ready_list : ℕ → ReadyLists → List ContextState
ready_list band ready = if band == 0 then ready.first else ready.second
