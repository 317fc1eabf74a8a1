-- What a home says: the list that the task is in (this project's own).
use Rattle.std.specs.Prelude.{◌≡◌, ℕ, ◌<◌, ◌≤◌, Contains, Some, None, IsSome}
use Rattle.hart_model.specs.Context.{BodyState, ContextState, DoneState}
use Rattle.core_model.specs.declared.home.Home.{Home}
use Rattle.core_model.specs.declared.home.Home.TheVariants.{Waiting, Slot, Hart, Ended}
use Rattle.core_model.specs.Board.{BoardState, OutEntry, all_ready}
use Rattle.core_model.specs.Homes.{home_of}

-- The task of this number waits; is ready in this slot; is out on this hart, in this slot; or has ended.
abbrev pub IsHomeOf : BoardState → ℕ → Home → Type 0
IsHomeOf b t Waiting = (body : BodyState) × Contains b.waiting body × (body.task_no ≡ t)
IsHomeOf b t (Slot slot) = (c : ContextState) × Contains (all_ready b.ready) c × (c.body.task_no ≡ t) × (c.slot ≡ slot)
IsHomeOf b t (Hart hart slot) = (o : OutEntry) × Contains b.out o × (o.task_no ≡ t) × (o.hart ≡ hart) × (o.slot ≡ slot)
IsHomeOf b t Ended = (d : DoneState) × Contains b.ended d × (d.task_no ≡ t)

-- Each of so many tasks has a home, and no other number has; a task has a home exactly where it is there. So it is in one place alone.
pub record HasExactHomes (tasks : ℕ) (b : BoardState) : Type 0 where
  pub has : (t : ℕ) → t < tasks → IsSome (home_of b t)
  pub none : (t : ℕ) → tasks ≤ t → home_of b t ≡ None
  pub told : (t : ℕ) (home : Home) → home_of b t ≡ Some home → IsHomeOf b t home
  pub is_home : (t : ℕ) (home : Home) → IsHomeOf b t home → home_of b t ≡ Some home
