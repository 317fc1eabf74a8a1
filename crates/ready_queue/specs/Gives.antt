-- When a hart may take, and what it may give (this project's own).
use Rattle.std.specs.Prelude.{◌≡◌, ◌≢◌, ℕ, None, IsSome, All, Contains}
use Rattle.hart_model.specs.Context.{ContextState, task_of, IsScrubbed, StandsForTask}
use Rattle.core_model.specs.Board.{BoardState, out_entry}
use Rattle.ready_queue.specs.declared.kind.Kind.{Kind}
use Rattle.ready_queue.specs.declared.kind.Kind.TheVariants.{Ready, Done}

-- nothing is out on this hart
abbrev pub HasNothingOut : BoardState → ℕ → Type 0
HasNothingOut b hart = All (λ o. o.hart ≢ hart) b.out

-- the context's task is out on this hart, in the context's slot
abbrev pub IsOutOn : BoardState → ℕ → ContextState → Type 0
IsOutOn b hart c = Contains b.out (out_entry hart c)

-- Ready: no end stands, and the context stands for its task. Done: an end stands, and the slot is scrubbed.
abbrev pub CanBeGiven : Kind → ContextState → Type 0
CanBeGiven Ready c = (c.end ≡ None) × StandsForTask c (task_of c.body)
CanBeGiven Done c = IsSome c.end × IsScrubbed c
