-- The bodies that a board is booted with (this project's own).
use Rattle.std.specs.Prelude.{◌≡◌, ℕ, ◌+◌, List, [], ◌∷◌}
use Rattle.hart_model.specs.Context.{BodyState}
use Rattle.context_slot.specs.Fresh.{IsFresh}

-- the bodies of tasks at their start, whose numbers count up from this one
abbrev pub AreFreshFrom : ℕ → List BodyState → Type 0
AreFreshFrom task_no [] = Unit {0}
AreFreshFrom task_no (b ∷ bs) = (b.task_no ≡ task_no) × IsFresh b × AreFreshFrom (task_no + 1) bs
