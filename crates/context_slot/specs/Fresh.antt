-- What may be admitted into a slot (this project's own).
use Rattle.std.specs.Prelude.{◌≡◌, ℕ, ◌<◌, ◌≤◌, List, get_or}
use Rattle.hart_model.specs.declared.tag.Cell.{Cell}
use Rattle.hart_model.specs.Cells.{blank}
use Rattle.hart_model.specs.Context.{BodyState, task_of, fresh_body}

-- the body of a task at its start
abbrev pub IsFresh : BodyState → Type 0
IsFresh b = b ≡ fresh_body b.task_no (task_of b)

-- the registers among the words of a slot are 0 and public
abbrev pub HasBlankRegisters : List Cell → Type 0
HasBlankRegisters words = (i : ℕ) → 1 ≤ i → i < 32 → get_or words i blank ≡ blank
