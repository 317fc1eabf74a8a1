-- The waiting task that a free slot goes to (this project's own).
use Rattle.std.specs.Prelude.{ℕ, List, [], ◌∷◌}
use Rattle.hart_model.specs.declared.tag.Cell.{Cell}
use Rattle.hart_model.specs.Context.{BodyState, ContextState, admit_of}
use Rattle.core_model.specs.Board.{ReadyLists, with_ready}

-- the first waiting task as a context in this slot with these words, if there is one
abbrev pub next_context : List BodyState → ℕ → List Cell → List ContextState
next_context [] slot words = []
next_context (next ∷ rest) slot words = admit_of next slot words ∷ []

-- the ready contexts with it at the back of its band
abbrev pub with_next : List ℕ → ReadyLists → List BodyState → ℕ → List Cell → ReadyLists
with_next bands ready [] slot words = ready
with_next bands ready (next ∷ rest) slot words = with_ready bands ready (admit_of next slot words)
