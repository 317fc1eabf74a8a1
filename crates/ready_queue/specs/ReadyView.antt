-- The ready contexts as code keeps them (this project's own).
use Rattle.std.specs.Prelude.{ℕ, List, Option, Some, None}
use Rattle.hart_model.specs.Context.{ContextState}
use Rattle.core_model.specs.Board.{ReadyLists, Front, front_of}

-- the lists of both bands, the band of each task, and for how many contexts each list has room
pub record ReadyView : Type 0 where
  pub lists : ReadyLists
  pub bands : List ℕ
  pub room : ℕ

-- the context that is taken next, if there is one, and what is left
abbrev pub taken_of : ReadyView → Option Front → Option ContextState × ReadyView
taken_of r None = (None, r)
taken_of r (Some front) = (Some front.context, record r { lists = front.left })

abbrev pub next_of : ReadyView → Option ContextState × ReadyView
next_of r = taken_of r (front_of r.lists.first r.lists.second)
