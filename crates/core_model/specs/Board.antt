-- The board: what the queue keeps of all tasks, as lists, and its three actions (this project's own).
use Rattle.std.specs.Prelude.{ℕ, ◌+◌, ◌≤◌, Bool, not, List, [], ◌∷◌, ◌++◌, length, take, drop, filter, get_or, Option, Some, None, ◌==◌, if◌then◌else◌}
use Rattle.isa_model.specs.declared.ends.End.{End}
use Rattle.hart_model.specs.declared.tag.Cell.{Cell}
use Rattle.hart_model.specs.Context.{BodyState, ContextState, DoneState, admit_of, done_of, fresh_words}

-- a task that is out on a hart, in a slot
pub record OutEntry : Type 0 where
  pub task_no : ℕ
  pub hart : ℕ
  pub slot : ℕ

-- the contexts that are ready: those of band 0, which go first, and those of band 1
pub record ReadyLists : Type 0 where
  pub first : List ContextState
  pub second : List ContextState

-- both lists together
abbrev pub all_ready : ReadyLists → List ContextState
all_ready ready = ready.first ++ ready.second

-- the tasks that wait for a slot, the contexts that are ready, what is out, what has ended, the hart of every action so far, and the
-- band of each task, which stays
pub record BoardState : Type 0 where
  pub waiting : List BodyState
  pub ready : ReadyLists
  pub out : List OutEntry
  pub ended : List DoneState
  pub order : List ℕ
  pub bands : List ℕ

-- A board as code keeps it: its lists, and for how many more actions its order has room. An action takes one of this room.
pub record BoardWithSpare : Type 0 where
  pub lists : BoardState
  pub spare : ℕ

-- there is room to give back all that is out
abbrev pub HasSpareForOut : BoardWithSpare → Type 0
HasSpareForOut b = length b.lists.out ≤ b.spare

-- contexts of these bodies at their start, in slots from this one on
abbrev pub contexts_from : ℕ → List BodyState → List ContextState
contexts_from slot [] = []
contexts_from slot (b ∷ bs) = admit_of b slot fresh_words ∷ contexts_from (slot + 1) bs

-- whether a context's task is of band 0
abbrev pub goes_first : List ℕ → ContextState → Bool
goes_first bands c = get_or bands c.body.task_no 0 == 0

-- contexts by their bands, in their order
abbrev pub by_bands : List ℕ → List ContextState → ReadyLists
by_bands bands contexts = record { first = filter (goes_first bands) contexts; second = filter (λ c. not (goes_first bands c)) contexts }

-- at boot: task t is ready in slot t, for as many slots as there are, and the others wait in their order
abbrev pub boot_board : ℕ → List BodyState → List ℕ → BoardState
boot_board slots bodies bands = record {
  waiting = drop slots bodies;
  ready = by_bands bands (contexts_from 0 (take slots bodies));
  out = [];
  ended = [];
  order = [];
  bands = bands;
}

-- the order with an action of this hart at its end
abbrev pub with_action : BoardState → ℕ → BoardState
with_action b hart = record b { order = b.order ++ hart ∷ [] }

-- what a take leaves, and the context that it gives
pub record Taken : Type 0 where
  pub board : BoardState
  pub got : Option ContextState

abbrev pub out_entry : ℕ → ContextState → OutEntry
out_entry hart c = record { task_no = c.body.task_no; hart = hart; slot = c.slot }

-- the context that is taken next, and the ready ones without it
pub record Front : Type 0 where
  pub context : ContextState
  pub left : ReadyLists

-- the front of band 0, or where it is empty that of band 1
abbrev pub front_of : List ContextState → List ContextState → Option Front
front_of (c ∷ cs) second = Some (record { context = c; left = record { first = cs; second = second } })
front_of [] (c ∷ cs) = Some (record { context = c; left = record { first = []; second = cs } })
front_of [] [] = None

abbrev pub take_from : BoardState → ℕ → Option Front → Taken
take_from b hart None = record { board = with_action b hart; got = None }
take_from b hart (Some front) = record {
  board = record (with_action b hart) { ready = front.left; out = b.out ++ out_entry hart front.context ∷ [] };
  got = Some front.context;
}

-- Take by a hart: the front of the ready contexts is out on it from then on; where none is ready, nothing is got.
abbrev pub take_of : BoardState → ℕ → Taken
take_of b hart = take_from b hart (front_of b.ready.first b.ready.second)

-- the ready contexts with one more, at the back of its band
abbrev pub with_ready : List ℕ → ReadyLists → ContextState → ReadyLists
with_ready bands ready c =
    if goes_first bands c then record ready { first = ready.first ++ c ∷ [] } else record ready { second = ready.second ++ c ∷ [] }

-- what is out without what is out on this hart
abbrev pub out_without : ℕ → List OutEntry → List OutEntry
out_without hart out = filter (λ o. not (o.hart == hart)) out

-- Give ready by a hart: the context goes to the back of the ready ones of its task's band.
abbrev pub give_ready_of : BoardState → ℕ → ContextState → BoardState
give_ready_of b hart c = record (with_action b hart) { out = out_without hart b.out; ready = with_ready b.bands b.ready c }

-- the first waiting task, if there is one, goes to the back of the ready ones of its band, in a slot that is free, with the words that
-- it has
abbrev pub with_next_admitted : BoardState → ℕ → List Cell → List BodyState → BoardState
with_next_admitted b slot words [] = b
with_next_admitted b slot words (next ∷ rest) = record b { waiting = rest; ready = with_ready b.bands b.ready (admit_of next slot words) }

-- Give done by a hart: the context goes to the ended tasks with its end, and its slot to the first waiting task.
abbrev pub give_done_of : BoardState → ℕ → ContextState → End → BoardState
give_done_of b hart c end =
    with_next_admitted
    (record (with_action b hart) { out = out_without hart b.out; ended = b.ended ++ done_of c end ∷ [] })
    c.slot c.words b.waiting
