-- What the queue's actions leave of two boards that are alike.
use Rattle.std.proofs.Common.{◌≡◌, ℕ, ◌+◌, Bool, true, false, not, if◌then◌else◌, Option, Some, None, List, [], ◌∷◌, ◌++◌, take, set, get_or, replicate, ◌==◌, refl, ap, ◌∙◌, subst}
use Rattle.isa_model.specs.declared.task.Task.{Task}
use Rattle.isa_model.specs.declared.ends.End.{End}
use Rattle.isa_model.specs.Control.{kind_of}
use Rattle.hart_model.specs.declared.tag.Cell.{Cell}
use Rattle.hart_model.specs.Cells.{blank}
use Rattle.hart_model.specs.Csrs.{public}
use Rattle.hart_model.specs.Pmp.{bounds_of}
use Rattle.hart_model.specs.Context.{BodyState, ContextState, task_of, pc_word, bound_word, with_bound, start_words, admit_of, done_of, fresh_body, fresh_words}
use Rattle.core_model.specs.Board.{BoardState, ReadyLists, Front, goes_first, front_of, with_ready, out_entry, out_without, take_from, give_ready_of, give_done_of, with_action, with_next_admitted, contexts_from, boot_board}
use Rattle.core_model.specs.Core.{bodies_from}
use Rattle.core_model.specs.LowEquivalence.{AreTasksAlike, ArePairwise}
use Rattle.core_model.specs.AlikeHarts.{AreCellsAlike, AreBodiesAlike, AreContextsAlike}
use Rattle.noninterference.specs.AlikeCores.{AreDoneAlike, AreBoardsAlike}
use Rattle.noninterference.proofs.CellsAlike.{cell-refl}
use Rattle.noninterference.proofs.Pairs.{pairwise-length, pairwise-push, pairwise-filter, pairwise-set, pairwise-take, pairwise-drop, pairwise-same}

-- Equal words set in words that are alike leave them alike, and so the words of a task at its start are.
set-word : (i : ℕ) (a b : Cell) (words others : List Cell) → a ≡ b → ArePairwise AreCellsAlike words others
    → ArePairwise AreCellsAlike (set words i a) (set others i b)
set-word i a b words others same alike =
    pairwise-set AreCellsAlike words others i a b alike (record { tag = ap (λ (c : Cell). c.tag) same; value = λ is. ap (λ (c : Cell). c.value) same })

-- the bounds of two tasks are the same where their places are
same-bounds : (T U : Task) → T.code_at ≡ U.code_at → T.data_at ≡ U.data_at → T.code ≡ U.code → T.data_len ≡ U.data_len → bounds_of T ≡ bounds_of U
same-bounds T U code_at data_at code data_len = rw (code_at, data_at, code, data_len) refl

-- the task of two bodies that are alike has the same bounds
body-bounds : (b e : BodyState) → AreBodiesAlike b e → bounds_of (task_of b) ≡ bounds_of (task_of e)
body-bounds b e alike =
    same-bounds (task_of b) (task_of e) alike.code_at alike.data_at alike.code (pairwise-length AreCellsAlike b.data_words e.data_words alike.data_words)

module _ (T U : Task) (pc : T.code_at ≡ U.code_at) (bounds : bounds_of T ≡ bounds_of U) where
  bound-set : (i : ℕ) (words others : List Cell) → ArePairwise AreCellsAlike words others
      → ArePairwise AreCellsAlike (with_bound T i words) (with_bound U i others)
  bound-set i words others alike = set-word (bound_word i) _ _ words others (ap (λ (xs : List ℕ). public (get_or xs i 0)) bounds) alike

  pub start-alike : (words others : List Cell) → ArePairwise AreCellsAlike words others
      → ArePairwise AreCellsAlike (start_words T words) (start_words U others)
  start-alike words others alike =
      let w : List Cell = set words pc_word (public T.code_at) in
      let v : List Cell = set others pc_word (public U.code_at) in
      let first : ArePairwise AreCellsAlike w v = set-word pc_word (public T.code_at) (public U.code_at) words others (ap public pc) alike in
      let second = bound-set 0 w v first in
      let third = bound-set 1 (with_bound T 0 w) (with_bound U 0 v) second in
      let fourth = bound-set 2 (with_bound T 1 (with_bound T 0 w)) (with_bound U 1 (with_bound U 0 v)) third in
      bound-set 3 (with_bound T 2 (with_bound T 1 (with_bound T 0 w))) (with_bound U 2 (with_bound U 1 (with_bound U 0 v))) fourth

-- bodies that are alike are admitted alike into a slot with words that are alike
pub admit-alike : (b e : BodyState) (slot : ℕ) (words others : List Cell) → AreBodiesAlike b e → ArePairwise AreCellsAlike words others
    → AreContextsAlike (admit_of b slot words) (admit_of e slot others)
admit-alike b e slot words others bodies alike = record {
  body = bodies;
  slot = refl;
  words = start-alike (task_of b) (task_of e) bodies.code_at (body-bounds b e bodies) words others alike;
  end = refl;
}

-- A board at boot.
contexts-alike : (slot : ℕ) (bs es : List BodyState) → ArePairwise AreBodiesAlike bs es → ArePairwise AreContextsAlike (contexts_from slot bs) (contexts_from slot es)
contexts-alike slot [] [] both = tt
contexts-alike slot [] (e ∷ es) both = absurd both
contexts-alike slot (b ∷ bs) [] both = absurd both
contexts-alike slot (b ∷ bs) (e ∷ es) both =
    (admit-alike b e slot fresh_words fresh_words both.0 (pairwise-same AreCellsAlike cell-refl fresh_words), contexts-alike (slot + 1) bs es both.1)

blank-words : (n m : ℕ) → n ≡ m → ArePairwise AreCellsAlike (replicate n blank) (replicate m blank)
blank-words n m same =
    let P : ℕ → Type 0 = λ k. ArePairwise AreCellsAlike (replicate n blank) (replicate k blank) in
    subst P same (pairwise-same AreCellsAlike cell-refl (replicate n blank))

fresh-alike : (task_no : ℕ) (T U : Task) → AreTasksAlike T U → AreBodiesAlike (fresh_body task_no T) (fresh_body task_no U)
fresh-alike task_no T U alike = record {
  task_no = refl;
  code_at = alike.code_at;
  data_at = alike.data_at;
  code = alike.code;
  data_words = blank-words T.data_len U.data_len alike.data_len;
  tape = alike.tape_length;
  tape_at = refl;
  output = refl;
  out_max = alike.out_max;
  fuel = alike.fuel;
  count = refl;
}

bodies-alike : (task_no : ℕ) (tasks others : List Task) → ArePairwise AreTasksAlike tasks others
    → ArePairwise AreBodiesAlike (bodies_from task_no tasks) (bodies_from task_no others)
bodies-alike task_no [] [] both = tt
bodies-alike task_no [] (U ∷ others) both = absurd both
bodies-alike task_no (T ∷ tasks) [] both = absurd both
bodies-alike task_no (T ∷ tasks) (U ∷ others) both = (fresh-alike task_no T U both.0, bodies-alike (task_no + 1) tasks others both.1)

-- contexts that are alike are of one band
one-band : (bands : List ℕ) (c d : ContextState) → AreContextsAlike c d → goes_first bands c ≡ goes_first bands d
one-band bands c d alike = ap (λ (t : ℕ). get_or bands t 0 == 0) alike.body.task_no

pub boot-boards : (slots : ℕ) (bands : List ℕ) (tasks others : List Task) → ArePairwise AreTasksAlike tasks others
    → AreBoardsAlike (boot_board slots (bodies_from 0 tasks) bands) (boot_board slots (bodies_from 0 others) bands)
boot-boards slots bands tasks others both =
    let bs = bodies_from 0 tasks in
    let es = bodies_from 0 others in
    let alike = bodies-alike 0 tasks others both in
    let contexts = contexts-alike 0 (take slots bs) (take slots es) (pairwise-take AreBodiesAlike slots bs es alike) in
    record {
      waiting = pairwise-drop AreBodiesAlike slots bs es alike;
      first = pairwise-filter AreContextsAlike (goes_first bands) (one-band bands) _ _ contexts;
      second = pairwise-filter AreContextsAlike (λ c. not (goes_first bands c)) (λ c d pair. ap not (one-band bands c d pair)) _ _ contexts;
      out = refl;
      ended = tt;
      order = refl;
      bands = refl;
    }

-- two contexts have the same entry of what is out
same-entry : (hart : ℕ) (c d : ContextState) → AreContextsAlike c d → out_entry hart c ≡ out_entry hart d
same-entry hart c d alike =
    ap (λ t. record { task_no = t; hart = hart; slot = c.slot }) alike.body.task_no
    ∙ ap (λ slot. record { task_no = d.body.task_no; hart = hart; slot = slot }) alike.slot

-- two ends of one kind leave ended tasks that are alike
pub done-alike : (c d : ContextState) (a b : End) → AreContextsAlike c d → kind_of a ≡ kind_of b → AreDoneAlike (done_of c a) (done_of d b)
done-alike c d a b alike kind = record {
  task_no = alike.body.task_no;
  count = alike.body.count;
  output = alike.body.output;
  end = kind;
}

-- What is taken next: the contexts, and what is left of each list.
pub record AreFrontsAlike (f g : Front) : Type 0 where
  pub context : AreContextsAlike f.context g.context
  pub first : ArePairwise AreContextsAlike f.left.first g.left.first
  pub second : ArePairwise AreContextsAlike f.left.second g.left.second

-- both boards have a context to be taken, or neither has
abbrev pub AreNextAlike : Option Front → Option Front → Type 0
AreNextAlike None None = Unit {0}
AreNextAlike (Some f) (Some g) = AreFrontsAlike f g
AreNextAlike front other = ⊥

pub fronts-alike : (cs es ds fs : List ContextState) → ArePairwise AreContextsAlike cs ds → ArePairwise AreContextsAlike es fs
    → AreNextAlike (front_of cs es) (front_of ds fs)
fronts-alike [] [] [] [] one two = tt
fronts-alike [] [] [] (f ∷ fs) one two = absurd two
fronts-alike [] (e ∷ es) [] [] one two = absurd two
fronts-alike [] (e ∷ es) [] (f ∷ fs) one two = record { context = two.0; first = tt; second = two.1 }
fronts-alike [] es (d ∷ ds) fs one two = absurd one
fronts-alike (c ∷ cs) es [] fs one two = absurd one
fronts-alike (c ∷ cs) es (d ∷ ds) fs one two = record { context = one.0; first = one.1; second = two }

-- The ready contexts of two boards with one more on each: by cases, whether it goes first.
pub record AreReadyAlike (r s : ReadyLists) : Type 0 where
  pub first : ArePairwise AreContextsAlike r.first s.first
  pub second : ArePairwise AreContextsAlike r.second s.second

ready_in : (test : Bool) (r s : ReadyLists) (c d : ContextState) → AreReadyAlike r s → AreContextsAlike c d
    → AreReadyAlike (if test then record r { first = r.first ++ c ∷ [] } else record r { second = r.second ++ c ∷ [] })
    (if test then record s { first = s.first ++ d ∷ [] } else record s { second = s.second ++ d ∷ [] })
ready_in true r s c d both one = record { first = pairwise-push AreContextsAlike r.first s.first c d both.first one; second = both.second }
ready_in false r s c d both one = record { first = both.first; second = pairwise-push AreContextsAlike r.second s.second c d both.second one }

pub ready-alike : (bands others : List ℕ) (r s : ReadyLists) (c d : ContextState) → bands ≡ others → AreReadyAlike r s → AreContextsAlike c d
    → AreReadyAlike (with_ready bands r c) (with_ready others s d)
ready-alike bands others r s c d same both one =
    let P : Bool → Type 0 = λ test. AreReadyAlike (with_ready bands r c)
    (if test then record s { first = s.first ++ d ∷ [] } else record s { second = s.second ++ d ∷ [] }) in
    subst P (one-band bands c d one ∙ ap (λ (xs : List ℕ). goes_first xs d) same) (ready_in (goes_first bands c) r s c d both one)

module _ (hart : ℕ) (b e : BoardState) (alike : AreBoardsAlike b e) where
  same-order : b.order ++ hart ∷ [] ≡ e.order ++ hart ∷ []
  same-order = ap (λ order. order ++ hart ∷ []) alike.order

  -- a take where nothing is ready
  pub boards-empty : AreBoardsAlike (take_from b hart None).board (take_from e hart None).board
  boards-empty = record {
    waiting = alike.waiting;
    first = alike.first;
    second = alike.second;
    out = alike.out;
    ended = alike.ended;
    order = same-order;
    bands = alike.bands;
  }

  -- and of the first context that is ready
  pub boards-taken : (f g : Front) → AreFrontsAlike f g → AreBoardsAlike (take_from b hart (Some f)).board (take_from e hart (Some g)).board
  boards-taken f g fronts = record {
    waiting = alike.waiting;
    first = fronts.first;
    second = fronts.second;
    out = ap (λ out. out ++ out_entry hart f.context ∷ []) alike.out
        ∙ ap (λ entry. e.out ++ entry ∷ []) (same-entry hart f.context g.context fronts.context);
    ended = alike.ended;
    order = same-order;
    bands = alike.bands;
  }

  -- a give of a ready context
  pub boards-ready : (c d : ContextState) → AreContextsAlike c d → AreBoardsAlike (give_ready_of b hart c) (give_ready_of e hart d)
  boards-ready c d one =
      let ready = ready-alike b.bands e.bands b.ready e.ready c d alike.bands (record { first = alike.first; second = alike.second }) one in
      record {
        waiting = alike.waiting;
        first = ready.first;
        second = ready.second;
        out = ap (out_without hart) alike.out;
        ended = alike.ended;
        order = same-order;
        bands = alike.bands;
      }

-- the next waiting task is admitted alike
admitted-alike : (b e : BoardState) (slot slot_too : ℕ) (words others : List Cell) (bodies more : List BodyState) → AreBoardsAlike b e → slot ≡ slot_too
    → ArePairwise AreCellsAlike words others → ArePairwise AreBodiesAlike bodies more
    → AreBoardsAlike (with_next_admitted b slot words bodies) (with_next_admitted e slot_too others more)
admitted-alike b e slot slot_too words others [] [] alike same cells waiting = alike
admitted-alike b e slot slot_too words others [] (w ∷ more) alike same cells waiting = absurd waiting
admitted-alike b e slot slot_too words others (v ∷ bodies) [] alike same cells waiting = absurd waiting
admitted-alike b e slot slot_too words others (v ∷ bodies) (w ∷ more) alike same cells waiting =
    let P : ℕ → Type 0 = λ n. AreContextsAlike (admit_of v slot words) (admit_of w n others) in
    let ready = ready-alike b.bands e.bands b.ready e.ready (admit_of v slot words) (admit_of w slot_too others) alike.bands
    (record { first = alike.first; second = alike.second }) (subst P same (admit-alike v w slot words others waiting.0 cells)) in
    record {
      waiting = waiting.1;
      first = ready.first;
      second = ready.second;
      out = alike.out;
      ended = alike.ended;
      order = alike.order;
      bands = alike.bands;
    }

-- a give of an ended task
pub boards-done : (hart : ℕ) (b e : BoardState) (c d : ContextState) (end kind : End) → AreBoardsAlike b e → AreContextsAlike c d → kind_of end ≡ kind_of kind
    → AreBoardsAlike (give_done_of b hart c end) (give_done_of e hart d kind)
boards-done hart b e c d end kind alike one same =
    admitted-alike
    (record (with_action b hart) { out = out_without hart b.out; ended = b.ended ++ done_of c end ∷ [] })
    (record (with_action e hart) { out = out_without hart e.out; ended = e.ended ++ done_of d kind ∷ [] })
    c.slot d.slot c.words d.words b.waiting e.waiting
    (record {
      waiting = alike.waiting;
      first = alike.first;
      second = alike.second;
      out = ap (out_without hart) alike.out;
      ended = pairwise-push AreDoneAlike b.ended e.ended (done_of c end) (done_of d kind) alike.ended (done-alike c d end kind one same);
      order = same-order hart b e alike;
      bands = alike.bands;
    })
    one.slot one.words alike.waiting
