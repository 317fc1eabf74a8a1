-- What a queue action leaves of a board, for the hart that made it: all that is kept of a board is kept.
use Rattle.std.proofs.Common.{◌≡◌, ℕ, ◌≤◌, ◌<◌, ◌≢◌, true, false, List, [], ◌∷◌, ◌++◌, length, filter, slice_get, nat_lt, Some, None, ◌==◌, if◌then◌else◌, refl, sym, ap, ◌∙◌, subst, arith}
use Rattle.std.specs.Prelude.{All}
use Rattle.std.proofs.lemmas.Bool.{eqb-true, eq-eqb, ne_eqb, cond-true, cond-false}
use Rattle.std.proofs.lemmas.List.{append-nil}
use Rattle.std.proofs.lemmas.List.Elements.{All-head, All-tail, All-push, All-filter, filter-append}
use Rattle.isa_model.specs.declared.ends.End.{End}
use Rattle.hart_model.specs.Context.{BodyState, ContextState, admit_of, done_of}
use Rattle.hart_model.specs.HartState.{HartState}
use Rattle.core_model.specs.declared.loaded.Loaded.{Loaded}
use Rattle.core_model.specs.Board.{BoardState, OutEntry, Front, all_ready, front_of, out_entry, out_without, take_from, give_ready_of, give_done_of, with_next_admitted}
use Rattle.core_model.specs.Core.{CoreState}
use Rattle.core_model.specs.Soundness.{IsEndedCase, home_count, slot_count, entries_held}
use Rattle.core_invariant.specs.KernelStates.{KernelParts}
use Rattle.core_model.specs.Routines.{IsReadyContext}
use Rattle.core_invariant.specs.CutPoints.{IsDoneContext}
use Rattle.core_invariant.specs.Invariant.{IsCoreKept, IsWaitingTask}
use Rattle.core_model.proofs.Lists.{filter-kept, filter-none}
use Rattle.core_model.proofs.Counts.{on_hart, with_ended, homes-take, slots-take, homes-give_ready, slots-give_ready, homes-give_done, slots-give_done}
use Rattle.core_model.proofs.ReadyLists.{front-is, all-ready}
use Rattle.core_invariant.proofs.Admits.{done-admits}

-- The board that an action of a hart leaves of a core, where these entries are out on the hart then.
pub record IsBoardKept (loaded : Loaded) (before : BoardState) (hart : ℕ) (entries : List OutEntry) (b : BoardState) : Type 0 where
  pub homes : (task_no : ℕ) → home_count b task_no ≡ (if nat_lt task_no (length loaded.tasks) then 1 else 0)
  pub slot_once : (slot : ℕ) → slot_count b slot ≤ 1
  pub ready_slots : All (λ (context : ContextState). context.slot < loaded.slots) (all_ready b.ready)
  pub out_slots : All (λ (o : OutEntry). o.slot < loaded.slots) b.out
  pub waiting : All (IsWaitingTask loaded.tasks) b.waiting
  pub ready : All (IsReadyContext loaded.tasks) (all_ready b.ready)
  pub ended : All (IsEndedCase loaded.tasks) b.ended
  pub mine : filter (on_hart hart) b.out ≡ entries
  pub others : (i : ℕ) → i ≢ hart → filter (on_hart i) b.out ≡ filter (on_hart i) before.out
  pub out_exists : All (λ (o : OutEntry). o.hart < loaded.harts) b.out

-- an entry isn't on two harts
two_harts : (i hart : ℕ) → i ≢ hart → (o : OutEntry) → on_hart i o ≡ true → on_hart hart o ≡ false
two_harts i hart ne o is = ne_eqb o.hart hart (λ e. ne (sym (eqb-true o.hart i is) ∙ e))

pub others_stay : (i hart : ℕ) (out : List OutEntry) → i ≢ hart → filter (on_hart i) (out_without hart out) ≡ filter (on_hart i) out
others_stay i hart out ne = filter-kept (on_hart i) (on_hart hart) (two_harts i hart ne) out

-- one entry more
mine_more : (hart : ℕ) (c : ContextState) (out : List OutEntry) → filter (on_hart hart) out ≡ []
    → filter (on_hart hart) (out ++ out_entry hart c ∷ []) ≡ out_entry hart c ∷ []
mine_more hart c out none =
    let here : (hart == hart) ≡ true = eq-eqb hart hart refl in
    filter-append (on_hart hart) out (out_entry hart c ∷ [])
    ∙ ap (λ xs. xs ++ filter (on_hart hart) (out_entry hart c ∷ [])) none
    ∙ cond-true (hart == hart) _ _ here

others_more : (i hart : ℕ) (c : ContextState) (out : List OutEntry) → i ≢ hart
    → filter (on_hart i) (out ++ out_entry hart c ∷ []) ≡ filter (on_hart i) out
others_more i hart c out ne =
    let away : (hart == i) ≡ false = ne_eqb hart i (λ e. ne (sym e)) in
    filter-append (on_hart i) out (out_entry hart c ∷ [])
    ∙ ap (λ xs. filter (on_hart i) out ++ xs) (cond-false (hart == i) _ _ away)
    ∙ append-nil (filter (on_hart i) out)

module _ (k : KernelParts) (loaded : Loaded) (c : CoreState) (kept : IsCoreKept k loaded c) (hart : ℕ) where
  -- the board stays
  pub same-board : (h : HartState) → slice_get c.harts hart ≡ Some h → IsBoardKept loaded c.board hart (entries_held hart h.held) c.board
  same-board h is = record {
    homes = kept.homes;
    slot_once = kept.slot_once;
    ready_slots = kept.ready_slots;
    out_slots = kept.out_slots;
    waiting = kept.waiting;
    ready = kept.ready;
    ended = kept.ended;
    mine = kept.out hart h is;
    others = λ i ne. refl;
    out_exists = kept.out_exists;
  }

  -- a take that finds nothing
  pub empty-board : filter (on_hart hart) c.board.out ≡ [] → IsBoardKept loaded c.board hart [] (take_from c.board hart None).board
  empty-board none = record {
    homes = kept.homes;
    slot_once = kept.slot_once;
    ready_slots = kept.ready_slots;
    out_slots = kept.out_slots;
    waiting = kept.waiting;
    ready = kept.ready;
    ended = kept.ended;
    mine = none;
    others = λ i ne. refl;
    out_exists = kept.out_exists;
  }

  -- a take that gets the front of the ready contexts
  pub taken-board : (f : Front) → front_of c.board.ready.first c.board.ready.second ≡ Some f → hart < loaded.harts → filter (on_hart hart) c.board.out ≡ []
      → IsBoardKept loaded c.board hart (out_entry hart f.context ∷ []) (take_from c.board hart (Some f)).board
  taken-board f e exists none =
      let in_front = front-is c.board.ready.first c.board.ready.second f e in
      let slots = subst (All (λ (context : ContextState). context.slot < loaded.slots)) in_front kept.ready_slots in
      let contexts = subst (All (IsReadyContext loaded.tasks)) in_front kept.ready in
      record {
        homes = λ t. homes-take t hart c.board (Some f) e ∙ kept.homes t;
        slot_once = λ s. subst (λ n. n ≤ 1) (sym (slots-take s hart c.board (Some f) e)) (kept.slot_once s);
        ready_slots = All-tail (λ (context : ContextState). context.slot < loaded.slots) f.context (all_ready f.left) slots;
        out_slots = All-push (λ (o : OutEntry). o.slot < loaded.slots) c.board.out (out_entry hart f.context) kept.out_slots
            (All-head (λ (context : ContextState). context.slot < loaded.slots) f.context (all_ready f.left) slots);
        waiting = kept.waiting;
        ready = All-tail (IsReadyContext loaded.tasks) f.context (all_ready f.left) contexts;
        ended = kept.ended;
        mine = mine_more hart f.context c.board.out none;
        others = λ i ne. others_more i hart f.context c.board.out ne;
        out_exists = All-push (λ (o : OutEntry). o.hart < loaded.harts) c.board.out (out_entry hart f.context) kept.out_exists exists;
      }

  -- the slot of what is out on the hart is one of the bundle's
  slot_low : (x : ContextState) → filter (on_hart hart) c.board.out ≡ out_entry hart x ∷ [] → x.slot < loaded.slots
  slot_low x mine =
      let P : OutEntry → Type 0 = λ o. o.slot < loaded.slots in
      All-head P (out_entry hart x) [] (subst (All P) mine (All-filter (on_hart hart) P c.board.out kept.out_slots))

  -- a give of a ready context
  pub ready-board : (x : ContextState) → filter (on_hart hart) c.board.out ≡ out_entry hart x ∷ [] → IsReadyContext loaded.tasks x
      → IsBoardKept loaded c.board hart [] (give_ready_of c.board hart x)
  ready-board x mine can = record {
    homes = λ t. homes-give_ready t hart c.board x mine ∙ kept.homes t;
    slot_once = λ s. subst (λ n. n ≤ 1) (sym (slots-give_ready s hart c.board x mine)) (kept.slot_once s);
    ready_slots = all-ready (λ (context : ContextState). context.slot < loaded.slots) c.board.bands c.board.ready x kept.ready_slots (slot_low x mine);
    out_slots = All-filter _ (λ (o : OutEntry). o.slot < loaded.slots) c.board.out kept.out_slots;
    waiting = kept.waiting;
    ready = all-ready (IsReadyContext loaded.tasks) c.board.bands c.board.ready x kept.ready can;
    ended = kept.ended;
    mine = filter-none (on_hart hart) c.board.out;
    others = λ i ne. others_stay i hart c.board.out ne;
    out_exists = All-filter _ (λ (o : OutEntry). o.hart < loaded.harts) c.board.out kept.out_exists;
  }

  -- a give of an ended context, whose slot then goes to the first of these waiting tasks
  done_with : (x : ContextState) (end : End) (waiting : List BodyState) → filter (on_hart hart) c.board.out ≡ out_entry hart x ∷ []
      → IsDoneContext loaded.tasks x
      → IsEndedCase loaded.tasks (done_of x end) → All (IsWaitingTask loaded.tasks) waiting
      → ((t : ℕ) → home_count (with_next_admitted (with_ended c.board hart x end) x.slot x.words waiting) t ≡ home_count c.board t)
      → ((s : ℕ) → slot_count (with_next_admitted (with_ended c.board hart x end) x.slot x.words waiting) s ≤ slot_count c.board s)
      → c.board.waiting ≡ waiting
      → IsBoardKept loaded c.board hart [] (with_next_admitted (with_ended c.board hart x end) x.slot x.words waiting)
  done_with x end [] mine done ended waits homes slots e = record {
    homes = λ t. homes t ∙ kept.homes t;
    slot_once = λ s. (let now = slots s in let before = kept.slot_once s in omega arith);
    ready_slots = kept.ready_slots;
    out_slots = All-filter _ (λ (o : OutEntry). o.slot < loaded.slots) c.board.out kept.out_slots;
    waiting = kept.waiting;
    ready = kept.ready;
    ended = All-push (IsEndedCase loaded.tasks) c.board.ended (done_of x end) kept.ended ended;
    mine = filter-none (on_hart hart) c.board.out;
    others = λ i ne. others_stay i hart c.board.out ne;
    out_exists = All-filter _ (λ (o : OutEntry). o.hart < loaded.harts) c.board.out kept.out_exists;
  }
  done_with x end (next ∷ rest) mine done ended waits homes slots e =
      let first = All-head (IsWaitingTask loaded.tasks) next rest waits in
      record {
        homes = λ t. homes t ∙ kept.homes t;
        slot_once = λ s. (let now = slots s in let before = kept.slot_once s in omega arith);
        ready_slots = all-ready (λ (context : ContextState). context.slot < loaded.slots) c.board.bands c.board.ready (admit_of next x.slot x.words)
            kept.ready_slots (slot_low x mine);
        out_slots = All-filter _ (λ (o : OutEntry). o.slot < loaded.slots) c.board.out kept.out_slots;
        waiting = All-tail (IsWaitingTask loaded.tasks) next rest waits;
        ready = all-ready (IsReadyContext loaded.tasks) c.board.bands c.board.ready (admit_of next x.slot x.words) kept.ready
            (done-admits loaded.tasks x next done first.0 first.1);
        ended = All-push (IsEndedCase loaded.tasks) c.board.ended (done_of x end) kept.ended ended;
        mine = filter-none (on_hart hart) c.board.out;
        others = λ i ne. others_stay i hart c.board.out ne;
        out_exists = All-filter _ (λ (o : OutEntry). o.hart < loaded.harts) c.board.out kept.out_exists;
      }

  pub done-board : (x : ContextState) (end : End) → filter (on_hart hart) c.board.out ≡ out_entry hart x ∷ [] → IsDoneContext loaded.tasks x
      → IsEndedCase loaded.tasks (done_of x end) → IsBoardKept loaded c.board hart [] (give_done_of c.board hart x end)
  done-board x end mine done ended =
      done_with x end c.board.waiting mine done ended kept.waiting
      (λ t. homes-give_done t hart c.board x end mine) (λ s. slots-give_done s hart c.board x end mine) refl
