-- As many contexts are ready or out as there are slots, as long as a task waits: at boot, and after every event.
use Rattle.std.proofs.Common.{◌≡◌, ℕ, zero, suc, ◌+◌, ◌⊎◌, inl, inr, not, List, [], ◌∷◌, length, length-append, take, drop, filter, slice_get, Option, Some, None, ◌==◌, refl, sym, ap, ◌∙◌, subst, arith}
use Rattle.std.proofs.lemmas.List.Filters.{length-filter_both}
use Rattle.isa_model.specs.declared.ends.End.{End}
use Rattle.hart_model.specs.declared.calls.QueueCall.{QueueCall}
use Rattle.hart_model.specs.declared.calls.QueueCall.TheVariants.{Take, GiveReady, GiveDone}
use Rattle.hart_model.specs.Context.{BodyState, ContextState, admit_of}
use Rattle.hart_model.specs.HartState.{HartState}
use Rattle.hart_model.specs.Writes.{CellWrite}
use Rattle.hart_model.specs.StepResult.{StepResult, Steps, Wants, Wedged}
use Rattle.hart_model.specs.HartStep.{hart_step}
use Rattle.core_model.specs.declared.event.Event.{Event}
use Rattle.core_model.specs.declared.event.Event.TheVariants.{Go, Tick}
use Rattle.core_model.specs.declared.loaded.Loaded.{Loaded}
use Rattle.core_model.specs.Board.{BoardState, OutEntry, Front, contexts_from, front_of, out_entry, out_without, take_from, give_ready_of, give_done_of, with_next_admitted}
use Rattle.core_model.specs.BoardStep.{BoardStep, board_step_by_give_done, board_step_by_call}
use Rattle.core_model.specs.Core.{CoreState, bodies_from, boot_core, after_step, after_go, after_tick, after_event, core_from}
use Rattle.core_model.specs.KernelWords.{KernelCodeState}
use Rattle.core_model.specs.Soundness.{entries_held}
use Rattle.core_model.proofs.Counts.{on_hart, with_ended}
use Rattle.core_model.proofs.ReadyLists.{front-is, length-all_ready, length-ready}
use Rattle.core_invariant.specs.KernelStates.{KernelParts}
use Rattle.core_invariant.specs.CutPoints.{IsOnItsWay}
use Rattle.core_invariant.specs.Invariant.{IsCoreKept}
use Rattle.core_invariant.specs.OneHart.{GivesReady, GivesDone, EachHart}
use Rattle.core_invariant.proofs.Boot.{boot-kept}
use Rattle.core_invariant.proofs.Composition.{event-kept}
use Rattle.core_invariant.proofs.Proved.{kernel-harts}
use Rattle.ended_laws.specs.Ending.{AreSlotsUsed, SlotsStayUsed}

-- AT BOOT: either all tasks have a slot, or all slots have a task
taken-all : {X : Type 0} (n : ℕ) (xs : List X) → (drop n xs ≡ []) ⊎ (length (take n xs) ≡ n)
taken-all zero xs = inr refl
taken-all (suc n) [] = inl refl
taken-all (suc n) (x ∷ xs) = elim (taken-all n xs) [
  | inl none ↦ inl none
  | inr all ↦ inr (ap suc all)
]

length-contexts : (slot : ℕ) (bodies : List BodyState) → length (contexts_from slot bodies) ≡ length bodies
length-contexts slot [] = refl
length-contexts slot (b ∷ bs) = ap suc (length-contexts (slot + 1) bs)

pub boot-used : (loaded : Loaded) (kernel : KernelCodeState) → AreSlotsUsed loaded.slots (boot_core loaded kernel).board
boot-used loaded kernel = elim (taken-all loaded.slots (bodies_from 0 loaded.tasks)) [
  | inl none ↦ inl none
  | inr all ↦ (let contexts = contexts_from 0 (take loaded.slots (bodies_from 0 loaded.tasks)) in
      let lists = length-all_ready loaded.bands contexts in
      let each = length-contexts 0 (take loaded.slots (bodies_from 0 loaded.tasks)) in
      inr (omega (arith, all, lists, each)))
]

-- THE ACTIONS
module _ (slots : ℕ) (b : BoardState) (used : AreSlotsUsed slots b) (hart : ℕ) where
  -- what is taken is out
  used-take : (front : Option Front) → front_of b.ready.first b.ready.second ≡ front → AreSlotsUsed slots (take_from b hart front).board
  used-take None e = used
  used-take (Some f) e = elim used [
    | inl none ↦ inl none
    | inr all ↦ (let ready = ap length (front-is b.ready.first b.ready.second f e) in
        let out = length-append b.out (out_entry hart f.context ∷ []) in
        inr (omega (arith, all, ready, out)))
  ]

  module _ (x : ContextState) (mine : filter (on_hart hart) b.out ≡ out_entry hart x ∷ []) where
    -- what is given is out no more
    one-less : length (out_without hart b.out) + 1 ≡ length b.out
    one-less =
        let both = length-filter_both (on_hart hart) (λ (o : OutEntry). not (o.hart == hart)) (λ o. refl) b.out in
        let one = ap length mine in
        omega (arith, both, one)

    used-give_ready : AreSlotsUsed slots (give_ready_of b hart x)
    used-give_ready = elim used [
      | inl none ↦ inl none
      | inr all ↦ (let ready = length-ready b.bands b.ready x in
          let less = one-less in
          inr (omega (arith, all, ready, less)))
    ]

    -- in the place of an ended one the first waiting task is admitted
    used-next : (end : End) (waiting : List BodyState) → b.waiting ≡ waiting
        → AreSlotsUsed slots (with_next_admitted (with_ended b hart x end) x.slot x.words waiting)
    used-next end [] waits = inl waits
    used-next end (next ∷ rest) waits = elim used [
      | inl none ↦ absurd (cc (sym waits ∙ none))
      | inr all ↦ (let ready = length-ready b.bands b.ready (admit_of next x.slot x.words) in
          let less = one-less in
          inr (omega (arith, all, ready, less)))
    ]

    used-give_done : (end : End) → AreSlotsUsed slots (give_done_of b hart x end)
    used-give_done end = used-next end b.waiting refl

-- EVERY EVENT
module _ (k : KernelParts) (loaded : Loaded) (one : EachHart loaded.tasks k) where
  module _ (c : CoreState) (kept : IsCoreKept k loaded c) (used : AreSlotsUsed loaded.slots c.board) (hart : ℕ) where
    module _ (h : HartState) (is : slice_get c.harts hart ≡ Some h) where
      way : IsOnItsWay loaded.tasks k hart h
      way = kept.harts hart h is

      abbrev UsedAfter : BoardStep → Type 0
      UsedAfter s = AreSlotsUsed loaded.slots s.board

      mine : (x : ContextState) → h.held ≡ Some x → filter (on_hart hart) c.board.out ≡ out_entry hart x ∷ []
      mine x e = kept.out hart h is ∙ ap (entries_held hart) e

      used-ready : (early_writes : List CellWrite) (rd next : ℕ) → GivesReady loaded.tasks k hart h early_writes next
          → UsedAfter (board_step_by_call c.board hart h GiveReady early_writes rd next h.held)
      used-ready early_writes rd next gives =
          let P : Option ContextState → Type 0 = λ o. UsedAfter (board_step_by_call c.board hart h GiveReady early_writes rd next o) in
          subst P (sym gives.held) (used-give_ready loaded.slots c.board used hart gives.context (mine gives.context gives.held))

      used-done : (early_writes : List CellWrite) (rd next : ℕ) → GivesDone loaded.tasks k hart h early_writes next
          → UsedAfter (board_step_by_call c.board hart h GiveDone early_writes rd next h.held)
      used-done early_writes rd next gives =
          let done = gives.given in
          let P : Option ContextState → Type 0 = λ o. UsedAfter (board_step_by_call c.board hart h GiveDone early_writes rd next o) in
          let Q : Option End → Type 0 = λ o. UsedAfter (board_step_by_give_done c.board hart h early_writes next gives.context o) in
          subst P (sym gives.held) (subst Q (sym done.has_end)
          (used-give_done loaded.slots c.board used hart gives.context (mine gives.context gives.held) done.end))

      used-call : (call : QueueCall) (early_writes : List CellWrite) (rd next : ℕ) → hart_step k.code.words h ≡ Wants call early_writes rd next
          → UsedAfter (board_step_by_call c.board hart h call early_writes rd next h.held)
      used-call Take early_writes rd next wants =
          used-take loaded.slots c.board used hart (front_of c.board.ready.first c.board.ready.second) refl
      used-call GiveReady early_writes rd next wants = used-ready early_writes rd next (one.gives_ready hart h early_writes rd next way wants)
      used-call GiveDone early_writes rd next wants = used-done early_writes rd next (one.gives_done hart h early_writes rd next way wants)

      used-step : (r : StepResult) → hart_step k.code.words h ≡ r → AreSlotsUsed loaded.slots (after_step c hart h r).core.board
      used-step (Steps after probes did) steps = used
      used-step (Wants call early_writes rd next) wants = used-call call early_writes rd next wants
      used-step Wedged wedged = used

    used-go : (o : Option HartState) → slice_get c.harts hart ≡ o → AreSlotsUsed loaded.slots (after_go k.code.words c hart o).core.board
    used-go None is = used
    used-go (Some h) is = used-step h is (hart_step k.code.words h) refl

    used-tick : (o : Option HartState) → AreSlotsUsed loaded.slots (after_tick c hart o).board
    used-tick None = used
    used-tick (Some h) = used

  pub used-event : (c : CoreState) → IsCoreKept k loaded c → AreSlotsUsed loaded.slots c.board → (event : Event)
      → AreSlotsUsed loaded.slots (after_event k.code.words c event).board
  used-event c kept used (Go hart) = used-go c kept used hart (slice_get c.harts hart) refl
  used-event c kept used (Tick hart) = used-tick c kept used hart (slice_get c.harts hart)

  pub used-events : (c : CoreState) → IsCoreKept k loaded c → AreSlotsUsed loaded.slots c.board → (events : List Event)
      → AreSlotsUsed loaded.slots (core_from k.code.words c events).board
  unfolding core_from
  used-events c kept used [] = used
  used-events c kept used (event ∷ events) =
      used-events (after_event k.code.words c event) (event-kept k loaded one c kept event) (used-event c kept used event) events

-- THE LAW
pub slots-used : SlotsStayUsed
slots-used k kernel loaded fits events =
    let one = kernel-harts k kernel loaded fits in
    used-events k loaded one (boot_core loaded k.code) (boot-kept k loaded fits one) (boot-used loaded k.code) events
