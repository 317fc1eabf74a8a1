-- Every event keeps what is kept of a core, and so does every list of events.
use Rattle.std.proofs.Common.{◌≡◌, ℕ, ◌<◌, ◌≢◌, ◌⊎◌, inl, inr, List, [], ◌∷◌, filter, set, slice_get, length-set, Option, Some, None, refl, sym, ap, ◌∙◌, subst}
use Rattle.std.specs.Prelude.{All}
use Rattle.std.proofs.lemmas.Option.{slice_get_within}
use Rattle.std.proofs.lemmas.List.{append-nil}
use Rattle.std.proofs.lemmas.List.Elements.{All-nil, All-head, All-append, All-weaker}
use Rattle.isa_model.specs.declared.ends.End.{End}
use Rattle.hart_model.specs.declared.calls.QueueCall.{QueueCall}
use Rattle.hart_model.specs.declared.calls.QueueCall.TheVariants.{Take, GiveReady, GiveDone}
use Rattle.hart_model.specs.declared.probe.Probe.{Probe}
use Rattle.hart_model.specs.Context.{ContextState}
use Rattle.hart_model.specs.HartState.{HartState, tick_of}
use Rattle.hart_model.specs.Writes.{CellWrite, HartAndProbes}
use Rattle.hart_model.specs.StepResult.{StepResult, Steps, Wants, Wedged}
use Rattle.hart_model.specs.HartStep.{hart_step, answer_take, answer_give}
use Rattle.core_model.specs.declared.event.Event.{Event}
use Rattle.core_model.specs.declared.event.Event.TheVariants.{Go, Tick}
use Rattle.core_model.specs.declared.loaded.Loaded.{Loaded}
use Rattle.core_model.specs.Board.{BoardState, OutEntry, out_entry, take_from, give_ready_of, give_done_of, Front, all_ready, front_of}
use Rattle.core_model.proofs.ReadyLists.{front-is}
use Rattle.core_model.specs.BoardStep.{BoardStep, board_step_by_take, board_step_by_give_done, board_step_by_call}
use Rattle.core_model.specs.Core.{CoreState, with_hart, with_board_step, after_step, after_go, after_tick, after_event, core_from}
use Rattle.core_model.specs.Explained.{IsExplained}
use Rattle.core_model.specs.Soundness.{IsCoreSound, IsWaitingCase, IsReadyCase, entries_held}
use Rattle.core_invariant.specs.KernelStates.{KernelParts}
use Rattle.core_model.specs.Routines.{IsReadyContext}
use Rattle.core_invariant.specs.CutPoints.{IsOnItsWay}
use Rattle.core_invariant.specs.OneHart.{IsKept, GivesReady, GivesDone, EachHart}
use Rattle.core_invariant.specs.Invariant.{IsCoreKept, IsWaitingTask}
use Rattle.core_model.proofs.Lists.{get-set}
use Rattle.core_model.proofs.Counts.{on_hart}
use Rattle.core_invariant.proofs.Boards.{IsBoardKept, same-board, empty-board, taken-board, ready-board, done-board}

module _ (k : KernelParts) (loaded : Loaded) (one : EachHart loaded.tasks k) where
  -- A core that is kept is sound.
  pub kept-sound : (c : CoreState) → IsCoreKept k loaded c → IsCoreSound loaded c
  kept-sound c kept = record {
    hart_count = kept.hart_count;
    harts = λ i h is. one.is_sound i h (kept.harts i h is);
    board = record {
      homes = kept.homes;
      slot_once = kept.slot_once;
      ready_slots = kept.ready_slots;
      out_slots = kept.out_slots;
      waiting = All-weaker (IsWaitingTask loaded.tasks) (IsWaitingCase loaded.tasks) (λ b w. w.0) c.board.waiting kept.waiting;
      ready = All-weaker (IsReadyContext loaded.tasks) (IsReadyCase loaded.tasks) (λ x r. r.ready) (all_ready c.board.ready) kept.ready;
      ended = kept.ended;
    };
    out = kept.out;
    out_exists = kept.out_exists;
    log = kept.log;
  }

  module _ (c : CoreState) (kept : IsCoreKept k loaded c) (hart : ℕ) where
    -- one hart and the board change
    pub with-hart-kept : (a : HartAndProbes) (b : BoardState) (entries : List OutEntry) → IsKept loaded.tasks k hart entries a
        → IsBoardKept loaded c.board hart entries b
        → IsCoreKept k loaded (with_hart c hart a b)
    with-hart-kept a b entries now board = record {
      hart_count = length-set c.harts hart a.hart ∙ kept.hart_count;
      harts = λ i h is. hart_at i h (get-set c.harts hart i a.hart h is);
      homes = board.homes;
      slot_once = board.slot_once;
      ready_slots = board.ready_slots;
      out_slots = board.out_slots;
      waiting = board.waiting;
      ready = board.ready;
      ended = board.ended;
      out = λ i h is. out_at i h (get-set c.harts hart i a.hart h is);
      out_exists = board.out_exists;
      log = All-append (IsExplained loaded.tasks) c.log a.probes kept.log now.explained;
    }
      where
        hart_at : (i : ℕ) (h : HartState) → ((i ≡ hart) × (a.hart ≡ h)) ⊎ ((i ≢ hart) × (slice_get c.harts i ≡ Some h)) → IsOnItsWay loaded.tasks k i h
        hart_at i h (inl p) =
            let P : ℕ → Type 0 = λ j. IsOnItsWay loaded.tasks k j h in
            let Q : HartState → Type 0 = λ g. IsOnItsWay loaded.tasks k hart g in
            subst P (sym p.0) (subst Q p.1 now.hart)
        hart_at i h (inr p) = kept.harts i h p.1

        out_at : (i : ℕ) (h : HartState) → ((i ≡ hart) × (a.hart ≡ h)) ⊎ ((i ≢ hart) × (slice_get c.harts i ≡ Some h))
            → filter (on_hart i) b.out ≡ entries_held i h.held
        out_at i h (inl p) =
            let P : ℕ → Type 0 = λ j. filter (on_hart j) b.out ≡ entries_held j h.held in
            subst P (sym p.0) (board.mine ∙ sym now.holds ∙ ap (λ (g : HartState). entries_held hart g.held) p.1)
        out_at i h (inr p) = board.others i p.0 ∙ kept.out i h p.1

    module _ (h : HartState) (is : slice_get c.harts hart ≡ Some h) where
      way : IsOnItsWay loaded.tasks k hart h
      way = kept.harts hart h is

      exists : hart < loaded.harts
      exists = subst (λ n. hart < n) kept.hart_count (slice_get_within c.harts hart h is)

      -- the core is kept after what the hart's step comes to
      abbrev KeptAfter : BoardStep → Type 0
      KeptAfter s = IsCoreKept k loaded (with_board_step c hart s).core

      -- a hart that holds this has just this out
      mine : (held : Option ContextState) → h.held ≡ held → filter (on_hart hart) c.board.out ≡ entries_held hart held
      mine held e = kept.out hart h is ∙ ap (entries_held hart) e

      take-kept : (early_writes : List CellWrite) (rd next : ℕ) (front : Option Front) → hart_step k.code.words h ≡ Wants Take early_writes rd next
          → front_of c.board.ready.first c.board.ready.second ≡ front
          → KeptAfter (board_step_by_take h early_writes rd next (take_from c.board hart front))
      take-kept early_writes rd next None wants e =
          let none = mine None (one.holds_none hart h early_writes rd next way wants) in
          with-hart-kept (answer_take early_writes rd next None h) (take_from c.board hart None).board []
          (one.takes hart h early_writes rd next None way wants tt) (empty-board k loaded c kept hart none)
      take-kept early_writes rd next (Some f) wants e =
          let none = mine None (one.holds_none hart h early_writes rd next way wants) in
          let in_front = front-is c.board.ready.first c.board.ready.second f e in
          let can = All-head (IsReadyContext loaded.tasks) f.context (all_ready f.left) (subst (All (IsReadyContext loaded.tasks)) in_front kept.ready) in
          with-hart-kept (answer_take early_writes rd next (Some f.context) h) (take_from c.board hart (Some f)).board (out_entry hart f.context ∷ [])
          (one.takes hart h early_writes rd next (Some f.context) way wants can) (taken-board k loaded c kept hart f e exists none)

      give_ready-kept : (early_writes : List CellWrite) (rd next : ℕ) → GivesReady loaded.tasks k hart h early_writes next
          → KeptAfter (board_step_by_call c.board hart h GiveReady early_writes rd next h.held)
      give_ready-kept early_writes rd next gives =
          let P : Option ContextState → Type 0 = λ o. KeptAfter (board_step_by_call c.board hart h GiveReady early_writes rd next o) in
          subst P (sym gives.held) (with-hart-kept (answer_give early_writes next h) (give_ready_of c.board hart gives.context) [] gives.after
          (ready-board k loaded c kept hart gives.context (mine (Some gives.context) gives.held) gives.given))

      give_done-kept : (early_writes : List CellWrite) (rd next : ℕ) → GivesDone loaded.tasks k hart h early_writes next
          → KeptAfter (board_step_by_call c.board hart h GiveDone early_writes rd next h.held)
      give_done-kept early_writes rd next gives =
          let done = gives.given in
          let P : Option ContextState → Type 0 = λ o. KeptAfter (board_step_by_call c.board hart h GiveDone early_writes rd next o) in
          let Q : Option End → Type 0 = λ o. KeptAfter (board_step_by_give_done c.board hart h early_writes next gives.context o) in
          subst P (sym gives.held) (subst Q (sym done.has_end)
          (with-hart-kept (answer_give early_writes next h) (give_done_of c.board hart gives.context done.end) [] gives.after
          (done-board k loaded c kept hart gives.context done.end (mine (Some gives.context) gives.held) done done.ended)))

      call-kept : (call : QueueCall) (early_writes : List CellWrite) (rd next : ℕ) → hart_step k.code.words h ≡ Wants call early_writes rd next
          → KeptAfter (board_step_by_call c.board hart h call early_writes rd next h.held)
      call-kept Take early_writes rd next wants = take-kept early_writes rd next (front_of c.board.ready.first c.board.ready.second) wants refl
      call-kept GiveReady early_writes rd next wants = give_ready-kept early_writes rd next (one.gives_ready hart h early_writes rd next way wants)
      call-kept GiveDone early_writes rd next wants = give_done-kept early_writes rd next (one.gives_done hart h early_writes rd next way wants)

      step-kept : (r : StepResult) → hart_step k.code.words h ≡ r → IsCoreKept k loaded (after_step c hart h r).core
      step-kept (Steps after probes did) steps =
          with-hart-kept (record { hart = after; probes = probes }) c.board (entries_held hart h.held)
          (one.steps hart h after probes did way steps) (same-board k loaded c kept hart h is)
      step-kept (Wants call early_writes rd next) wants = call-kept call early_writes rd next wants
      step-kept Wedged wedged = absurd (one.never_wedged hart h way wedged)

    go-kept : (o : Option HartState) → slice_get c.harts hart ≡ o → IsCoreKept k loaded (after_go k.code.words c hart o).core
    go-kept None is = kept
    go-kept (Some h) is = step-kept h is (hart_step k.code.words h) refl

    tick-kept : (o : Option HartState) → slice_get c.harts hart ≡ o → IsCoreKept k loaded (after_tick c hart o)
    tick-kept None is = kept
    tick-kept (Some h) is =
        let P : List Probe → Type 0 = λ log. IsCoreKept k loaded (record { board = c.board; harts = set c.harts hart (tick_of h); log = log }) in
        subst P (append-nil c.log) (with-hart-kept (record { hart = tick_of h; probes = [] }) c.board (entries_held hart h.held)
        (record { hart = one.ticks hart h (kept.harts hart h is); explained = All-nil (IsExplained loaded.tasks); holds = refl })
        (same-board k loaded c kept hart h is))

  -- Every event keeps it.
  pub event-kept : (c : CoreState) → IsCoreKept k loaded c → (event : Event) → IsCoreKept k loaded (after_event k.code.words c event)
  event-kept c kept (Go hart) = go-kept c kept hart (slice_get c.harts hart) refl
  event-kept c kept (Tick hart) = tick-kept c kept hart (slice_get c.harts hart) refl

  -- So does every list of events.
  pub events-kept : (c : CoreState) → IsCoreKept k loaded c → (events : List Event) → IsCoreKept k loaded (core_from k.code.words c events)
  unfolding core_from
  events-kept c kept [] = kept
  events-kept c kept (event ∷ events) = events-kept (after_event k.code.words c event) (event-kept c kept event) events
