-- Cores whose harts are together stay so by every event, and so their logs agree publicly.
use Rattle.std.proofs.Common.{◌≡◌, ℕ, zero, suc, ◌+◌, ◌≢◌, ◌⊎◌, inl, inr, List, [], ◌∷◌, ◌++◌, length, set, slice_get, length-set, Option, Some, None, option_map, refl, sym, ap, ◌∙◌, subst, arith}
use Rattle.std.specs.Prelude.{All}
use Rattle.std.proofs.lemmas.List.{append-nil}
use Rattle.std.proofs.lemmas.List.Elements.{All-head}
use Rattle.isa_model.specs.declared.ends.End.{End}
use Rattle.isa_model.specs.Control.{kind_of}
use Rattle.hart_model.specs.declared.calls.QueueCall.{QueueCall}
use Rattle.hart_model.specs.declared.calls.QueueCall.TheVariants.{Take, GiveReady, GiveDone}
use Rattle.hart_model.specs.declared.probe.Probe.{Probe}
use Rattle.hart_model.specs.Context.{ContextState}
use Rattle.hart_model.specs.HartState.{HartState, boot_hart, tick_of}
use Rattle.hart_model.specs.Writes.{CellWrite, HartAndProbes}
use Rattle.hart_model.specs.StepResult.{StepResult, Steps, Wants, Wedged}
use Rattle.hart_model.specs.HartStep.{hart_step, answer_take, answer_give}
use Rattle.core_model.specs.declared.event.Event.{Event}
use Rattle.core_model.specs.declared.event.Event.TheVariants.{Go, Tick}
use Rattle.core_model.specs.declared.loaded.Loaded.{Loaded}
use Rattle.core_model.specs.Board.{BoardState, take_from, give_ready_of, give_done_of, boot_board, Front, all_ready, front_of}
use Rattle.core_model.proofs.ReadyLists.{front-is}
use Rattle.core_model.specs.BoardStep.{BoardStep, stays, board_step_by_take, board_step_by_give_done, board_step_by_call, board_step}
use Rattle.core_model.specs.Core.{CoreState, with_hart, with_board_step, after_step, after_go, after_tick, after_event, core_from, boot_core, bodies_from, harts_from, core_after, log_of}
use Rattle.core_model.specs.Loaded.{IsLoaded}
use Rattle.core_model.specs.LowEquivalence.{AreAlike, AgreesPublicly, AgreePublicly}
use Rattle.core_invariant.specs.KernelStates.{KernelParts}
use Rattle.core_model.specs.Routines.{IsReadyContext}
use Rattle.core_invariant.specs.OneHart.{EachHart}
use Rattle.core_invariant.specs.Invariant.{IsCoreKept}
use Rattle.core_model.proofs.Lists.{get-set}
use Rattle.core_invariant.proofs.Composition.{event-kept}
use Rattle.core_invariant.proofs.Boot.{boot-kept, boot-hart}
use Rattle.core_model.specs.AlikeHarts.{AreContextsAlike, AreHeldAlike}
use Rattle.noninterference.specs.AlikeCores.{AreBoardsAlike, AreLeftTogether, AreOnWayTogether, AreStepsTogether, BothHarts}
use Rattle.noninterference.proofs.Pairs.{pairwise-append}
use Rattle.noninterference.proofs.AlikeBoards.{AreNextAlike, fronts-alike, boot-boards, boards-empty, boards-taken, boards-ready, boards-done}

-- two cores as every event keeps them: alike, and the harts of one number together
pub record AreCoresTogether (Together : ℕ → HartState → HartState → Type 0) (c d : CoreState) : Type 0 where
  pub board : AreBoardsAlike c.board d.board
  pub count : length c.harts ≡ length d.harts
  pub harts : (i : ℕ) (h g : HartState) → slice_get c.harts i ≡ Some h → slice_get d.harts i ≡ Some g → Together i h g
  pub log : AgreePublicly c.log d.log

-- a place that one list has and the other doesn't
pub one-short : {A : Type 0} (xs ys : List A) (i : ℕ) (x : A) → length xs ≡ length ys → slice_get xs i ≡ Some x → slice_get ys i ≡ None → ⊥
one-short [] [] i x same is none = cc is
one-short [] (y ∷ ys) i x same is none = cc is
one-short (v ∷ xs) [] i x same is none = cc same
one-short (v ∷ xs) (w ∷ ys) zero x same is none = cc none
one-short (v ∷ xs) (w ∷ ys) (suc i) x same is none = one-short xs ys i x (cc same) is none

module _ (Together : ℕ → HartState → HartState → Type 0) (k : KernelParts) (loaded other : Loaded)
    (one : EachHart loaded.tasks k) (two : EachHart other.tasks k) (both : BothHarts Together loaded.tasks other.tasks k) where
  module _ (c d : CoreState) (kept : IsCoreKept k loaded c) (kept_too : IsCoreKept k other d) (together : AreCoresTogether Together c d) where
    module _ (hart : ℕ) where
      -- one hart and the board change on both
      pub with-hart-together : (a b : HartAndProbes) (left right : BoardState) → AreLeftTogether Together hart a b → AreBoardsAlike left right
          → AreCoresTogether Together (with_hart c hart a left) (with_hart d hart b right)
      with-hart-together a b left right now boards = record {
        board = boards;
        count = length-set c.harts hart a.hart ∙ together.count ∙ sym (length-set d.harts hart b.hart);
        harts = λ i h g is there. at i h g (get-set c.harts hart i a.hart h is) (get-set d.harts hart i b.hart g there);
        log = pairwise-append AgreesPublicly c.log d.log a.probes b.probes together.log now.probes;
      }
        where
          at : (i : ℕ) (h g : HartState) → ((i ≡ hart) × (a.hart ≡ h)) ⊎ ((i ≢ hart) × (slice_get c.harts i ≡ Some h))
              → ((i ≡ hart) × (b.hart ≡ g)) ⊎ ((i ≢ hart) × (slice_get d.harts i ≡ Some g)) → Together i h g
          at i h g (inl p) (inl q) =
              let P : ℕ → Type 0 = λ j. Together j h g in
              let Q : HartState → Type 0 = λ f. Together hart f g in
              let R : HartState → Type 0 = λ f. Together hart a.hart f in
              subst P (sym p.0) (subst Q p.1 (subst R q.1 now.harts))
          at i h g (inl p) (inr q) = absurd (q.0 p.0)
          at i h g (inr p) (inl q) = absurd (p.0 q.0)
          at i h g (inr p) (inr q) = together.harts i h g p.1 q.1

      module _ (h g : HartState) (is : slice_get c.harts hart ≡ Some h) (is_too : slice_get d.harts hart ≡ Some g) where
        on : AreOnWayTogether Together loaded.tasks other.tasks k hart h g
        on = record { way = kept.harts hart h is; other = kept_too.harts hart g is_too; both = together.harts hart h g is is_too }

        -- the cores are together after what the steps of the hart come to
        abbrev TogetherAfter : BoardStep → BoardStep → Type 0
        TogetherAfter r q = AreCoresTogether Together (with_board_step c hart r).core (with_board_step d hart q).core

        -- where nothing is done the harts go back to where they stand
        stay-together : TogetherAfter (stays c.board h) (stays d.board g)
        stay-together =
            with-hart-together (record { hart = h; probes = [] }) (record { hart = g; probes = [] }) c.board d.board
            (record { harts = on.both; probes = tt }) together.board

        take-together : (early_writes other_early_writes : List CellWrite) (rd next : ℕ) (front other_front : Option Front) → hart_step k.code.words h ≡ Wants Take early_writes rd next
            → hart_step k.code.words g ≡ Wants Take other_early_writes rd next → front_of c.board.ready.first c.board.ready.second ≡ front
            → front_of d.board.ready.first d.board.ready.second ≡ other_front → AreNextAlike front other_front
            → TogetherAfter (board_step_by_take h early_writes rd next (take_from c.board hart front))
            (board_step_by_take g other_early_writes rd next (take_from d.board hart other_front))
        take-together early_writes other_early_writes rd next None None wants wants_too e f pairs =
            with-hart-together (answer_take early_writes rd next None h) (answer_take other_early_writes rd next None g)
            (take_from c.board hart None).board (take_from d.board hart None).board
            (both.takes hart h g early_writes other_early_writes rd next None None on wants wants_too tt tt tt) (boards-empty hart c.board d.board together.board)
        take-together early_writes other_early_writes rd next None (Some y) wants wants_too e f pairs = absurd pairs
        take-together early_writes other_early_writes rd next (Some x) None wants wants_too e f pairs = absurd pairs
        take-together early_writes other_early_writes rd next (Some x) (Some y) wants wants_too e f pairs =
            let in_front = front-is c.board.ready.first c.board.ready.second x e in
            let in_front_too = front-is d.board.ready.first d.board.ready.second y f in
            let can = All-head (IsReadyContext loaded.tasks) x.context (all_ready x.left) (subst (All (IsReadyContext loaded.tasks)) in_front kept.ready) in
            let can_too = All-head (IsReadyContext other.tasks) y.context (all_ready y.left) (subst (All (IsReadyContext other.tasks)) in_front_too kept_too.ready) in
            with-hart-together (answer_take early_writes rd next (Some x.context) h) (answer_take other_early_writes rd next (Some y.context) g)
            (take_from c.board hart (Some x)).board (take_from d.board hart (Some y)).board
            (both.takes hart h g early_writes other_early_writes rd next (Some x.context) (Some y.context) on wants wants_too can can_too pairs.context)
            (boards-taken hart c.board d.board together.board x y pairs)

        ready-together : (early_writes other_early_writes : List CellWrite) (rd next : ℕ) (held held_too : Option ContextState)
            → hart_step k.code.words h ≡ Wants GiveReady early_writes rd next → hart_step k.code.words g ≡ Wants GiveReady other_early_writes rd next
            → AreHeldAlike held held_too
            → TogetherAfter (board_step_by_call c.board hart h GiveReady early_writes rd next held)
            (board_step_by_call d.board hart g GiveReady other_early_writes rd next held_too)
        ready-together early_writes other_early_writes rd next None None wants wants_too held = stay-together
        ready-together early_writes other_early_writes rd next None (Some y) wants wants_too held = absurd held
        ready-together early_writes other_early_writes rd next (Some x) None wants wants_too held = absurd held
        ready-together early_writes other_early_writes rd next (Some x) (Some y) wants wants_too held =
            with-hart-together (answer_give early_writes next h) (answer_give other_early_writes next g) (give_ready_of c.board hart x) (give_ready_of d.board hart y)
            (both.gives_ready hart h g early_writes other_early_writes rd next on wants wants_too) (boards-ready hart c.board d.board together.board x y held)

        ended-together : (early_writes other_early_writes : List CellWrite) (rd next : ℕ) (x y : ContextState) (end end_too : Option End)
            → hart_step k.code.words h ≡ Wants GiveDone early_writes rd next → hart_step k.code.words g ≡ Wants GiveDone other_early_writes rd next
            → AreContextsAlike x y → option_map kind_of end ≡ option_map kind_of end_too
            → TogetherAfter (board_step_by_give_done c.board hart h early_writes next x end)
            (board_step_by_give_done d.board hart g other_early_writes next y end_too)
        ended-together early_writes other_early_writes rd next x y None None wants wants_too held kinds = stay-together
        ended-together early_writes other_early_writes rd next x y None (Some f) wants wants_too held kinds = absurd (cc kinds)
        ended-together early_writes other_early_writes rd next x y (Some e) None wants wants_too held kinds = absurd (cc kinds)
        ended-together early_writes other_early_writes rd next x y (Some e) (Some f) wants wants_too held kinds =
            with-hart-together (answer_give early_writes next h) (answer_give other_early_writes next g) (give_done_of c.board hart x e) (give_done_of d.board hart y f)
            (both.gives_done hart h g early_writes other_early_writes rd next on wants wants_too) (boards-done hart c.board d.board x y e f together.board held (cc kinds))

        done-together : (early_writes other_early_writes : List CellWrite) (rd next : ℕ) (held held_too : Option ContextState)
            → hart_step k.code.words h ≡ Wants GiveDone early_writes rd next → hart_step k.code.words g ≡ Wants GiveDone other_early_writes rd next
            → AreHeldAlike held held_too
            → TogetherAfter (board_step_by_call c.board hart h GiveDone early_writes rd next held)
            (board_step_by_call d.board hart g GiveDone other_early_writes rd next held_too)
        done-together early_writes other_early_writes rd next None None wants wants_too held = stay-together
        done-together early_writes other_early_writes rd next None (Some y) wants wants_too held = absurd held
        done-together early_writes other_early_writes rd next (Some x) None wants wants_too held = absurd held
        done-together early_writes other_early_writes rd next (Some x) (Some y) wants wants_too held =
            ended-together early_writes other_early_writes rd next x y x.end y.end wants wants_too held held.end

        call-together : (call : QueueCall) (early_writes other_early_writes : List CellWrite) (rd next : ℕ) → hart_step k.code.words h ≡ Wants call early_writes rd next
            → hart_step k.code.words g ≡ Wants call other_early_writes rd next
            → TogetherAfter (board_step_by_call c.board hart h call early_writes rd next h.held)
            (board_step_by_call d.board hart g call other_early_writes rd next g.held)
        call-together Take early_writes other_early_writes rd next wants wants_too =
            take-together early_writes other_early_writes rd next (front_of c.board.ready.first c.board.ready.second) (front_of d.board.ready.first d.board.ready.second) wants wants_too refl refl
            (fronts-alike c.board.ready.first c.board.ready.second d.board.ready.first d.board.ready.second together.board.first together.board.second)
        call-together GiveReady early_writes other_early_writes rd next wants wants_too =
            ready-together early_writes other_early_writes rd next h.held g.held wants wants_too (both.holds_alike hart h g GiveReady early_writes other_early_writes rd next on wants wants_too)
        call-together GiveDone early_writes other_early_writes rd next wants wants_too =
            done-together early_writes other_early_writes rd next h.held g.held wants wants_too (both.holds_alike hart h g GiveDone early_writes other_early_writes rd next on wants wants_too)

        wants-together : (call call_too : QueueCall) (early_writes other_early_writes : List CellWrite) (rd rd_too next next_too : ℕ) → call ≡ call_too → rd ≡ rd_too → next ≡ next_too
            → hart_step k.code.words h ≡ Wants call early_writes rd next → hart_step k.code.words g ≡ Wants call_too other_early_writes rd_too next_too
            → TogetherAfter (board_step_by_call c.board hart h call early_writes rd next h.held)
            (board_step_by_call d.board hart g call_too other_early_writes rd_too next_too g.held)
        wants-together call call_too early_writes other_early_writes rd rd_too next next_too calls rds nexts wants wants_too =
            let e : Wants call_too other_early_writes rd_too next_too ≡ Wants call other_early_writes rd next = rw (calls, rds, nexts) refl in
            let P : StepResult → Type 0 = λ r. TogetherAfter (board_step_by_call c.board hart h call early_writes rd next h.held) (board_step d.board hart g r) in
            subst P (sym e) (call-together call early_writes other_early_writes rd next wants (wants_too ∙ e))

        step-together : (r q : StepResult) → hart_step k.code.words h ≡ r → hart_step k.code.words g ≡ q → AreStepsTogether (Together hart) r q
            → AreCoresTogether Together (after_step c hart h r).core (after_step d hart g q).core
        step-together (Steps after probes did) (Steps to entries done) is there same =
            with-hart-together (record { hart = after; probes = probes }) (record { hart = to; probes = entries }) c.board d.board
            (record { harts = same.1; probes = same.0 }) together.board
        step-together (Steps after probes did) (Wants call early_writes rd next) is there same = absurd same
        step-together (Steps after probes did) Wedged is there same = absurd same
        step-together (Wants call early_writes rd next) (Steps to entries done) is there same = absurd same
        step-together (Wants call early_writes rd next) (Wants call_too other_early_writes rd_too next_too) is there same =
            wants-together call call_too early_writes other_early_writes rd rd_too next next_too same.0 same.1 same.2 is there
        step-together (Wants call early_writes rd next) Wedged is there same = absurd same
        step-together Wedged (Steps to entries done) is there same = absurd same
        step-together Wedged (Wants call_too other_early_writes rd_too next_too) is there same = absurd same
        step-together Wedged Wedged is there same = stay-together

      go-together : (o p : Option HartState) → slice_get c.harts hart ≡ o → slice_get d.harts hart ≡ p
          → AreCoresTogether Together (after_go k.code.words c hart o).core (after_go k.code.words d hart p).core
      go-together None None is there = together
      go-together None (Some g) is there = absurd (one-short d.harts c.harts hart g (sym together.count) there is)
      go-together (Some h) None is there = absurd (one-short c.harts d.harts hart h together.count is there)
      go-together (Some h) (Some g) is there =
          step-together h g is there (hart_step k.code.words h) (hart_step k.code.words g) refl refl (both.steps hart h g (on h g is there))

      tick-together : (o p : Option HartState) → slice_get c.harts hart ≡ o → slice_get d.harts hart ≡ p
          → AreCoresTogether Together (after_tick c hart o) (after_tick d hart p)
      tick-together None None is there = together
      tick-together None (Some g) is there = absurd (one-short d.harts c.harts hart g (sym together.count) there is)
      tick-together (Some h) None is there = absurd (one-short c.harts d.harts hart h together.count is there)
      tick-together (Some h) (Some g) is there =
          let P : List Probe → Type 0 = λ log. AreCoresTogether Together (record { board = c.board; harts = set c.harts hart (tick_of h); log = log })
          (record { board = d.board; harts = set d.harts hart (tick_of g); log = d.log }) in
          let Q : List Probe → Type 0 = λ log. AreCoresTogether Together (record { board = c.board; harts = set c.harts hart (tick_of h); log = c.log ++ [] })
          (record { board = d.board; harts = set d.harts hart (tick_of g); log = log }) in
          subst P (append-nil c.log) (subst Q (append-nil d.log) (with-hart-together (record { hart = tick_of h; probes = [] }) (record { hart = tick_of g; probes = [] })
          c.board d.board (record { harts = both.ticks hart h g (on h g is there); probes = tt }) together.board))

  -- Every event keeps cores together.
  pub event-together : (c d : CoreState) → IsCoreKept k loaded c → IsCoreKept k other d → AreCoresTogether Together c d → (event : Event)
      → AreCoresTogether Together (after_event k.code.words c event) (after_event k.code.words d event)
  event-together c d kept kept_too together (Go hart) =
      go-together c d kept kept_too together hart (slice_get c.harts hart) (slice_get d.harts hart) refl refl
  event-together c d kept kept_too together (Tick hart) =
      tick-together c d kept kept_too together hart (slice_get c.harts hart) (slice_get d.harts hart) refl refl

  -- So does every list of events.
  pub events-together : (c d : CoreState) → IsCoreKept k loaded c → IsCoreKept k other d → AreCoresTogether Together c d → (events : List Event)
      → AreCoresTogether Together (core_from k.code.words c events) (core_from k.code.words d events)
  unfolding core_from
  events-together c d kept kept_too together [] = together
  events-together c d kept kept_too together (event ∷ events) =
      events-together (after_event k.code.words c event) (after_event k.code.words d event)
      (event-kept k loaded one c kept event) (event-kept k other two d kept_too event)
      (event-together c d kept kept_too together event) events

  -- The cores of alike bundles at boot.
  pub boot-together : AreAlike loaded other → AreCoresTogether Together (boot_core loaded k.code) (boot_core other k.code)
  boot-together alike =
      let same : harts_from 0 loaded.harts k.code.take ≡ harts_from 0 other.harts k.code.take = ap (λ n. harts_from 0 n k.code.take) alike.harts in
      let P : ℕ → Type 0 = λ slots. AreBoardsAlike (boot_core loaded k.code).board (boot_board slots (bodies_from 0 other.tasks) loaded.bands) in
      let R : List ℕ → Type 0 = λ bands. AreBoardsAlike (boot_core loaded k.code).board (boot_board other.slots (bodies_from 0 other.tasks) bands) in
      record {
        board = subst R alike.bands (subst P alike.slots (boot-boards loaded.slots loaded.bands loaded.tasks other.tasks alike.tasks));
        count = ap (λ (hs : List HartState). length hs) same;
        harts = λ i h g is there.
            let place : 0 + i ≡ i = omega arith in
            let Q : HartState → HartState → Type 0 = λ f e. Together i f e in
            let start = ap (λ n. boot_hart n k.code.take) (sym place) in
            let first = start ∙ boot-hart 0 loaded.harts k.code.take i h is in
            let second = start ∙ boot-hart 0 other.harts k.code.take i g there in
            subst (λ f. Q f g) first (subst (λ f. Q (boot_hart i k.code.take) f) second (both.boots i));
        log = tt;
      }

  module _ (fits : IsLoaded loaded) (fits_too : IsLoaded other) (alike : AreAlike loaded other) (events : List Event) where
    -- After every list of events the cores of alike bundles are together.
    pub cores-stay-together : AreCoresTogether Together (core_after loaded k.code events) (core_after other k.code events)
    cores-stay-together =
        events-together (boot_core loaded k.code) (boot_core other k.code)
        (boot-kept k loaded fits one) (boot-kept k other fits_too two) (boot-together alike) events

    -- So their logs agree publicly,
    pub logs-agree : AgreePublicly (log_of loaded k.code events) (log_of other k.code events)
    logs-agree = cores-stay-together.log
