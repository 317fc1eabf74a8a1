-- Cores that are together: ticks are due on both or on neither, and an event makes one action on both.
use Rattle.std.proofs.Common.{◌≡◌, ℕ, ◌+◌, ◌==◌, Bool, false, not, ◌&&◌, List, [], ◌∷◌, set, if◌then◌else◌, slice_get, Option, Some, None, option_map, refl, sym, ap, ◌∙◌, subst}
use Rattle.isa_model.specs.declared.ends.End.{End}
use Rattle.isa_model.specs.Control.{kind_of}
use Rattle.hart_model.specs.declared.calls.QueueCall.{QueueCall}
use Rattle.hart_model.specs.declared.calls.QueueCall.TheVariants.{Take, GiveReady, GiveDone}
use Rattle.hart_model.specs.declared.tag.Mode.{Mode}
use Rattle.hart_model.specs.Csrs.{CsrFile}
use Rattle.hart_model.specs.Context.{ContextState}
use Rattle.hart_model.specs.HartState.{HartState}
use Rattle.hart_model.specs.StepResult.{StepResult, Steps, Wants, Wedged}
use Rattle.hart_model.specs.UserStep.{is_fuel_used}
use Rattle.hart_model.specs.Writes.{CellWrite}
use Rattle.hart_model.specs.HartStep.{hart_step, answer_take}
use Rattle.core_model.specs.declared.action.Action.TheVariants as actions
use Rattle.core_model.specs.declared.event.Event.TheVariants.{Go, Tick}
use Rattle.core_model.specs.declared.loaded.Loaded.{Loaded}
use Rattle.core_model.specs.declared.plan.Plan.{Plan}
use Rattle.core_model.specs.AlikeHarts.{AreContextsAlike, AreHeldAlike, AreHartsAlike}
use Rattle.core_model.specs.Board.{Front, front_of, take_from}
use Rattle.core_model.specs.BoardStep.{BoardStep, board_step_by_take, board_step_by_give_done, board_step_by_call, board_step}
use Rattle.core_model.specs.Core.{CoreState, CoreAndAction, with_board_step, after_step, after_go, event_result}
use Rattle.core_model.specs.Orders.{HartPace, held_count, count_on, is_user, is_tick_due, events_of_step, pace_after}
use Rattle.core_model.specs.Plans.{quantum_after}
use Rattle.core_invariant.proofs.Items.{get-set_same}
use Rattle.core_invariant.specs.KernelStates.{KernelParts}
use Rattle.core_invariant.specs.Invariant.{IsCoreKept}
use Rattle.noninterference.specs.AlikeCores.{AreOnWayTogether, AreStepsTogether, BothHarts}
use Rattle.noninterference.proofs.AlikeBoards.{AreNextAlike, fronts-alike}
use Rattle.noninterference.proofs.AlikeCores.{AreCoresTogether, one-short}
use Rattle.noninterference.proofs.UserCsrs.{csrs-agree}

-- Harts that are alike have a tick due both or neither.
same-used : (o r : Option ContextState) → AreHeldAlike o r → is_fuel_used o ≡ is_fuel_used r
same-used None None alike = refl
same-used None (Some d) alike = absurd alike
same-used (Some c) None alike = absurd alike
same-used (Some c) (Some d) alike =
    let count = alike.body.count in
    let fuel = alike.body.fuel in
    rw (count, fuel) refl

same-count : (o r : Option ContextState) → AreHeldAlike o r → held_count o ≡ held_count r
same-count None None alike = refl
same-count None (Some d) alike = absurd alike
same-count (Some c) None alike = absurd alike
same-count (Some c) (Some d) alike = alike.body.count

pub alike-due : (plan : Plan) (pace : HartPace) (h g : HartState) → AreHartsAlike h g → is_tick_due plan pace h ≡ is_tick_due plan pace g
alike-due plan pace h g alike =
    let mode = csrs-agree (λ (x : CsrFile). x.mode) h.csrs g.csrs alike.csrs (λ x m. refl) in
    let pending = csrs-agree (λ (x : CsrFile). x.is_timer_pending) h.csrs g.csrs alike.csrs (λ x m. refl) in
    let used = same-used h.held g.held alike.held in
    let count = same-count h.held g.held alike.held in
    let F = λ (m : Mode) (p : Bool) (u : Bool) (n : ℕ). is_user m && not p && not u && (n == pace.taken_at + quantum_after plan pace.takes) in
    ap (λ m. F m h.csrs.is_timer_pending (is_fuel_used h.held) (held_count h.held)) mode
    ∙ ap (λ p. F g.csrs.mode p (is_fuel_used h.held) (held_count h.held)) pending
    ∙ ap (λ u. F g.csrs.mode g.csrs.is_timer_pending u (held_count h.held)) used
    ∙ ap (λ n. F g.csrs.mode g.csrs.is_timer_pending (is_fuel_used g.held) n) count

-- Two cores after an event of a hart: one action, after which the hart's pace is one.
pub record AreActionsSame (hart : ℕ) (r q : CoreAndAction) : Type 0 where
  pub action : r.action ≡ q.action
  pub pace : (p : HartPace)
      → pace_after p (count_on (slice_get r.core.harts hart)) r.action ≡ pace_after p (count_on (slice_get q.core.harts hart)) q.action

none-same : (hart : ℕ) (r q : CoreAndAction) → r.action ≡ None → q.action ≡ None → AreActionsSame hart r q
none-same hart r q e f = record {
  action = e ∙ sym f;
  pace = λ p. ap (pace_after p (count_on (slice_get r.core.harts hart))) e ∙ sym (ap (pace_after p (count_on (slice_get q.core.harts hart))) f);
}

module _ (Together : ℕ → HartState → HartState → Type 0) (k : KernelParts) (loaded other : Loaded)
    (both : BothHarts Together loaded.tasks other.tasks k) (c d : CoreState) (kept : IsCoreKept k loaded c) (kept_too : IsCoreKept k other d)
    (together : AreCoresTogether Together c d) (hart : ℕ) where
  module _ (h g : HartState) (is : slice_get c.harts hart ≡ Some h) (is_too : slice_get d.harts hart ≡ Some g) where
    on : AreOnWayTogether Together loaded.tasks other.tasks k hart h g
    on = record { way = kept.harts hart h is; other = kept_too.harts hart g is_too; both = together.harts hart h g is is_too }

    -- one action is made by what the steps of the hart come to
    abbrev SameAfter : BoardStep → BoardStep → Type 0
    SameAfter r q = AreActionsSame hart (with_board_step c hart r) (with_board_step d hart q)

    take-same : (early_writes other_early_writes : List CellWrite) (rd next to then_at : ℕ) (front other_front : Option Front) → AreNextAlike front other_front
        → SameAfter (board_step_by_take h early_writes rd next (take_from c.board hart front))
        (board_step_by_take g other_early_writes to then_at (take_from d.board hart other_front))
    take-same early_writes other_early_writes rd next to then_at None None alike = record { action = refl; pace = λ p. refl }
    take-same early_writes other_early_writes rd next to then_at None (Some y) alike = absurd alike
    take-same early_writes other_early_writes rd next to then_at (Some x) None alike = absurd alike
    take-same early_writes other_early_writes rd next to then_at (Some x) (Some y) alike =
        let one = get-set_same c.harts hart h (answer_take early_writes rd next (Some x.context) h).hart is in
        let two = get-set_same d.harts hart g (answer_take other_early_writes to then_at (Some y.context) g).hart is_too in
        let count : count_on (slice_get (set c.harts hart (answer_take early_writes rd next (Some x.context) h).hart) hart)
        ≡ count_on (slice_get (set d.harts hart (answer_take other_early_writes to then_at (Some y.context) g).hart) hart) =
        ap count_on one ∙ alike.context.body.count ∙ sym (ap count_on two) in
        record {
          action = ap (λ t. Some (actions.Took t)) alike.context.body.task_no;
          pace = λ p. ap (λ n. record { takes = p.takes + 1; taken_at = n; has_stopped = false }) count;
        }

    ready-same : (early_writes other_early_writes : List CellWrite) (rd next to then_at : ℕ) (held held_too : Option ContextState) → AreHeldAlike held held_too
        → SameAfter (board_step_by_call c.board hart h GiveReady early_writes rd next held) (board_step_by_call d.board hart g GiveReady other_early_writes to then_at held_too)
    ready-same early_writes other_early_writes rd next to then_at None None alike = none-same hart _ _ refl refl
    ready-same early_writes other_early_writes rd next to then_at None (Some y) alike = absurd alike
    ready-same early_writes other_early_writes rd next to then_at (Some x) None alike = absurd alike
    ready-same early_writes other_early_writes rd next to then_at (Some x) (Some y) alike =
        record { action = ap (λ t. Some (actions.GaveReady t)) alike.body.task_no; pace = λ p. refl }

    end-same : (early_writes other_early_writes : List CellWrite) (next then_at : ℕ) (x y : ContextState) (end end_too : Option End) → AreContextsAlike x y
        → option_map kind_of end ≡ option_map kind_of end_too
        → SameAfter (board_step_by_give_done c.board hart h early_writes next x end) (board_step_by_give_done d.board hart g other_early_writes then_at y end_too)
    end-same early_writes other_early_writes next then_at x y None None alike kinds = none-same hart _ _ refl refl
    end-same early_writes other_early_writes next then_at x y None (Some f) alike kinds = absurd (cc kinds)
    end-same early_writes other_early_writes next then_at x y (Some e) None alike kinds = absurd (cc kinds)
    end-same early_writes other_early_writes next then_at x y (Some e) (Some f) alike kinds =
        record { action = ap (λ t. Some (actions.GaveDone t)) alike.body.task_no; pace = λ p. refl }

    done-same : (early_writes other_early_writes : List CellWrite) (rd next to then_at : ℕ) (held held_too : Option ContextState) → AreHeldAlike held held_too
        → SameAfter (board_step_by_call c.board hart h GiveDone early_writes rd next held) (board_step_by_call d.board hart g GiveDone other_early_writes to then_at held_too)
    done-same early_writes other_early_writes rd next to then_at None None alike = none-same hart _ _ refl refl
    done-same early_writes other_early_writes rd next to then_at None (Some y) alike = absurd alike
    done-same early_writes other_early_writes rd next to then_at (Some x) None alike = absurd alike
    done-same early_writes other_early_writes rd next to then_at (Some x) (Some y) alike = end-same early_writes other_early_writes next then_at x y x.end y.end alike alike.end

    call-same : (call : QueueCall) (early_writes other_early_writes : List CellWrite) (rd next : ℕ) → AreHeldAlike h.held g.held
        → SameAfter (board_step_by_call c.board hart h call early_writes rd next h.held) (board_step_by_call d.board hart g call other_early_writes rd next g.held)
    call-same Take early_writes other_early_writes rd next held =
        take-same early_writes other_early_writes rd next rd next (front_of c.board.ready.first c.board.ready.second)
        (front_of d.board.ready.first d.board.ready.second)
        (fronts-alike c.board.ready.first c.board.ready.second d.board.ready.first d.board.ready.second together.board.first together.board.second)
    call-same GiveReady early_writes other_early_writes rd next held = ready-same early_writes other_early_writes rd next rd next h.held g.held held
    call-same GiveDone early_writes other_early_writes rd next held = done-same early_writes other_early_writes rd next rd next h.held g.held held

    wants-same : (call call_too : QueueCall) (early_writes other_early_writes : List CellWrite) (rd rd_too next next_too : ℕ) → call ≡ call_too → rd ≡ rd_too
        → next ≡ next_too
        → hart_step k.code.words h ≡ Wants call early_writes rd next → hart_step k.code.words g ≡ Wants call_too other_early_writes rd_too next_too
        → SameAfter (board_step_by_call c.board hart h call early_writes rd next h.held)
        (board_step_by_call d.board hart g call_too other_early_writes rd_too next_too g.held)
    wants-same call call_too early_writes other_early_writes rd rd_too next next_too calls rds nexts wants wants_too =
        let e : Wants call_too other_early_writes rd_too next_too ≡ Wants call other_early_writes rd next = rw (calls, rds, nexts) refl in
        let held = both.holds_alike hart h g call early_writes other_early_writes rd next on wants (wants_too ∙ e) in
        let P : StepResult → Type 0 = λ r. SameAfter (board_step_by_call c.board hart h call early_writes rd next h.held) (board_step d.board hart g r) in
        subst P (sym e) (call-same call early_writes other_early_writes rd next held)

    step-same : (r q : StepResult) → hart_step k.code.words h ≡ r → hart_step k.code.words g ≡ q → AreStepsTogether (Together hart) r q
        → AreActionsSame hart (after_step c hart h r) (after_step d hart g q)
    step-same (Steps after probes did) (Steps to entries done) e f same = none-same hart _ _ refl refl
    step-same (Steps after probes did) (Wants call early_writes rd next) e f same = absurd same
    step-same (Steps after probes did) Wedged e f same = absurd same
    step-same (Wants call early_writes rd next) (Steps to entries done) e f same = absurd same
    step-same (Wants call early_writes rd next) (Wants call_too other_early_writes rd_too next_too) e f same =
        wants-same call call_too early_writes other_early_writes rd rd_too next next_too same.0 same.1 same.2 e f
    step-same (Wants call early_writes rd next) Wedged e f same = absurd same
    step-same Wedged (Steps to entries done) e f same = absurd same
    step-same Wedged (Wants call_too other_early_writes rd_too next_too) e f same = absurd same
    step-same Wedged Wedged e f same = none-same hart _ _ refl refl

  go-same : (o p : Option HartState) → slice_get c.harts hart ≡ o → slice_get d.harts hart ≡ p
      → AreActionsSame hart (after_go k.code.words c hart o) (after_go k.code.words d hart p)
  go-same None None is is_too = none-same hart _ _ refl refl
  go-same None (Some g) is is_too = absurd (one-short d.harts c.harts hart g (sym together.count) is_too is)
  go-same (Some h) None is is_too = absurd (one-short c.harts d.harts hart h together.count is is_too)
  go-same (Some h) (Some g) is is_too =
      step-same h g is is_too (hart_step k.code.words h) (hart_step k.code.words g) refl refl (both.steps hart h g (on h g is is_too))

  -- A step of the hart of one number makes one action on both.
  pub go-actions : AreActionsSame hart (event_result k.code.words c (Go hart)) (event_result k.code.words d (Go hart))
  go-actions = go-same (slice_get c.harts hart) (slice_get d.harts hart) refl refl

  -- Its events are the same where ticks are due on both or neither.
  module _ (plan : Plan) (pace : HartPace) (due : (h g : HartState) → Together hart h g → is_tick_due plan pace h ≡ is_tick_due plan pace g) where
    of-same : (o p : Option HartState) → slice_get c.harts hart ≡ o → slice_get d.harts hart ≡ p
        → events_of_step plan pace hart o ≡ events_of_step plan pace hart p
    of-same None None is is_too = refl
    of-same None (Some g) is is_too = absurd (one-short d.harts c.harts hart g (sym together.count) is_too is)
    of-same (Some h) None is is_too = absurd (one-short c.harts d.harts hart h together.count is is_too)
    of-same (Some h) (Some g) is is_too =
        ap (λ (b : Bool). if b then Tick hart ∷ Go hart ∷ [] else Go hart ∷ []) (due h g (together.harts hart h g is is_too))

    pub step-events : events_of_step plan pace hart (slice_get c.harts hart) ≡ events_of_step plan pace hart (slice_get d.harts hart)
    step-events = of-same (slice_get c.harts hart) (slice_get d.harts hart) refl refl
