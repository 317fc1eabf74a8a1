-- Steps that make no action leave the board and make few entries; and where the log is above a number before one of them.
use Rattle.std.proofs.Common.{◌≡◌, ℕ, zero, suc, ◌+◌, ◌*◌, ◌≤◌, ◌<◌, nat_lt, ◌||◌, Bool, true, false, List, [], ◌∷◌, ◌++◌, length, slice_get, Option, Some, None, refl, sym, ap, ◌∙◌, subst, arith, append-nil, length-append, if◌then◌else◌}
use Rattle.std.proofs.lemmas.Bool.{le-ltb, lt-ltb}
use Rattle.isa_model.specs.declared.ends.End.{End}
use Rattle.hart_model.specs.declared.calls.QueueCall.{QueueCall}
use Rattle.hart_model.specs.declared.calls.QueueCall.TheVariants.{Take, GiveReady, GiveDone}
use Rattle.hart_model.specs.declared.probe.Probe.{Probe}
use Rattle.hart_model.specs.Context.{ContextState}
use Rattle.hart_model.specs.HartState.{HartState}
use Rattle.hart_model.specs.Writes.{CellWrite}
use Rattle.hart_model.specs.StepResult.{StepResult, Steps, Wants, Wedged}
use Rattle.hart_model.specs.HartStep.{hart_step}
use Rattle.core_model.specs.declared.action.Action.{Action}
use Rattle.core_model.specs.declared.event.Event.{Event}
use Rattle.core_model.specs.declared.event.Event.TheVariants.{Go, Tick}
use Rattle.core_model.specs.declared.plan.Plan.{Plan}
use Rattle.core_model.specs.Board.{BoardState}
use Rattle.core_model.specs.BoardStep.{BoardStep, board_step_by_give_done, board_step_by_call, board_step, board_step_of}
use Rattle.core_model.specs.Core.{CoreState, CoreAndAction, after_event, after_go, after_tick}
use Rattle.core_model.specs.Orders.{HartPace, StepsToAction, is_tick_due, events_of_step, result_of, steps_to_action}
use Rattle.core_invariant.proofs.FewEntries.{IsFewStep, hart_step_few}
use Rattle.order_laws.specs.LongLogs.{is_log_above}
use Rattle.order_laws.proofs.OneStep.{step_events, step_result, last-step, further-steps}

-- AN EVENT that makes no action leaves the board and makes at most six entries, and a tick makes none
module _ (code : List ℕ) (hart : ℕ) where
  abbrev IsQuiet : CoreState → CoreAndAction → Type 0
  IsQuiet c r = r.action ≡ None → (length r.core.log ≤ length c.log + 6) × (r.core.board ≡ c.board)

  -- a step that makes no action leaves the board and makes at most six entries
  abbrev LeavesBoard : BoardState → BoardStep → Type 0
  LeavesBoard b s = s.action ≡ None → (length s.probes ≤ 6) × (s.board ≡ b)

  done-leaves : (b : BoardState) (h : HartState) (early_writes : List CellWrite) (next : ℕ) (held : ContextState) (end : Option End)
      → LeavesBoard b (board_step_by_give_done b hart h early_writes next held end)
  done-leaves b h early_writes next held None none = (omega arith, refl)
  done-leaves b h early_writes next held (Some end) none = absurd (cc none)

  call-leaves : (b : BoardState) (h : HartState) (call : QueueCall) (early_writes : List CellWrite) (rd next : ℕ) (held : Option ContextState)
      → LeavesBoard b (board_step_by_call b hart h call early_writes rd next held)
  call-leaves b h Take early_writes rd next held none = absurd (cc none)
  call-leaves b h GiveReady early_writes rd next None none = (omega arith, refl)
  call-leaves b h GiveReady early_writes rd next (Some held) none = absurd (cc none)
  call-leaves b h GiveDone early_writes rd next None none = (omega arith, refl)
  call-leaves b h GiveDone early_writes rd next (Some held) none = done-leaves b h early_writes next held held.end none

  step-leaves : (b : BoardState) (h : HartState) (step : StepResult) → IsFewStep step → LeavesBoard b (board_step b hart h step)
  step-leaves b h (Steps after probes did) few none = (few, refl)
  step-leaves b h (Wants call early_writes rd next) few none = call-leaves b h call early_writes rd next h.held none
  step-leaves b h Wedged few none = (omega arith, refl)

  go-quiet : (c : CoreState) (o : Option HartState) → IsQuiet c (after_go code c hart o)
  go-quiet c None none = (omega arith, refl)
  go-quiet c (Some h) none =
      let s = board_step_of code c.board hart h in
      let leaves = step-leaves c.board h (hart_step code h) (hart_step_few code h) none in
      let both = length-append c.log s.probes in
      let few = leaves.0 in
      (omega (arith, both, few), leaves.1)

  record IsTicked (c d : CoreState) : Type 0 where
    log : d.log ≡ c.log
    board : d.board ≡ c.board

  tick-same : (c : CoreState) (o : Option HartState) → IsTicked c (after_tick c hart o)
  tick-same c None = record { log = refl; board = refl }
  tick-same c (Some h) = record { log = refl; board = refl }

  -- the events of a step, by whether its tick is due
  abbrev by_due : Bool → List Event
  by_due due = if due then Tick hart ∷ Go hart ∷ [] else Go hart ∷ []

  events-quiet : (c : CoreState) (due : Bool) → IsQuiet c (result_of code c (by_due due))
  unfolding result_of
  events-quiet c true none =
      let ticked = after_event code c (Tick hart) in
      let same = tick-same c (slice_get c.harts hart) in
      let quiet = go-quiet ticked (slice_get ticked.harts hart) none in
      let log = ap length same.log in
      let few = quiet.0 in
      (omega (arith, log, few), quiet.1 ∙ same.board)
  events-quiet c false none = go-quiet c (slice_get c.harts hart) none

  -- BEFORE A STEP
  module _ (most : ℕ) (rest : List Event) where
    below : (c : CoreState) (event : Event) (events : List Event) → length c.log ≤ most
        → is_log_above most code c (event ∷ events) ≡ is_log_above most code (after_event code c event) events
    unfolding is_log_above
    below c event events fits =
        let test : nat_lt most (length c.log) ≡ false = le-ltb most (length c.log) fits in
        ap (λ b. b || is_log_above most code (after_event code c event) events) test

    events-below : (c : CoreState) (due : Bool) → length c.log ≤ most
        → is_log_above most code c (by_due due ++ rest) ≡ is_log_above most code (result_of code c (by_due due)).core rest
    unfolding result_of
    events-below c true fits =
        let ticked = after_event code c (Tick hart) in
        let fits_then : length ticked.log ≤ most =
        subst (λ (log : List Probe). length log ≤ most) (sym (tick-same c (slice_get c.harts hart)).log) fits in
        below c (Tick hart) (Go hart ∷ rest) fits ∙ below ticked (Go hart) rest fits_then
    events-below c false fits = below c (Go hart) rest fits

    events-above : (c : CoreState) (due : Bool) → most < length c.log → is_log_above most code c (by_due due ++ rest) ≡ true
    unfolding is_log_above
    events-above c true over = ap (λ b. b || is_log_above most code (after_event code c (Tick hart)) (Go hart ∷ rest)) (lt-ltb most (length c.log) over)
    events-above c false over = ap (λ b. b || is_log_above most code (after_event code c (Go hart)) rest) (lt-ltb most (length c.log) over)

module _ (code : List ℕ) (plan : Plan) (progress : HartPace) (hart : ℕ) where
  -- whether the tick of a step is due
  is_due : Option HartState → Bool
  is_due None = false
  is_due (Some h) = is_tick_due plan progress h

  due-so : (o : Option HartState) → events_of_step plan progress hart o ≡ (if is_due o then Tick hart ∷ Go hart ∷ [] else Go hart ∷ [])
  unfolding is_due
  due-so None = refl
  due-so (Some h) = refl

  abbrev events : CoreState → List Event
  events c = step_events code plan progress hart c

  abbrev result : CoreState → CoreAndAction
  result c = step_result code plan progress hart c

  -- a step that makes no action
  pub quiet-step : (c : CoreState) → (result c).action ≡ None → (length (result c).core.log ≤ length c.log + 6) × ((result c).core.board ≡ c.board)
  quiet-step c =
      let P : List Event → Type 0 = λ es. (result_of code c es).action ≡ None
      → (length (result_of code c es).core.log ≤ length c.log + 6) × ((result_of code c es).core.board ≡ c.board) in
      subst P (sym (due-so (slice_get c.harts hart))) (events-quiet code hart c (is_due (slice_get c.harts hart)))

  pub step-below : (most : ℕ) (c : CoreState) (rest : List Event) → length c.log ≤ most
      → is_log_above most code c (events c ++ rest) ≡ is_log_above most code (result c).core rest
  step-below most c rest fits =
      let P : List Event → Type 0 = λ es. is_log_above most code c (es ++ rest) ≡ is_log_above most code (result_of code c es).core rest in
      subst P (sym (due-so (slice_get c.harts hart))) (events-below code hart most rest c (is_due (slice_get c.harts hart)) fits)

  pub step-above : (most : ℕ) (c : CoreState) (rest : List Event) → most < length c.log → is_log_above most code c (events c ++ rest) ≡ true
  step-above most c rest over =
      let P : List Event → Type 0 = λ es. is_log_above most code c (es ++ rest) ≡ true in
      subst P (sym (due-so (slice_get c.harts hart))) (events-above code hart most rest c (is_due (slice_get c.harts hart)) over)

  pub none-above : (most : ℕ) (c : CoreState) → is_log_above most code c [] ≡ false
  unfolding is_log_above
  none-above most c = refl

  -- one step, after which nothing comes
  pub step-last : (most : ℕ) (c : CoreState) → length c.log ≤ most → is_log_above most code c (events c) ≡ false
  step-last most c fits =
      ap (is_log_above most code c) (sym (append-nil (events c))) ∙ step-below most c [] fits ∙ none-above most (result c).core

  -- so many steps and one, by whether the first makes the action
  above-next : (most more : ℕ) (c : CoreState) (o : Option Action) → (result c).action ≡ o → length c.log ≤ most
      → ((result c).action ≡ None → is_log_above most code (result c).core (steps_to_action code plan progress hart more (result c).core).events ≡ false)
      → is_log_above most code c (steps_to_action code plan progress hart (suc more) c).events ≡ false
  above-next most more c None none fits further =
      let rest = steps_to_action code plan progress hart more (result c).core in
      ap (λ (s : StepsToAction). is_log_above most code c s.events) (further-steps code plan progress hart c more none)
      ∙ step-below most c rest.events fits
      ∙ further none
  above-next most more c (Some action) some fits further =
      ap (λ (s : StepsToAction). is_log_above most code c s.events) (last-step code plan progress hart c more action some)
      ∙ step-last most c fits

  -- so many steps up to an action, in a log with room for six entries each
  pub never-above : (most steps : ℕ) (c : CoreState) → length c.log + 6 * steps ≤ most + 6
      → is_log_above most code c (steps_to_action code plan progress hart steps c).events ≡ false
  unfolding steps_to_action
  never-above most zero c fits = none-above most c
  never-above most (suc more) c fits =
      above-next most more c (result c).action refl (omega (arith, fits))
      (λ none. let few = (quiet-step c none).0 in never-above most more (result c).core (omega (arith, fits, few)))
