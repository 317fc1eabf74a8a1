-- Coarse runs in the middle of their entries: wherever the harts are in their steps, each that goes on is on the way to its queue action.
use Rattle.std.proofs.Common.{◌≡◌, ℕ, ◌<◌, ◌⊎◌, inl, inr, Bool, true, false, List, [], ◌∷◌, length, length-set, set, get_or, slice_get, Option, Some, None, refl, sym, ap, ◌∙◌, subst, arith}
use Rattle.std.specs.Prelude.{All}
use Rattle.std.proofs.lemmas.List.{set-set}
use Rattle.std.proofs.lemmas.Option.{get_or_from_slice_get, slice_get_within}
use Rattle.isa_model.specs.declared.task.Task.{Task}
use Rattle.isa_model.specs.declared.ends.End.{End}
use Rattle.hart_model.specs.declared.calls.QueueCall.{QueueCall}
use Rattle.hart_model.specs.declared.calls.QueueCall.TheVariants.{Take, GiveReady, GiveDone}
use Rattle.hart_model.specs.Context.{ContextState}
use Rattle.hart_model.specs.HartState.{HartState}
use Rattle.hart_model.specs.StepResult.{StepResult, Steps, Wants, Wedged}
use Rattle.hart_model.specs.Writes.{CellWrite}
use Rattle.hart_model.specs.HartStep.{hart_step, answer_take, answer_give}
use Rattle.core_model.specs.declared.plan.Plan.{Plan}
use Rattle.core_model.specs.declared.loaded.Loaded.{Loaded}
use Rattle.core_model.specs.Board.{BoardState, Front, all_ready, front_of, take_from, take_of}
use Rattle.core_model.specs.BoardStep.{BoardStep, board_step_by_take, board_step_by_give_ready, board_step_by_give_done, board_step_by_call, board_step}
use Rattle.core_model.specs.Core.{CoreState, CoreAndAction, with_board_step, after_step}
use Rattle.core_model.specs.Loaded.{IsWithinLimits}
use Rattle.core_model.specs.Routines.{ticked_if, IsReadyContext}
use Rattle.core_model.specs.Orders.{HartPace, CoarseState, boot_pace, boot_coarse, plan_at, pace_after, count_on, is_tick_due, events_of_step, result_of, IsLegalEntry}
use Rattle.core_invariant.proofs.Items.{get-set_same}
use Rattle.core_invariant.specs.KernelStates.{KernelParts, IsKernel}
use Rattle.core_invariant.specs.Invariant.{IsCoreKept}
use Rattle.core_invariant.specs.OneHart.{IsGot, EachHart}
use Rattle.core_invariant.proofs.Composition.{events-kept}
use Rattle.order_laws.specs.Arrives.{Reaches}
use Rattle.order_laws.specs.OwnSteps.{own_steps, moved_to}
use Rattle.order_laws.specs.CoarseInvariant.{IsFree, IsHolding, IsBetweenActions, IsCoarseKept}
use Rattle.order_laws.specs.EachTurn.{turn_steps, pace_with, Takes, Gives, EachTurn}
use Rattle.order_laws.specs.SteppedRuns.{next_steps, after_one, stepped_from, AreLegalSteps, ComesOn}
use Rattle.order_laws.specs.Laws.{StepsComeToActions}
use Rattle.order_laws.proofs.ReadySums.{front-ready}
use Rattle.order_laws.proofs.OneStep.{one-step, after-one-core}
use Rattle.order_laws.proofs.OwnSteps.{ticked-result}
use Rattle.order_laws.proofs.Reach.{comes-then, comes-here, comes-on}
use Rattle.order_laws.proofs.EachTurn.{each-turn}
use Rattle.order_laws.proofs.EachPaced.{AllStand, all-set}
use Rattle.order_laws.proofs.Entries.{GoesOn, entry-goes-on, ItsAction}
use Rattle.order_laws.proofs.LegalOrders.{one, boots, does-act, log-grows}

-- A hart with this pace is on its way to its take or to its give, as from where it was after its last action.
module _ (tasks : List Task) (k : KernelParts) (plan : Plan) (number : ℕ) where
  abbrev Ends : HartPace → HartState → QueueCall → HartState → Type 0
  Ends pace before call h = Takes tasks k plan number pace before call h ⊎ Gives tasks k plan number pace before call h

  pub record IsInTurn (pace : HartPace) (h : HartState) : Type 0 where
    pub before : HartState
    pub reaches : Reaches k.code.words plan pace number turn_steps (Ends pace before) h

  -- a hart that has just made an action is
  pub begins : EachTurn tasks k plan number → (pace : HartPace) (h : HartState) → IsBetweenActions tasks k number pace h → IsInTurn pace h
  begins turn pace h (inl free) =
      let r = turn.finds pace h free in
      record { before = h; reaches = record { action = r.action; own = r.own; there = inl r.there } }
  begins turn pace h (inr holding) =
      let r = turn.returns pace h holding in
      record { before = h; reaches = record { action = r.action; own = r.own; there = inr r.there } }

-- A coarse run, between two steps: its core is kept, there is a pace for each hart, and each hart that goes on is on its way.
abbrev pub StandsInTurn : KernelParts → Loaded → ℕ → HartPace → HartState → Type 0
StandsInTurn k loaded number pace h = IsInTurn loaded.tasks k (plan_at loaded.plans number) number pace h

pub record IsSteppedKept (k : KernelParts) (loaded : Loaded) (co : CoarseState) : Type 0 where
  pub core : IsCoreKept k loaded co.core
  pub paces : length co.paces ≡ loaded.harts
  pub harts : AllStand (StandsInTurn k loaded) co.paces co.core.harts

-- what a take gets of ready contexts is ready
got-by : (tasks : List Task) (b : BoardState) (hart : ℕ) (front : Option Front) → ((f : Front) → front ≡ Some f → IsReadyContext tasks f.context)
    → IsGot tasks (take_from b hart front).got
got-by tasks b hart None ready = tt
got-by tasks b hart (Some f) ready = ready f refl

got-ready : (tasks : List Task) (b : BoardState) (hart : ℕ) → All (IsReadyContext tasks) (all_ready b.ready) → IsGot tasks (take_of b hart).got
got-ready tasks b hart all = got-by tasks b hart (front_of b.ready.first b.ready.second) (λ f is. front-ready tasks b.ready all f is)

module _ (k : KernelParts) (loaded : Loaded) (one : EachHart loaded.tasks k) (plan_each : length loaded.plans ≡ loaded.harts)
    (turns : (number : ℕ) → number < loaded.harts → EachTurn loaded.tasks k (plan_at loaded.plans number) number)
    (co : CoarseState) (kept : IsSteppedKept k loaded co) (hart : ℕ) (legal : IsLegalEntry co hart) where
  g : GoesOn loaded co hart
  g = entry-goes-on k loaded plan_each co kept.core kept.paces hart legal

  abbrev plan : Plan
  plan = plan_at loaded.plans hart

  turn : EachTurn loaded.tasks k plan hart
  turn = let low = legal.exists in let count = kept.core.hart_count in turns hart (omega (arith, low, count))

  in_turn : IsInTurn loaded.tasks k plan hart g.pace g.state
  in_turn = kept.harts hart g.pace g.state g.is_pace g.is_hart g.goes_on

  -- IT COMES to its action from there.
  its-action : ItsAction k loaded co hart g
  its-action =
      let P : Plan → Type 0 = λ p. own_steps k.code.words p g.pace hart turn_steps g.state ≡ Some in_turn.reaches.action in
      record {
        at = in_turn.reaches.action;
        own = subst P (get_or_from_slice_get loaded.plans hart g.plan _ g.is_plan) in_turn.reaches.own;
      }

  -- ONE STEP: where the hart stands with the tick before it, and the core
  abbrev due : Bool
  due = is_tick_due plan g.pace g.state

  abbrev f : HartState
  f = ticked_if due g.state

  abbrev c : CoreState
  c = moved_to co.core hart f []

  -- what the step leaves
  abbrev After : CoreAndAction → CoarseState
  After r = record { core = r.core; paces = set co.paces hart (pace_after g.pace (count_on (slice_get r.core.harts hart)) r.action) }

  after-is : after_one k.code.words loaded.plans co hart ≡ After (after_step c hart f (hart_step k.code.words f))
  after-is =
      let pace_is : get_or co.paces hart boot_pace ≡ g.pace = get_or_from_slice_get co.paces hart g.pace boot_pace g.is_pace in
      let is = one-step k.code.words plan (get_or co.paces hart boot_pace) hart co.core in
      let R : HartPace → CoreAndAction =
      λ p. result_of k.code.words co.core (events_of_step plan p hart (slice_get co.core.harts hart)) in
      let r : R (get_or co.paces hart boot_pace) ≡ after_step c hart f (hart_step k.code.words f) =
      ap R pace_is
      ∙ ap (λ o. result_of k.code.words co.core (events_of_step plan g.pace hart o)) g.is_hart
      ∙ ticked-result k.code.words hart co.core g.state g.is_hart due in
      let F : HartPace → CoreAndAction → CoarseState =
      λ p x. record { core = x.core; paces = set co.paces hart (pace_after p (count_on (slice_get x.core.harts hart)) x.action) } in
      let steps = next_steps k.code.words loaded.plans co hart 1 in
      let made : CoreAndAction = record { core = steps.core; action = steps.action } in
      let same : made ≡ R (get_or co.paces hart boot_pace) = rw (is.core, is.action) refl in
      ap (λ p. F p made) pace_is ∙ ap (F g.pace) (same ∙ r)

  -- it is kept where its hart stands in its turn
  kept-after : (x : CoreState) (q : HartPace) (y : HartState) → IsCoreKept k loaded x → x.harts ≡ set co.core.harts hart y
      → (q.has_stopped ≡ false → IsInTurn loaded.tasks k plan hart q y)
      → IsSteppedKept k loaded (record { core = x; paces = set co.paces hart q })
  kept-after x q y core harts here = record {
    core = core;
    paces = length-set co.paces hart q ∙ kept.paces;
    harts = subst (AllStand (StandsInTurn k loaded) (set co.paces hart q)) (sym harts)
        (all-set (StandsInTurn k loaded) co.paces co.core.harts hart g.pace q g.state y g.is_pace g.is_hart kept.harts here);
  }

  set-here : (y : HartState) → set c.harts hart y ≡ set co.core.harts hart y
  set-here y = set-set co.core.harts hart f y

  get-here : (y : HartState) → slice_get (set c.harts hart y) hart ≡ Some y
  get-here y = ap (λ (hs : List HartState). slice_get hs hart) (set-here y) ∙ get-set_same co.core.harts hart g.state y g.is_hart

  -- what the hart's step comes to, after which the core is kept, and the run
  abbrev Stepped : StepResult → BoardStep
  Stepped step = board_step c.board hart f step

  abbrev KeptAfter : BoardStep → Type 0
  KeptAfter s = IsCoreKept k loaded (with_board_step c hart s).core

  abbrev SteppedAfter : BoardStep → Type 0
  SteppedAfter s = IsSteppedKept k loaded (After (with_board_step c hart s))

  -- a take
  take-kept : (early_writes : List CellWrite) (rd next : ℕ) (board : BoardState) (got : Option ContextState) → IsGot loaded.tasks got
      → ((x : ContextState) → IsReadyContext loaded.tasks x
      → IsHolding loaded.tasks k hart (pace_with g.pace x) (answer_take early_writes rd next (Some x) f).hart)
      → KeptAfter (board_step_by_take f early_writes rd next (record { board = board; got = got }))
      → SteppedAfter (board_step_by_take f early_writes rd next (record { board = board; got = got }))
  take-kept early_writes rd next board None is holds core =
      kept-after _ (record g.pace { has_stopped = true }) (answer_take early_writes rd next None f).hart core
      (set-here (answer_take early_writes rd next None f).hart) (λ e. absurd (cc e))
  take-kept early_writes rd next board (Some x) is holds core =
      let y = (answer_take early_writes rd next (Some x) f).hart in
      let r = with_board_step c hart (board_step_by_take f early_writes rd next (record { board = board; got = Some x })) in
      let q : HartPace = pace_with g.pace x in
      let pace_is : pace_after g.pace (count_on (slice_get r.core.harts hart)) r.action ≡ q =
      ap (λ (o : Option HartState). pace_after g.pace (count_on o) r.action) (get-here y) in
      let P : HartPace → Type 0 = λ p. IsSteppedKept k loaded (record { core = r.core; paces = set co.paces hart p }) in
      subst P (sym pace_is)
      (kept-after r.core q y core (set-here y) (λ e. begins loaded.tasks k plan hart turn q y (inr (holds x is))))

  took : (call : QueueCall) (early_writes : List CellWrite) (rd next : ℕ) → hart_step k.code.words f ≡ Wants call early_writes rd next
      → Takes loaded.tasks k plan hart g.pace in_turn.before call f
      → KeptAfter (Stepped (Wants call early_writes rd next)) → SteppedAfter (Stepped (Wants call early_writes rd next))
  took Take early_writes rd next wants takes core =
      take-kept early_writes rd next (take_of c.board hart).board (take_of c.board hart).got
      (got-ready loaded.tasks c.board hart kept.core.ready) (λ x ready. takes.then_holds early_writes rd next x wants ready) core
  took GiveReady early_writes rd next wants takes core = absurd (cc takes.call_is)
  took GiveDone early_writes rd next wants takes core = absurd (cc takes.call_is)

  -- a give
  abbrev WantsGives : QueueCall → Type 0
  WantsGives call = Gives loaded.tasks k plan hart g.pace in_turn.before call f

  freed : (y : HartState) → IsFree loaded.tasks k hart y → IsInTurn loaded.tasks k plan hart g.pace y
  freed y free = begins loaded.tasks k plan hart turn g.pace y (inl free)

  ready-kept : (early_writes : List CellWrite) (rd next : ℕ) (x : ContextState) → f.held ≡ Some x
      → IsFree loaded.tasks k hart (answer_give early_writes next f).hart
      → KeptAfter (Stepped (Wants GiveReady early_writes rd next)) → SteppedAfter (Stepped (Wants GiveReady early_writes rd next))
  ready-kept early_writes rd next x held free core =
      let y = (answer_give early_writes next f).hart in
      let same : Stepped (Wants GiveReady early_writes rd next) ≡ board_step_by_give_ready c.board hart f early_writes next x =
      ap (board_step_by_call c.board hart f GiveReady early_writes rd next) held in
      subst SteppedAfter (sym same) (kept-after _ g.pace y (subst KeptAfter same core) (set-here y) (λ e. freed y free))

  done-kept : (early_writes : List CellWrite) (rd next : ℕ) (x : ContextState) (end : End) → f.held ≡ Some x → x.end ≡ Some end
      → IsFree loaded.tasks k hart (answer_give early_writes next f).hart
      → KeptAfter (Stepped (Wants GiveDone early_writes rd next)) → SteppedAfter (Stepped (Wants GiveDone early_writes rd next))
  done-kept early_writes rd next x end held has_end free core =
      let y = (answer_give early_writes next f).hart in
      let same : Stepped (Wants GiveDone early_writes rd next) ≡ board_step_by_give_done c.board hart f early_writes next x (Some end) =
      ap (board_step_by_call c.board hart f GiveDone early_writes rd next) held
      ∙ ap (board_step_by_give_done c.board hart f early_writes next x) has_end in
      subst SteppedAfter (sym same) (kept-after _ g.pace y (subst KeptAfter same core) (set-here y) (λ e. freed y free))

  gave : (call : QueueCall) (early_writes : List CellWrite) (rd next : ℕ) → hart_step k.code.words f ≡ Wants call early_writes rd next → WantsGives call
      → KeptAfter (Stepped (Wants call early_writes rd next)) → SteppedAfter (Stepped (Wants call early_writes rd next))
  gave Take early_writes rd next wants gives core = elim gives.pays [ inl ready ↦ absurd (cc ready.0) | inr done ↦ absurd (cc done.0) ]
  gave GiveReady early_writes rd next wants gives core =
      ready-kept early_writes rd next gives.context gives.held (gives.then_free early_writes rd next wants) core
  gave GiveDone early_writes rd next wants gives core = elim gives.pays [
    | inl ready ↦ absurd (cc ready.0)
    | inr done ↦ done-kept early_writes rd next gives.context done.1.0 gives.held done.1.1 (gives.then_free early_writes rd next wants) core
  ]

  -- whatever the step is
  by-step : (step : StepResult) → hart_step k.code.words f ≡ step → KeptAfter (Stepped step)
      → SteppedAfter (Stepped step)
  by-step (Steps y probes did) is core =
      kept-after _ g.pace y core (set-here y)
      (λ e. record {
        before = in_turn.before;
        reaches = comes-then k.code.words plan g.pace hart (Ends loaded.tasks k plan hart g.pace in_turn.before) 4899 g.state y probes did is
            in_turn.reaches;
      })
  by-step (Wants call early_writes rd next) is core =
      elim (comes-here k.code.words plan g.pace hart (Ends loaded.tasks k plan hart g.pace in_turn.before) 4899 g.state call early_writes rd next is
      in_turn.reaches) [
        | inl takes ↦ took call early_writes rd next is takes core
        | inr gives ↦ gave call early_writes rd next is gives core
      ]
  by-step Wedged is core =
      absurd (comes-on k.code.words plan g.pace hart (Ends loaded.tasks k plan hart g.pace in_turn.before) 4899 g.state is in_turn.reaches)

  -- A legal step keeps the run.
  pub one-kept : IsSteppedKept k loaded (after_one k.code.words loaded.plans co hart)
  one-kept =
      let Core : CoreState → Type 0 = λ x. IsCoreKept k loaded x in
      let core = subst Core (sym (after-one-core k.code.words loaded.plans co hart))
      (events-kept k loaded one co.core kept.core (next_steps k.code.words loaded.plans co hart 1).events) in
      let Kept : CoarseState → Type 0 = λ x. IsSteppedKept k loaded x in
      subst Kept (sym after-is)
      (by-step (hart_step k.code.words f) refl (subst (λ (x : CoarseState). IsCoreKept k loaded x.core) after-is core))

module _ (k : KernelParts) (kernel : IsKernel k) (loaded : Loaded) (limits : IsWithinLimits loaded) where
  turn-of : (number : ℕ) → number < loaded.harts → EachTurn loaded.tasks k (plan_at loaded.plans number) number
  turn-of number low =
      let each = limits.plan_each in
      each-turn loaded.tasks k kernel number (plan_at loaded.plans number) (limits.plans number _ (omega (arith, low, each)))

  -- A run between two entries is one between two steps.
  pub coarse-stepped : (co : CoarseState) → IsCoarseKept k loaded co → IsSteppedKept k loaded co
  coarse-stepped co kept = record {
    core = kept.core;
    paces = kept.paces;
    harts = λ number pace h pace_is hart_is goes_on.
        (let low = slice_get_within co.core.harts number h hart_is in
        let count = kept.core.hart_count in
        begins loaded.tasks k (plan_at loaded.plans number) number (turn-of number (omega (arith, low, count))) pace h
        (kept.harts number pace h pace_is hart_is goes_on));
  }

  -- Legal steps keep it,
  pub steps-kept : (steps : List ℕ) (co : CoarseState) → IsSteppedKept k loaded co → AreLegalSteps k.code.words loaded.plans co steps
      → IsSteppedKept k loaded (stepped_from k.code.words loaded.plans co steps)
  unfolding AreLegalSteps stepped_from
  steps-kept [] co kept legal = kept
  steps-kept (hart ∷ steps) co kept legal =
      steps-kept steps (after_one k.code.words loaded.plans co hart)
      (one-kept k loaded (one k kernel loaded) limits.plan_each turn-of co kept hart legal.0) legal.1

  -- and in it each hart that goes on comes to its action.
  pub comes-to : (co : CoarseState) → IsSteppedKept k loaded co → (hart : ℕ) → IsLegalEntry co hart → ComesOn k.code.words loaded.plans co hart
  comes-to co kept hart legal =
      let each = one k kernel loaded in
      let goes = g k loaded each limits.plan_each turn-of co kept hart legal in
      let a = its-action k loaded each limits.plan_each turn-of co kept hart legal in
      let does = does-act k kernel loaded co kept.core hart goes a in
      record { action = does.action; acts = does.acts; few = log-grows k kernel loaded co kept.core hart goes a }

pub steps-come : StepsComeToActions
steps-come k kernel loaded fits steps legal hart there =
    let start = coarse-stepped k kernel loaded fits.limits (boot_coarse loaded k.code) (boots k kernel loaded fits) in
    comes-to k kernel loaded fits.limits (stepped_from k.code.words loaded.plans (boot_coarse loaded k.code) steps)
    (steps-kept k kernel loaded fits.limits steps (boot_coarse loaded k.code) start legal) hart there
