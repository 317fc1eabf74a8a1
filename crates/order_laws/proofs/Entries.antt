-- An entry of an order whose hart goes on: the hart's own steps, and the action that it comes to.
use Rattle.std.proofs.Common.{◌≡◌, ℕ, zero, suc, ◌<◌, inl, inr, false, List, [], ◌∷◌, ◌++◌, length, set, get_or, slice_get, Option, Some, None, refl, ap, ◌∙◌, subst, arith}
use Rattle.std.proofs.lemmas.Option.{slice_get-get_or, get_or_from_slice_get, slice_get_within}
use Rattle.hart_model.specs.declared.calls.QueueCall.{QueueCall}
use Rattle.hart_model.specs.declared.probe.Probe.{Probe}
use Rattle.hart_model.specs.HartState.{HartState}
use Rattle.hart_model.specs.StepResult.{StepResult, Steps, Wants, Wedged}
use Rattle.hart_model.specs.Writes.{CellWrite}
use Rattle.hart_model.specs.HartStep.{hart_step}
use Rattle.core_model.specs.declared.action.Action.{Action}
use Rattle.core_model.specs.declared.event.Event.{Event}
use Rattle.core_model.specs.declared.plan.Plan.{Plan}
use Rattle.core_model.specs.declared.loaded.Loaded.{Loaded}
use Rattle.core_model.specs.Core.{CoreState, after_step}
use Rattle.core_model.specs.Routines.{ticked_if}
use Rattle.core_model.specs.Orders.{HartPace, CoarseState, StepsToAction, boot_pace, plan_at, pace_after, count_on, max_steps, is_tick_due, events_of_step, steps_to_action, steps_of_entry, after_entry, IsLegalEntry}
use Rattle.core_invariant.proofs.Items.{get-set_same}
use Rattle.core_invariant.specs.KernelStates.{KernelParts}
use Rattle.core_invariant.specs.Invariant.{IsCoreKept}
use Rattle.core_invariant.specs.OneHart.{EachHart}
use Rattle.order_laws.specs.CoarseRuns.{HartShare, IsShareOf}
use Rattle.order_laws.specs.OwnSteps.{AtAction, after_own, own_by, own_steps, moved_to, acted, acted_steps}
use Rattle.order_laws.specs.CoarseInvariant.{IsFree, IsHolding, IsCoarseKept}
use Rattle.order_laws.specs.EachTurn.{turn_steps, Takes, Gives, EachTurn}
use Rattle.order_laws.proofs.OwnSteps.{own-in-core, own-kept, made}
use Rattle.order_laws.proofs.Reach.{own-more}

-- a hart that comes to an action wants it
pub record WantsNow (code : List ℕ) (call : QueueCall) (g : HartState) : Type 0 where
  pub early_writes : List CellWrite
  pub rd : ℕ
  pub next : ℕ
  pub wants : hart_step code g ≡ Wants call early_writes rd next

module _ (code : List ℕ) (plan : Plan) (pace : HartPace) (number : ℕ) where
  wants-rest : (probes : List Probe) (events : List Event) (o : Option AtAction) (a : AtAction) → after_own events probes o ≡ Some a
      → ((b : AtAction) → o ≡ Some b → WantsNow code b.call b.hart)
      → WantsNow code a.call a.hart
  wants-rest probes events None a e wants = absurd (cc e)
  wants-rest probes events (Some b) a e wants =
      let same : record { call = b.call; hart = b.hart; probes = probes ++ b.probes; events = events ++ b.events } ≡ a = cc e in
      let P : AtAction → Type 0 = λ x. WantsNow code x.call x.hart in
      subst P same (wants b refl)

  pub own-wants : (steps : ℕ) (h : HartState) (a : AtAction) → own_steps code plan pace number steps h ≡ Some a → WantsNow code a.call a.hart
  unfolding own_steps
  own-wants zero h a e = absurd (cc e)
  own-wants (suc steps) h a e =
      by-step (events_of_step plan pace number (Some h)) (ticked_if (is_tick_due plan pace h) h)
      (hart_step code (ticked_if (is_tick_due plan pace h) h)) refl e
      (λ g b own. own-wants steps g b own)
    where
      by-step : (events : List Event) (f : HartState) (step : StepResult) → hart_step code f ≡ step
          → own_by (own_steps code plan pace number steps) events f step ≡ Some a
          → ((g : HartState) (b : AtAction) → own_steps code plan pace number steps g ≡ Some b → WantsNow code b.call b.hart)
          → WantsNow code a.call a.hart
      by-step events f (Steps g probes did) is e further =
          wants-rest probes events (own_steps code plan pace number steps g) a e (λ b own. further g b own)
      by-step events f (Wants call early_writes rd next) is e further =
          let same : record { call = call; hart = f; probes = []; events = events } ≡ a = cc e in
          let P : AtAction → Type 0 = λ x. WantsNow code x.call x.hart in
          subst P same (record { early_writes = early_writes; rd = rd; next = next; wants = is })
      by-step events f Wedged is e further = absurd (cc e)

-- a place of a list that is long enough
item-at : {X : Type 0} (xs : List X) (i : ℕ) → i < length xs → (x : X) × (slice_get xs i ≡ Some x)
item-at [] i low = absurd (omega (arith, low))
item-at (x ∷ xs) zero low = (x, refl)
item-at (x ∷ xs) (suc i) low = item-at xs i (omega (arith, low))

-- A hart of a coarse run that goes on, with its plan and its pace.
pub record GoesOn (loaded : Loaded) (co : CoarseState) (hart : ℕ) : Type 0 where
  pub plan : Plan
  pub pace : HartPace
  pub state : HartState
  pub is_plan : slice_get loaded.plans hart ≡ Some plan
  pub is_pace : slice_get co.paces hart ≡ Some pace
  pub is_hart : slice_get co.core.harts hart ≡ Some state
  pub goes_on : pace.has_stopped ≡ false

-- The hart of a legal entry does, and so does one whose share has not found nothing.
module _ (k : KernelParts) (loaded : Loaded) (plan_each : length loaded.plans ≡ loaded.harts) (co : CoarseState)
    (kept : IsCoreKept k loaded co.core) (paces : length co.paces ≡ loaded.harts) (hart : ℕ) where
  pub share-goes-on : (s : HartShare) → IsShareOf co hart s → s.pace.has_stopped ≡ false → GoesOn loaded co hart
  share-goes-on s is goes_on =
      let low = slice_get_within co.core.harts hart s.hart is.hart in
      let count = kept.hart_count in
      let plan = item-at loaded.plans hart (omega (arith, low, count, plan_each)) in
      record {
        plan = plan.0;
        pace = s.pace;
        state = s.hart;
        is_plan = plan.1;
        is_pace = is.pace;
        is_hart = is.hart;
        goes_on = goes_on;
      }

  pub entry-goes-on : IsLegalEntry co hart → GoesOn loaded co hart
  entry-goes-on legal =
      let low = legal.exists in
      let count = kept.hart_count in
      let plan = item-at loaded.plans hart (omega (arith, low, count, plan_each)) in
      let pace = get_or co.paces hart boot_pace in
      let is_pace = slice_get-get_or co.paces hart boot_pace (omega (arith, low, count, paces)) in
      let state = item-at co.core.harts hart low in
      record {
        plan = plan.0;
        pace = pace;
        state = state.0;
        is_plan = plan.1;
        is_pace = is_pace;
        is_hart = state.1;
        goes_on = legal.goes_on;
      }

-- It comes to an action by its own steps.
module _ (k : KernelParts) (loaded : Loaded) (co : CoarseState) (hart : ℕ) (g : GoesOn loaded co hart) where
  pub record ItsAction : Type 0 where
    pub at : AtAction
    pub own : own_steps k.code.words g.plan g.pace hart turn_steps g.state ≡ Some at

-- So does one of a coarse run that is kept, by what it held before.
module _ (k : KernelParts) (loaded : Loaded)
    (turns : (number : ℕ) (plan : Plan) → slice_get loaded.plans number ≡ Some plan → EachTurn loaded.tasks k plan number)
    (co : CoarseState) (kept : IsCoarseKept k loaded co) (hart : ℕ) (g : GoesOn loaded co hart) where
  pub data IsTurn (call : QueueCall) (h : HartState) : Type 0 where
    Found : IsFree loaded.tasks k hart g.state → Takes loaded.tasks k g.plan hart g.pace g.state call h → IsTurn call h
    Returned : IsHolding loaded.tasks k hart g.pace g.state → Gives loaded.tasks k g.plan hart g.pace g.state call h → IsTurn call h

  pub record ItsTurn : Type 0 where
    pub action : ItsAction k loaded co hart g
    pub turn : IsTurn action.at.call action.at.hart

  pub its-turn : ItsTurn
  its-turn =
      let turn = turns hart g.plan g.is_plan in
      elim (kept.harts hart g.pace g.state g.is_pace g.is_hart g.goes_on) [
        | inl free ↦ (let r = turn.finds g.pace g.state free in
            record { action = record { at = r.action; own = r.own }; turn = Found free r.there })
        | inr holding ↦ (let r = turn.returns g.pace g.state holding in
            record { action = record { at = r.action; own = r.own }; turn = Returned holding r.there })
      ]

module _ (k : KernelParts) (loaded : Loaded) (one : EachHart loaded.tasks k) (co : CoarseState) (kept : IsCoreKept k loaded co.core) (hart : ℕ)
    (g : GoesOn loaded co hart) where
  module _ (a : ItsAction k loaded co hart g) where
    own-max : own_steps k.code.words g.plan g.pace hart max_steps g.state ≡ Some a.at
    own-max = own-more k.code.words g.plan g.pace hart 100 turn_steps g.state a.at a.own

    plan-is : plan_at loaded.plans hart ≡ g.plan
    plan-is = get_or_from_slice_get loaded.plans hart g.plan _ g.is_plan

    pace-is : get_or co.paces hart boot_pace ≡ g.pace
    pace-is = get_or_from_slice_get co.paces hart g.pace boot_pace g.is_pace

    -- as the plans of the bundle say
    pub own-by-plan : own_steps k.code.words (plan_at loaded.plans hart) g.pace hart max_steps g.state ≡ Some a.at
    own-by-plan = ap (λ (x : Plan). own_steps k.code.words x g.pace hart max_steps g.state) plan-is ∙ own-max

    -- The steps of the entry are its own,
    pub entry-steps : steps_of_entry k.code.words loaded.plans co hart ≡ acted_steps k.code.words co.core hart a.at
    entry-steps =
        ap (λ (x : Plan). steps_to_action k.code.words x (get_or co.paces hart boot_pace) hart max_steps co.core) plan-is
        ∙ ap (λ (p : HartPace). steps_to_action k.code.words g.plan p hart max_steps co.core) pace-is
        ∙ own-in-core k loaded one hart g.plan g.pace max_steps co.core g.state a.at kept g.is_hart own-max

    -- and they leave this.
    abbrev pub by_steps : StepsToAction → CoarseState
    by_steps steps =
        record { core = steps.core; paces = set co.paces hart (pace_after g.pace (count_on (slice_get steps.core.harts hart)) steps.action) }

    pub entry-is : after_entry k.code.words loaded.plans co hart ≡ by_steps (acted_steps k.code.words co.core hart a.at)
    entry-is =
        let F : HartPace → CoarseState = λ p. record {
          core = (steps_of_entry k.code.words loaded.plans co hart).core;
          paces = set co.paces hart (pace_after p (count_on (slice_get (steps_of_entry k.code.words loaded.plans co hart).core.harts hart))
              (steps_of_entry k.code.words loaded.plans co hart).action);
        } in
        ap F pace-is ∙ ap by_steps entry-steps

    -- The core whose hart has come to its action is kept,
    abbrev pub at_action : CoreState
    at_action = moved_to co.core hart a.at.hart a.at.probes

    pub action-kept : IsCoreKept k loaded at_action
    action-kept = own-kept k loaded one hart g.plan g.pace turn_steps co.core g.state a.at kept g.is_hart a.own

    pub at-hart : slice_get at_action.harts hart ≡ Some a.at.hart
    at-hart = get-set_same co.core.harts hart g.state a.at.hart g.is_hart

    -- and it makes the action that it wants.
    pub wants : WantsNow k.code.words a.at.call a.at.hart
    wants = own-wants k.code.words g.plan g.pace hart turn_steps g.state a.at a.own

    pub acts : (action : Action) × ((acted k.code.words co.core hart a.at).action ≡ Some action)
    acts =
        let m = made k loaded one hart at_action a.at.hart action-kept at-hart a.at.call wants.early_writes wants.rd wants.next wants.wants in
        (m.0, ap (λ (s : StepResult). (after_step at_action hart a.at.hart s).action) wants.wants ∙ m.1)
