-- A hart's share of a coarse run, and the entries of other harts.
use Rattle.std.proofs.Common.{◌≡◌, ◌≢◌, ℕ, zero, suc, ◌+◌, ◌==◌, Bool, true, false, List, [], ◌∷◌, get_or, slice_get, if◌then◌else◌, Option, Some, None, refl, sym, ap, ◌∙◌, subst, arith}
use Rattle.std.proofs.lemmas.Bool.{eqb-false}
use Rattle.hart_model.specs.HartState.{HartState}
use Rattle.core_model.specs.declared.action.Action.{Action}
use Rattle.core_model.specs.declared.event.Event.{Event}
use Rattle.core_model.specs.declared.event.Event.TheVariants.{Go, Tick}
use Rattle.core_model.specs.declared.plan.Plan.{Plan}
use Rattle.core_model.specs.declared.loaded.Loaded.{Loaded}
use Rattle.core_model.specs.Events.{hart_of}
use Rattle.core_model.specs.Core.{CoreState, event_result, after_event, core_from}
use Rattle.core_model.specs.Orders.{HartPace, CoarseState, StepsToAction, boot_pace, boot_coarse, plan_at, count_on, pace_after, max_steps, is_tick_due, events_of_step, result_of, unless_action, steps_to_action, steps_of_entry, after_entry}
use Rattle.core_model.proofs.Lists.{bit, count-cons}
use Rattle.core_invariant.proofs.Items.{get-set_other}
use Rattle.core_invariant.specs.KernelStates.{KernelParts}
use Rattle.core_invariant.specs.Invariant.{IsCoreKept}
use Rattle.core_invariant.specs.OneHart.{EachHart}
use Rattle.core_invariant.proofs.Boot.{boot-kept}
use Rattle.core_invariant.proofs.Composition.{event-kept, events-kept}
use Rattle.core_invariant.proofs.Proved.{kernel-harts}
use Rattle.order_laws.specs.CoarseRuns.{coarse_from, times_in, HartShare, IsShareOf}
use Rattle.order_laws.specs.Laws.{SharesStay}
use Rattle.order_laws.proofs.OneEvent.{event-changes, IsLeft, left-so, left-then, other-left}
use Rattle.order_laws.proofs.AsEvents.{result-core, steps-core, coarse-append}

-- all events are of this hart
abbrev pub AreOf : ℕ → List Event → Type 0
AreOf hart [] = Unit {0}
AreOf hart (event ∷ events) = (hart_of event ≡ hart) × AreOf hart events

-- those of a step are
due-of : (hart : ℕ) (due : Bool) → AreOf hart (if due then Tick hart ∷ Go hart ∷ [] else Go hart ∷ [])
due-of hart true = (refl, (refl, tt))
due-of hart false = (refl, tt)

pub step-of : (plan : Plan) (pace : HartPace) (hart : ℕ) (h : Option HartState) → AreOf hart (events_of_step plan pace hart h)
step-of plan pace hart None = (refl, tt)
step-of plan pace hart (Some h) = due-of hart (is_tick_due plan pace h)

-- a hart of a core that is kept is the one of its number
pub numbered : (k : KernelParts) (loaded : Loaded) → EachHart loaded.tasks k → (c : CoreState) → IsCoreKept k loaded c → (i : ℕ) (h : HartState)
    → slice_get c.harts i ≡ Some h → h.csrs.hart ≡ i
numbered k loaded one c kept i h is = (one.is_sound i h (kept.harts i h is)).csrs.hart

module _ (k : KernelParts) (loaded : Loaded) (one : EachHart loaded.tasks k) (hart other : ℕ) (ne : other ≢ hart) where
  -- events of one hart leave another
  events-left : (c : CoreState) → IsCoreKept k loaded c → (events : List Event) → AreOf hart events → IsLeft other c (core_from k.code.words c events)
  unfolding core_from
  events-left c kept [] are = left-so other c
  events-left c kept (event ∷ events) are =
      left-then other c (after_event k.code.words c event) (core_from k.code.words c (event ∷ events))
      (other-left hart other ne c (event_result k.code.words c event)
      (event-changes hart k.code.words c event are.0 (λ h is. numbered k loaded one c kept hart h is)))
      (events-left (after_event k.code.words c event) (event-kept k loaded one c kept event) events are.1)

  unless-left : (further : CoreState → StepsToAction) → ((d : CoreState) → IsCoreKept k loaded d → IsLeft other d (further d).core)
      → (c : CoreState) (events : List Event) (d : CoreState) (action : Option Action) → IsCoreKept k loaded d → IsLeft other c d
      → IsLeft other c (unless_action further events d action).core
  unless-left further so c events d None kept is = left-then other c d (further d).core is (so d kept)
  unless-left further so c events d (Some action) kept is = is

  steps-left : (plan : Plan) (pace : HartPace) (steps : ℕ) (c : CoreState) → IsCoreKept k loaded c
      → IsLeft other c (steps_to_action k.code.words plan pace hart steps c).core
  unfolding steps_to_action
  steps-left plan pace zero c kept = left-so other c
  steps-left plan pace (suc more) c kept =
      let events = events_of_step plan pace hart (slice_get c.harts hart) in
      let r = result_of k.code.words c events in
      let Kept : CoreState → Type 0 = λ d. IsCoreKept k loaded d in
      let Left : CoreState → Type 0 = λ d. IsLeft other c d in
      let same = sym (result-core k.code.words c events) in
      unless-left (steps_to_action k.code.words plan pace hart more) (λ d kept_too. steps-left plan pace more d kept_too) c events r.core r.action
      (subst Kept same (events-kept k loaded one c kept events))
      (subst Left same (events-left c kept events (step-of plan pace hart (slice_get c.harts hart))))

module _ (k : KernelParts) (loaded : Loaded) (one : EachHart loaded.tasks k) where
  -- an entry of the order keeps the core
  steps-kept : (plan : Plan) (pace : HartPace) (hart steps : ℕ) (c : CoreState) → IsCoreKept k loaded c
      → IsCoreKept k loaded (steps_to_action k.code.words plan pace hart steps c).core
  steps-kept plan pace hart steps c kept =
      let Kept : CoreState → Type 0 = λ d. IsCoreKept k loaded d in
      subst Kept (sym (steps-core k.code.words plan pace hart steps c))
      (events-kept k loaded one c kept (steps_to_action k.code.words plan pace hart steps c).events)

  pub entry-kept : (co : CoarseState) (hart : ℕ) → IsCoreKept k loaded co.core
      → IsCoreKept k loaded (after_entry k.code.words loaded.plans co hart).core
  entry-kept co hart kept = steps-kept (plan_at loaded.plans hart) (get_or co.paces hart boot_pace) hart max_steps co.core kept

  pub order-kept : (co : CoarseState) (order : List ℕ) → IsCoreKept k loaded co.core
      → IsCoreKept k loaded (coarse_from k.code.words loaded.plans co order).core
  unfolding coarse_from
  order-kept co [] kept = kept
  order-kept co (hart ∷ order) kept = order-kept (after_entry k.code.words loaded.plans co hart) order (entry-kept co hart kept)

  -- an entry of another hart leaves the share
  entry-share : (co : CoarseState) (hart number : ℕ) (s : HartShare) → number ≢ hart → IsCoreKept k loaded co.core → IsShareOf co number s
      → IsShareOf (after_entry k.code.words loaded.plans co hart) number s
  entry-share co hart number s ne kept is =
      let steps = steps_of_entry k.code.words loaded.plans co hart in
      let left = steps-left k loaded one hart number ne (plan_at loaded.plans hart) (get_or co.paces hart boot_pace) max_steps co.core kept in
      record {
        hart = left.hart ∙ is.hart;
        pace = get-set_other co.paces hart number
            (pace_after (get_or co.paces hart boot_pace) (count_on (slice_get steps.core.harts hart)) steps.action) ne ∙ is.pace;
        entries = left.entries ∙ is.entries;
      }

  -- the first entry of an order in which a hart doesn't stand isn't its, and it doesn't stand in the others
  first-other : (number hart : ℕ) (order : List ℕ) → times_in number (hart ∷ order) ≡ 0 → (number ≢ hart) × (times_in number order ≡ 0)
  first-other number hart order none =
      let all = count-cons (λ entry. entry == number) hart order in
      by-test (hart == number) refl (omega (arith, all, none))
    where
      by-test : (b : Bool) → (hart == number) ≡ b → bit (hart == number) + times_in number order ≡ 0 → (number ≢ hart) × (times_in number order ≡ 0)
      by-test true test sum = absurd (let one_more : bit (hart == number) ≡ 1 = ap bit test in omega (arith, one_more, sum))
      by-test false test sum =
          ((λ e. eqb-false hart number test (sym e)), (let none_here : bit (hart == number) ≡ 0 = ap bit test in omega (arith, none_here, sum)))

  pub order-share : (co : CoarseState) (order : List ℕ) (number : ℕ) (s : HartShare) → IsCoreKept k loaded co.core → times_in number order ≡ 0
      → IsShareOf co number s → IsShareOf (coarse_from k.code.words loaded.plans co order) number s
  unfolding coarse_from
  order-share co [] number s kept none is = is
  order-share co (hart ∷ order) number s kept none is =
      let parts = first-other number hart order none in
      order-share (after_entry k.code.words loaded.plans co hart) order number s (entry-kept co hart kept) parts.1
      (entry-share co hart number s parts.0 kept is)

-- Entries of other harts leave a hart's share as it is.
pub shares-stay : SharesStay
shares-stay k kernel loaded fits seen rest number s none is =
    let one = kernel-harts k kernel loaded fits in
    let start = boot_coarse loaded k.code in
    let before = coarse_from k.code.words loaded.plans start seen in
    let P : CoarseState → Type 0 = λ co. IsShareOf co number s in
    subst P (sym (coarse-append k.code.words loaded.plans start seen rest))
    (order-share k loaded one before rest number s (order-kept k loaded one start seen (boot-kept k loaded fits one)) none is)
