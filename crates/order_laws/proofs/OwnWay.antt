-- What the own steps of a hart leave of it: it is on its way, and its entries name it.
use Rattle.std.proofs.Common.{◌≡◌, ℕ, zero, suc, Bool, true, false, List, [], ◌∷◌, ◌++◌, Option, Some, None, refl, subst}
use Rattle.isa_model.specs.declared.task.Task.{Task}
use Rattle.hart_model.specs.declared.probe.Probe.{Probe}
use Rattle.hart_model.specs.HartState.{HartState}
use Rattle.hart_model.specs.StepResult.{StepResult, Steps, Wants, Wedged}
use Rattle.hart_model.specs.HartStep.{hart_step}
use Rattle.core_model.specs.declared.event.Event.{Event}
use Rattle.core_model.specs.declared.plan.Plan.{Plan}
use Rattle.core_model.specs.Routines.{ticked_if}
use Rattle.core_model.specs.Orders.{HartPace, is_tick_due, events_of_step}
use Rattle.core_invariant.specs.KernelStates.{KernelParts}
use Rattle.core_invariant.specs.OneHart.{EachHart}
use Rattle.core_invariant.specs.CutPoints.{IsOnItsWay}
use Rattle.order_laws.specs.OwnSteps.{AtAction, after_own, own_by, own_steps}
use Rattle.order_laws.proofs.Named.{AreNamed, IsStepNamed, step-named}

-- entries of two lists
pub named-both : (number : ℕ) (a b : List Probe) → AreNamed number a → AreNamed number b → AreNamed number (a ++ b)
named-both number [] b first second = second
named-both number (x ∷ a) b first second = (first.0, named-both number a b first.1 second)

module _ (tasks : List Task) (k : KernelParts) (one : EachHart tasks k) (plan : Plan) (pace : HartPace) (number : ℕ) where
  pub record IsOwnWay (a : AtAction) : Type 0 where
    pub way : IsOnItsWay tasks k number a.hart
    pub named : AreNamed number a.probes

  ticked-way : (due : Bool) (h : HartState) → IsOnItsWay tasks k number h → IsOnItsWay tasks k number (ticked_if due h)
  ticked-way true h way = one.ticks number h way
  ticked-way false h way = way

  rest-way : (probes : List Probe) (events : List Event) (o : Option AtAction) (a : AtAction) → after_own events probes o ≡ Some a
      → AreNamed number probes
      → ((b : AtAction) → o ≡ Some b → IsOwnWay b) → IsOwnWay a
  rest-way probes events None a e named further = absurd (cc e)
  rest-way probes events (Some b) a e named further =
      let same : record { call = b.call; hart = b.hart; probes = probes ++ b.probes; events = events ++ b.events } ≡ a = cc e in
      let own = further b refl in
      subst IsOwnWay same (record { way = own.way; named = named-both number probes b.probes named own.named })

  pub own-way : (steps : ℕ) (h : HartState) (a : AtAction) → IsOnItsWay tasks k number h → own_steps k.code.words plan pace number steps h ≡ Some a
      → IsOwnWay a
  unfolding own_steps
  own-way zero h a way e = absurd (cc e)
  own-way (suc steps) h a way e =
      let f = ticked_if (is_tick_due plan pace h) h in
      let on = ticked-way (is_tick_due plan pace h) h way in
      by-step (events_of_step plan pace number (Some h)) f (hart_step k.code.words f) on refl
      (step-named number k.code.words f (one.is_sound number f on).csrs.hart) e (λ g b there own. own-way steps g b there own)
    where
      by-step : (events : List Event) (f : HartState) (step : StepResult) → IsOnItsWay tasks k number f → hart_step k.code.words f ≡ step
          → IsStepNamed number step
          → own_by (own_steps k.code.words plan pace number steps) events f step ≡ Some a
          → ((g : HartState) (b : AtAction) → IsOnItsWay tasks k number g → own_steps k.code.words plan pace number steps g ≡ Some b → IsOwnWay b)
          → IsOwnWay a
      by-step events f (Steps g probes did) on is named e further =
          let there = (one.steps number f g probes did on is).hart in
          rest-way probes events (own_steps k.code.words plan pace number steps g) a e named (λ b own. further g b there own)
      by-step events f (Wants call early_writes rd next) on is named e further =
          let same : record { call = call; hart = f; probes = []; events = events } ≡ a = cc e in
          subst IsOwnWay same (record { way = on; named = tt })
      by-step events f Wedged on is named e further = absurd (cc e)
