-- The steps of one hart by itself, under its plan, up to where it comes to a queue action (this project's own).
use Rattle.std.specs.Prelude.{ℕ, zero, suc, List, [], ◌++◌, Option, Some, None}
use Rattle.hart_model.specs.declared.calls.QueueCall.{QueueCall}
use Rattle.hart_model.specs.declared.probe.Probe.{Probe}
use Rattle.hart_model.specs.HartState.{HartState}
use Rattle.hart_model.specs.StepResult.{StepResult, Steps, Wants, Wedged}
use Rattle.hart_model.specs.HartStep.{hart_step}
use Rattle.core_model.specs.declared.event.Event.{Event}
use Rattle.core_model.specs.declared.plan.Plan.{Plan}
use Rattle.core_model.specs.Core.{CoreState, CoreAndAction, with_hart, after_step}
use Rattle.core_model.specs.Routines.{ticked_if}
use Rattle.core_model.specs.Orders.{HartPace, StepsToAction, is_tick_due, events_of_step}

-- A hart that comes to a queue action with its next step: the action that it wants, the hart, its entries until then, and its events until
-- then with this step.
pub record AtAction : Type 0 where
  pub call : QueueCall
  pub hart : HartState
  pub probes : List Probe
  pub events : List Event

-- after a step with these events and entries
abbrev pub after_own : List Event → List Probe → Option AtAction → Option AtAction
after_own events probes None = None
after_own events probes (Some a) = Some (record { call = a.call; hart = a.hart; probes = probes ++ a.probes; events = events ++ a.events })

abbrev pub own_by : (HartState → Option AtAction) → List Event → HartState → StepResult → Option AtAction
own_by further events h (Steps g probes did) = after_own events probes (further g)
own_by further events h (Wants call early_writes rd next) = Some (record { call = call; hart = h; probes = []; events = events })
own_by further events h Wedged = None

-- The steps of the hart of a number by its plan, no more than so many; None where it comes to no queue action by them.
unfoldable pub own_steps : List ℕ → Plan → HartPace → ℕ → ℕ → HartState → Option AtAction
own_steps code plan pace number zero h = None
own_steps code plan pace number (suc more) h =
    own_by (own_steps code plan pace number more) (events_of_step plan pace number (Some h))
    (ticked_if (is_tick_due plan pace h) h) (hart_step code (ticked_if (is_tick_due plan pace h) h))

-- a core in which the hart of a number went on to here, with these entries
abbrev pub moved_to : CoreState → ℕ → HartState → List Probe → CoreState
moved_to c number h probes = with_hart c number (record { hart = h; probes = probes }) c.board

-- what the queue action makes of a core whose hart came to it
abbrev pub acted : List ℕ → CoreState → ℕ → AtAction → CoreAndAction
acted code c number a = after_step (moved_to c number a.hart a.probes) number a.hart (hart_step code a.hart)

-- the steps of the hart and its action, in a core
abbrev pub acted_steps : List ℕ → CoreState → ℕ → AtAction → StepsToAction
acted_steps code c number a = record { events = a.events; core = (acted code c number a).core; action = (acted code c number a).action }
