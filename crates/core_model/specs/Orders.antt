-- Orders of queue actions: the events that an order stands for under the plans, and which orders are legal (this project's own).
use Rattle.std.specs.Prelude.{◌≡◌, ℕ, zero, suc, ◌+◌, ◌<◌, Bool, true, false, not, ◌&&◌, ⊤, List, [], ◌∷◌, ◌++◌, length, set, get_or, replicate, slice_get, Option, Some, None, ◌==◌, if◌then◌else◌}
use Rattle.hart_model.specs.declared.tag.Mode.{Mode}
use Rattle.hart_model.specs.declared.tag.Mode.TheVariants.{User, Machine}
use Rattle.hart_model.specs.Context.{ContextState}
use Rattle.hart_model.specs.HartState.{HartState}
use Rattle.hart_model.specs.UserStep.{is_fuel_used}
use Rattle.core_model.specs.declared.event.Event.{Event}
use Rattle.core_model.specs.declared.event.Event.TheVariants.{Go, Tick}
use Rattle.core_model.specs.declared.action.Action.{Action}
use Rattle.core_model.specs.declared.action.Action.TheVariants as actions
use Rattle.core_model.specs.declared.plan.Plan.{Plan}
use Rattle.core_model.specs.declared.loaded.Loaded.{Loaded}
use Rattle.isa_model.specs.Limits.{max_quantum}
use Rattle.core_model.specs.Plans.{quantum_after}
use Rattle.core_model.specs.KernelWords.{KernelCodeState}
use Rattle.core_model.specs.Core.{CoreState, CoreAndAction, boot_core, event_result, core_after}

-- How far a hart is in its plan: how many of its takes gave a context, the count of the last of these as it was taken, and whether the
-- hart has found nothing.
pub record HartPace : Type 0 where
  pub takes : ℕ
  pub taken_at : ℕ
  pub has_stopped : Bool

-- before the first take
abbrev pub boot_pace : HartPace
boot_pace = record { takes = 0; taken_at = 0; has_stopped = false }

-- the plan of a hart, and that of a hart that has none
abbrev pub plan_at : List Plan → ℕ → Plan
plan_at plans hart = get_or plans hart (record { quanta = []; tail = max_quantum })

-- how many instructions the task that a hart holds has executed
abbrev pub held_count : Option ContextState → ℕ
held_count None = 0
held_count (Some c) = c.body.count

abbrev pub is_user : Mode → Bool
is_user User = true
is_user Machine = false

-- Whether the plan has a tick before this hart's next step: in user mode, where no timer is pending and fuel is left, and as many
-- instructions were executed since the take as the quantum says.
abbrev pub is_tick_due : Plan → HartPace → HartState → Bool
is_tick_due plan pace h =
    is_user h.csrs.mode
    && not h.csrs.is_timer_pending
    && not (is_fuel_used h.held)
    && (held_count h.held == pace.taken_at + quantum_after plan pace.takes)

-- a step of a hart as events, with the tick before it where it is due
abbrev pub events_of_step : Plan → HartPace → ℕ → Option HartState → List Event
events_of_step plan pace hart None = Go hart ∷ []
events_of_step plan pace hart (Some h) = if is_tick_due plan pace h then Tick hart ∷ Go hart ∷ [] else Go hart ∷ []

-- what events leave, with the queue action of the last one
unfoldable pub result_of : List ℕ → CoreState → List Event → CoreAndAction
result_of code c [] = record { core = c; action = None }
result_of code c (event ∷ []) = event_result code c event
result_of code c (event ∷ events) = result_of code (event_result code c event).core events

-- steps of a hart: their events, the core after them, and the queue action of the last one
pub record StepsToAction : Type 0 where
  pub events : List Event
  pub core : CoreState
  pub action : Option Action

-- these events, and then the events of further steps
abbrev pub then_steps : List Event → StepsToAction → StepsToAction
then_steps events further = record further { events = events ++ further.events }

-- A step is the last one where it made an action; else there are further ones.
abbrev pub unless_action : (CoreState → StepsToAction) → List Event → CoreState → Option Action → StepsToAction
unless_action further events c None = then_steps events (further c)
unless_action further events c (Some action) = record { events = events; core = c; action = Some action }

-- the steps of a hart up to and with its next queue action, and no more than so many
unfoldable pub steps_to_action : List ℕ → Plan → HartPace → ℕ → ℕ → CoreState → StepsToAction
steps_to_action code plan pace hart zero c = record { events = []; core = c; action = None }
steps_to_action code plan pace hart (suc more) c =
    let events = events_of_step plan pace hart (slice_get c.harts hart) in
    let r = result_of code c events in
    unless_action (steps_to_action code plan pace hart more) events r.core r.action

-- the pace of a hart after its action, by the count of what it holds then
abbrev pub pace_after : HartPace → ℕ → Option Action → HartPace
pace_after pace count (Some (actions.Took task)) = record { takes = pace.takes + 1; taken_at = count; has_stopped = false }
pace_after pace count (Some actions.Empty) = record pace { has_stopped = true }
pace_after pace count action = pace

-- a core between queue actions, with the pace of each hart
pub record CoarseState : Type 0 where
  pub core : CoreState
  pub paces : List HartPace

abbrev pub boot_coarse : Loaded → KernelCodeState → CoarseState
boot_coarse loaded kernel = record { core = boot_core loaded kernel; paces = replicate loaded.harts boot_pace }

-- The definition looks no further than this; no legal entry of an order needs more, which is a law of `order_laws`.
abbrev pub max_steps : ℕ
max_steps = 5000

-- the steps of an entry of an order
abbrev pub steps_of_entry : List ℕ → List Plan → CoarseState → ℕ → StepsToAction
steps_of_entry code plans co hart =
    steps_to_action code (plan_at plans hart) (get_or co.paces hart boot_pace) hart max_steps co.core

-- how many instructions the task has executed that the hart of this number holds
abbrev pub count_on : Option HartState → ℕ
count_on None = 0
count_on (Some h) = held_count h.held

abbrev pub after_steps : CoarseState → ℕ → StepsToAction → CoarseState
after_steps co hart steps = record {
  core = steps.core;
  paces = set co.paces hart (pace_after (get_or co.paces hart boot_pace) (count_on (slice_get steps.core.harts hart)) steps.action);
}

abbrev pub after_entry : List ℕ → List Plan → CoarseState → ℕ → CoarseState
after_entry code plans co hart = after_steps co hart (steps_of_entry code plans co hart)

-- the events of an order: for each entry those of its hart up to and with its next queue action
unfoldable pub fine_from : List ℕ → List Plan → CoarseState → List ℕ → List Event
fine_from code plans co [] = []
fine_from code plans co (hart ∷ order) =
    let steps = steps_of_entry code plans co hart in
    steps.events ++ fine_from code plans (after_steps co hart steps) order

-- The events that an order of a loaded bundle stands for, and the core after them.
abbrev pub fine_of : Loaded → KernelCodeState → List ℕ → List Event
fine_of loaded kernel order = fine_from kernel.words loaded.plans (boot_coarse loaded kernel) order

abbrev pub coarse_after : Loaded → KernelCodeState → List ℕ → CoreState
coarse_after loaded kernel order = core_after loaded kernel (fine_of loaded kernel order)

-- An entry names a hart that there is and that has not found nothing.
pub record IsLegalEntry (co : CoarseState) (hart : ℕ) : Type 0 where
  pub exists : hart < length co.core.harts
  pub goes_on : (get_or co.paces hart boot_pace).has_stopped ≡ false

unfoldable pub IsLegalFrom : List ℕ → List Plan → CoarseState → List ℕ → Type 0
IsLegalFrom code plans co [] = ⊤
IsLegalFrom code plans co (hart ∷ order) = IsLegalEntry co hart × IsLegalFrom code plans (after_entry code plans co hart) order

-- No entry names a hart that there isn't, and none a hart whose take has found nothing before.
abbrev pub IsLegal : Loaded → KernelCodeState → List ℕ → Type 0
IsLegal loaded kernel order = IsLegalFrom kernel.words loaded.plans (boot_coarse loaded kernel) order
