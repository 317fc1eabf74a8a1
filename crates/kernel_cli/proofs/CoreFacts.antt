-- What every event does to a core, whatever its harts are.
use Rattle.std.proofs.Common.{◌≡◌, ℕ, zero, suc, ◌+◌, ◌≤◌, List, [], ◌∷◌, ◌++◌, length, slice_get, Option, Some, None, refl, ap, ◌∙◌, arith, length-append}
use Rattle.std.proofs.lemmas.List.{length-set}
use Rattle.hart_model.specs.HartState.{HartState, tick_of}
use Rattle.hart_model.specs.HartStep.{hart_step}
use Rattle.core_model.specs.declared.action.Action.{Action}
use Rattle.core_model.specs.declared.event.Event.{Event}
use Rattle.core_model.specs.declared.event.Event.TheVariants.{Go, Tick}
use Rattle.core_model.specs.BoardStep.{board_step_of}
use Rattle.core_model.specs.Core.{CoreState, harts_from, after_go, after_tick, after_event, core_from}
use Rattle.order_laws.proofs.OneEvent.{entry_of, step-order}

-- No event makes or ends a hart.
go_harts : (code : List ℕ) (c : CoreState) (hart : ℕ) (o : Option HartState) → length (after_go code c hart o).core.harts ≡ length c.harts
go_harts code c hart None = refl
go_harts code c hart (Some h) = length-set c.harts hart (board_step_of code c.board hart h).hart

tick_harts : (c : CoreState) (hart : ℕ) (o : Option HartState) → length (after_tick c hart o).harts ≡ length c.harts
tick_harts c hart None = refl
tick_harts c hart (Some h) = length-set c.harts hart (tick_of h)

event_harts : (code : List ℕ) (c : CoreState) (event : Event) → length (after_event code c event).harts ≡ length c.harts
event_harts code c (Go hart) = go_harts code c hart (slice_get c.harts hart)
event_harts code c (Tick hart) = tick_harts c hart (slice_get c.harts hart)

pub events_harts : (code : List ℕ) (c : CoreState) (events : List Event) → length (core_from code c events).harts ≡ length c.harts
unfolding core_from
events_harts code c [] = refl
events_harts code c (event ∷ events) = events_harts code (after_event code c event) events ∙ event_harts code c event

pub boot_harts : (number more take : ℕ) → length (harts_from number more take) ≡ more
boot_harts number zero take = refl
boot_harts number (suc more) take = ap suc (boot_harts (number + 1) more take)

-- An event is at most one action of the order.
few_more : (order : List ℕ) (hart : ℕ) (action : Option Action) → length (order ++ entry_of hart action) ≤ length order + 1
few_more order hart None = let e = length-append order [] in omega arith
few_more order hart (Some action) = let e = length-append order (hart ∷ []) in omega arith

none_more : (order : List ℕ) → length order ≤ length order + 1
none_more order = omega arith

go_order : (code : List ℕ) (c : CoreState) (hart : ℕ) (o : Option HartState) → length (after_go code c hart o).core.board.order ≤ length c.board.order + 1
go_order code c hart None = none_more c.board.order
go_order code c hart (Some h) =
    let is = ap length (step-order hart c.board h (hart_step code h)) in
    let few = few_more c.board.order hart (board_step_of code c.board hart h).action in
    omega (arith, is, few)

tick_order : (c : CoreState) (hart : ℕ) (o : Option HartState) → length (after_tick c hart o).board.order ≤ length c.board.order + 1
tick_order c hart None = none_more c.board.order
tick_order c hart (Some h) = none_more c.board.order

event_order : (code : List ℕ) (c : CoreState) (event : Event) → length (after_event code c event).board.order ≤ length c.board.order + 1
event_order code c (Go hart) = go_order code c hart (slice_get c.harts hart)
event_order code c (Tick hart) = tick_order c hart (slice_get c.harts hart)

pub events_order : (code : List ℕ) (c : CoreState) (events : List Event) → length (core_from code c events).board.order ≤ length c.board.order + length events
unfolding core_from
events_order code c [] = omega arith
events_order code c (event ∷ events) =
    let one = event_order code c event in
    let more = events_order code (after_event code c event) events in
    omega arith
