-- What every event keeps of the two bands.
use Rattle.std.proofs.Common.{◌≡◌, ℕ, false, List, [], ◌∷◌, All, get_or, slice_get, Option, Some, None, ◌==◌, refl, ap, subst, ◌∙◌}
use Rattle.isa_model.specs.declared.ends.End.{End}
use Rattle.hart_model.specs.declared.calls.QueueCall.{QueueCall}
use Rattle.hart_model.specs.declared.calls.QueueCall.TheVariants.{Take, GiveReady, GiveDone}
use Rattle.hart_model.specs.declared.tag.Cell.{Cell}
use Rattle.hart_model.specs.Context.{BodyState, ContextState}
use Rattle.hart_model.specs.HartState.{HartState}
use Rattle.hart_model.specs.Writes.{CellWrite}
use Rattle.hart_model.specs.StepResult.{StepResult, Steps, Wants, Wedged}
use Rattle.hart_model.specs.HartStep.{hart_step}
use Rattle.core_model.specs.declared.event.Event.{Event}
use Rattle.core_model.specs.declared.event.Event.TheVariants.{Go, Tick}
use Rattle.core_model.specs.declared.action.Action.{Action}
use Rattle.core_model.specs.declared.action.Action.TheVariants as actions
use Rattle.core_model.specs.Board.{BoardState, Front, all_ready, goes_first, front_of, take_from, take_of, give_ready_of, give_done_of, with_next_admitted}
use Rattle.core_model.specs.Bands.{AreInTheirBands}
use Rattle.core_model.specs.BoardStep.{take_action, board_step_by_give_done, board_step_by_call, board_step}
use Rattle.core_model.specs.Core.{CoreState, boot_core, boot_bodies, after_go, after_tick, after_event, action_of, core_from, core_after}
use Rattle.core_model.proofs.Lists.{some-is}
use Rattle.core_model.proofs.BandsInOrder.{bands-go-in-order}
use Rattle.core_invariant.specs.BandOrder.{BandsAlwaysGoFirst}

-- These bands, and each ready context in the list of its own.
record HasBands (bands : List ℕ) (b : BoardState) : Type 0 where
  same : b.bands ≡ bands
  lists : AreInTheirBands b

-- No action changes the bands.
take_bands : (b : BoardState) (hart : ℕ) (front : Option Front) → (take_from b hart front).board.bands ≡ b.bands
take_bands b hart None = refl
take_bands b hart (Some front) = refl

admit_bands : (b : BoardState) (slot : ℕ) (words : List Cell) (waiting : List BodyState) → (with_next_admitted b slot words waiting).bands ≡ b.bands
admit_bands b slot words [] = refl
admit_bands b slot words (next ∷ rest) = refl

module _ (bands : List ℕ) where
  taken : (b : BoardState) (hart : ℕ) → HasBands bands b → HasBands bands (take_of b hart).board
  taken b hart has = record {
    same = take_bands b hart (front_of b.ready.first b.ready.second) ∙ has.same;
    lists = bands-go-in-order.takes b hart has.lists;
  }

  given_ready : (b : BoardState) (hart : ℕ) (c : ContextState) → HasBands bands b → HasBands bands (give_ready_of b hart c)
  given_ready b hart c has = record { same = has.same; lists = bands-go-in-order.gives_ready b hart c has.lists }

  given_done : (b : BoardState) (hart : ℕ) (c : ContextState) (end : End) → HasBands bands b → HasBands bands (give_done_of b hart c end)
  given_done b hart c end has = record {
    same = admit_bands _ c.slot c.words b.waiting ∙ has.same;
    lists = bands-go-in-order.gives_done b hart c end has.lists;
  }

  call_has : (b : BoardState) (hart : ℕ) (h : HartState) (call : QueueCall) (early_writes : List CellWrite) (rd next : ℕ) (held : Option ContextState)
      → HasBands bands b → HasBands bands (board_step_by_call b hart h call early_writes rd next held).board
  call_has b hart h Take early_writes rd next held has = taken b hart has
  call_has b hart h GiveReady early_writes rd next None has = has
  call_has b hart h GiveDone early_writes rd next None has = has
  call_has b hart h GiveReady early_writes rd next (Some held) has = given_ready b hart held has
  call_has b hart h GiveDone early_writes rd next (Some held) has = done_has held.end
    where
      done_has : (end : Option End) → HasBands bands (board_step_by_give_done b hart h early_writes next held end).board
      done_has None = has
      done_has (Some end) = given_done b hart held end has

  step_has : (b : BoardState) (hart : ℕ) (h : HartState) (step : StepResult) → HasBands bands b → HasBands bands (board_step b hart h step).board
  step_has b hart h (Steps after probes did) has = has
  step_has b hart h (Wants call early_writes rd next) has = call_has b hart h call early_writes rd next h.held has
  step_has b hart h Wedged has = has

  go_has : (code : List ℕ) (c : CoreState) (hart : ℕ) (o : Option HartState) → HasBands bands c.board → HasBands bands (after_go code c hart o).core.board
  go_has code c hart None has = has
  go_has code c hart (Some h) has = step_has c.board hart h (hart_step code h) has

  tick_has : (c : CoreState) (hart : ℕ) (o : Option HartState) → HasBands bands c.board → HasBands bands (after_tick c hart o).board
  tick_has c hart None has = has
  tick_has c hart (Some h) has = has

  event_has : (code : List ℕ) (c : CoreState) (event : Event) → HasBands bands c.board → HasBands bands (after_event code c event).board
  event_has code c (Go hart) has = go_has code c hart (slice_get c.harts hart) has
  event_has code c (Tick hart) has = tick_has c hart (slice_get c.harts hart) has

  events_have : (code : List ℕ) (c : CoreState) (events : List Event) → HasBands bands c.board → HasBands bands (core_from code c events).board
  unfolding core_from
  events_have code c [] has = has
  events_have code c (event ∷ events) has = events_have code (after_event code c event) events (event_has code c event has)

-- The action that takes a task is a take that got its context.
abbrev Takes : BoardState → ℕ → ℕ → Type 0
Takes b hart task = (got : ContextState) × ((take_of b hart).got ≡ Some got) × (got.body.task_no ≡ task)

abbrev took : Action → ℕ
took (actions.Took task) = task
took action = 0

got_takes : (b : BoardState) (hart task : ℕ) (got : Option ContextState) → (take_of b hart).got ≡ got → Some (take_action got) ≡ Some (actions.Took task) → Takes b hart task
got_takes b hart task None is e = absurd (cc e)
got_takes b hart task (Some got) is e = (got, is, ap took (some-is e))

call_takes : (b : BoardState) (hart task : ℕ) (h : HartState) (call : QueueCall) (early_writes : List CellWrite) (rd next : ℕ) (held : Option ContextState)
    → (board_step_by_call b hart h call early_writes rd next held).action ≡ Some (actions.Took task) → Takes b hart task
call_takes b hart task h Take early_writes rd next held e = got_takes b hart task (take_of b hart).got refl e
call_takes b hart task h GiveReady early_writes rd next None e = absurd (cc e)
call_takes b hart task h GiveDone early_writes rd next None e = absurd (cc e)
call_takes b hart task h GiveReady early_writes rd next (Some held) e = absurd (cc e)
call_takes b hart task h GiveDone early_writes rd next (Some held) e = done_takes held.end e
  where
    done_takes : (end : Option End) → (board_step_by_give_done b hart h early_writes next held end).action ≡ Some (actions.Took task) → Takes b hart task
    done_takes None e = absurd (cc e)
    done_takes (Some end) e = absurd (cc e)

step_takes : (b : BoardState) (hart task : ℕ) (h : HartState) (step : StepResult) → (board_step b hart h step).action ≡ Some (actions.Took task)
    → Takes b hart task
step_takes b hart task h (Steps after probes did) e = absurd (cc e)
step_takes b hart task h (Wants call early_writes rd next) e = call_takes b hart task h call early_writes rd next h.held e
step_takes b hart task h Wedged e = absurd (cc e)

go_takes : (code : List ℕ) (c : CoreState) (hart task : ℕ) (o : Option HartState) → (after_go code c hart o).action ≡ Some (actions.Took task) → Takes c.board hart task
go_takes code c hart task None e = absurd (cc e)
go_takes code c hart task (Some h) e = step_takes c.board hart task h (hart_step code h) e

-- what such a take finds
second_alone : (b : BoardState) (hart task : ℕ) (bands : List ℕ) → HasBands bands b → Takes b hart task → (get_or bands task 0 == 0) ≡ false
    → All (λ (other : ContextState). goes_first bands other ≡ false) (all_ready b.ready)
second_alone b hart task bands has takes second =
    let All-second : List ℕ → Type 0 = λ (bands : List ℕ). All (λ (other : ContextState). goes_first bands other ≡ false) (all_ready b.ready) in
    let is : goes_first b.bands takes.0 ≡ false =
    ap (λ (bands : List ℕ). goes_first bands takes.0) has.same ∙ ap (λ (n : ℕ). get_or bands n 0 == 0) takes.2 ∙ second in
    subst All-second has.same (bands-go-in-order.in_order b hart takes.0 has.lists takes.1 is)

event_second : (code : List ℕ) (c : CoreState) (bands : List ℕ) → HasBands bands c.board → (event : Event) (task : ℕ)
    → action_of code c event ≡ Some (actions.Took task) → (get_or bands task 0 == 0) ≡ false
    → All (λ (other : ContextState). goes_first bands other ≡ false) (all_ready c.board.ready)
event_second code c bands has (Go hart) task e second =
    second_alone c.board hart task bands has (go_takes code c hart task (slice_get c.harts hart) e) second
event_second code c bands has (Tick hart) task e second = absurd (cc e)

pub bands-always-first : BandsAlwaysGoFirst
bands-always-first loaded kernel events =
    let boot : HasBands loaded.bands (boot_core loaded kernel).board = record { same = refl; lists = bands-go-in-order.boot loaded.slots (boot_bodies loaded) loaded.bands } in
    let has = events_have loaded.bands kernel.words (boot_core loaded kernel) events boot in
    record {
      bands = has.same;
      lists = has.lists;
      taken = λ event task. event_second kernel.words (core_after loaded kernel events) loaded.bands has event task;
    }
