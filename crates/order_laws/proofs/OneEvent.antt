-- What an event changes in a core: one hart, entries of that hart at the end of the log, and the order by the event's action.
use Rattle.std.proofs.Common.{◌≡◌, ◌≢◌, ℕ, List, [], ◌∷◌, ◌++◌, slice_get, Option, Some, None, refl, sym, ap, ◌∙◌, subst, append-nil}
use Rattle.std.proofs.lemmas.List.Elements.{filter-append}
use Rattle.isa_model.specs.declared.ends.End.{End}
use Rattle.hart_model.specs.declared.calls.QueueCall.{QueueCall}
use Rattle.hart_model.specs.declared.calls.QueueCall.TheVariants.{Take, GiveReady, GiveDone}
use Rattle.hart_model.specs.declared.probe.Probe.{Probe}
use Rattle.hart_model.specs.declared.tag.Cell.{Cell}
use Rattle.hart_model.specs.Context.{BodyState, ContextState}
use Rattle.hart_model.specs.HartState.{HartState, tick_of}
use Rattle.hart_model.specs.Writes.{CellWrite}
use Rattle.hart_model.specs.StepResult.{StepResult, Steps, Wants, Wedged}
use Rattle.hart_model.specs.HartStep.{hart_step, loaded_writes, take_cell}
use Rattle.core_model.specs.declared.action.Action.{Action}
use Rattle.core_model.specs.declared.event.Event.{Event}
use Rattle.core_model.specs.declared.event.Event.TheVariants.{Go, Tick}
use Rattle.core_model.specs.Events.{hart_of}
use Rattle.core_model.specs.Board.{BoardState, Front, front_of, take_from, take_of, with_next_admitted}
use Rattle.core_model.specs.BoardStep.{BoardStep, board_step_by_take, board_step_by_give_done, board_step_by_call, board_step}
use Rattle.core_model.specs.Core.{CoreState, CoreAndAction, without_action, after_step, after_go, after_tick, event_result}
use Rattle.core_invariant.proofs.Items.{get-set_other}
use Rattle.order_laws.specs.CoarseRuns.{entries_by}
use Rattle.order_laws.proofs.Named.{AreNamed, IsStepNamed, none-of-others, writes-named, step-named}

-- what an action adds to the order: the number of its hart
abbrev pub entry_of : ℕ → Option Action → List ℕ
entry_of hart None = []
entry_of hart (Some action) = hart ∷ []

-- A core changes at one hart: at most that hart is another, its entries come to the end of the log, and its action to the end of the order.
pub record ChangesAt (hart : ℕ) (c : CoreState) (r : CoreAndAction) : Type 0 where
  pub others : (i : ℕ) → i ≢ hart → slice_get r.core.harts i ≡ slice_get c.harts i
  pub probes : List Probe
  pub named : AreNamed hart probes
  pub log : r.core.log ≡ c.log ++ probes
  pub order : r.core.board.order ≡ c.board.order ++ entry_of hart r.action

-- a waiting task that is admitted is no action
admitted-order : (b : BoardState) (slot : ℕ) (words : List Cell) (waiting : List BodyState)
    → (with_next_admitted b slot words waiting).order ≡ b.order
admitted-order b slot words [] = refl
admitted-order b slot words (next ∷ rest) = refl

-- A STEP OVER A BOARD
module _ (hart : ℕ) (b : BoardState) (h : HartState) where
  -- adds its action to the order;
  taken-order : (early_writes : List CellWrite) (rd next : ℕ) (front : Option Front)
      → (board_step_by_take h early_writes rd next (take_from b hart front)).board.order ≡ b.order ++ hart ∷ []
  taken-order early_writes rd next None = refl
  taken-order early_writes rd next (Some front) = refl

  -- the order afterwards
  abbrev OrderBy : BoardStep → Type 0
  OrderBy s = s.board.order ≡ b.order ++ entry_of hart s.action

  done-order : (early_writes : List CellWrite) (next : ℕ) (held : ContextState) (end : Option End)
      → OrderBy (board_step_by_give_done b hart h early_writes next held end)
  done-order early_writes next held None = sym (append-nil b.order)
  done-order early_writes next held (Some end) = admitted-order _ held.slot held.words b.waiting

  call-order : (call : QueueCall) (early_writes : List CellWrite) (rd next : ℕ) (held : Option ContextState)
      → OrderBy (board_step_by_call b hart h call early_writes rd next held)
  call-order Take early_writes rd next held = taken-order early_writes rd next (front_of b.ready.first b.ready.second)
  call-order GiveReady early_writes rd next None = sym (append-nil b.order)
  call-order GiveDone early_writes rd next None = sym (append-nil b.order)
  call-order GiveReady early_writes rd next (Some held) = refl
  call-order GiveDone early_writes rd next (Some held) = done-order early_writes next held held.end

  pub step-order : (step : StepResult) → OrderBy (board_step b hart h step)
  step-order (Steps after probes did) = sym (append-nil b.order)
  step-order (Wants call early_writes rd next) = call-order call early_writes rd next h.held
  step-order Wedged = sym (append-nil b.order)

  -- and where the hart is the one of its number, its entries name it.
  module _ (is : h.csrs.hart ≡ hart) where
    done-named : (early_writes : List CellWrite) (next : ℕ) (held : ContextState) (end : Option End)
        → AreNamed hart (board_step_by_give_done b hart h early_writes next held end).probes
    done-named early_writes next held None = tt
    done-named early_writes next held (Some end) = writes-named hart early_writes h is

    call-named : (call : QueueCall) (early_writes : List CellWrite) (rd next : ℕ) (held : Option ContextState)
        → AreNamed hart (board_step_by_call b hart h call early_writes rd next held).probes
    call-named Take early_writes rd next held = writes-named hart (early_writes ++ loaded_writes rd (take_cell (take_of b hart).got)) h is
    call-named GiveReady early_writes rd next None = tt
    call-named GiveDone early_writes rd next None = tt
    call-named GiveReady early_writes rd next (Some held) = writes-named hart early_writes h is
    call-named GiveDone early_writes rd next (Some held) = done-named early_writes next held held.end

    pub step-probes-named : (step : StepResult) → IsStepNamed hart step → AreNamed hart (board_step b hart h step).probes
    step-probes-named (Steps after probes did) named = named
    step-probes-named (Wants call early_writes rd next) named = call-named call early_writes rd next h.held
    step-probes-named Wedged named = tt

module _ (hart : ℕ) where
  unchanged : (c : CoreState) → ChangesAt hart c (without_action c)
  unchanged c = record {
    others = λ i ne. refl;
    probes = [];
    named = tt;
    log = sym (append-nil c.log);
    order = sym (append-nil c.board.order);
  }

  -- What a step of the hart comes to, where it is the one of its number.
  pub step-changes : (c : CoreState) (h : HartState) (step : StepResult) → h.csrs.hart ≡ hart → IsStepNamed hart step
      → ChangesAt hart c (after_step c hart h step)
  step-changes c h step is named = record {
    others = λ i ne. get-set_other c.harts hart i (board_step c.board hart h step).hart ne;
    probes = (board_step c.board hart h step).probes;
    named = step-probes-named hart c.board h is step named;
    log = refl;
    order = step-order hart c.board h step;
  }

  module _ (code : List ℕ) where
    go-changes : (c : CoreState) (o : Option HartState) → ((h : HartState) → o ≡ Some h → h.csrs.hart ≡ hart)
        → ChangesAt hart c (after_go code c hart o)
    go-changes c None numbered = unchanged c
    go-changes c (Some h) numbered = let is = numbered h refl in step-changes c h (hart_step code h) is (step-named hart code h is)

    tick-changes : (c : CoreState) (o : Option HartState) → ChangesAt hart c (without_action (after_tick c hart o))
    tick-changes c None = unchanged c
    tick-changes c (Some h) = record {
      others = λ i ne. get-set_other c.harts hart i (tick_of h) ne;
      probes = [];
      named = tt;
      log = sym (append-nil c.log);
      order = sym (append-nil c.board.order);
    }

    -- An event of the hart.
    pub event-changes : (c : CoreState) (event : Event) → hart_of event ≡ hart
        → ((h : HartState) → slice_get c.harts hart ≡ Some h → h.csrs.hart ≡ hart)
        → ChangesAt hart c (event_result code c event)
    event-changes c (Go i) same numbered =
        let P : ℕ → Type 0 = λ j. ChangesAt hart c (event_result code c (Go j)) in
        subst P (sym same) (go-changes c (slice_get c.harts hart) numbered)
    event-changes c (Tick i) same numbered =
        let P : ℕ → Type 0 = λ j. ChangesAt hart c (event_result code c (Tick j)) in
        subst P (sym same) (tick-changes c (slice_get c.harts hart))

-- A hart of a core, and its entries of the log, are as before.
pub record IsLeft (number : ℕ) (before after : CoreState) : Type 0 where
  pub hart : slice_get after.harts number ≡ slice_get before.harts number
  pub entries : entries_by number after.log ≡ entries_by number before.log

pub left-so : (number : ℕ) (c : CoreState) → IsLeft number c c
left-so number c = record { hart = refl; entries = refl }

pub left-then : (number : ℕ) (a b c : CoreState) → IsLeft number a b → IsLeft number b c → IsLeft number a c
left-then number a b c first second = record { hart = second.hart ∙ first.hart; entries = second.entries ∙ first.entries }

-- So is each hart other than the one at which a core changes.
pub other-left : (hart other : ℕ) → other ≢ hart → (c : CoreState) (r : CoreAndAction) → ChangesAt hart c r → IsLeft other c r.core
other-left hart other ne c r changes = record {
  hart = changes.others other ne;
  entries = ap (entries_by other) changes.log
      ∙ filter-append _ c.log changes.probes
      ∙ ap (λ more. entries_by other c.log ++ more) (none-of-others hart other (λ e. ne (sym e)) changes.probes changes.named)
      ∙ append-nil (entries_by other c.log);
}
