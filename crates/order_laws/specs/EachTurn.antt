-- What each hart of a kernel does from one of its queue actions to the next, whatever the others do (this project's own), so that every
-- action lowers the potential.
use Rattle.std.specs.Prelude.{◌≡◌, ℕ, ◌+◌, ◌≤◌, ◌⊎◌, false, List, Some, None}
use Rattle.isa_model.specs.declared.task.Task.{Task}
use Rattle.isa_model.specs.declared.ends.End.{End}
use Rattle.hart_model.specs.declared.calls.QueueCall.{QueueCall}
use Rattle.hart_model.specs.declared.calls.QueueCall.TheVariants.{Take, GiveReady, GiveDone}
use Rattle.hart_model.specs.Context.{ContextState}
use Rattle.hart_model.specs.HartState.{HartState}
use Rattle.hart_model.specs.StepResult.{Wants}
use Rattle.hart_model.specs.Writes.{CellWrite}
use Rattle.hart_model.specs.HartStep.{hart_step, answer_take, answer_give}
use Rattle.core_model.specs.declared.plan.Plan.{Plan}
use Rattle.core_model.specs.Routines.{IsReadyContext}
use Rattle.core_model.specs.Orders.{HartPace}
use Rattle.core_invariant.specs.KernelStates.{KernelParts}
use Rattle.order_laws.specs.Arrives.{Reaches}
use Rattle.order_laws.specs.Potential.{ready_potential, held_potential, timer_potential}
use Rattle.order_laws.specs.CoarseInvariant.{IsFree, IsHolding}

-- No hart makes more steps from one action to the next, with the action's own: fewer than `max_steps`, so that 30,000 entries of the log have
-- room for the action's.
abbrev pub turn_steps : ℕ
turn_steps = 4900

-- the pace after a take that got this context
abbrev pub pace_with : HartPace → ContextState → HartPace
pace_with pace c = record { takes = pace.takes + 1; taken_at = c.body.count; has_stopped = false }

module _ (tasks : List Task) (k : KernelParts) (plan : Plan) (number : ℕ) where
  -- A hart comes to a take with nothing in its hands, from where it was before; with what it gets it is on its way into user mode.
  pub record Takes (pace : HartPace) (before : HartState) (call : QueueCall) (h : HartState) : Type 0 where
    pub call_is : call ≡ Take
    pub held : h.held ≡ None
    pub timer : timer_potential h ≤ timer_potential before
    pub then_holds : (early_writes : List CellWrite) (rd next : ℕ) (c : ContextState) → hart_step k.code.words h ≡ Wants Take early_writes rd next
        → IsReadyContext tasks c → IsHolding tasks k number (pace_with pace c) (answer_take early_writes rd next (Some c) h).hart

  -- It comes to a give, of a context that costs at least two less than what the hart held before, or of an ended one; then it is free.
  pub record Gives (pace : HartPace) (before : HartState) (call : QueueCall) (h : HartState) : Type 0 where
    pub context : ContextState
    pub held : h.held ≡ Some context
    pub pays : ((call ≡ GiveReady)
        × (ready_potential context + timer_potential h + 2 ≤ held_potential plan pace before.held + timer_potential before))
        ⊎ ((call ≡ GiveDone) × ((end : End) × (context.end ≡ Some end)) × (timer_potential h ≤ timer_potential before))
    pub then_free : (early_writes : List CellWrite) (rd next : ℕ) → hart_step k.code.words h ≡ Wants call early_writes rd next
        → IsFree tasks k number (answer_give early_writes next h).hart

  -- A free hart comes to a take, and one that holds a context to its give.
  pub record EachTurn : Type 0 where
    pub finds : (pace : HartPace) (h : HartState) → IsFree tasks k number h
        → Reaches k.code.words plan pace number turn_steps (Takes pace h) h
    pub returns : (pace : HartPace) (h : HartState) → IsHolding tasks k number pace h
        → Reaches k.code.words plan pace number turn_steps (Gives pace h) h
