-- Wherever a task is in a core that is kept, its output is the beginning of its output alone.
use Rattle.std.proofs.Common.{◌≡◌, ℕ, ◌≤◌, inl, inr, List, slice_get, Option, Some, None, refl, sym, ap, ◌∙◌, subst}
use Rattle.std.proofs.lemmas.List.Elements.{All-weaker}
use mathlib.Core.List.{IsPrefix}
use Rattle.isa_model.specs.declared.task.Task.{Task}
use Rattle.isa_model.specs.Alone.{last_of}
use Rattle.hart_model.specs.Context.{BodyState, ContextState, DoneState, task_of}
use Rattle.hart_model.specs.HartState.{HartState}
use Rattle.core_model.specs.declared.loaded.Loaded.{Loaded}
use Rattle.core_model.specs.Board.{all_ready}
use Rattle.core_model.specs.Core.{CoreState}
use Rattle.core_model.specs.Soundness.{IsBodyCase, IsEndedCase}
use Rattle.core_model.specs.Routines.{HoldsSame, IsReadyContext}
use Rattle.symbolic_run.proofs.Ways.{leads-back}
use Rattle.core_invariant.specs.KernelStates.{KernelParts}
use Rattle.core_invariant.specs.CutPoints.{IsAtCutPoint, IsOnItsWay}
use Rattle.core_invariant.specs.Invariant.{IsCoreKept, IsWaitingTask}
use Rattle.core_invariant.specs.Outputs.{IsOutputOf, IsHeldOutput, AreOutputsSound}
use Rattle.core_invariant.proofs.AloneOutputs.{prefix-self, prefix-then, output-of-whole}
use Rattle.core_invariant.proofs.HeldOutputs.{held_output, OutputGrows, step-output-grows}

-- a body that is as far as the run alone
pub body-output : (tasks : List Task) (b : BodyState) → IsBodyCase tasks b → 1 ≤ b.fuel → IsOutputOf tasks b.task_no b.output
body-output tasks b body low = record {
  task = task_of b;
  is_task = body.is_task;
  is_prefix = subst (λ output. IsPrefix output (last_of (task_of b)).output) (sym body.output) (output-of-whole (task_of b) low b.count);
}

ready_output : (tasks : List Task) (c : ContextState) → IsReadyContext tasks c → IsOutputOf tasks c.body.task_no c.body.output
ready_output tasks c can = body-output tasks c.body can.ready.body can.valid.fuel_least

-- a task at its start has put nothing out
waiting_output : (tasks : List Task) (b : BodyState) → IsWaitingTask tasks b → IsOutputOf tasks b.task_no b.output
waiting_output tasks b waits = record {
  task = task_of b;
  is_task = waits.0.is_task;
  is_prefix = subst (λ output. IsPrefix output (last_of (task_of b)).output) (sym (ap (λ (x : BodyState). x.output) waits.0.is_fresh))
      ((last_of (task_of b)).output, refl);
}

ended_output : (tasks : List Task) (d : DoneState) → IsEndedCase tasks d → IsOutputOf tasks d.task_no d.output
ended_output tasks d ended = record {
  task = ended.task;
  is_task = ended.is_task;
  is_prefix = subst (λ output. IsPrefix output (last_of ended.task).output) (sym ended.output) (prefix-self (last_of ended.task).output);
}

-- what is held is this
held_is : (tasks : List Task) (held : Option ContextState) (c : ContextState) → held ≡ Some c → IsOutputOf tasks c.body.task_no c.body.output
    → IsHeldOutput tasks held
held_is tasks held c is output = subst (IsHeldOutput tasks) (sym is) output

-- where a hart stands between its ways
start_output : (tasks : List Task) (k : KernelParts) (number : ℕ) (h : HartState) → IsAtCutPoint tasks k number h → IsHeldOutput tasks h.held
start_output tasks k number h (inl (c, at)) = held_is tasks h.held c at.user.held (body-output tasks c.body at.user.body at.valid.fuel_least)
start_output tasks k number h (inr (inl (c, at))) = held_is tasks h.held c at.held (ready_output tasks c at.given)
start_output tasks k number h (inr (inr (inl (c, at)))) = held_is tasks h.held c at.held (ended_output tasks _ at.given.ended)
start_output tasks k number h (inr (inr (inr (inl at)))) = subst (IsHeldOutput tasks) (sym at.held) tt
start_output tasks k number h (inr (inr (inr (inr at)))) = subst (IsHeldOutput tasks) (sym at.held) tt

-- what is held before a step has no more output than after it
before_step : (tasks : List Task) (before after : Option ContextState) → HoldsSame before after → OutputGrows (held_output before) (held_output after)
    → IsHeldOutput tasks after → IsHeldOutput tasks before
before_step tasks None after same grows output = tt
before_step tasks (Some c) None same grows output = absurd grows
before_step tasks (Some c) (Some d) same grows output = record {
  task = output.task;
  is_task = ap (slice_get tasks) (sym same.task_no) ∙ output.is_task;
  is_prefix = prefix-then c.body.output d.body.output (last_of output.task).output grows output.is_prefix;
}

-- on its way there
way_output : (tasks : List Task) (k : KernelParts) (number : ℕ) (h : HartState) → IsOnItsWay tasks k number h → IsHeldOutput tasks h.held
way_output tasks k number h way =
    leads-back tasks k.code.words number (IsAtCutPoint tasks k number) (λ g. IsHeldOutput tasks g.held) (start_output tasks k number)
    (λ g goes. before_step tasks g.held goes.after.held goes.holds
    (step-output-grows k.code.words g goes.after goes.probes goes.did goes.step_is) goes.there) way.0 h way.1

-- The outputs of all tasks of a core.
pub outputs-sound : (k : KernelParts) (loaded : Loaded) (c : CoreState) → IsCoreKept k loaded c → AreOutputsSound loaded c
outputs-sound k loaded c kept = record {
  waiting = All-weaker (IsWaitingTask loaded.tasks) (λ (b : BodyState). IsOutputOf loaded.tasks b.task_no b.output) (waiting_output loaded.tasks)
      c.board.waiting kept.waiting;
  ready = All-weaker (IsReadyContext loaded.tasks) (λ (x : ContextState). IsOutputOf loaded.tasks x.body.task_no x.body.output) (ready_output loaded.tasks)
      (all_ready c.board.ready) kept.ready;
  held = λ i h is. way_output loaded.tasks k i h (kept.harts i h is);
  ended = All-weaker (IsEndedCase loaded.tasks) (λ (d : DoneState). IsOutputOf loaded.tasks d.task_no d.output) (ended_output loaded.tasks)
      c.board.ended kept.ended;
}
