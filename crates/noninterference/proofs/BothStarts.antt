-- Pairs of harts that are led to where they start both do what they have to.
use Rattle.std.proofs.Common.{◌≡◌, ℕ, inl, inr, false, List, subst}
use Rattle.isa_model.specs.declared.task.Task.{Task}
use Rattle.hart_model.specs.declared.calls.QueueCall.{QueueCall}
use Rattle.hart_model.specs.declared.calls.QueueCall.TheVariants.{Take, GiveReady, GiveDone}
use Rattle.hart_model.specs.HartState.{HartState}
use Rattle.hart_model.specs.Writes.{CellWrite}
use Rattle.hart_model.specs.StepResult.{StepResult, Wants}
use Rattle.hart_model.specs.HartStep.{hart_step}
use Rattle.core_invariant.specs.KernelStates.{KernelParts}
use Rattle.noninterference.specs.AlikeSteps.{GoOnAlike}
use Rattle.noninterference.specs.AlikeCores.{AreStepsTogether, BothHarts, LedBoth, StartBoth}
use Rattle.noninterference.proofs.BothWays.{both-first, both-tick, go-together-steps}

-- a step that comes to a queue action doesn't go on
wants-no-more : (There : HartState → HartState → Type 0) (step to : StepResult) (call : QueueCall) (early_writes : List CellWrite) (rd next : ℕ)
    → step ≡ Wants call early_writes rd next → GoOnAlike There step to → ⊥
wants-no-more There step to call early_writes rd next e goes =
    let P : StepResult → Type 0 = λ x. GoOnAlike There x to in
    subst P e goes

module _ (There : ℕ → HartState → HartState → Type 0) (tasks others : List Task) (k : KernelParts) (start : StartBoth There tasks others k) where
  -- harts that come to a queue action are there
  at-start : (number : ℕ) (h g : HartState) (call : QueueCall) (early_writes : List CellWrite) (rd next : ℕ) → LedBoth There k number h g
      → hart_step k.code.words h ≡ Wants call early_writes rd next → There number h g
  at-start number h g call early_writes rd next way e =
      elim (both-first k.code.words way.0 (There number) h g way.1) [
        | inl there ↦ there
        | inr goes ↦ absurd (wants-no-more (LedBoth There k number) (hart_step k.code.words h) (hart_step k.code.words g) call early_writes rd next e (goes.1 false))
      ]

  led-steps : (number : ℕ) (h g : HartState) → LedBoth There k number h g
      → AreStepsTogether (LedBoth There k number) (hart_step k.code.words h) (hart_step k.code.words g)
  led-steps number h g way =
      elim (both-first k.code.words way.0 (There number) h g way.1) [
        | inl there ↦ start.steps number h g there
        | inr goes ↦ go-together-steps (LedBoth There k number) (hart_step k.code.words h) (hart_step k.code.words g) (goes.1 false)
      ]

  pub both-harts : BothHarts (LedBoth There k) tasks others k
  both-harts = record {
    boots = start.boots;
    ticks = λ number h g on. (on.both.0, both-tick k.code.words on.both.0 (There number) h g (start.ticks number) on.both.1);
    steps = λ number h g on. led-steps number h g on.both;
    holds_alike = λ number h g call early_writes other_early_writes rd next on e f. start.holds_alike number h g (at-start number h g call early_writes rd next on.both e);
    takes = λ number h g early_writes other_early_writes rd next got other on e f can can_too alike.
        start.takes number h g early_writes other_early_writes rd next got other (at-start number h g Take early_writes rd next on.both e) e f can can_too alike;
    gives_ready = λ number h g early_writes other_early_writes rd next on e f.
        start.gives_ready number h g early_writes other_early_writes rd next (at-start number h g GiveReady early_writes rd next on.both e) e f;
    gives_done = λ number h g early_writes other_early_writes rd next on e f.
        start.gives_done number h g early_writes other_early_writes rd next (at-start number h g GiveDone early_writes rd next on.both e) e f;
  }
