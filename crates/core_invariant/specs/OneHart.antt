-- What each hart of a core does, whatever the others do, so that the core stays sound (this project's own).
use Rattle.std.specs.Prelude.{◌≡◌, ℕ, List, [], All, Option, Some, None}
use Rattle.isa_model.specs.declared.task.Task.{Task}
use Rattle.hart_model.specs.declared.calls.Did.{Did}
use Rattle.hart_model.specs.declared.calls.QueueCall.TheVariants.{Take, GiveReady, GiveDone}
use Rattle.hart_model.specs.declared.probe.Probe.{Probe}
use Rattle.hart_model.specs.Context.{ContextState}
use Rattle.hart_model.specs.HartState.{HartState, boot_hart, tick_of}
use Rattle.hart_model.specs.Writes.{CellWrite, HartAndProbes}
use Rattle.hart_model.specs.StepResult.{Steps, Wants, Wedged}
use Rattle.hart_model.specs.HartStep.{hart_step, answer_take, answer_give}
use Rattle.core_model.specs.Board.{OutEntry}
use Rattle.core_model.specs.Explained.{IsExplained}
use Rattle.core_model.specs.Soundness.{IsHartSound, entries_held}
use Rattle.core_invariant.specs.KernelStates.{KernelParts}
use Rattle.core_model.specs.Routines.{IsReadyContext}
use Rattle.core_invariant.specs.CutPoints.{IsDoneContext, IsOnItsWay}

-- a hart that is on its way, holds just what these entries say, and has made explained entries of the log
pub record IsKept (tasks : List Task) (k : KernelParts) (number : ℕ) (out : List OutEntry) (a : HartAndProbes) : Type 0 where
  pub hart : IsOnItsWay tasks k number a.hart
  pub explained : All (IsExplained tasks) a.probes
  pub holds : entries_held number a.hart.held ≡ out

-- what a take may get
abbrev pub IsGot : List Task → Option ContextState → Type 0
IsGot tasks None = Unit {0}
IsGot tasks (Some c) = IsReadyContext tasks c

pub record GivesReady (tasks : List Task) (k : KernelParts) (number : ℕ) (h : HartState) (early_writes : List CellWrite) (next : ℕ) : Type 0 where
  pub context : ContextState
  pub held : h.held ≡ Some context
  pub given : IsReadyContext tasks context
  pub after : IsKept tasks k number [] (answer_give early_writes next h)

pub record GivesDone (tasks : List Task) (k : KernelParts) (number : ℕ) (h : HartState) (early_writes : List CellWrite) (next : ℕ) : Type 0 where
  pub context : ContextState
  pub held : h.held ≡ Some context
  pub given : IsDoneContext tasks context
  pub after : IsKept tasks k number [] (answer_give early_writes next h)

-- Each hart: at boot it is on its way; ticks and steps keep it so; it takes only where it holds nothing, and gives what may be given;
-- and it is never wedged.
pub record EachHart (tasks : List Task) (k : KernelParts) : Type 0 where
  pub boots : (number : ℕ) → IsOnItsWay tasks k number (boot_hart number k.code.take)
  pub is_sound : (number : ℕ) (h : HartState) → IsOnItsWay tasks k number h → IsHartSound tasks number h
  pub ticks : (number : ℕ) (h : HartState) → IsOnItsWay tasks k number h → IsOnItsWay tasks k number (tick_of h)
  pub steps : (number : ℕ) (h g : HartState) (probes : List Probe) (did : Did) → IsOnItsWay tasks k number h → hart_step k.code.words h ≡ Steps g probes did
      → IsKept tasks k number (entries_held number h.held) (record { hart = g; probes = probes })
  pub holds_none : (number : ℕ) (h : HartState) (early_writes : List CellWrite) (rd next : ℕ) → IsOnItsWay tasks k number h
      → hart_step k.code.words h ≡ Wants Take early_writes rd next
      → h.held ≡ None
  pub takes : (number : ℕ) (h : HartState) (early_writes : List CellWrite) (rd next : ℕ) (got : Option ContextState) → IsOnItsWay tasks k number h
      → hart_step k.code.words h ≡ Wants Take early_writes rd next → IsGot tasks got
      → IsKept tasks k number (entries_held number got) (answer_take early_writes rd next got h)
  pub gives_ready : (number : ℕ) (h : HartState) (early_writes : List CellWrite) (rd next : ℕ) → IsOnItsWay tasks k number h
      → hart_step k.code.words h ≡ Wants GiveReady early_writes rd next → GivesReady tasks k number h early_writes next
  pub gives_done : (number : ℕ) (h : HartState) (early_writes : List CellWrite) (rd next : ℕ) → IsOnItsWay tasks k number h
      → hart_step k.code.words h ≡ Wants GiveDone early_writes rd next → GivesDone tasks k number h early_writes next
  pub never_wedged : (number : ℕ) (h : HartState) → IsOnItsWay tasks k number h → hart_step k.code.words h ≡ Wedged → ⊥
