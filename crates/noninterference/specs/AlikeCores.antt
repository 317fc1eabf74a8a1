-- Boards and cores that are alike in all that is public, and what each pair of harts has to do for it (this project's own).
use Rattle.std.specs.Prelude.{◌≡◌, ⊤, ℕ, List, length, Option}
use Rattle.isa_model.specs.declared.task.Task.{Task}
use Rattle.isa_model.specs.Control.{kind_of}
use Rattle.hart_model.specs.declared.calls.QueueCall.{QueueCall}
use Rattle.hart_model.specs.declared.calls.QueueCall.TheVariants.{Take, GiveReady, GiveDone}
use Rattle.hart_model.specs.Context.{ContextState, DoneState}
use Rattle.hart_model.specs.HartState.{HartState, boot_hart, tick_of}
use Rattle.hart_model.specs.Writes.{CellWrite, HartAndProbes}
use Rattle.hart_model.specs.StepResult.{StepResult, Steps, Wants, Wedged}
use Rattle.hart_model.specs.HartStep.{hart_step, answer_take, answer_give}
use Rattle.core_model.specs.Board.{BoardState}
use Rattle.core_model.specs.LowEquivalence.{ArePairwise, AgreePublicly}
use Rattle.core_invariant.specs.KernelStates.{KernelParts}
use Rattle.core_invariant.specs.CutPoints.{IsOnItsWay}
use Rattle.core_invariant.specs.OneHart.{IsGot}
use Rattle.core_model.specs.AlikeHarts.{AreBodiesAlike, AreContextsAlike, AreHeldAlike}
use Rattle.noninterference.specs.AlikeSteps.{LeadBoth}

-- Two ended tasks: the same number and count, outputs of one length, and ends of one kind.
pub record AreDoneAlike (d e : DoneState) : Type 0 where
  pub task_no : d.task_no ≡ e.task_no
  pub count : d.count ≡ e.count
  pub output : length d.output ≡ length e.output
  pub end : kind_of d.end ≡ kind_of e.end

-- Two boards: what waits, is ready and has ended is alike one by one, and the same is out, by the same actions and bands.
pub record AreBoardsAlike (b e : BoardState) : Type 0 where
  pub waiting : ArePairwise AreBodiesAlike b.waiting e.waiting
  pub first : ArePairwise AreContextsAlike b.ready.first e.ready.first
  pub second : ArePairwise AreContextsAlike b.ready.second e.ready.second
  pub out : b.out ≡ e.out
  pub ended : ArePairwise AreDoneAlike b.ended e.ended
  pub order : b.order ≡ e.order
  pub bands : b.bands ≡ e.bands

-- two harts that are together, with entries that agree publicly
pub record AreLeftTogether (Together : ℕ → HartState → HartState → Type 0) (number : ℕ) (a b : HartAndProbes) : Type 0 where
  pub harts : Together number a.hart b.hart
  pub probes : AgreePublicly a.probes b.probes

-- Two harts of one number that are on their way, each with the tasks of its own bundle, and together.
pub record AreOnWayTogether (Together : ℕ → HartState → HartState → Type 0) (tasks others : List Task) (k : KernelParts) (number : ℕ) (h g : HartState) : Type 0 where
  pub way : IsOnItsWay tasks k number h
  pub other : IsOnItsWay others k number g
  pub both : Together number h g

-- Two steps go on to harts that are together, with entries that agree publicly, or come to the same queue action, or both are wedged.
abbrev pub AreStepsTogether : (HartState → HartState → Type 0) → StepResult → StepResult → Type 0
AreStepsTogether There (Steps h ps did) (Steps g qs other) = AgreePublicly ps qs × There h g
AreStepsTogether There (Wants call early_writes rd next) (Wants wanted other_early_writes to then) = (call ≡ wanted) × (rd ≡ to) × (next ≡ then)
AreStepsTogether There Wedged Wedged = ⊤
AreStepsTogether There step other = ⊥

-- Each pair of harts of one number: at boot they are together; ticks and steps keep them so; where they come to a queue action they hold
-- what is alike; and takes of what is alike, and gives, leave them together with entries that agree publicly.
pub record BothHarts (Together : ℕ → HartState → HartState → Type 0) (tasks others : List Task) (k : KernelParts) : Type 0 where
  pub boots : (number : ℕ) → Together number (boot_hart number k.code.take) (boot_hart number k.code.take)
  pub ticks : (number : ℕ) (h g : HartState) → AreOnWayTogether Together tasks others k number h g → Together number (tick_of h) (tick_of g)
  pub steps : (number : ℕ) (h g : HartState) → AreOnWayTogether Together tasks others k number h g
      → AreStepsTogether (Together number) (hart_step k.code.words h) (hart_step k.code.words g)
  pub holds_alike : (number : ℕ) (h g : HartState) (call : QueueCall) (early_writes other_early_writes : List CellWrite) (rd next : ℕ)
      → AreOnWayTogether Together tasks others k number h g
      → hart_step k.code.words h ≡ Wants call early_writes rd next → hart_step k.code.words g ≡ Wants call other_early_writes rd next
      → AreHeldAlike h.held g.held
  pub takes : (number : ℕ) (h g : HartState) (early_writes other_early_writes : List CellWrite) (rd next : ℕ) (got other : Option ContextState)
      → AreOnWayTogether Together tasks others k number h g
      → hart_step k.code.words h ≡ Wants Take early_writes rd next → hart_step k.code.words g ≡ Wants Take other_early_writes rd next
      → IsGot tasks got → IsGot others other → AreHeldAlike got other
      → AreLeftTogether Together number (answer_take early_writes rd next got h) (answer_take other_early_writes rd next other g)
  pub gives_ready : (number : ℕ) (h g : HartState) (early_writes other_early_writes : List CellWrite) (rd next : ℕ)
      → AreOnWayTogether Together tasks others k number h g
      → hart_step k.code.words h ≡ Wants GiveReady early_writes rd next → hart_step k.code.words g ≡ Wants GiveReady other_early_writes rd next
      → AreLeftTogether Together number (answer_give early_writes next h) (answer_give other_early_writes next g)
  pub gives_done : (number : ℕ) (h g : HartState) (early_writes other_early_writes : List CellWrite) (rd next : ℕ)
      → AreOnWayTogether Together tasks others k number h g
      → hart_step k.code.words h ≡ Wants GiveDone early_writes rd next → hart_step k.code.words g ≡ Wants GiveDone other_early_writes rd next
      → AreLeftTogether Together number (answer_give early_writes next h) (answer_give other_early_writes next g)

-- Together: no more than some number of steps lead two harts there, both at once.
abbrev pub LedBoth : (ℕ → HartState → HartState → Type 0) → KernelParts → ℕ → HartState → HartState → Type 0
LedBoth There k number h g = (n : ℕ) × LeadBoth k.code.words n (There number) h g

-- What is so of two harts of one number that are there: ticks keep them there; their steps, takes of what is alike, and gives lead them
-- there again; and they hold what is alike. At boot they are led there.
pub record StartBoth (There : ℕ → HartState → HartState → Type 0) (tasks others : List Task) (k : KernelParts) : Type 0 where
  pub boots : (number : ℕ) → LedBoth There k number (boot_hart number k.code.take) (boot_hart number k.code.take)
  pub ticks : (number : ℕ) (h g : HartState) → There number h g → There number (tick_of h) (tick_of g)
  pub steps : (number : ℕ) (h g : HartState) → There number h g
      → AreStepsTogether (LedBoth There k number) (hart_step k.code.words h) (hart_step k.code.words g)
  pub holds_alike : (number : ℕ) (h g : HartState) → There number h g → AreHeldAlike h.held g.held
  pub takes : (number : ℕ) (h g : HartState) (early_writes other_early_writes : List CellWrite) (rd next : ℕ) (got other : Option ContextState) → There number h g
      → hart_step k.code.words h ≡ Wants Take early_writes rd next → hart_step k.code.words g ≡ Wants Take other_early_writes rd next
      → IsGot tasks got → IsGot others other → AreHeldAlike got other
      → AreLeftTogether (LedBoth There k) number (answer_take early_writes rd next got h) (answer_take other_early_writes rd next other g)
  pub gives_ready : (number : ℕ) (h g : HartState) (early_writes other_early_writes : List CellWrite) (rd next : ℕ) → There number h g
      → hart_step k.code.words h ≡ Wants GiveReady early_writes rd next → hart_step k.code.words g ≡ Wants GiveReady other_early_writes rd next
      → AreLeftTogether (LedBoth There k) number (answer_give early_writes next h) (answer_give other_early_writes next g)
  pub gives_done : (number : ℕ) (h g : HartState) (early_writes other_early_writes : List CellWrite) (rd next : ℕ) → There number h g
      → hart_step k.code.words h ≡ Wants GiveDone early_writes rd next → hart_step k.code.words g ≡ Wants GiveDone other_early_writes rd next
      → AreLeftTogether (LedBoth There k) number (answer_give early_writes next h) (answer_give other_early_writes next g)
