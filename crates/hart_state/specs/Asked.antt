-- What an answered queue action leaves, by the step that asked (this project's own).
use Rattle.std.specs.Prelude.{◌≡◌, ℕ, ◌%◌, ◌≤◌, List, length, Option, Some, None}
use Rattle.hart_model.specs.declared.calls.QueueCall.{QueueCall}
use Rattle.hart_model.specs.declared.calls.QueueCall.TheVariants.{Take, GiveReady, GiveDone}
use Rattle.hart_model.specs.Context.{ContextState}
use Rattle.hart_model.specs.HartState.{HartState}
use Rattle.hart_model.specs.Writes.{CellWrite, HartAndProbes}
use Rattle.hart_model.specs.StepResult.{StepResult, Steps, Wants, Wedged}
use Rattle.hart_model.specs.UserStep.{no_writes}
use Rattle.hart_model.specs.HartStep.{answer_take, answer_give}
use Rattle.hart_state.specs.declared.writer.Writer.TheVariants.{Machine}
use Rattle.hart_state.specs.declared.answering.Asked.{Asked}
use Rattle.rv_effect.specs.View.{writes_of}
use Rattle.hart_state.specs.WriterView.{writes_by, after_writes_by}

-- the step asks for a context
abbrev pub AsksTake : StepResult → Type 0
AsksTake (Wants Take early_writes rd next) = Unit {0}
AsksTake step = ⊥

-- the step gives the held context back
abbrev pub AsksGive : StepResult → Type 0
AsksGive (Wants GiveReady early_writes rd next) = Unit {0}
AsksGive (Wants GiveDone early_writes rd next) = Unit {0}
AsksGive step = ⊥

-- the step comes to this queue action
abbrev pub AsksFor : QueueCall → StepResult → Type 0
AsksFor Take step = AsksTake step
AsksFor GiveReady step = AsksGive step
AsksFor GiveDone step = AsksGive step

-- the hart after the answer to its step, and the entries; other steps take no answer
abbrev pub after_take : StepResult → Option ContextState → HartState → HartAndProbes
after_take (Wants call early_writes rd next) got h = answer_take early_writes rd next got h
after_take step got h = no_writes h

abbrev pub after_give : StepResult → HartState → HartAndProbes
after_give (Wants call early_writes rd next) h = answer_give early_writes next h
after_give step h = no_writes h

-- a take begins with at most two writes
abbrev pub BeginsShort : QueueCall → ℕ → Type 0
BeginsShort Take len = len ≤ 2
BeginsShort call len = Unit {0}

-- a give has something to give
abbrev pub GivesHeld : QueueCall → Option ContextState → Type 0
GivesHeld Take held = Unit {0}
GivesHeld GiveReady None = ⊥
GivesHeld GiveReady (Some c) = Unit {0}
GivesHeld GiveDone None = ⊥
GivesHeld GiveDone (Some c) = Unit {0}

-- what the code found of a step that asks: its writes, which leave what is held, and the rest
pub record IsAsked (h : HartState) (call : QueueCall) (early_writes : List CellWrite) (rd next : ℕ) (a : Asked) : Type 0 where
  pub early_writes_is : writes_by (Machine a.cells) h.held (writes_of a.effect.writes) ≡ early_writes
  pub rd_is : a.rd ≡ rd
  pub next_is : a.next ≡ next
  pub aligned : a.next % 4 ≡ 0
  pub short : BeginsShort call (length (writes_of a.effect.writes))
  pub keeps : (after_writes_by (Machine a.cells) (writes_of a.effect.writes) h).hart.held ≡ h.held
  pub gives : GivesHeld call h.held

-- what the code found of a step: something exactly where it asks
abbrev pub HasAsked : HartState → StepResult → Option Asked → Type 0
HasAsked h (Wants call early_writes rd next) (Some a) = IsAsked h call early_writes rd next a
HasAsked h (Wants call early_writes rd next) None = ⊥
HasAsked h (Steps hart probes did) None = Unit {0}
HasAsked h (Steps hart probes did) (Some a) = ⊥
HasAsked h Wedged None = Unit {0}
HasAsked h Wedged (Some a) = ⊥
