-- What it takes for one step of a hart over a board to be made, under its plan too (this project's own).
use Rattle.std.specs.Prelude.{◌≡◌, ℕ, ◌+◌, ◌≤◌, ◌<◌, List, length, Option, Some}
use Rattle.hart_model.specs.declared.calls.QueueCall.{QueueCall}
use Rattle.hart_model.specs.declared.calls.QueueCall.TheVariants.{GiveReady, GiveDone}
use Rattle.hart_model.specs.Context.{ContextState}
use Rattle.hart_model.specs.HartState.{HartState}
use Rattle.hart_model.specs.StepResult.{StepResult, Wants}
use Rattle.hart_model.specs.HartStep.{hart_step}
use Rattle.hart_state.specs.Asked.{AsksTake}
use Rattle.hart_state.specs.UserDeed.{CanCount}
use Rattle.core_model.specs.declared.action.Action.{Action}
use Rattle.core_model.specs.declared.action.Action.TheVariants as actions
use Rattle.core_model.specs.Board.{BoardState, BoardWithSpare}
use Rattle.core_model.specs.BoardStep.{BoardStep}
use Rattle.core_model.specs.declared.plan.Plan.{Plan}
use Rattle.core_model.specs.Orders.{HartPace}
use Rattle.timer_plan.specs.Pace.{PaceState, after_take}
use Rattle.hart_advance.specs.Pacing.{IsPaceOf, due_hart}
use Rattle.ready_queue.specs.declared.kind.Kind.{Kind}
use Rattle.ready_queue.specs.declared.kind.Kind.TheVariants.{Ready, Done}
use Rattle.ready_queue.specs.Gives.{HasNothingOut, IsOutOn, CanBeGiven}

-- the step comes to this queue action
abbrev pub IsWanted : QueueCall → StepResult → Type 0
IsWanted call (Wants wanted early_writes rd next) = wanted ≡ call
IsWanted call step = ⊥

-- the step gives back what is held, as one of this kind
abbrev pub GivesKind : Kind → StepResult → Type 0
GivesKind Ready (Wants GiveReady early_writes rd next) = Unit {0}
GivesKind Done (Wants GiveDone early_writes rd next) = Unit {0}
GivesKind kind step = ⊥

-- a context that a hart holds, which may be given
pub record MayGive (b : BoardState) (number : ℕ) (h : HartState) (kind : Kind) : Type 0 where
  pub context : ContextState
  pub held : h.held ≡ Some context
  pub is_out : IsOutOn b number context
  pub can_be : CanBeGiven kind context

-- A hart may take: its step asks for it, it has nothing out, and there is spare for the take, for the give of all that is out, and for the
-- give of what it gets.
pub record CanTake (code : List ℕ) (b : BoardWithSpare) (number : ℕ) (h : HartState) : Type 0 where
  pub is_hart : number < 8
  pub asks : AsksTake (hart_step code h)
  pub nothing_out : HasNothingOut b.lists number
  pub spare : length b.lists.out + 2 ≤ b.spare

-- A hart may give what it holds, as one of this kind: its step does, and the context may be given so.
pub record CanGive (code : List ℕ) (b : BoardWithSpare) (number : ℕ) (h : HartState) (kind : Kind) : Type 0 where
  pub gives : GivesKind kind (hart_step code h)
  pub may : MayGive b.lists number h kind

-- A hart may make its step: it may take where it comes to a take, and give where it comes to a give.
pub record CanGo (code : List ℕ) (b : BoardWithSpare) (number : ℕ) (h : HartState) : Type 0 where
  pub is_hart : number < 8
  pub count : CanCount h.held
  pub spare : length b.lists.out + 2 ≤ b.spare
  pub takes : AsksTake (hart_step code h) → HasNothingOut b.lists number
  pub gives : (kind : Kind) → GivesKind kind (hart_step code h) → MayGive b.lists number h kind

-- the pace after a queue action: one that got a context draws a quantum
abbrev pub drawn_by : Action → PaceState → PaceState
drawn_by (actions.Took task) pace = after_take pace
drawn_by action pace = pace

-- It may make its step under its plan, with the tick that the plan has before it.
pub record CanGoPaced (code : List ℕ) (b : BoardWithSpare) (number : ℕ) (h : HartState) (pace : PaceState) : Type 0 where
  pub plan : Plan
  pub progress : HartPace
  pub is_pace : IsPaceOf plan progress h pace
  pub can : CanGo code b number (due_hart plan progress h)

-- A board and a hart are as a step leaves them, with this action.
pub record IsAfterBoardStep (g : BoardStep) (b : BoardState) (h : HartState) (action : Option Action) : Type 0 where
  pub board : b ≡ g.board
  pub hart : h ≡ g.hart
  pub action_is : action ≡ g.action
