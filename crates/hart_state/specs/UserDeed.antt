-- What an instruction in user mode begins with (this project's own).
use Rattle.std.specs.Prelude.{◌≡◌, ◌+◌, ◌^◌, ◌<◌, Option, Some, None}
use Rattle.hart_model.specs.Context.{ContextState}
use Rattle.hart_model.specs.HartState.{HartState}
use Rattle.hart_model.specs.UserStep.{user_effect}
use Rattle.hart_state.specs.declared.user.UserDeed.{UserDeed}
use Rattle.hart_state.specs.declared.writer.Writer.TheVariants.{User}
use Rattle.isa_model.specs.Effect.{GoesAligned}
use Rattle.rv_effect.specs.View.{next_of}
use Rattle.rv_effect.specs.EffectView.{effect_value}

-- the count of what is held has room for one instruction more
abbrev pub CanCount : Option ContextState → Type 0
CanCount None = Unit {0}
CanCount (Some c) = c.body.count + 1 < 2 ^ 32

-- the task's next step, with the effect of the instruction at the pc
pub record IsUserDeed (h : HartState) (c : ContextState) (d : UserDeed) : Type 0 where
  pub writer : d.writer ≡ User c.body.task_no (c.body.count + 1)
  pub effect : effect_value d.effect ≡ user_effect h c.body
  pub aligned : GoesAligned (next_of d.effect.next)

abbrev pub HasUserDeed : HartState → Option ContextState → Option UserDeed → Type 0
HasUserDeed h None None = Unit {0}
HasUserDeed h (Some c) (Some d) = IsUserDeed h c d
HasUserDeed h held deed = ⊥
