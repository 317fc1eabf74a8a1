-- What the why of a write says of its two tags, and what the tag of a mixture says of its parts. Each is the contract of a law in
-- `src/why_laws.rt`.
use Rattle.std.specs.Prelude.{◌≡◌, ℕ, ◌+◌, ◌≤◌, ◌⊎◌, ◌↔◌, List, All}
use Rattle.isa_model.specs.declared.latch.Latch.{Latch}
use Rattle.hart_model.specs.declared.tag.Tag.{Tag}
use Rattle.hart_model.specs.declared.tag.Tag.TheVariants.{Public, Of, Many}
use Rattle.hart_model.specs.declared.tag.Mode.{Mode}
use Rattle.hart_model.specs.declared.tag.Mode.TheVariants.{User}
use Rattle.hart_model.specs.declared.probe.Why.{Why}
use Rattle.hart_model.specs.declared.probe.Why.TheVariants as whys
use Rattle.hart_model.specs.declared.probe.Side.TheVariants.{Was, Now}
use Rattle.hart_model.specs.Why.{why_of}
use Rattle.hart_model.specs.Taint.{mixture_of}

-- The write of a latch is that of instruction n of a task: in user mode, from the value that the latch has after no more than n
-- instructions of the task to the one that it has after n + 1.
pub record IsStepOf (mode : Mode) (l : Latch) (was now : Tag) (task n : ℕ) : Type 0 where
  pub in_user_mode : mode ≡ User
  pub old_step : ℕ
  pub is_earlier : old_step ≤ n
  pub was_is : was ≡ Of task old_step l
  pub now_is : now ≡ Of task (n + 1) l

-- the value of a latch of some task
pub record IsOfTask (tag : Tag) : Type 0 where
  pub task : ℕ
  pub step : ℕ
  pub latch : Latch
  pub is : tag ≡ Of task step latch

-- Both tags are of tasks, and the write is no task's instruction.
pub record IsNoStep (mode : Mode) (l : Latch) (was now : Tag) : Type 0 where
  pub was_of_task : IsOfTask was
  pub now_of_task : IsOfTask now
  pub no_step : (task n : ℕ) → ¬ IsStepOf mode l was now task n

-- What each why says of the mode, the latch and the tags before and after.
abbrev pub IsWhyOf : Mode → Latch → Tag → Tag → Why → Type 0
IsWhyOf mode l was now whys.Public = (was ≡ Public) × (now ≡ Public)
IsWhyOf mode l was now (whys.Value task n k Was) = (was ≡ Of task n k) × (now ≡ Public)
IsWhyOf mode l was now (whys.Value task n k Now) = (was ≡ Public) × (now ≡ Of task n k)
IsWhyOf mode l was now (whys.Step task n k) = (k ≡ l) × IsStepOf mode l was now task n
IsWhyOf mode l was now whys.Unexplained = (was ≡ Many) ⊎ (now ≡ Many) ⊎ IsNoStep mode l was now

-- A write has a why exactly where its mode, latch and tags are as this why says.
abbrev pub WhySaysItsTags : Type 0
WhySaysItsTags = (mode : Mode) (l : Latch) (was now : Tag) (why : Why) → (why_of mode l was now ≡ why) ↔ IsWhyOf mode l was now why

-- A mixture is public exactly where all its parts are, and else of many.
pub record MixtureSaysItsParts : Type 0 where
  pub public : (tags : List Tag) → (mixture_of tags ≡ Public) ↔ All (λ tag. tag ≡ Public) tags
  pub many : (tags : List Tag) → (mixture_of tags ≡ Many) ↔ (¬ All (λ tag. tag ≡ Public) tags)
