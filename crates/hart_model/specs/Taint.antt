-- How tags follow a write (this project's own): in user mode by the step, in machine mode by what flows into the written value.
use Rattle.std.specs.Prelude.{ℕ, ◌+◌, Bool, true, false, List, [], ◌∷◌}
use Rattle.isa_model.specs.declared.latch.Latch.{Latch}
use Rattle.isa_model.specs.Effect.{Flow, Constant, Moved, Mixed, Operand}
use Rattle.hart_model.specs.declared.tag.Tag.{Tag}
use Rattle.hart_model.specs.declared.tag.Tag.TheVariants.{Public, Of, Many}

abbrev pub is_public : Tag → Bool
is_public Public = true
is_public tag = false

-- of a value that is computed from several: public where all are, else of many
abbrev pub mixture_of : List Tag → Tag
mixture_of [] = Public
mixture_of (Public ∷ ts) = mixture_of ts
mixture_of (t ∷ ts) = Many

abbrev pub tags_of : (Operand → Tag) → List Operand → List Tag
tags_of tag [] = []
tags_of tag (o ∷ os) = tag o ∷ tags_of tag os

-- in machine mode, by the tags of the operands: a move carries the tag
abbrev pub machine_tag : (Operand → Tag) → Flow → Tag
machine_tag tag Constant = Public
machine_tag tag (Moved o) = tag o
machine_tag tag (Mixed os) = mixture_of (tags_of tag os)

-- in user mode, by the task, its count before the instruction and the latch
abbrev pub user_tag : ℕ → ℕ → Latch → Tag
user_tag task count latch = Of task (count + 1) latch
