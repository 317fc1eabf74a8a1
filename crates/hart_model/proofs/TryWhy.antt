-- Whys and tags, computed.
use Rattle.std.proofs.Common.{◌≡◌, refl, [], ◌∷◌}
use Rattle.isa_model.specs.declared.latch.Latch.TheVariants.{Reg, PortA, PortB, Res, Mem}
use Rattle.isa_model.specs.Effect.{Operand, Constant, Moved, Mixed, Rs1, Rs2, Word, OldCsr}
use Rattle.hart_model.specs.declared.tag.Tag.{Tag}
use Rattle.hart_model.specs.declared.tag.Tag.TheVariants.{Public, Of, Many}
use Rattle.hart_model.specs.declared.tag.Mode.TheVariants.{User, Machine}
use Rattle.hart_model.specs.declared.probe.Why.TheVariants as whys
use Rattle.hart_model.specs.declared.probe.Side.TheVariants.{Was, Now}
use Rattle.hart_model.specs.Why.{why_of}
use Rattle.hart_model.specs.Taint.{machine_tag, user_tag}
use Rattle.hart_model.specs.Probes.{probe_of}

both_public : why_of User PortA Public Public ≡ whys.Public
both_public = refl

-- the tag of a value names its own latch, which need not be the written one
value_before : why_of Machine PortA (Of 3 7 (Reg 5)) Public ≡ whys.Value 3 7 (Reg 5) Was
value_before = refl

value_after : why_of User PortB Public (Of 3 7 (Reg 5)) ≡ whys.Value 3 7 (Reg 5) Now
value_after = refl

-- instruction 4 of task 2, after which its tags have step 5
step_of_a_latch : why_of User (Mem 0x128000) (Of 2 1 (Mem 0x128000)) (Of 2 5 (Mem 0x128000)) ≡ whys.Step 2 4 (Mem 0x128000)
step_of_a_latch = refl

step_after_step : why_of User Res (Of 2 4 Res) (user_tag 2 4 Res) ≡ whys.Step 2 4 Res
step_after_step = refl

old_tag_of_another_latch : why_of User PortA (Of 2 1 Res) (Of 2 5 PortA) ≡ whys.Unexplained
old_tag_of_another_latch = refl

new_tag_of_another_latch : why_of User PortA (Of 2 1 PortA) (Of 2 5 Res) ≡ whys.Unexplained
new_tag_of_another_latch = refl

another_register : why_of User (Reg 5) (Of 2 1 (Reg 6)) (Of 2 5 (Reg 5)) ≡ whys.Unexplained
another_register = refl

another_task : why_of User PortA (Of 1 1 PortA) (Of 2 5 PortA) ≡ whys.Unexplained
another_task = refl

old_tag_of_the_same_step : why_of User PortA (Of 2 5 PortA) (Of 2 5 PortA) ≡ whys.Unexplained
old_tag_of_the_same_step = refl

old_tag_of_a_later_step : why_of User PortA (Of 2 6 PortA) (Of 2 5 PortA) ≡ whys.Unexplained
old_tag_of_a_later_step = refl

new_tag_of_the_start : why_of User PortA (Of 2 0 PortA) (Of 2 0 PortA) ≡ whys.Unexplained
new_tag_of_the_start = refl

mixed_before : why_of User PortA Many Public ≡ whys.Unexplained
mixed_before = refl

mixed_after : why_of User PortA (Of 2 1 PortA) Many ≡ whys.Unexplained
mixed_after = refl

step_in_machine_mode : why_of Machine PortA (Of 2 1 PortA) (Of 2 5 PortA) ≡ whys.Unexplained
step_in_machine_mode = refl

-- the first register operand and the memory word are of a task, the others public
abbrev tags : Operand → Tag
tags Rs1 = Of 2 1 (Reg 6)
tags Word = Of 2 1 (Mem 0x128000)
tags _ = Public

constant_is_public : machine_tag tags Constant ≡ Public
constant_is_public = refl

move_carries_the_tag : machine_tag tags (Moved Rs1) ≡ Of 2 1 (Reg 6)
move_carries_the_tag = refl

mixture_with_one_tagged : machine_tag tags (Mixed (Rs2 ∷ Rs1 ∷ [])) ≡ Many
mixture_with_one_tagged = refl

mixture_of_one_tagged : machine_tag tags (Mixed (Word ∷ [])) ≡ Many
mixture_of_one_tagged = refl

mixture_of_public_ones : machine_tag tags (Mixed (OldCsr ∷ Rs2 ∷ [])) ≡ Public
mixture_of_public_ones = refl

entry_of_a_write : probe_of 1 0x1008 Machine PortB (record { value = 5; tag = Of 0 1 PortB }) (record { value = 9; tag = Public }) ≡ record {
  hart = 1;
  pc = 0x1008;
  latch = PortB;
  was = 5;
  now = 9;
  why = whys.Value 0 1 PortB Was;
}
entry_of_a_write = refl
