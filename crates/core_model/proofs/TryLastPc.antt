-- A control doesn't tell where the last instruction that the fuel allows goes on to: two tasks that differ in a tape alone, of one
-- control, whose last states have different pcs.
use Rattle.std.proofs.Common.{◌≡◌, refl, ℕ, [], ◌∷◌, length}
use Rattle.isa_model.specs.declared.task.Task.{Task}
use Rattle.isa_model.specs.Alone.{alone_at, after_instr, last_of}
use Rattle.isa_model.specs.Control.{control_to, control_of}

-- addi x17,x0,2; ecall; beq x10,x0,.+8: takes a word and branches by it, with fuel for no more
abbrev task : ℕ → Task
task word = record {
  code_at = 0x100000;
  data_at = 0x108000;
  code = 0x00200893 ∷ 0x00000073 ∷ 0x00050463 ∷ 0x00000013 ∷ 0x00000013 ∷ [];
  data_len = 0;
  fuel = 3;
  out_max = 0;
  tape = word ∷ [];
}

same_control : control_of (task 0) ≡ control_of (task 1)
unfolding alone_at after_instr control_to
same_control = refl

executed : length (control_of (task 0)) ≡ 3
unfolding alone_at after_instr control_to
executed = refl

taken : (last_of (task 0)).pc ≡ 0x100010
unfolding alone_at after_instr
taken = refl

not_taken : (last_of (task 1)).pc ≡ 0x10000c
unfolding alone_at after_instr
not_taken = refl
