-- A small task run alone, computed: 42 is put out, and the task exits with it.
use Rattle.std.proofs.Common.{◌≡◌, ℕ, refl, [], ◌∷◌, Some}
use Rattle.isa_model.specs.declared.latch.Latch.TheVariants as latches
use Rattle.isa_model.specs.declared.ends.End.TheVariants.{Exited, Faulted, OutOfSteps}
use Rattle.isa_model.specs.declared.ends.EndKind.TheVariants as kinds
use Rattle.isa_model.specs.declared.control.Deed.TheVariants.{Ran, Called, Ended}
use Rattle.isa_model.specs.declared.task.Task.{Task}
use Rattle.isa_model.specs.Alone.{alone_at, after_instr, count_to, last_of, count_of}
use Rattle.isa_model.specs.AloneValue.{alone_value, alone_change}
use Rattle.isa_model.specs.Control.{control_to, control_of}

abbrev forty_two : ℕ → Task
forty_two fuel = record {
  code_at = 0x100000;
  data_at = 0x108000;
  code = 0x02a00513 ∷ 0x00100893 ∷ 0x00000073 ∷ 0x00000893 ∷ 0x00000073 ∷ [];
  data_len = 0;
  fuel = fuel;
  out_max = 4;
  tape = [];
}

its_end : (last_of (forty_two 5)).end ≡ Some (Exited 42)
unfolding alone_at after_instr
its_end = refl

its_output : (last_of (forty_two 5)).output ≡ 42 ∷ []
unfolding alone_at after_instr
its_output = refl

its_count : count_of (forty_two 9) ≡ 5
unfolding alone_at after_instr count_to
its_count = refl

too_little_fuel : (last_of (forty_two 4)).end ≡ Some OutOfSteps
unfolding alone_at after_instr
too_little_fuel = refl

its_control : control_of (forty_two 5) ≡
    record { pc = 0x100000; deed = Ran }
    ∷ record { pc = 0x100004; deed = Ran }
    ∷ record { pc = 0x100008; deed = Called 1 }
    ∷ record { pc = 0x10000c; deed = Ran }
    ∷ record { pc = 0x100010; deed = Ended kinds.Exited } ∷ []
unfolding alone_at after_instr control_to
its_control = refl

one_change : alone_change (forty_two 5) 0 latches.Res ≡ (0, 42)
unfolding alone_at after_instr
one_change = refl

-- a word stored into the only data word, then one past it
abbrev storing : Task
storing = record {
  code_at = 0x100000;
  data_at = 0x108000;
  code = 0x001080b7 ∷ 0x0010a023 ∷ 0x0000a223 ∷ [];
  data_len = 1;
  fuel = 5;
  out_max = 4;
  tape = [];
}

the_data_word : alone_value storing 2 (latches.Mem 0x108000) ≡ 0x108000
unfolding alone_at after_instr
the_data_word = refl

past_the_data : (last_of storing).end ≡ Some (Faulted 7 0x100008)
unfolding alone_at after_instr
past_the_data = refl
