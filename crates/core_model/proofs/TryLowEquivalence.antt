-- Two bundles that differ in a tape, and entries that agree publicly.
use Rattle.std.proofs.Common.{refl, ℕ, [], ◌∷◌}
use Rattle.isa_model.specs.declared.task.Task.{Task}
use Rattle.isa_model.specs.declared.latch.Latch.TheVariants.{Reg}
use Rattle.isa_model.specs.Alone.{alone_at, after_instr}
use Rattle.isa_model.specs.Control.{control_to}
use Rattle.hart_model.specs.declared.probe.Probe.{Probe}
use Rattle.hart_model.specs.declared.probe.Why.{Why}
use Rattle.hart_model.specs.declared.probe.Why.TheVariants.{Public, Value, Step}
use Rattle.hart_model.specs.declared.probe.Side.TheVariants.{Was, Now}
use Rattle.core_model.specs.declared.loaded.Loaded.{Loaded}
use Rattle.core_model.specs.LowEquivalence.{AreTasksAlike, AreAlike, AgreePublicly}

-- addi x17,x0,2; ecall; addi x17,x0,0; ecall: takes a word and exits with it
abbrev task : ℕ → Task
task word = record {
  code_at = 0x100000;
  data_at = 0x108000;
  code = 0x00200893 ∷ 0x00000073 ∷ 0x00000893 ∷ 0x00000073 ∷ [];
  data_len = 0;
  fuel = 4;
  out_max = 0;
  tape = word ∷ [];
}

abbrev loaded : ℕ → Loaded
loaded word = record {
  harts = 1;
  slots = 1;
  plans = record { quanta = []; tail = 4096 } ∷ [];
  tasks = task word ∷ [];
  bands = 0 ∷ [];
  worlds = [];
  events = [];
  order = [];
}

tasks_alike : AreTasksAlike (task 7) (task 9)
unfolding alone_at after_instr control_to
tasks_alike = record {
  code_at = refl;
  data_at = refl;
  code = refl;
  data_len = refl;
  fuel = refl;
  out_max = refl;
  tape_length = refl;
  course = record { control = refl; last_pc = refl };
}

bundles_alike : AreAlike (loaded 7) (loaded 9)
bundles_alike = record { harts = refl; slots = refl; plans = refl; bands = refl; tasks = (tasks_alike, tt) }

-- a write of x10 by this hart
abbrev write : ℕ → ℕ → Why → Probe
write was now why = record { hart = 0; pc = 0x1000; latch = Reg 10; was = was; now = now; why = why }

agree : AgreePublicly
    (write 0 7 (Value 0 2 (Reg 10) Now) ∷ write 7 5 (Value 0 2 (Reg 10) Was) ∷ write 7 8 (Step 0 3 (Reg 10)) ∷ [])
    (write 0 9 (Value 0 2 (Reg 10) Now) ∷ write 9 5 (Value 0 2 (Reg 10) Was) ∷ write 9 6 (Step 0 3 (Reg 10)) ∷ [])
agree = (
  record { hart = refl; pc = refl; latch = refl; why = refl; values = refl },
  (
    record { hart = refl; pc = refl; latch = refl; why = refl; values = refl },
    (record { hart = refl; pc = refl; latch = refl; why = refl; values = tt }, tt),
  ),
)

-- logs of different lengths don't agree
longer : AgreePublicly (write 0 1 Public ∷ []) [] → ⊥
longer h = h
