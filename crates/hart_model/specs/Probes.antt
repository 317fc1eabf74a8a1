-- The entry that a write makes, and the kinds of latches by which entries are counted.
use Rattle.std.specs.Prelude.{ℕ}
use Rattle.isa_model.specs.declared.latch.Latch.{Latch}
use Rattle.isa_model.specs.declared.latch.Latch.TheVariants.{Reg, PortA, PortB, Res, Load, Store, Scr, Mul, Mem}
use Rattle.hart_model.specs.declared.tag.Mode.{Mode}
use Rattle.hart_model.specs.declared.tag.Cell.{Cell}
use Rattle.hart_model.specs.declared.probe.Probe.{Probe}
use Rattle.hart_model.specs.Why.{why_of}

abbrev pub probe_of : ℕ → ℕ → Mode → Latch → Cell → Cell → Probe
probe_of hart pc mode latch was now = record {
  hart = hart;
  pc = pc;
  latch = latch;
  was = was.value;
  now = now.value;
  why = why_of mode latch was.tag now.tag;
}

-- the kind of a latch: registers, the two ports, results, loads, stores, the scratch register, memory
abbrev pub kind_of_latch : Latch → ℕ
kind_of_latch (Reg r) = 0
kind_of_latch PortA = 1
kind_of_latch PortB = 2
kind_of_latch Res = 3
kind_of_latch Load = 4
kind_of_latch Store = 5
kind_of_latch Scr = 6
kind_of_latch Mul = 3
kind_of_latch (Mem at) = 7
