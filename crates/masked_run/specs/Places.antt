-- The terms that stand for the values of the latches.
use Rattle.std.specs.Prelude.{◌≡◌, ℕ, ◌<◌, List, length, get_or}
use Rattle.isa_model.specs.declared.latch.Latch.{Latch}
use Rattle.isa_model.specs.declared.latch.Latch.TheVariants as latches
use Rattle.tape_terms.specs.declared.term.Term.{Term}
use Rattle.tape_terms.specs.Values.{value_of}
use Rattle.masked_run.specs.declared.latches.Latches.{Latches}

-- the place of the term of a latch; mscratch, memory and what is no register have that of 0
abbrev pub term_at : Latches → Latch → ℕ
term_at m (latches.Reg r) = get_or m.regs r m.none
term_at m latches.PortA = m.port_a
term_at m latches.PortB = m.port_b
term_at m latches.Res = m.res
term_at m latches.Load = m.load
term_at m latches.Store = m.store
term_at m latches.Scr = m.none
term_at m latches.Mul = m.mul
term_at m (latches.Mem at) = m.none

-- the terms are in the list
abbrev pub AreIn : List Term → (Latch → ℕ) → Type 0
AreIn terms at = (l : Latch) → at l < length terms

-- they denote these values on this tape
abbrev pub Denote : List Term → List ℕ → (Latch → ℕ) → (Latch → ℕ) → Type 0
Denote terms tape at value = (l : Latch) → value_of terms tape (at l) ≡ value l
