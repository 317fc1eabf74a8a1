-- The latches that an instruction writes, in the order of latches (this project's own).
use Rattle.std.specs.Prelude.{◌≡◌, ℕ, ◌≤◌, ⊤, Bool, List, [], ◌∷◌, ◌++◌, Option, None, Some, All, count_by, if◌then◌else◌, ◌==◌}
use Rattle.isa_model.specs.declared.latch.Latch.{Latch}
use Rattle.isa_model.specs.declared.latch.Latch.TheVariants.{Reg, PortA, PortB, Res, Load, Store, Scr, Mul, Mem}
use Rattle.isa_model.specs.Bits.{word_address}
use Rattle.isa_model.specs.Effect.{Write}
use Rattle.isa_model.specs.LatchOrder.{IsLatch, latch_rank}
use Rattle.rv_effect.specs.declared.writes.Traced.{Traced}
use Rattle.rv_effect.specs.declared.writes.RegisterWrite.{RegisterWrite}
use Rattle.rv_effect.specs.declared.writes.UnitWrite.{UnitWrite}
use Rattle.rv_effect.specs.declared.writes.UnitWrite.TheVariants.{Nothing, Multiplies, Loads, Stores, Scratches}
use Rattle.rv_effect.specs.declared.writes.Writes.{Writes}
use Rattle.rv_effect.specs.View.{writes_of}

-- the writes of an effect in code, if there is one
abbrev pub writes_made : Option Writes → List Write
writes_made None = []
writes_made (Some w) = writes_of w

-- Each latch comes after or with the one before it, by the order of latches.
abbrev pub IsInOrderFrom : ℕ → List Latch → Type 0
IsInOrderFrom low [] = ⊤
IsInOrderFrom low (l ∷ ls) = (low ≤ latch_rank l) × IsInOrderFrom (latch_rank l) ls

-- Some latches in the order of latches, each as often.
pub record AreInOrder (ls ks : List Latch) : Type 0 where
  pub same : (test : Latch → Bool) → count_by test ls ≡ count_by test ks
  pub order : IsInOrderFrom 0 ls
  pub latches : All IsLatch ls

-- the latch of a register; x0 is none
abbrev pub register_latch : Option RegisterWrite → List Latch
register_latch None = []
register_latch (Some w) = if w.rd == 0 then [] else Reg w.rd ∷ []

-- a port, if it is written
abbrev pub port_latch : Latch → Option ℕ → List Latch
port_latch port None = []
port_latch port (Some value) = port ∷ []

abbrev pub result_latch : Option Traced → List Latch
result_latch None = []
result_latch (Some v) = Res ∷ []

abbrev pub unit_latches : UnitWrite → List Latch
unit_latches Nothing = []
unit_latches (Multiplies value) = Mul ∷ []
unit_latches (Loads word) = Load ∷ []
unit_latches (Stores value at word) = Store ∷ (Mem (word_address at) ∷ [])
unit_latches (Scratches v) = Scr ∷ []

-- the latches of writes in the order of latches
abbrev pub latches_in_order : Writes → List Latch
latches_in_order w =
    register_latch w.register ++ (port_latch PortA w.port_a ++ (port_latch PortB w.port_b ++ (result_latch w.res ++ unit_latches w.unit)))
