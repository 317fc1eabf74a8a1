-- The address of a port is that of no word of a place, so an access from x0 on reaches the port.
use Rattle.std.proofs.Common.{◌≡◌, ℕ, ◌%◌, ◌<◌, ◌≤◌, Bool, true, false, ◌==◌, if◌then◌else◌, ℤ, Some, None, refl, sym, ap, subst, ◌∙◌, arith, eqb-true, ne_eqb}
use Rattle.isa_model.specs.declared.latch.Latch.TheVariants.{Mem}
use Rattle.isa_model.specs.Bits.{word_address}
use Rattle.isa_model.specs.Effect.{address}
use Rattle.hart_model.specs.declared.port.Port.{Port}
use Rattle.hart_model.specs.Cells.{zero_address, index_in, place_of}
use Rattle.hart_model.specs.Context.{ContextState, slot_address, slot_len}
use Rattle.hart_model.specs.Ports.{port_at}
use Rattle.hart_model.specs.MachineStep.{AtPort, place_or_port, machine_bases, target_of}
use Rattle.hart_model.proofs.UserWrites.{index_past}
use Rattle.symbolic_run.specs.SymbolicPath.{port_from}

-- where the ports are
pub port-bounds : (at : ℕ) (port : Port) → port_at at ≡ Some port → (at % 4 ≡ 0) × (0x700 ≤ at)
port-bounds at port found = grind arith

-- no word of a place stands at 0x700 or above, where a hart holds one of eight slots
no-place : (c : ContextState) (at : ℕ) → c.slot < 8 → at % 4 ≡ 0 → 0x700 ≤ at → place_of (machine_bases (Some c)) (Mem (word_address at)) ≡ None
no-place c at few even high =
    let same : word_address at ≡ at = omega (arith, even) in
    let P : ℕ → Type 0 = λ n. place_of (machine_bases (Some c)) (Mem n) ≡ None in
    let apart : (at == zero_address) ≡ false = ne_eqb _ _ (omega (arith, high)) in
    let no_slot : index_in (slot_address c.slot) slot_len at ≡ None = index_past (slot_address c.slot) slot_len at (omega (arith, few, high)) in
    let no_data : index_in 0 0 at ≡ None = index_past 0 0 at (omega (arith, high)) in
    subst P (sym same) (rw (apart, no_slot, no_data) refl)

-- A port's address reaches the port.
pub port-place : (c : ContextState) (at : ℕ) (port : Port) → c.slot < 8 → port_at at ≡ Some port
    → place_of (machine_bases (Some c)) (Mem (word_address at)) ≡ None
port-place c at port few found = let bounds = port-bounds at port found in no-place c at few bounds.0 bounds.1

pub port-target : (c : ContextState) (at : ℕ) (port : Port) → c.slot < 8 → port_at at ≡ Some port → target_of (Some c) at ≡ AtPort port
port-target c at port few found =
    ap (λ place. place_or_port place (port_at at)) (port-place c at port few found) ∙ ap (λ there. place_or_port None there) found

-- the address register is x0 where an access is to a port
pub from-x0 : (rs1 : ℕ) (imm : ℤ) (port : Port) → port_from rs1 imm ≡ Some port → (rs1 ≡ 0) × (port_at (address 0 imm) ≡ Some port)
from-x0 rs1 imm port e = by-test (rs1 == 0) refl e
  where
    by-test : (b : Bool) → (rs1 == 0) ≡ b → (if b then port_at (address 0 imm) else None) ≡ Some port → (rs1 ≡ 0) × (port_at (address 0 imm) ≡ Some port)
    by-test true is found = (eqb-true rs1 0 is, found)
    by-test false is found = absurd (cc found)
