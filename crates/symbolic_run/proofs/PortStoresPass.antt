-- A store to a port that lets its cell pass does what the path says: it writes no memory.
use Rattle.std.proofs.Common.{◌≡◌, ℕ, ◌+◌, ◌%◌, ◌<◌, ◌≤◌, ◌==◌, ℤ, List, [], ◌∷◌, ◌++◌, Some, refl, ap, ◌∙◌, eq-eqb, arith}
use Rattle.std.proofs.lemmas.Bool.{cond-true}
use Rattle.isa_model.specs.declared.instr.Instr.{Instr}
use Rattle.isa_model.specs.declared.instr.Instr.TheVariants.{Store}
use Rattle.isa_model.specs.declared.instr.StoreKind.TheVariants as stores
use Rattle.isa_model.specs.declared.latch.Latch.TheVariants as latches
use Rattle.isa_model.specs.Bits.{low_word, word_address}
use Rattle.isa_model.specs.Effect.{Effect, Write, Mixed, Rs1, Raises, to, ports, store_word, does, address}
use Rattle.hart_model.specs.declared.place.Place.TheVariants as places
use Rattle.hart_model.specs.declared.port.Port.{Port}
use Rattle.hart_model.specs.declared.tag.Cell.{Cell}
use Rattle.hart_model.specs.Cells.{blank, place_of}
use Rattle.hart_model.specs.Csrs.{public}
use Rattle.hart_model.specs.Context.{ContextState}
use Rattle.hart_model.specs.Ports.{SideEffect, Passes, port_at, port_store}
use Rattle.hart_model.specs.HartState.{HartState, held_words, hart_cell}
use Rattle.hart_model.specs.Writes.{CellWrite, placed, after_writes}
use Rattle.hart_model.specs.MachineStep.{OperandCells, operand_cells, operand_values, machine_bases, target_of, store_reach, store_by_port, by_reach, held_after_side, after_machine_effect, after_machine_writes}
use Rattle.symbolic_run.specs.AbstractEffect.{reg_cell}
use Rattle.symbolic_run.specs.Concretization.{Valuation, IsSound, Denotes}
use Rattle.symbolic_run.specs.SymbolicPath.{PathState, PathStep, PathCondition, store_writes, IsAsPathSays, TakesStep, goes_on}
use Rattle.symbolic_run.proofs.OneWrite.{cell-denoted}
use Rattle.symbolic_run.proofs.Plain.{next-address}
use Rattle.hart_model.proofs.WedgesExactly.{port_is_aligned}
use Rattle.symbolic_run.proofs.PortsReached.{port-place, port-target}

-- the writes of a store of a register from x0 on, which reaches no memory
abbrev store_cells : Cell → ℕ → List CellWrite → List CellWrite
store_cells cell at more =
    record { at = places.PortA; cell = blank }
    ∷ record { at = places.PortB; cell = cell }
    ∷ record { at = places.Res; cell = public at }
    ∷ record { at = places.Store; cell = cell }
    ∷ more

-- what a path makes of a store
abbrev pub stored_step : PathState → ℕ → ℕ → ContextState → List PathCondition → PathStep
stored_step p rs2 at held conditions = record (goes_on p (store_writes p.cells rs2 0 at)) { held = held; conditions = conditions }

-- a store to a port that lets its cell pass
pub store-passes : (s : Valuation) (number base : ℕ) (p : PathState) (h : HartState) → IsSound s → base ≤ 8192 → p.index ≤ 1000 → IsAsPathSays s number base p h
    → (rs2 : ℕ) (imm : ℤ) (port : Port) (side : SideEffect) (held : ContextState) (conditions : List PathCondition) → port_at (address 0 imm) ≡ Some port
    → port_store port (hart_cell h (places.Reg rs2)) h.held ≡ Passes (hart_cell h (places.Reg rs2)) side → held_after_side side p.held ≡ held
    → TakesStep s number base p (stored_step p rs2 (address 0 imm) held conditions) h (Store stores.W rs2 0 imm)
store-passes s number base p h ok high few says rs2 imm port side held conditions found answer holds =
    let instr : Instr = Store stores.W rs2 0 imm in
    let at : ℕ = address 0 imm in
    let cell : Cell = hart_cell h (places.Reg rs2) in
    let context : ContextState = record p.held { words = held_words h.held } in
    let o : OperandCells = operand_cells h instr (Some cell) blank in
    let early_writes : List Write = ports (operand_values o) ++ to latches.Res at (Mixed (Rs1 ∷ [])) in
    let slot = ok.slot in
    let same = says.slot in
    let below : p.held.slot < 8 = omega (arith, slot, same) in
    let d : Denotes s (reg_cell p.cells rs2) cell = cell-denoted s p.cells h (places.Reg rs2) tt says.cells in
    let there = ap (λ held. target_of held at) says.held ∙ port-target context at port below found in
    let nowhere = ap (λ held. place_of (machine_bases held) (latches.Mem (word_address at))) says.held ∙ port-place context at port below found in
    let reaches = ap (λ target. by_reach h instr (store_reach h stores.W cell target)) there in
    let finds = ap (λ given. by_reach h instr (store_by_port cell given)) answer in
    let even = eq-eqb _ _ (port_is_aligned at port found) in
    let goes = ap (λ (e : Effect). after_machine_effect h o side e)
    (cond-true (at % 4 == 0) (store_word stores.W cell.value h.pc at early_writes (Some cell.value)) (does early_writes (Raises 6)) even) in
    let drops = ap (λ place. after_machine_writes side (low_word (h.pc + 4)) (after_writes (store_cells cell at (placed place cell [])) h)) nowhere in
    let lands = ap (λ (pc : ℕ). after_machine_writes side pc (after_writes (store_cells cell at []) h)) (next-address base p.index h.pc high few says.pc) in
    record {
      writes = store_cells cell at [];
      denote = (refl, refl, (refl, d, (refl, refl, (refl, d, tt))));
      csrs = h.csrs;
      csrs_are = says.csrs;
      csrs_sound = says.csrs_sound;
      side = side;
      held = holds;
      step_is = reaches ∙ finds ∙ goes ∙ drops ∙ lands;
    }
