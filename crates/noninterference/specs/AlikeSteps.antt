-- Steps of two harts that are alike, and what has to be so for them (this project's own).
use Rattle.std.specs.Prelude.{◌≡◌, ⊤, ℕ, zero, suc, ◌⊎◌, Bool, List, Option, Some}
use Rattle.isa_model.specs.declared.instr.Instr.{Instr}
use Rattle.isa_model.specs.declared.instr.Instr.TheVariants.{Branch, Load, Store}
use Rattle.isa_model.specs.Arithmetic.{is_taken}
use Rattle.hart_model.specs.declared.place.Place.TheVariants.{Reg}
use Rattle.isa_model.specs.Effect.{address}
use Rattle.hart_model.specs.declared.port.Port.TheVariants.{Fault}
use Rattle.hart_model.specs.declared.tag.Mode.TheVariants.{Machine}
use Rattle.hart_model.specs.Ports.{port_at}
use Rattle.hart_model.specs.Context.{ContextState, slot_word}
use Rattle.hart_model.specs.HartState.{HartState, hart_cell}
use Rattle.hart_model.specs.Writes.{CellWrite, HartAndProbes}
use Rattle.hart_model.specs.StepResult.{StepResult, Steps, Wants, Wedged}
use Rattle.hart_model.specs.HartStep.{hart_step}
use Rattle.core_model.specs.LowEquivalence.{ArePairwise, AgreePublicly}
use Rattle.core_model.specs.Routines.{ticked_if}
use Rattle.core_model.specs.AlikeHarts.{AreCellsAlike, AreHartsAlike}

-- two writes go to one place, with cells that are alike
pub record AreWritesAlike (w v : CellWrite) : Type 0 where
  pub at : w.at ≡ v.at
  pub cell : AreCellsAlike w.cell v.cell

-- harts that are alike, with entries that agree publicly
pub record AreLeftAlike (a b : HartAndProbes) : Type 0 where
  pub harts : AreHartsAlike a.hart b.hart
  pub probes : AgreePublicly a.probes b.probes

-- two steps do the same: they go on alike, or come to one queue action alike, or both are wedged
abbrev pub AreStepsAlike : StepResult → StepResult → Type 0
AreStepsAlike (Steps h ps did) (Steps g qs other) = AreLeftAlike (record { hart = h; probes = ps }) (record { hart = g; probes = qs }) × (did ≡ other)
AreStepsAlike (Wants call early_writes rd next) (Wants wanted other_early_writes to then) =
    (call ≡ wanted) × ArePairwise AreWritesAlike early_writes other_early_writes × (rd ≡ to) × (next ≡ then)
AreStepsAlike Wedged Wedged = ⊤
AreStepsAlike step other = ⊥

-- the number of a bad call, which a store of its code to the fault port reads
abbrev pub SameNumber : Option ContextState → Option ContextState → Type 0
SameNumber (Some c) (Some d) = (slot_word c 17).value ≡ (slot_word d 17).value
SameNumber held other = ⊤

-- What an instruction decides by values is the same on two harts: whether a branch is taken, an address, and the number of a bad call.
abbrev pub DecidesAlike : HartState → HartState → Instr → Type 0
DecidesAlike h g (Branch op rs1 rs2 off) =
    is_taken op (hart_cell h (Reg rs1)).value (hart_cell h (Reg rs2)).value ≡ is_taken op (hart_cell g (Reg rs1)).value (hart_cell g (Reg rs2)).value
DecidesAlike h g (Load kind rd rs1 imm) = (hart_cell h (Reg rs1)).value ≡ (hart_cell g (Reg rs1)).value
DecidesAlike h g (Store kind rs2 rs1 imm) =
    ((hart_cell h (Reg rs1)).value ≡ (hart_cell g (Reg rs1)).value)
    × (port_at (address (hart_cell h (Reg rs1)).value imm) ≡ Some Fault → (hart_cell h (Reg rs2)).value ≡ 0x102 → SameNumber h.held g.held)
DecidesAlike h g instr = ⊤

-- steps that go on, alike
abbrev pub GoOnAlike : (HartState → HartState → Type 0) → StepResult → StepResult → Type 0
GoOnAlike There (Steps h ps did) (Steps g qs other) = AgreePublicly ps qs × There h g
GoOnAlike There step other = ⊥

abbrev pub AreInMachine : HartState → HartState → Type 0
AreInMachine h g = (h.csrs.mode ≡ Machine) × (g.csrs.mode ≡ Machine)

-- No more than so many steps lead two harts there together, with or without a tick before each of them on both; until then both are in
-- machine mode, and each step goes on, alike.
abbrev pub LeadBoth : List ℕ → ℕ → (HartState → HartState → Type 0) → HartState → HartState → Type 0
LeadBoth code zero There h g = There h g
LeadBoth code (suc more) There h g =
    There h g
    ⊎ (AreInMachine h g
    × ((ticked : Bool) → GoOnAlike (LeadBoth code more There) (hart_step code (ticked_if ticked h)) (hart_step code (ticked_if ticked g))))
