-- One step in machine mode of two harts that are alike: the same comes of it, where what the instruction decides by values is the same.
use Rattle.std.proofs.Common.{◌≡◌, ℕ, Bool, true, false, refl, ap, ℤ, if◌then◌else◌}
use Rattle.isa_model.specs.declared.instr.Instr.{Instr}
use Rattle.isa_model.specs.declared.instr.Instr.TheVariants.{Lui, Auipc, Jal, Jalr, Branch, Load, Store, AluImm, AluReg, Fence, Ecall, Ebreak, Mret, Csr, CsrImm}
use Rattle.isa_model.specs.Effect.{address}
use Rattle.hart_model.specs.declared.place.Place.TheVariants.{Reg}
use Rattle.hart_model.specs.Taint.{is_public}
use Rattle.hart_model.specs.HartState.{HartState, hart_cell}
use Rattle.hart_model.specs.MachineStep.{finds_nothing, Refused, by_reach, enters_nothing, machine_instr_step}
use Rattle.core_model.specs.AlikeHarts.{AreHartsAlike}
use Rattle.noninterference.specs.AlikeSteps.{AreStepsAlike, DecidesAlike}
use Rattle.noninterference.proofs.CellsHarts.{cell-alike}
use Rattle.noninterference.proofs.MachineCsrs.{previous-alike}
use Rattle.noninterference.proofs.MachinePorts.{public-tag}
use Rattle.noninterference.proofs.MachineReach.{nothing-reach, load-reach-alike, store-reach-alike, csr-reach-alike, enters-alike}
use Rattle.noninterference.proofs.MachineFollows.{found-alike}

-- an indirect jump, by whether its register is public on both
jalr-alike : (h g : HartState) (rd rs1 : ℕ) (imm : ℤ) (t u : Bool) → AreHartsAlike h g → t ≡ u → is_public (hart_cell h (Reg rs1)).tag ≡ t
    → AreStepsAlike (by_reach h (Jalr rd rs1 imm) (if t then finds_nothing else Refused)) (by_reach g (Jalr rd rs1 imm) (if u then finds_nothing else Refused))
jalr-alike h g rd rs1 imm true true a e p =
    let s = cell-alike h g (Reg rs1) a in
    found-alike h g a (Jalr rd rs1 imm) finds_nothing finds_nothing nothing-reach (λ x y c d. s.value (public-tag (hart_cell h (Reg rs1)).tag p))
jalr-alike h g rd rs1 imm true false a e p = absurd (cc e)
jalr-alike h g rd rs1 imm false true a e p = absurd (cc e)
jalr-alike h g rd rs1 imm false false a e p = tt

-- the return from a trap
return-alike : (h g : HartState) (t u : Bool) → AreHartsAlike h g → t ≡ u
    → AreStepsAlike (by_reach h Mret (if t then Refused else finds_nothing)) (by_reach g Mret (if u then Refused else finds_nothing))
return-alike h g true true a e = tt
return-alike h g true false a e = absurd (cc e)
return-alike h g false true a e = absurd (cc e)
return-alike h g false false a e = found-alike h g a Mret finds_nothing finds_nothing nothing-reach (λ x y c d. tt)

-- every instruction
pub machine-alike : (h g : HartState) (instr : Instr) → AreHartsAlike h g → DecidesAlike h g instr
    → AreStepsAlike (machine_instr_step h instr) (machine_instr_step g instr)
machine-alike h g (Lui rd imm20) a d = found-alike h g a (Lui rd imm20) finds_nothing finds_nothing nothing-reach (λ x y c e. tt)
machine-alike h g (Auipc rd imm20) a d = found-alike h g a (Auipc rd imm20) finds_nothing finds_nothing nothing-reach (λ x y c e. tt)
machine-alike h g (Jal rd off) a d = found-alike h g a (Jal rd off) finds_nothing finds_nothing nothing-reach (λ x y c e. tt)
machine-alike h g (Jalr rd rs1 imm) a d =
    let s = cell-alike h g (Reg rs1) a in
    jalr-alike h g rd rs1 imm (is_public (hart_cell h (Reg rs1)).tag) (is_public (hart_cell g (Reg rs1)).tag) a (ap is_public s.tag) refl
machine-alike h g (Branch op rs1 rs2 off) a d = found-alike h g a (Branch op rs1 rs2 off) finds_nothing finds_nothing nothing-reach (λ x y c e. d)
machine-alike h g (Load kind rd rs1 imm) a d =
    found-alike h g a (Load kind rd rs1 imm) _ _
    (load-reach-alike h g a kind (address (hart_cell h (Reg rs1)).value imm) (address (hart_cell g (Reg rs1)).value imm)
    (ap (λ (z : ℕ). address z imm) d)) (λ x y c e. d)
machine-alike h g (Store kind rs2 rs1 imm) a d =
    found-alike h g a (Store kind rs2 rs1 imm) _ _
    (store-reach-alike h g a (hart_cell h (Reg rs2)) (hart_cell g (Reg rs2)) (cell-alike h g (Reg rs2) a) kind
    (address (hart_cell h (Reg rs1)).value imm) (address (hart_cell g (Reg rs1)).value imm) (ap (λ (z : ℕ). address z imm) d.0) d.1) (λ x y c e. d.0)
machine-alike h g (AluImm op rd rs1 imm) a d = found-alike h g a (AluImm op rd rs1 imm) finds_nothing finds_nothing nothing-reach (λ x y c e. tt)
machine-alike h g (AluReg op rd rs1 rs2) a d = found-alike h g a (AluReg op rd rs1 rs2) finds_nothing finds_nothing nothing-reach (λ x y c e. tt)
machine-alike h g (Fence word) a d = found-alike h g a (Fence word) finds_nothing finds_nothing nothing-reach (λ x y c e. tt)
machine-alike h g Ecall a d = tt
machine-alike h g Ebreak a d = tt
machine-alike h g Mret a d =
    return-alike h g (enters_nothing h.csrs.previous h.held) (enters_nothing g.csrs.previous g.held) a
    (enters-alike h.csrs.previous g.csrs.previous h.held g.held (previous-alike h.csrs g.csrs a.csrs) a.held)
machine-alike h g (Csr op rd rs1 csr) a d = found-alike h g a (Csr op rd rs1 csr) _ _ (csr-reach-alike h g a csr) (λ x y c e. tt)
machine-alike h g (CsrImm op rd uimm csr) a d = found-alike h g a (CsrImm op rd uimm csr) _ _ (csr-reach-alike h g a csr) (λ x y c e. tt)
