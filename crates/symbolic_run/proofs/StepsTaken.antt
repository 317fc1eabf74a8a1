-- Each instruction that is followed does what its step says.
use Rattle.std.proofs.Common.{◌≡◌, ℕ, zero, suc, ◌%◌, ◌≤◌, Bool, true, false, ℤ, List, Option, Some, None, refl, subst}
use Rattle.isa_model.specs.declared.instr.Instr.{Instr}
use Rattle.isa_model.specs.declared.instr.Instr.TheVariants.{Lui, Auipc, Jal, Jalr, Branch, Load, Store, AluImm, AluReg, Fence, Ecall, Ebreak, Mret, Csr, CsrImm}
use Rattle.isa_model.specs.declared.instr.LoadKind.TheVariants as loads
use Rattle.isa_model.specs.declared.instr.StoreKind.TheVariants as stores
use Rattle.isa_model.specs.declared.instr.CsrOp.{CsrOp}
use Rattle.isa_model.specs.declared.instr.CsrOp.TheVariants.{Rw, Rs, Rc}
use Rattle.isa_model.specs.Effect.{address, is_mscratch}
use Rattle.hart_model.specs.declared.port.Port.{Port}
use Rattle.hart_model.specs.HartState.{HartState}
use Rattle.symbolic_run.specs.AbstractEffect.{AbstractWrite, abstract_effect, reg_cell}
use Rattle.symbolic_run.specs.Concretization.{Valuation, IsSound, number_of}
use Rattle.symbolic_run.specs.SymbolicPath.{PathState, PathStep, AreSo, goes_on, plain_step, index_after, branch_index, load_step, store_step, csr_step, port_from, path_step, IsAsPathSays, TakesStep}
use Rattle.symbolic_run.specs.Laws.{StepsAreTaken}
use Rattle.symbolic_run.proofs.Plain.{plain-taken}
use Rattle.symbolic_run.proofs.BranchesTaken.{jump-taken, branch-taken}
use Rattle.symbolic_run.proofs.CsrReadsTaken.{csr-read-taken}
use Rattle.symbolic_run.proofs.CsrWritesTaken.{csr-write-taken}
use Rattle.symbolic_run.proofs.PortLoadsTaken.{port-load-taken}
use Rattle.symbolic_run.proofs.PortStoresTaken.{port-store-taken}

module _ (may_reach : ℕ → Bool) (s : Valuation) (number base : ℕ) (p : PathState) (h : HartState)
    (ok : IsSound s) (aligned : base % 4 ≡ 0) (high : base ≤ 8192) (few : p.index ≤ 1000) (says : IsAsPathSays s number base p h) where
  -- an instruction that only writes
  plain-by : (instr : Instr) (found : Option (List AbstractWrite)) (step : PathStep) → abstract_effect may_reach p.cells instr ≡ found
      → plain_step p found ≡ Some step → TakesStep s number base p step h instr
  plain-by instr None step is e = absurd (cc e)
  plain-by instr (Some writes) step is e =
      let same : goes_on p writes ≡ step = cc e in
      let P : PathStep → Type 0 = λ x. TakesStep s number base p x h instr in
      subst P same (plain-taken may_reach s number base p instr writes h ok aligned high few is says)

  plain-case : (instr : Instr) (step : PathStep) → plain_step p (abstract_effect may_reach p.cells instr) ≡ Some step → TakesStep s number base p step h instr
  plain-case instr step e = plain-by instr (abstract_effect may_reach p.cells instr) step refl e

  -- a load and a store of a word, at a port or not
  load-case : (rd rs1 : ℕ) (imm : ℤ) (found : Option Port) (step : PathStep) → port_from rs1 imm ≡ found
      → load_step may_reach s p rd rs1 imm (address 0 imm) found ≡ Some step → AreSo step.conditions → TakesStep s number base p step h (Load loads.W rd rs1 imm)
  load-case rd rs1 imm None step is e so = plain-case (Load loads.W rd rs1 imm) step e
  load-case rd rs1 imm (Some port) step is e so = port-load-taken s number base p h ok high few says rd rs1 imm port step is e so

  store-case : (rs2 rs1 : ℕ) (imm : ℤ) (found : Option Port) (step : PathStep) → port_from rs1 imm ≡ found
      → store_step may_reach s p rs2 rs1 imm (address 0 imm) found ≡ Some step → AreSo step.conditions
      → TakesStep s number base p step h (Store stores.W rs2 rs1 imm)
  store-case rs2 rs1 imm None step is e so = plain-case (Store stores.W rs2 rs1 imm) step e
  store-case rs2 rs1 imm (Some port) step is e so = port-store-taken s number base p h ok high few says rs2 rs1 imm port step is e so

  -- a CSR instruction, on mscratch or not
  csr-case : (op : CsrOp) (rd rs1 csr : ℕ) (scratch : Bool) (step : PathStep) → csr_step may_reach p (Csr op rd rs1 csr) csr scratch ≡ Some step
      → TakesStep s number base p step h (Csr op rd rs1 csr)
  csr-case op rd rs1 csr true step e = plain-case (Csr op rd rs1 csr) step e
  csr-case Rs rd zero csr false step e = csr-read-taken s number base p h high few says rd csr step e
  csr-case Rs rd (suc rs1) csr false step e = absurd (cc e)
  csr-case Rw zero rs1 csr false step e = csr-write-taken s number base p h high few says rs1 csr step e
  csr-case Rw (suc rd) rs1 csr false step e = absurd (cc e)
  csr-case Rc rd rs1 csr false step e = absurd (cc e)

  any-case : (taken : Bool) (instr : Instr) (step : PathStep) → path_step may_reach s p taken instr ≡ Some step
      → AreSo step.conditions → TakesStep s number base p step h instr
  any-case taken (Branch op rs1 rs2 off) step e so =
      branch-taken s number base p h aligned high few says op rs1 rs2 off taken step (number_of s (reg_cell p.cells rs1)) (number_of s (reg_cell p.cells rs2))
      (branch_index p off taken) refl refl refl e so
  any-case taken (Jal zero off) step e so = jump-taken s number base p h aligned high few says off step (index_after p.index off) refl e
  any-case taken (Jal (suc rd) off) step e so = plain-case (Jal (suc rd) off) step e
  any-case taken (Load loads.W rd rs1 imm) step e so = load-case rd rs1 imm (port_from rs1 imm) step refl e so
  any-case taken (Store stores.W rs2 rs1 imm) step e so = store-case rs2 rs1 imm (port_from rs1 imm) step refl e so
  any-case taken (Csr op rd rs1 csr) step e so = csr-case op rd rs1 csr (is_mscratch csr) step e
  any-case taken (Load loads.B rd rs1 imm) step e so = plain-case (Load loads.B rd rs1 imm) step e
  any-case taken (Load loads.H rd rs1 imm) step e so = plain-case (Load loads.H rd rs1 imm) step e
  any-case taken (Load loads.Bu rd rs1 imm) step e so = plain-case (Load loads.Bu rd rs1 imm) step e
  any-case taken (Load loads.Hu rd rs1 imm) step e so = plain-case (Load loads.Hu rd rs1 imm) step e
  any-case taken (Store stores.B rs2 rs1 imm) step e so = plain-case (Store stores.B rs2 rs1 imm) step e
  any-case taken (Store stores.H rs2 rs1 imm) step e so = plain-case (Store stores.H rs2 rs1 imm) step e
  any-case taken (Lui rd imm20) step e so = plain-case (Lui rd imm20) step e
  any-case taken (Auipc rd imm20) step e so = plain-case (Auipc rd imm20) step e
  any-case taken (Jalr rd rs1 imm) step e so = plain-case (Jalr rd rs1 imm) step e
  any-case taken (AluImm op rd rs1 imm) step e so = plain-case (AluImm op rd rs1 imm) step e
  any-case taken (AluReg op rd rs1 rs2) step e so = plain-case (AluReg op rd rs1 rs2) step e
  any-case taken (Fence word) step e so = plain-case (Fence word) step e
  any-case taken Ecall step e so = plain-case Ecall step e
  any-case taken Ebreak step e so = plain-case Ebreak step e
  any-case taken Mret step e so = plain-case Mret step e
  any-case taken (CsrImm op rd uimm csr) step e so = plain-case (CsrImm op rd uimm csr) step e

pub steps-taken : StepsAreTaken
steps-taken may_reach s number base p taken instr step h ok aligned high few e so says =
    any-case may_reach s number base p h ok aligned high few says taken instr step e so
