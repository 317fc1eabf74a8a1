-- What a step of a path leaves of the CSRs and of what is held: each kind of step, once.
use Rattle.std.proofs.Common.{◌≡◌, ℕ, zero, suc, Bool, true, false, ◌&&◌, not, ℤ, List, [], ◌∷◌, Option, Some, None, is_none, get_or, ◌||◌, if◌then◌else◌, ◌==◌, refl, subst}
use Rattle.std.proofs.lemmas.Bool.{and_parts}
use Rattle.isa_model.specs.declared.instr.Instr.{Instr}
use Rattle.isa_model.specs.declared.instr.Instr.TheVariants.{Jal, Branch, Load, Store, Csr}
use Rattle.isa_model.specs.declared.instr.Cmp.{Cmp}
use Rattle.isa_model.specs.declared.instr.CsrOp.{CsrOp}
use Rattle.isa_model.specs.declared.instr.CsrOp.TheVariants.{Rw, Rs, Rc}
use Rattle.isa_model.specs.declared.instr.LoadKind.TheVariants as loads
use Rattle.isa_model.specs.declared.instr.StoreKind.TheVariants as stores
use Rattle.isa_model.specs.declared.ends.End.{End}
use Rattle.isa_model.specs.declared.ends.End.TheVariants.{Exited}
use Rattle.isa_model.specs.Effect.{address, is_mscratch}
use Rattle.hart_model.specs.declared.port.Port.{Port}
use Rattle.hart_model.specs.declared.port.Port.TheVariants.{Out, Tape, TapeLeft, Exit, Fault, Ack, OutLeft, Take, Give}
use Rattle.hart_model.specs.Csrs.{CsrFile, with_public_csr, mepc, mcause, is_pmpaddr}
use Rattle.hart_model.specs.declared.tag.Cell.{Cell}
use Rattle.hart_model.specs.Context.{ContextState, pc_word}
use Rattle.hart_model.specs.Ports.{Outputs, AdvancesTape, Ends}
use Rattle.hart_model.specs.MachineStep.{held_after_side}
use Rattle.symbolic_run.specs.AbstractCell.{AbstractCell, Zero, SlotAddress, PublicAny, PublicNumber, TaskReg, OldSlotWord, GivenCell, AnyTagged, is_tagged}
use Rattle.symbolic_run.specs.AbstractEffect.{AbstractWrite, reg_cell, abstract_effect}
use Rattle.symbolic_run.specs.Concretization.{Valuation, number_of}
use Rattle.symbolic_run.specs.SymbolicPath.{PathState, PathStep, path_step}
use Rattle.symbolic_run.specs.SymbolicPath as paths

-- a fact of the CSRs and of what is held after a step, where there is one
abbrev pub StepHas : (CsrFile → ContextState → Type 0) → Option PathStep → Type 0
StepHas Q None = Unit {0}
StepHas Q (Some step) = Q step.csrs step.held

-- A step leaves them as they were, takes a word of the tape, puts out a word, ends a task that has no end, or writes a CSR.
pub record IsLeft (Q : CsrFile → ContextState → Type 0) (p : PathState) : Type 0 where
  pub stays : Q p.csrs p.held
  pub advances : Q p.csrs (held_after_side AdvancesTape p.held)
  pub outputs : (word : ℕ) → Q p.csrs (held_after_side (Outputs word) p.held)
  pub ends : (end : End) → is_none p.held.end ≡ true → Q p.csrs (held_after_side (Ends end) p.held)
  pub csr_written : (csr value : ℕ) (d : CsrFile) → with_public_csr p.csrs csr value ≡ Some d → Q d p.held

module _ (Q : CsrFile → ContextState → Type 0) (p : PathState) (left : IsLeft Q p) where
  plain_has : (o : Option (List AbstractWrite)) → StepHas Q (paths.plain_step p o)
  plain_has None = tt
  plain_has (Some writes) = left.stays

  jump_has : (o : Option ℕ) → StepHas Q (paths.jump_step p o)
  jump_has None = tt
  jump_has (Some index) = left.stays

  branch_has : (op : Cmp) (rs1 rs2 : ℕ) (taken : Bool) (a b index : Option ℕ) → StepHas Q (paths.branch_step p op rs1 rs2 taken a b index)
  branch_has op rs1 rs2 taken (Some a) (Some b) (Some index) = left.stays
  branch_has op rs1 rs2 taken (Some a) (Some b) None = tt
  branch_has op rs1 rs2 taken (Some a) None index = tt
  branch_has op rs1 rs2 taken None b index = tt

  load_port_has : (rd rs1 at : ℕ) (word : Cell) (o : Option Port) → StepHas Q (paths.port_load_step p rd rs1 at word o)
  load_port_has rd rs1 at word None = tt
  load_port_has rd rs1 at word (Some Tape) = left.advances
  load_port_has rd rs1 at word (Some TapeLeft) = left.stays
  load_port_has rd rs1 at word (Some OutLeft) = left.stays
  load_port_has rd rs1 at word (Some Take) = tt
  load_port_has rd rs1 at word (Some Give) = tt
  load_port_has rd rs1 at word (Some Out) = tt
  load_port_has rd rs1 at word (Some Exit) = tt
  load_port_has rd rs1 at word (Some Fault) = tt
  load_port_has rd rs1 at word (Some Ack) = tt

  end_has : (writes : List AbstractWrite) (may_end : Bool) (o : Option End) → (may_end ≡ true → is_none p.held.end ≡ true)
      → StepHas Q (paths.end_step p writes may_end o)
  end_has writes true (Some end) none = left.ends end (none refl)
  end_has writes true None none = tt
  end_has writes false o none = tt

  ack_has : (writes : List AbstractWrite) (tagged : Bool) → StepHas Q (if tagged then None else Some (paths.goes_on p writes))
  ack_has writes true = tt
  ack_has writes false = left.stays

  store_port_has : (s : Valuation) (writes : List AbstractWrite) (cell : AbstractCell) (value : Option ℕ) (o : Option Port)
      → StepHas Q (paths.port_store_step s p writes cell value o)
  store_port_has s writes cell None o = tt
  store_port_has s writes cell (Some value) None = tt
  store_port_has s writes cell (Some value) (Some Out) = left.outputs value
  store_port_has s writes cell (Some value) (Some Exit) = end_has writes (is_none p.held.end) (Some (Exited value)) (λ none. none)
  store_port_has s writes cell (Some value) (Some Fault) =
      end_has writes (is_none p.held.end && not (is_tagged cell))
      (paths.end_of_code (number_of s (get_or p.cells.slot pc_word AnyTagged)) (number_of s (get_or p.cells.slot 17 AnyTagged)) value)
      (λ both. let parts = and_parts (is_none p.held.end) (not (is_tagged cell)) both in parts.0)
  store_port_has s writes cell (Some value) (Some Ack) = ack_has writes (is_tagged cell)
  store_port_has s writes cell (Some value) (Some Tape) = tt
  store_port_has s writes cell (Some value) (Some TapeLeft) = tt
  store_port_has s writes cell (Some value) (Some OutLeft) = tt
  store_port_has s writes cell (Some value) (Some Take) = tt
  store_port_has s writes cell (Some value) (Some Give) = tt

  load_has : (may_reach : ℕ → Bool) (s : Valuation) (rd rs1 : ℕ) (imm : ℤ) (at : ℕ) (o : Option Port)
      → StepHas Q (paths.load_step may_reach s p rd rs1 imm at o)
  load_has may_reach s rd rs1 imm at None = plain_has (abstract_effect may_reach p.cells (Load loads.W rd rs1 imm))
  load_has may_reach s rd rs1 imm at (Some port) = load_port_has rd rs1 at s.given_cell (Some port)

  store_has : (may_reach : ℕ → Bool) (s : Valuation) (rs2 rs1 : ℕ) (imm : ℤ) (at : ℕ) (o : Option Port)
      → StepHas Q (paths.store_step may_reach s p rs2 rs1 imm at o)
  store_has may_reach s rs2 rs1 imm at None = plain_has (abstract_effect may_reach p.cells (Store stores.W rs2 rs1 imm))
  store_has may_reach s rs2 rs1 imm at (Some port) =
      store_port_has s (paths.store_writes p.cells rs2 rs1 at) (reg_cell p.cells rs2) (number_of s (reg_cell p.cells rs2)) (Some port)

  csrs_has : (writes : List AbstractWrite) (o : Option CsrFile) → ((d : CsrFile) → o ≡ Some d → Q d p.held) → StepHas Q (paths.csrs_step p writes o)
  csrs_has writes None written = tt
  csrs_has writes (Some d) written = written d refl

  read_has : (rd csr : ℕ) (is_epc is_cause : Bool)
      → StepHas Q (if is_epc then paths.read_step p rd p.csrs.mepc else if is_cause then paths.read_step p rd p.csrs.mcause else None)
  read_has rd csr true is_cause = left.stays
  read_has rd csr false true = left.stays
  read_has rd csr false false = tt

  write_has : (rs1 csr : ℕ) (is_one : Bool) (cell : AbstractCell) → StepHas Q (paths.csr_write_step p rs1 csr is_one cell)
  write_has rs1 csr true (PublicNumber value) =
      csrs_has (paths.port_a_write p.cells rs1 ∷ []) (with_public_csr p.csrs csr value) (left.csr_written csr value)
  write_has rs1 csr true Zero = tt
  write_has rs1 csr true SlotAddress = tt
  write_has rs1 csr true PublicAny = tt
  write_has rs1 csr true (TaskReg number) = tt
  write_has rs1 csr true (OldSlotWord index) = tt
  write_has rs1 csr true GivenCell = tt
  write_has rs1 csr true AnyTagged = tt
  write_has rs1 csr false cell = tt

  csr_has : (may_reach : ℕ → Bool) (op : CsrOp) (rd rs1 csr : ℕ) (scratch : Bool)
      → StepHas Q (paths.csr_step may_reach p (Csr op rd rs1 csr) csr scratch)
  csr_has may_reach op rd rs1 csr true = plain_has (abstract_effect may_reach p.cells (Csr op rd rs1 csr))
  csr_has may_reach Rs rd zero csr false = read_has rd csr (csr == mepc) (csr == mcause)
  csr_has may_reach Rs rd (suc rs1) csr false = tt
  csr_has may_reach Rw zero rs1 csr false = write_has rs1 csr ((csr == mepc) || is_pmpaddr csr) (reg_cell p.cells rs1)
  csr_has may_reach Rw (suc rd) rs1 csr false = tt
  csr_has may_reach Rc rd rs1 csr false = tt

  instr_has : (may_reach : ℕ → Bool) (s : Valuation) (taken : Bool) (instr : Instr) → StepHas Q (path_step may_reach s p taken instr)
  instr_has may_reach s taken (Branch op rs1 rs2 off) =
      branch_has op rs1 rs2 taken (number_of s (reg_cell p.cells rs1)) (number_of s (reg_cell p.cells rs2)) (paths.branch_index p off taken)
  instr_has may_reach s taken (Jal zero off) = jump_has (paths.index_after p.index off)
  instr_has may_reach s taken (Jal (suc rd) off) = plain_has (abstract_effect may_reach p.cells (Jal (suc rd) off))
  instr_has may_reach s taken (Load loads.W rd rs1 imm) = load_has may_reach s rd rs1 imm (address 0 imm) (paths.port_from rs1 imm)
  instr_has may_reach s taken (Load kind rd rs1 imm) = plain_has (abstract_effect may_reach p.cells (Load kind rd rs1 imm))
  instr_has may_reach s taken (Store stores.W rs2 rs1 imm) = store_has may_reach s rs2 rs1 imm (address 0 imm) (paths.port_from rs1 imm)
  instr_has may_reach s taken (Store kind rs2 rs1 imm) = plain_has (abstract_effect may_reach p.cells (Store kind rs2 rs1 imm))
  instr_has may_reach s taken (Csr op rd rs1 csr) = csr_has may_reach op rd rs1 csr (is_mscratch csr)
  instr_has may_reach s taken instr = plain_has (abstract_effect may_reach p.cells instr)

  -- A step of a path has what each way to leave the CSRs and what is held has.
  pub step-has : (may_reach : ℕ → Bool) (s : Valuation) (taken : Bool) (instr : Instr) (step : PathStep)
      → path_step may_reach s p taken instr ≡ Some step → Q step.csrs step.held
  step-has may_reach s taken instr step is = subst (StepHas Q) is (instr_has may_reach s taken instr)
