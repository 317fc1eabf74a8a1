-- The forms on the CSR mscratch are followed.
use Rattle.std.proofs.Common.{◌≡◌, ℕ, ◌+◌, ◌==◌, if◌then◌else◌, Bool, true, false, ◌&&◌, List, [], ◌∷◌, ◌++◌, ◌∙◌, Some, None, refl}
use Rattle.isa_model.specs.declared.instr.Instr.{Instr}
use Rattle.isa_model.specs.declared.instr.Instr.TheVariants.{Csr}
use Rattle.isa_model.specs.declared.instr.CsrOp.{CsrOp}
use Rattle.isa_model.specs.declared.instr.CsrOp.TheVariants.{Rw, Rs, Rc}
use Rattle.isa_model.specs.declared.latch.Latch.TheVariants as latches
use Rattle.isa_model.specs.Bits.{low_word}
use Rattle.isa_model.specs.Arithmetic.{csr_result}
use Rattle.isa_model.specs.Effect.{Effect, Write, Flow, Moved, Rs1, OldCsr, to_reg, port_a, csr_effect, csr_flow, is_csr_written, effect_of}
use Rattle.hart_model.specs.declared.place.Place.TheVariants as places
use Rattle.hart_model.specs.declared.tag.Tag.{Tag}
use Rattle.hart_model.specs.Cells.{Bases}
use Rattle.hart_model.specs.Csrs.{csr_cell, mscratch}
use Rattle.hart_model.specs.Taint.{machine_tag}
use Rattle.hart_model.specs.Ports.{Nothing}
use Rattle.hart_model.specs.HartState.{HartState, cells_of, hart_cell}
use Rattle.hart_model.specs.Writes.{after_writes}
use Rattle.hart_model.specs.MachineStep.{OperandCells, operand_cells, operand_tag, machine_bases, machine_effect, machine_writes, machine_instr_step, after_machine_writes, after_machine_effect, operand_values}
use Rattle.symbolic_run.specs.AbstractCell.{AbstractCell, AbstractState}
use Rattle.symbolic_run.specs.AbstractEffect.{AbstractOperands, AbstractWrite, stand_in, stand_ins, operands_of, cell_of_flow, by_operands, reg_cell}
use Rattle.symbolic_run.specs.Concretization.{Valuation, Denotes, IsDenotedBy}
use Rattle.symbolic_run.proofs.Flows.{mixed-two}
use Rattle.symbolic_run.proofs.Rows.{AllAgree, if-agree, reg-agree, then-agree, append-agree, rows-denote}
use Rattle.symbolic_run.proofs.Followed.{IsFollowed, reg, moved, port}

-- the row by stand-ins
abbrev stand_in_row : AbstractState → Instr → List Write
stand_in_row a instr = (effect_of instr 0 (stand_ins (operands_of a instr None))).writes

-- the cells and the effect of an instruction on mscratch
abbrev scr_cells : HartState → Instr → OperandCells
scr_cells h instr = operand_cells h instr None h.csrs.mscratch

abbrev scr_effect : HartState → Instr → Bool → ℕ → ℕ → Flow → Effect
scr_effect h instr written rd new flow =
    csr_effect (port_a (operand_values (scr_cells h instr))) rd mscratch h.pc h.csrs.mscratch.value written new flow

module _ (s : Valuation) (a : AbstractState) (h : HartState) (d : IsDenotedBy s a (cells_of h)) where
  scr : Denotes s a.scr h.csrs.mscratch
  scr = d.scr

  -- the value that goes into mscratch
  new-scr : (op : CsrOp) (rd rs1 : ℕ) (x : AbstractCell) →
      cell_of_flow (operands_of a (Csr op rd rs1 mscratch) None) (csr_flow op (Rs1 ∷ []) (Moved Rs1))
      (csr_result op (stand_in a.scr) (stand_in (reg_cell a rs1)))
      ≡ Some x →
      Denotes s x (record {
        value = csr_result op h.csrs.mscratch.value (hart_cell h (places.Reg rs1)).value;
        tag = machine_tag (operand_tag (scr_cells h (Csr op rd rs1 mscratch))) (csr_flow op (Rs1 ∷ []) (Moved Rs1));
      })
  new-scr Rw rd rs1 x t = port s a h d rs1 x t
  new-scr Rs rd rs1 x t = mixed-two s (csr_result Rs) a.scr (reg_cell a rs1) x h.csrs.mscratch (hart_cell h (places.Reg rs1)) t scr (reg s a h d rs1)
  new-scr Rc rd rs1 x t = mixed-two s (csr_result Rc) a.scr (reg_cell a rs1) x h.csrs.mscratch (hart_cell h (places.Reg rs1)) t scr (reg s a h d rs1)

  old-scr : (x : AbstractCell) → Some a.scr ≡ Some x → Denotes s x h.csrs.mscratch
  old-scr x t = moved s a h d a.scr h.csrs.mscratch x scr t

  -- such an instruction goes on, with its writes, whether or not it writes mscratch
  scr-step : (instr : Instr) (written : Bool) (rd new : ℕ) (flow : Flow) →
      after_machine_effect h (scr_cells h instr) Nothing (scr_effect h instr written rd new flow)
      ≡ after_machine_writes Nothing (low_word (h.pc + 4)) (after_writes (machine_writes h (scr_cells h instr) (scr_effect h instr written rd new flow)) h)
  scr-step instr true rd new flow = refl
  scr-step instr false rd new flow = refl

  csr-reached : (op : CsrOp) (rd rs1 : ℕ) → machine_instr_step h (Csr op rd rs1 mscratch)
      ≡ after_machine_effect h (scr_cells h (Csr op rd rs1 mscratch)) Nothing (machine_effect h (Csr op rd rs1 mscratch) (scr_cells h (Csr op rd rs1 mscratch)))
  unfolding csr_cell
  csr-reached op rd rs1 = refl

  pub follow-mscratch : (op : CsrOp) (rd rs1 : ℕ) (all : List AbstractWrite) →
      by_operands (Csr op rd rs1 mscratch) (operands_of a (Csr op rd rs1 mscratch) None) ≡ Some all → IsFollowed s h (Csr op rd rs1 mscratch) all
  follow-mscratch op rd rs1 all e = record {
    writes = machine_writes h cells (machine_effect h (Csr op rd rs1 mscratch) cells);
    denote = rows-denote s ao bases tag (machine_effect h (Csr op rd rs1 mscratch) cells).writes (stand_in_row a (Csr op rd rs1 mscratch)) all agree e;
    step = csr-reached op rd rs1 ∙ scr-step (Csr op rd rs1 mscratch) (is_csr_written op rs1) rd new (csr_flow op (Rs1 ∷ []) (Moved Rs1));
  }
    where
      ao : AbstractOperands
      ao = operands_of a (Csr op rd rs1 mscratch) None

      bases : Bases
      bases = machine_bases h.held

      cells : OperandCells
      cells = scr_cells h (Csr op rd rs1 mscratch)

      tag : Write → Tag
      tag w = machine_tag (operand_tag cells) w.flow

      new : ℕ
      new = csr_result op h.csrs.mscratch.value (hart_cell h (places.Reg rs1)).value

      old₁ : ℕ
      old₁ = h.csrs.mscratch.value

      old₂ : ℕ
      old₂ = stand_in a.scr

      new₂ : ℕ
      new₂ = csr_result op (stand_in a.scr) (stand_in (reg_cell a rs1))

      flow : Flow
      flow = csr_flow op (Rs1 ∷ []) (Moved Rs1)

      -- the writes of Res and of Scr, on the hart and by stand-ins
      res_write : ℕ → List Write
      res_write old = if rd == 0 then [] else record { to = latches.Res; value = old; flow = Moved OldCsr } ∷ []

      scr_write : ℕ → List Write
      scr_write value = if is_csr_written op rs1 && true then record { to = latches.Scr; value = value; flow = flow } ∷ [] else []

      res-agrees : AllAgree s ao bases tag (res_write old₁) (res_write old₂)
      res-agrees =
          if-agree s ao bases tag (record { to = latches.Res; value = old₁; flow = Moved OldCsr })
          (record { to = latches.Res; value = old₂; flow = Moved OldCsr })
          (rd == 0)
          (record { place = refl; cell = old-scr })

      scr-agrees : AllAgree s ao bases tag (scr_write new) (scr_write new₂)
      scr-agrees =
          then-agree s ao bases tag (record { to = latches.Scr; value = new; flow = flow }) (record { to = latches.Scr; value = new₂; flow = flow })
          (is_csr_written op rs1 && true)
          (record { place = refl; cell = new-scr op rd rs1 })

      agree : AllAgree s ao bases tag (machine_effect h (Csr op rd rs1 mscratch) cells).writes (stand_in_row a (Csr op rd rs1 mscratch))
      agree = (
        record { place = refl; cell = port s a h d rs1 },
        append-agree s ao bases tag (res_write old₁ ++ scr_write new) (res_write old₂ ++ scr_write new₂)
            (to_reg rd old₁ (Moved OldCsr))
            (to_reg rd old₂ (Moved OldCsr))
            (append-agree s ao bases tag (res_write old₁) (res_write old₂) (scr_write new) (scr_write new₂) res-agrees scr-agrees)
            (reg-agree s ao bases tag rd old₁ old₂ (Moved OldCsr) old-scr),
      )
