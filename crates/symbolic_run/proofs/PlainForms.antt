-- The forms that need no word of memory and no CSR are followed.
use Rattle.std.proofs.Common.{◌≡◌, ℕ, ◌+◌, ◌*◌, ◌^◌, if◌then◌else◌, List, [], ◌∷◌, ℤ, Some, None, refl}
use Rattle.isa_model.specs.declared.instr.Instr.{Instr}
use Rattle.isa_model.specs.declared.instr.Instr.TheVariants.{Lui, AluImm, AluReg}
use Rattle.isa_model.specs.declared.instr.Alu.{Alu}
use Rattle.isa_model.specs.Bits.{low_word, two_complement}
use Rattle.isa_model.specs.Arithmetic.{alu_of}
use Rattle.isa_model.specs.declared.latch.Latch.TheVariants as latches
use Rattle.isa_model.specs.Effect.{Write, Flow, Constant, Mixed, Rs1, Rs2, effect_of, is_of_multiplier, to_reg}
use Rattle.hart_model.specs.declared.place.Place.TheVariants as places
use Rattle.hart_model.specs.declared.tag.Cell.{Cell}
use Rattle.hart_model.specs.declared.tag.Tag.{Tag}
use Rattle.hart_model.specs.Cells.{blank}
use Rattle.hart_model.specs.Taint.{machine_tag, mixture_of}
use Rattle.hart_model.specs.Ports.{Nothing}
use Rattle.hart_model.specs.HartState.{HartState, cells_of, hart_cell}
use Rattle.hart_model.specs.Writes.{CellWrite, after_writes}
use Rattle.hart_model.specs.MachineStep.{OperandCells, operand_cells, operand_tag, machine_bases, machine_effect, machine_writes, machine_instr_step, after_machine_writes}
use Rattle.symbolic_run.specs.AbstractCell.{AbstractCell, AbstractState}
use Rattle.symbolic_run.specs.AbstractEffect.{AbstractOperands, AbstractWrite, stand_in, stand_ins, mixed_cell, operands_of, cell_of_flow, abstract_writes, by_operands, reg_cell}
use Rattle.symbolic_run.specs.Concretization.{Valuation, Denotes, IsDenotedBy}
use Rattle.symbolic_run.proofs.Flows.{mixed-one, mixed-two}
use Rattle.symbolic_run.proofs.Rows.{AllAgree, reg-agree, then-agree, append-agree, rows-denote}
use Rattle.symbolic_run.proofs.Followed.{IsFollowed, reg, constant, port}

-- the row of an instruction on a hart, with its tags and its writes, and its row by stand-ins
abbrev plain_cells : HartState → Instr → OperandCells
plain_cells h instr = operand_cells h instr None blank

abbrev tag_in : HartState → Instr → Write → Tag
tag_in h instr w = machine_tag (operand_tag (plain_cells h instr)) w.flow

abbrev row : HartState → Instr → List Write
row h instr = (machine_effect h instr (plain_cells h instr)).writes

abbrev row_writes : HartState → Instr → List CellWrite
row_writes h instr = machine_writes h (plain_cells h instr) (machine_effect h instr (plain_cells h instr))

abbrev stand_in_row : AbstractState → Instr → List Write
stand_in_row a instr = (effect_of instr 0 (stand_ins (operands_of a instr None))).writes

module _ (s : Valuation) (a : AbstractState) (h : HartState) (d : IsDenotedBy s a (cells_of h)) where
  abbrev known : Instr → AbstractOperands
  known instr = operands_of a instr None

  -- the row on the hart agrees with the row by stand-ins
  abbrev RowsAgree : Instr → Type 0
  RowsAgree instr = AllAgree s (known instr) (machine_bases h.held) (tag_in h instr) (row h instr) (stand_in_row a instr)

  -- an instruction that needs no word of memory, by its row and the row by stand-ins
  plain : (instr : Instr) (all : List AbstractWrite) → RowsAgree instr → abstract_writes (known instr) (stand_in_row a instr) ≡ Some all →
      machine_instr_step h instr ≡ after_machine_writes Nothing (low_word (h.pc + 4)) (after_writes (row_writes h instr) h) →
      IsFollowed s h instr all
  plain instr all g e step = record {
    writes = row_writes h instr;
    denote = rows-denote s (known instr) (machine_bases h.held) (tag_in h instr) (row h instr) (stand_in_row a instr) all g e;
    step = step;
  }

  -- the write of a result to a register, with the value on the hart and the one by stand-ins
  result-agrees : (instr : Instr) (rd x y : ℕ) (flow : Flow) →
      ((z : AbstractCell) → cell_of_flow (known instr) flow y ≡ Some z
      → Denotes s z (record { value = x; tag = tag_in h instr (record { to = latches.Reg rd; value = x; flow = flow }) })) →
      AllAgree s (known instr) (machine_bases h.held) (tag_in h instr) (to_reg rd x flow) (to_reg rd y flow)
  result-agrees instr rd x y flow g = reg-agree s (known instr) (machine_bases h.held) (tag_in h instr) rd x y flow g

  pub follow-lui : (rd imm20 : ℕ) (all : List AbstractWrite) → by_operands (Lui rd imm20) (operands_of a (Lui rd imm20) None) ≡ Some all →
      IsFollowed s h (Lui rd imm20) all
  follow-lui rd imm20 all e = plain (Lui rd imm20) all agree e refl
    where
      value : ℕ
      value = 2 ^ 12 * imm20

      agree : RowsAgree (Lui rd imm20)
      agree = (
        record { place = refl; cell = constant s a h d value },
        result-agrees (Lui rd imm20) rd value value Constant (constant s a h d value),
      )

  pub follow-alu-imm : (op : Alu) (rd rs1 : ℕ) (imm : ℤ) (all : List AbstractWrite) →
      by_operands (AluImm op rd rs1 imm) (operands_of a (AluImm op rd rs1 imm) None) ≡ Some all → IsFollowed s h (AluImm op rd rs1 imm) all
  follow-alu-imm op rd rs1 imm all e = plain instr all agree e refl
    where
      instr : Instr
      instr = AluImm op rd rs1 imm

      c : Cell
      c = hart_cell h (places.Reg rs1)

      known_c : AbstractCell
      known_c = reg_cell a rs1

      result : ℕ → ℕ
      result v = alu_of op v (two_complement 32 imm)

      value : (x : AbstractCell) → mixed_cell (known_c ∷ []) (result (stand_in known_c)) ≡ Some x →
          Denotes s x (record { value = result c.value; tag = mixture_of (c.tag ∷ []) })
      value x t = mixed-one s result known_c x c t (reg s a h d rs1)

      agree : RowsAgree instr
      agree = (
        record { place = refl; cell = port s a h d rs1 },
        (
          record { place = refl; cell = value },
          result-agrees instr rd (result c.value) (result (stand_in known_c)) (Mixed (Rs1 ∷ [])) value,
        ),
      )

  pub follow-alu-reg : (op : Alu) (rd rs1 rs2 : ℕ) (all : List AbstractWrite) →
      by_operands (AluReg op rd rs1 rs2) (operands_of a (AluReg op rd rs1 rs2) None) ≡ Some all → IsFollowed s h (AluReg op rd rs1 rs2) all
  follow-alu-reg op rd rs1 rs2 all e = plain instr all agree e refl
    where
      instr : Instr
      instr = AluReg op rd rs1 rs2

      c : Cell
      c = hart_cell h (places.Reg rs1)

      k : Cell
      k = hart_cell h (places.Reg rs2)

      known_c : AbstractCell
      known_c = reg_cell a rs1

      known_k : AbstractCell
      known_k = reg_cell a rs2

      value : (x : AbstractCell) → mixed_cell (known_c ∷ known_k ∷ []) (alu_of op (stand_in known_c) (stand_in known_k)) ≡ Some x →
          Denotes s x (record { value = alu_of op c.value k.value; tag = mixture_of (c.tag ∷ k.tag ∷ []) })
      value x t = mixed-two s (alu_of op) known_c known_k x c k t (reg s a h d rs1) (reg s a h d rs2)

      flow : Flow
      flow = Mixed (Rs1 ∷ Rs2 ∷ [])

      x : ℕ
      x = alu_of op c.value k.value

      y : ℕ
      y = alu_of op (stand_in known_c) (stand_in known_k)

      -- the write of the multiplier's latch, where the operation is one of it
      multiplier_write : ℕ → List Write
      multiplier_write v = if is_of_multiplier op then record { to = latches.Mul; value = v; flow = flow } ∷ [] else []

      multiplier-agrees : AllAgree s (known instr) (machine_bases h.held) (tag_in h instr) (multiplier_write x) (multiplier_write y)
      multiplier-agrees =
          then-agree s (known instr) (machine_bases h.held) (tag_in h instr) (record { to = latches.Mul; value = x; flow = flow })
          (record { to = latches.Mul; value = y; flow = flow })
          (is_of_multiplier op)
          (record { place = refl; cell = value })

      agree : RowsAgree instr
      agree = (
        record { place = refl; cell = port s a h d rs1 },
        (
          record { place = refl; cell = port s a h d rs2 },
          append-agree s (known instr) (machine_bases h.held) (tag_in h instr) (multiplier_write x) (multiplier_write y)
              (record { to = latches.Res; value = x; flow = flow } ∷ to_reg rd x flow)
              (record { to = latches.Res; value = y; flow = flow } ∷ to_reg rd y flow)
              multiplier-agrees
              (record { place = refl; cell = value }, result-agrees instr rd x y flow value),
        ),
      )
