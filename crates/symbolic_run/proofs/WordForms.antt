-- Loads and stores of words are followed, where their place is reached.
use Rattle.std.proofs.Common.{◌≡◌, ℕ, ◌+◌, ◌%◌, ◌==◌, if◌then◌else◌, Bool, true, false, List, [], ◌∷◌, ◌++◌, ◌∙◌, ℤ, Some, refl, sym, ap, eqb-true, eq-eqb}
use Rattle.isa_model.specs.declared.instr.Instr.{Instr}
use Rattle.isa_model.specs.declared.instr.Instr.TheVariants.{Load, Store}
use Rattle.isa_model.specs.declared.instr.LoadKind.TheVariants as loads
use Rattle.isa_model.specs.declared.instr.StoreKind.TheVariants as stores
use Rattle.isa_model.specs.declared.latch.Latch.TheVariants as latches
use Rattle.isa_model.specs.Bits.{low_word, word_address}
use Rattle.isa_model.specs.Effect.{Write, Moved, Mixed, Rs1, Rs2, Word, Goes, Raises, to_reg, does, address}
use Rattle.hart_model.specs.declared.place.Place.{Place}
use Rattle.hart_model.specs.declared.place.Place.TheVariants as places
use Rattle.hart_model.specs.declared.tag.Cell.{Cell}
use Rattle.hart_model.specs.declared.tag.Tag.{Tag}
use Rattle.hart_model.specs.Cells.{Bases, blank}
use Rattle.hart_model.specs.Taint.{machine_tag, mixture_of}
use Rattle.hart_model.specs.Ports.{Nothing, port_at}
use Rattle.hart_model.specs.HartState.{HartState, cells_of, hart_cell}
use Rattle.hart_model.specs.Writes.{cell_writes, after_writes}
use Rattle.hart_model.specs.MachineStep.{OperandCells, operand_cells, operand_tag, machine_bases, machine_writes, machine_instr_step, after_machine_writes, after_machine_effect, by_reach, load_reach, store_reach, place_or_port}
use Rattle.symbolic_run.specs.AbstractCell.{AbstractCell, AbstractState, abstract_cell_at}
use Rattle.symbolic_run.specs.AbstractEffect.{AbstractOperands, AbstractWrite, stand_in, mixed_cell, operands_of, abstract_writes, by_effect, by_operands, reg_cell}
use Rattle.symbolic_run.specs.Concretization.{Valuation, Denotes, IsDenotedBy}
use Rattle.symbolic_run.proofs.OneWrite.{cell-denoted}
use Rattle.symbolic_run.proofs.Flows.{mixed-one}
use Rattle.symbolic_run.proofs.Rows.{AllAgree, reg-agree, rows-denote}
use Rattle.symbolic_run.proofs.Followed.{IsFollowed, reg, moved, port}
use Rattle.symbolic_run.proofs.Reached.{IsReached}

-- a row that is followed by stand-ins isn't the one of an exception
goes-abstract : (ao : AbstractOperands) (b : Bool) (ws us : List Write) (pc cause : ℕ) (all : List AbstractWrite) →
    by_effect ao (if b then does ws (Goes pc) else does us (Raises cause)) ≡ Some all → (b ≡ true) × (abstract_writes ao ws ≡ Some all)
goes-abstract ao true ws us pc cause all e = (refl, e)
goes-abstract ao false ws us pc cause all e = absurd (cc e)

-- and on the hart an aligned access goes on
goes-on : (h : HartState) (o : OperandCells) (b : Bool) (ws us : List Write) (pc cause : ℕ) → b ≡ true →
    after_machine_effect h o Nothing (if b then does ws (Goes pc) else does us (Raises cause))
    ≡ after_machine_writes Nothing pc (after_writes (machine_writes h o (does ws (Goes pc))) h)
goes-on h o true ws us pc cause e = refl
goes-on h o false ws us pc cause e = absurd (cc e)

-- the writes before the access, and the rows of a load and of a store
abbrev load_early_writes : ℕ → ℕ → List Write
load_early_writes rs1 at =
    record { to = latches.PortA; value = rs1; flow = Moved Rs1 } ∷ record { to = latches.Res; value = at; flow = Mixed (Rs1 ∷ []) } ∷ []

abbrev store_early_writes : ℕ → ℕ → ℕ → List Write
store_early_writes rs1 rs2 at =
    record { to = latches.PortA; value = rs1; flow = Moved Rs1 }
    ∷ record { to = latches.PortB; value = rs2; flow = Moved Rs2 }
    ∷ record { to = latches.Res; value = at; flow = Mixed (Rs1 ∷ []) }
    ∷ []

abbrev load_row : ℕ → ℕ → ℕ → ℕ → List Write
load_row rd rs1 at word = load_early_writes rs1 at ++ record { to = latches.Load; value = word; flow = Moved Word } ∷ to_reg rd word (Moved Word)

abbrev store_row : ℕ → ℕ → ℕ → List Write
store_row rs1 rs2 at =
    store_early_writes rs1 rs2 at
    ++ record { to = latches.Store; value = rs2; flow = Moved Rs2 }
    ∷ record { to = latches.Mem (word_address at); value = rs2; flow = Moved Rs2 }
    ∷ []

module _ (s : Valuation) (a : AbstractState) (h : HartState) (d : IsDenotedBy s a (cells_of h)) where
  abbrev cells_at : Instr → Place → OperandCells
  cells_at instr place = operand_cells h instr (Some (hart_cell h place)) blank

  abbrev known_at : Instr → Place → AbstractOperands
  known_at instr place = operands_of a instr (Some (abstract_cell_at a place))

  -- the address
  address-known : (rs1 : ℕ) (imm : ℤ) (x : AbstractCell) → mixed_cell (reg_cell a rs1 ∷ []) (address (stand_in (reg_cell a rs1)) imm) ≡ Some x →
      Denotes s x (record { value = address (hart_cell h (places.Reg rs1)).value imm; tag = mixture_of ((hart_cell h (places.Reg rs1)).tag ∷ []) })
  address-known rs1 imm x t = mixed-one s (λ v. address v imm) (reg_cell a rs1) x (hart_cell h (places.Reg rs1)) t (reg s a h d rs1)

  pub follow-load : (rd rs1 : ℕ) (imm : ℤ) (place : Place) (all : List AbstractWrite) →
      IsReached h.held (reg_cell a rs1) (hart_cell h (places.Reg rs1)).value imm place →
      by_operands (Load loads.W rd rs1 imm) (operands_of a (Load loads.W rd rs1 imm) (Some (abstract_cell_at a place))) ≡ Some all →
      IsFollowed s h (Load loads.W rd rs1 imm) all
  follow-load rd rs1 imm place all r e = record {
    writes = cell_writes bases tag row;
    denote = rows-denote s ao bases tag row stand_in_row all agree p.1;
    step = found ∙ goes-on h cells (at % 4 == 0) row (load_early_writes c.value at) (low_word (h.pc + 4)) 4 is_aligned;
  }
    where
      instr : Instr
      instr = Load loads.W rd rs1 imm

      c : Cell
      c = hart_cell h (places.Reg rs1)

      word : Cell
      word = hart_cell h place

      ao : AbstractOperands
      ao = known_at instr place

      cells : OperandCells
      cells = cells_at instr place

      bases : Bases
      bases = machine_bases h.held

      tag : Write → Tag
      tag w = machine_tag (operand_tag cells) w.flow

      at : ℕ
      at = address c.value imm

      at₂ : ℕ
      at₂ = address (stand_in (reg_cell a rs1)) imm

      row : List Write
      row = load_row rd c.value at word.value

      stand_in_row : List Write
      stand_in_row = load_row rd (stand_in (reg_cell a rs1)) at₂ (stand_in (abstract_cell_at a place))

      p : ((at₂ % 4 == 0) ≡ true) × (abstract_writes ao stand_in_row ≡ Some all)
      p = goes-abstract ao (at₂ % 4 == 0) stand_in_row (load_early_writes (stand_in (reg_cell a rs1)) at₂) 4 4 all e

      is_aligned : (at % 4 == 0) ≡ true
      is_aligned = eq-eqb (at % 4) 0 (r.aligned (eqb-true (at₂ % 4) 0 p.0))

      found : machine_instr_step h instr ≡ by_reach h instr (load_reach h loads.W (place_or_port (Some place) (port_at at)))
      found = ap (λ o. by_reach h instr (load_reach h loads.W (place_or_port o (port_at at)))) r.is_place

      loaded : (x : AbstractCell) → Some (abstract_cell_at a place) ≡ Some x → Denotes s x word
      loaded x t = moved s a h d (abstract_cell_at a place) word x (cell-denoted s a h place r.spoken d) t

      agree : AllAgree s ao bases tag row stand_in_row
      agree = (
        record { place = refl; cell = port s a h d rs1 },
        (
          record { place = refl; cell = address-known rs1 imm },
          (
            record { place = refl; cell = loaded },
            reg-agree s ao bases tag rd word.value (stand_in (abstract_cell_at a place)) (Moved Word) loaded,
          ),
        ),
      )

  pub follow-store : (rs2 rs1 : ℕ) (imm : ℤ) (place : Place) (all : List AbstractWrite) →
      IsReached h.held (reg_cell a rs1) (hart_cell h (places.Reg rs1)).value imm place →
      by_operands (Store stores.W rs2 rs1 imm) (operands_of a (Store stores.W rs2 rs1 imm) (Some (abstract_cell_at a place))) ≡ Some all →
      IsFollowed s h (Store stores.W rs2 rs1 imm) all
  follow-store rs2 rs1 imm place all r e = record {
    writes = cell_writes bases tag row;
    denote = rows-denote s ao bases tag row stand_in_row all agree p.1;
    step = found ∙ goes-on h cells (at % 4 == 0) row (store_early_writes c.value k.value at) (low_word (h.pc + 4)) 6 is_aligned;
  }
    where
      instr : Instr
      instr = Store stores.W rs2 rs1 imm

      c : Cell
      c = hart_cell h (places.Reg rs1)

      k : Cell
      k = hart_cell h (places.Reg rs2)

      ao : AbstractOperands
      ao = known_at instr place

      cells : OperandCells
      cells = cells_at instr place

      bases : Bases
      bases = machine_bases h.held

      tag : Write → Tag
      tag w = machine_tag (operand_tag cells) w.flow

      at : ℕ
      at = address c.value imm

      at₂ : ℕ
      at₂ = address (stand_in (reg_cell a rs1)) imm

      row : List Write
      row = store_row c.value k.value at

      stand_in_row : List Write
      stand_in_row = store_row (stand_in (reg_cell a rs1)) (stand_in (reg_cell a rs2)) at₂

      p : ((at₂ % 4 == 0) ≡ true) × (abstract_writes ao stand_in_row ≡ Some all)
      p = goes-abstract ao (at₂ % 4 == 0) stand_in_row (store_early_writes (stand_in (reg_cell a rs1)) (stand_in (reg_cell a rs2)) at₂) 4 6 all e

      is_aligned : (at % 4 == 0) ≡ true
      is_aligned = eq-eqb (at % 4) 0 (r.aligned (eqb-true (at₂ % 4) 0 p.0))

      found : machine_instr_step h instr ≡ by_reach h instr (store_reach h stores.W k (place_or_port (Some place) (port_at at)))
      found = ap (λ o. by_reach h instr (store_reach h stores.W k (place_or_port o (port_at at)))) r.is_place

      agree : AllAgree s ao bases tag row stand_in_row
      agree = (
        record { place = refl; cell = port s a h d rs1 },
        (
          record { place = refl; cell = port s a h d rs2 },
          (
            record { place = refl; cell = address-known rs1 imm },
            (
              record { place = refl; cell = port s a h d rs2 },
              (record { place = r.is_place ∙ sym r.stand_in_place; cell = port s a h d rs2 }, tt),
            ),
          ),
        ),
      )
