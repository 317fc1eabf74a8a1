-- What it is that an instruction is followed over abstract cells: it makes writes of which the abstract ones speak, and does nothing else.
use Rattle.std.proofs.Common.{◌≡◌, ℕ, ◌+◌, List, Some, refl, subst}
use Rattle.isa_model.specs.declared.instr.Instr.{Instr}
use Rattle.isa_model.specs.Bits.{low_word}
use Rattle.hart_model.specs.declared.place.Place.TheVariants as places
use Rattle.hart_model.specs.declared.tag.Cell.{Cell}
use Rattle.hart_model.specs.Csrs.{public}
use Rattle.hart_model.specs.Ports.{Nothing}
use Rattle.hart_model.specs.HartState.{HartState, cells_of, hart_cell}
use Rattle.hart_model.specs.Writes.{CellWrite, after_writes}
use Rattle.hart_model.specs.MachineStep.{machine_instr_step, after_machine_writes}
use Rattle.symbolic_run.specs.AbstractCell.{AbstractCell, AbstractState, PublicNumber}
use Rattle.symbolic_run.specs.AbstractEffect.{AbstractWrite, reg_cell}
use Rattle.symbolic_run.specs.Concretization.{Valuation, Denotes, IsDenotedBy}
use Rattle.symbolic_run.specs.Writes.{WritesDenote}
use Rattle.symbolic_run.proofs.OneWrite.{cell-denoted}

-- the conclusion for an instruction
pub record IsFollowed (s : Valuation) (h : HartState) (instr : Instr) (all : List AbstractWrite) : Type 0 where
  pub writes : List CellWrite
  pub denote : WritesDenote s all writes
  pub step : machine_instr_step h instr ≡ after_machine_writes Nothing (low_word (h.pc + 4)) (after_writes writes h)

module _ (s : Valuation) (a : AbstractState) (h : HartState) (d : IsDenotedBy s a (cells_of h)) where
  -- what is known of a register
  pub reg : (r : ℕ) → Denotes s (reg_cell a r) (hart_cell h (places.Reg r))
  reg r = cell-denoted s a h (places.Reg r) tt d

  -- a constant, and a cell that is moved
  pub constant : (v : ℕ) (x : AbstractCell) → Some (PublicNumber v) ≡ Some x → Denotes s x (public v)
  constant v x e =
      let same : PublicNumber v ≡ x = cc e in
      let P : AbstractCell → Type 0 = λ q. Denotes s q (public v) in
      subst P same refl

  pub moved : (y : AbstractCell) (c : Cell) (x : AbstractCell) → Denotes s y c → Some y ≡ Some x → Denotes s x c
  moved y c x t e =
      let same : y ≡ x = cc e in
      let P : AbstractCell → Type 0 = λ q. Denotes s q c in
      subst P same t

  -- a register that is moved
  pub port : (r : ℕ) (x : AbstractCell) → Some (reg_cell a r) ≡ Some x → Denotes s x (hart_cell h (places.Reg r))
  port r x t = moved (reg_cell a r) (hart_cell h (places.Reg r)) x (reg r) t
