-- A hart that is as a path says is so after a tick too, and it is sound.
use Rattle.std.proofs.Common.{◌≡◌, ℕ, Bool, true, false, get_or, Option, Some, None, sym, ap, subst}
use Rattle.hart_model.specs.declared.place.Place.{Place}
use Rattle.hart_model.specs.declared.place.Place.TheVariants.{Reg, PortA, PortB, Res, Load, Store, Scr, Mul, Zero, SlotWord, DataWord}
use Rattle.hart_model.specs.declared.tag.Mode.{Mode}
use Rattle.hart_model.specs.declared.tag.Mode.TheVariants.{User, Machine}
use Rattle.hart_model.specs.Cells.{blank}
use Rattle.hart_model.specs.Csrs.{CsrFile}
use Rattle.hart_model.specs.Context.{ContextState}
use Rattle.hart_model.specs.HartState.{HartState, held_data, hart_cell, tick_of}
use Rattle.core_model.specs.Soundness.{IsTruthful, IsHartSound}
use Rattle.symbolic_run.specs.AbstractCell.{abstract_cell_at}
use Rattle.symbolic_run.specs.Concretization.{Valuation, IsSound}
use Rattle.symbolic_run.specs.SymbolicPath.{PathState, IsAsPathSays}
use Rattle.core_model.specs.Routines.{ticked_if}
use Rattle.symbolic_run.proofs.OneWrite.{denoted-truthful, cell-denoted, IsSpokenOf}
use Rattle.symbolic_run.proofs.Ways.{csrs-tick}

-- after a tick too
pub path-says-tick : (s : Valuation) (number base : ℕ) (p : PathState) (h : HartState) → IsAsPathSays s number base p h → IsAsPathSays s number base p (tick_of h)
path-says-tick s number base p h says = record {
  mode = says.mode;
  csrs = ap (λ (c : CsrFile). record c { is_timer_pending = true }) says.csrs;
  csrs_sound = csrs-tick number h says.csrs_sound;
  pc = says.pc;
  held = says.held;
  slot = says.slot;
  cells = says.cells;
  registers = says.registers;
  zero_word = says.zero_word;
  data_words = says.data_words;
}

pub path-says-ticked : (s : Valuation) (number base : ℕ) (p : PathState) (ticked : Bool) (h : HartState) → IsAsPathSays s number base p h →
    IsAsPathSays s number base p (ticked_if ticked h)
path-says-ticked s number base p true h says = path-says-tick s number base p h says
path-says-ticked s number base p false h says = says

-- a mode is one of two, and something is held or nothing
pub not-user : (mode : Mode) → mode ≡ Machine → mode ≡ User → ⊥
not-user mode machine user = cc (machine, user)

pub not-none : (o : Option ContextState) (c : ContextState) → o ≡ Some c → o ≡ None → ⊥
not-none o c some none = cc (some, none)

module _ (s : Valuation) (ok : IsSound s) (number base : ℕ) (p : PathState) (h : HartState) (says : IsAsPathSays s number base p h) where
  -- each cell says the truth
  spoken-truthful : (place : Place) → IsSpokenOf place → IsTruthful s.tasks (hart_cell h place)
  spoken-truthful place spoken = denoted-truthful s ok (abstract_cell_at p.cells place) (hart_cell h place) (cell-denoted s p.cells h place spoken says.cells)

  all-truthful : (place : Place) → IsTruthful s.tasks (hart_cell h place)
  all-truthful (Reg r) = spoken-truthful (Reg r) tt
  all-truthful PortA = spoken-truthful PortA tt
  all-truthful PortB = spoken-truthful PortB tt
  all-truthful Res = spoken-truthful Res tt
  all-truthful Load = spoken-truthful Load tt
  all-truthful Store = spoken-truthful Store tt
  all-truthful Scr = spoken-truthful Scr tt
  all-truthful Mul = spoken-truthful Mul tt
  all-truthful Zero = spoken-truthful Zero tt
  all-truthful (SlotWord i) = spoken-truthful (SlotWord i) tt
  all-truthful (DataWord i) =
      let P : Option ContextState → Type 0 = λ o. IsTruthful s.tasks (get_or (held_data o) i blank) in
      subst P (sym says.held) (says.data_words i)

  -- A hart that is as a path says is sound.
  pub path-sound : IsHartSound s.tasks number h
  path-sound = record {
    csrs = says.csrs_sound;
    registers = says.registers;
    zero = says.zero_word;
    truthful = all-truthful;
    public_alone = λ none place. absurd (not-none h.held _ says.held none);
    user = λ user. absurd (not-user h.csrs.mode says.mode user);
  }
