-- What is known of a trapped task and of a saved one, in abstract cells: where save parts and restore parts begin, and where the middle
-- goes on.
use Rattle.std.specs.Prelude.{ℕ, zero, suc, ◌+◌, Bool, ◌&&◌, nat_le, List, [], ◌∷◌, ◌++◌, get_or, replicate}
use Rattle.isa_model.specs.declared.task.Task.{Task}
use Rattle.hart_model.specs.Pmp.{bounds_of}
use Rattle.hart_model.specs.Csrs.{CsrFile}
use Rattle.hart_model.specs.Context.{ContextState}
use Rattle.symbolic_run.specs.AbstractCell.{AbstractCell, Zero, SlotAddress, PublicAny, PublicNumber, TaskReg, OldSlotWord, GivenCell, AnyTagged, AbstractState}
use Rattle.symbolic_run.specs.Concretization.{Valuation}
use Rattle.symbolic_run.specs.SymbolicPath.{PathState}

-- the words of the slot that a save part or a restore part may reach
abbrev pub reached : ℕ → Bool
reached i = nat_le 1 i && nat_le i 31

-- some abstract cells by their numbers, so many from one on
abbrev pub numbered : (ℕ → AbstractCell) → ℕ → ℕ → List AbstractCell
numbered cell first zero = []
numbered cell first (suc more) = cell first ∷ numbered cell (first + 1) more

abbrev pub bound_cells : Task → List AbstractCell
bound_cells T =
    PublicNumber (get_or (bounds_of T) 0 0) ∷ PublicNumber (get_or (bounds_of T) 1 0)
    ∷ PublicNumber (get_or (bounds_of T) 2 0) ∷ PublicNumber (get_or (bounds_of T) 3 0) ∷ []

-- registers that are public, x5 being the slot's address
abbrev pub kernel_regs : List AbstractCell
kernel_regs = replicate 5 PublicAny ++ SlotAddress ∷ replicate 26 PublicAny

-- Of a trapped task: the registers are its own, the other latches have anything of it or of before, and so have the slot's words. The
-- word of the pc is a given cell, which stays.
abbrev pub trapped_cells : Valuation → AbstractState
trapped_cells s = record {
  regs = AnyTagged ∷ numbered TaskReg 1 31;
  port_a = AnyTagged;
  port_b = AnyTagged;
  res = AnyTagged;
  load = AnyTagged;
  store = AnyTagged;
  scr = SlotAddress;
  mul = AnyTagged;
  zero = Zero;
  slot = GivenCell ∷ numbered OldSlotWord 1 31 ++ bound_cells s.task;
  data_words = [];
}

-- Of a saved task: its registers stand in the slot, and nothing of it is in a latch. The word of the pc is as given.
abbrev pub saved_cells : Valuation → AbstractCell → AbstractState
saved_cells s pc = record {
  regs = kernel_regs;
  port_a = PublicAny;
  port_b = PublicAny;
  res = PublicAny;
  load = PublicAny;
  store = PublicAny;
  scr = SlotAddress;
  mul = PublicAny;
  zero = Zero;
  slot = pc ∷ numbered TaskReg 1 31 ++ bound_cells s.task;
  data_words = [];
}

abbrev pub at_start : AbstractState → CsrFile → ContextState → PathState
at_start cells csrs held = record { cells = cells; index = 0; csrs = csrs; held = held }
