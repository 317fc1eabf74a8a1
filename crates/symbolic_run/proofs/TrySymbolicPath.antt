-- The kernel's own code, followed from a trap to the give.
use Rattle.std.proofs.Common.{◌≡◌, refl, ℕ, zero, suc, ◌+◌, Bool, true, false, List, [], ◌∷◌, ◌++◌, replicate, Some, None, Option, map}
use Rattle.isa_model.specs.declared.instr.Instr.{Instr}
use Rattle.isa_model.specs.declared.instr.Instr.TheVariants.{Fence}
use Rattle.isa_model.specs.InstrTable.{instr_of}
use Rattle.hart_model.specs.Csrs.{CsrFile}
use Rattle.hart_model.specs.Context.{ContextState}
use Rattle.core_model.specs.KernelWords.{kernel_words}
use Rattle.symbolic_run.specs.AbstractCell.{AbstractCell, Zero, SlotAddress, PublicAny, PublicNumber, TaskReg, OldSlotWord, AnyTagged, AbstractState}
use Rattle.symbolic_run.specs.Concretization.{Valuation}
use Rattle.symbolic_run.specs.SymbolicPath.{PathState, Path, path_from, path_of, PathCondition}

abbrev numbered : (ℕ → AbstractCell) → ℕ → ℕ → List AbstractCell
numbered cell first zero = []
numbered cell first (suc more) = cell first ∷ numbered cell (first + 1) more

abbrev at_save : ℕ → ℕ → ℕ → ℕ → AbstractState
at_save p q r t = record {
  regs = AnyTagged ∷ numbered TaskReg 1 31;
  port_a = AnyTagged;
  port_b = AnyTagged;
  res = AnyTagged;
  load = AnyTagged;
  store = AnyTagged;
  scr = SlotAddress;
  mul = AnyTagged;
  zero = Zero;
  slot = PublicAny ∷ numbered OldSlotWord 1 31 ++ PublicNumber p ∷ PublicNumber q ∷ PublicNumber r ∷ PublicNumber t ∷ [];
  data_words = [];
}

abbrev all_words : ℕ → Bool
all_words index = true

abbrev or_fence : Option Instr → Instr
or_fence None = Fence 0
or_fence (Some instr) = instr

abbrev kernel_instrs : List Instr
kernel_instrs = map (λ w. or_fence (instr_of w)) kernel_words

abbrev timer_answers : List Bool
timer_answers = replicate 105 false ++ false ∷ true ∷ false ∷ false ∷ true ∷ false ∷ false ∷ []

abbrev end_index : Option Path → ℕ
end_index None = 0
end_index (Some path) = path.end.index

abbrev asked_of : Option Path → List PathCondition
asked_of None = []
asked_of (Some path) = path.conditions

abbrev path_state : ℕ → ℕ → ℕ → ℕ → CsrFile → ContextState → ℕ → PathState
path_state p q r t csrs held epc = record { cells = at_save p q r t; index = 0; csrs = record csrs { mepc = epc; mcause = 0x80000007 }; held = held }

to_give : (s : Valuation) (p q r t : ℕ) (csrs : CsrFile) (held : ContextState) (epc : ℕ) →
    end_index (path_of all_words s kernel_instrs timer_answers (path_state p q r t csrs held epc)) ≡ 200
unfolding path_from
to_give s p q r t csrs held epc = refl
