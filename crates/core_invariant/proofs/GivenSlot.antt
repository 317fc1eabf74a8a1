-- The words of the slot of a saved task after the tape's word has gone to a0.
use Rattle.std.proofs.Common.{◌≡◌, ℕ, zero, suc, ◌+◌, ◌-◌, ◌≤◌, ◌<◌, List, ◌∷◌, ◌++◌, get_or, ap, ◌∙◌, arith}
use Rattle.hart_model.specs.Pmp.{bounds_of}
use Rattle.hart_model.specs.Context.{bound_word}
use Rattle.symbolic_run.specs.AbstractCell.{AbstractCell, AnyTagged, PublicNumber, TaskReg, GivenCell}
use Rattle.symbolic_run.specs.Concretization.{Valuation}
use Rattle.core_invariant.proofs.KernelCells.{numbered, bound_cells}
use Rattle.core_invariant.proofs.ReadyPaths.{given_slot}
use Rattle.core_invariant.proofs.Numbered.{numbered-get, numbered-skip}
use Rattle.core_invariant.proofs.ReadyEnd.{bound-at}
use native.Mathlib.Decide.{dec_le}

-- the words from a0's on
abbrev from_a0 : Valuation → List AbstractCell
from_a0 s = GivenCell ∷ numbered TaskReg 11 21 ++ bound_cells s.task

-- the registers before a0
given-before : (s : Valuation) (pc k : ℕ) → k < 9 → get_or (given_slot s pc) (suc k) AnyTagged ≡ TaskReg (suc k)
given-before s pc k low = let same : 1 + k ≡ suc k = omega arith in numbered-get TaskReg 1 9 (from_a0 s) k AnyTagged low ∙ ap TaskReg same

-- and those after it
given-after : (s : Valuation) (pc k : ℕ) → k < 21 → get_or (given_slot s pc) (suc (9 + suc k)) AnyTagged ≡ TaskReg (11 + k)
given-after s pc k low = numbered-skip TaskReg 1 9 (from_a0 s) (suc k) AnyTagged ∙ numbered-get TaskReg 11 21 (bound_cells s.task) k AnyTagged low

-- each register's word but a0's is as at the start
pub given-reg : (s : Valuation) (pc i : ℕ) → 1 ≤ i → i < 32 → (i ≡ 10 → ⊥) → get_or (given_slot s pc) i AnyTagged ≡ TaskReg i
given-reg s pc zero low high other = absurd (omega arith)
given-reg s pc (suc i) low high other = elim (dec_le (suc i) 9) [
  | yes h ↦ given-before s pc i (omega arith)
  | no h ↦ later (omega arith) (dec_le (suc i) 10)
]
  where
    later : 9 < suc i → Dec (suc i ≤ 10) → get_or (given_slot s pc) (suc i) AnyTagged ≡ TaskReg (suc i)
    later above (yes h) = absurd (other (omega arith))
    later above (no h) =
        let place : suc i ≡ suc (9 + suc (suc i - 11)) = omega arith in
        let number : 11 + (suc i - 11) ≡ suc i = omega arith in
        ap (λ k. get_or (given_slot s pc) k AnyTagged) place ∙ given-after s pc (suc i - 11) (omega arith) ∙ ap TaskReg number

-- the bounds stand after them
pub given-bound : (s : Valuation) (pc i : ℕ) → i < 4 → get_or (given_slot s pc) (bound_word i) AnyTagged ≡ PublicNumber (get_or (bounds_of s.task) i 0)
given-bound s pc i low =
    let place : bound_word i ≡ suc (9 + suc (21 + i)) = omega arith in
    ap (λ k. get_or (given_slot s pc) k AnyTagged) place
    ∙ numbered-skip TaskReg 1 9 (from_a0 s) (suc (21 + i)) AnyTagged
    ∙ numbered-skip TaskReg 11 21 (bound_cells s.task) i AnyTagged
    ∙ bound-at s.task i low
