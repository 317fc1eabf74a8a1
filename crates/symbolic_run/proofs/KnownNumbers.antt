-- A cell of which it is known which number it has has this number.
use Rattle.std.proofs.Common.{◌≡◌, ℕ, Some, ap, ◌∙◌}
use Rattle.hart_model.specs.declared.tag.Cell.{Cell}
use Rattle.hart_model.specs.Context.{slot_address}
use Rattle.symbolic_run.specs.AbstractCell.{AbstractCell, SlotAddress, PublicAny, PublicNumber, TaskReg, OldSlotWord, GivenCell, AnyTagged}
use Rattle.symbolic_run.specs.AbstractCell as abstract
use Rattle.symbolic_run.specs.Concretization.{Valuation, Denotes, number_of}

pub some-is : (a b : ℕ) → Some a ≡ Some b → a ≡ b
some-is a b e = cc e

pub number-is : (s : Valuation) (a : AbstractCell) (c : Cell) (v : ℕ) → number_of s a ≡ Some v → Denotes s a c → c.value ≡ v
number-is s abstract.Zero c v e d = ap (λ x. x.value) d ∙ some-is 0 v e
number-is s SlotAddress c v e d = ap (λ x. x.value) d ∙ some-is (slot_address s.slot) v e
number-is s PublicAny c v e d = absurd (cc e)
number-is s (PublicNumber value) c v e d = ap (λ x. x.value) d ∙ some-is value v e
number-is s (TaskReg number) c v e d = ap (λ x. x.value) d.2 ∙ some-is (s.task_regs number).value v e
number-is s (OldSlotWord index) c v e d = ap (λ x. x.value) d.2 ∙ some-is (s.old_words index).value v e
number-is s GivenCell c v e d = ap (λ x. x.value) d ∙ some-is s.given_cell.value v e
number-is s AnyTagged c v e d = absurd (cc e)
