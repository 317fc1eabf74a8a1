-- By the decision.
use Rattle.std.proofs.Common.{◌≡◌, ◌⊎◌, inl, inr, List, ℕ, Result, Ok, Err, refl, sym, ap, ◌∙◌}
use Rattle.bundle_text.specs.Pieces.{lines}
use Rattle.bundle_text.specs.Lines.{with_lines, no_lines, bundle_of}
use Rattle.bundle_text.specs.Form.{Breaks}
use Rattle.bundle_text.specs.Grammar.{Reads}
use Rattle.bundle_text.specs.declared.bundle.Bundle.{Bundle}
use Rattle.bundle_text.specs.declared.bundle.BundleFault.{BundleFault}
use Rattle.bundle_text.proofs.LineLaws.{lines_are_of_form, lines_are_unique}
use Rattle.bundle_text.proofs.Steps.{same_ok, err_ok}
use Rattle.bundle_text.proofs.Grammar.Sections.{sections_are}
use Rattle.bundle_text.proofs.Grammar.Whole.{sections_read}
use Rattle.bundle_text.proofs.laws.form_is_unambiguous.Goals as goal

read_is : (bytes : List ℕ) (bundle : Bundle) → Reads bytes bundle → bundle_of bytes ≡ Ok bundle
read_is bytes bundle h = ap (λ ls. with_lines 1 no_lines ls) (lines_are_unique h.text bytes h.text_is) ∙ sections_read h.text bundle h.bundle_is

break_is : (bytes : List ℕ) (fault : BundleFault) → Breaks bytes fault → bundle_of bytes ≡ Err fault
break_is bytes fault h = ap (λ ls. with_lines 1 no_lines ls) (lines_are_unique h.text bytes h.text_is) ∙ h.first

same_err : (a b : BundleFault) → ◌≡◌ {A = Result Bundle BundleFault} (Err a) (Err b) → a ≡ b
same_err a b e = cc

either : (bytes : List ℕ) (r : Result Bundle BundleFault) → bundle_of bytes ≡ r
    → ((bundle : Bundle) × Reads bytes bundle) ⊎ ((fault : BundleFault) × Breaks bytes fault)
either bytes (Ok b) e = inl (b, record { text = lines bytes; text_is = lines_are_of_form bytes; bundle_is = sections_are (lines bytes) b e })
either bytes (Err fault) e = inr (fault, record { text = lines bytes; text_is = lines_are_of_form bytes; first = e })

pub returns : goal.returns
returns c = record {
  reads = λ bytes a b h k. same_ok a b (sym (read_is bytes a h) ∙ read_is bytes b k);
  breaks = λ bytes a b h k. same_err a b (sym (break_is bytes a h) ∙ break_is bytes b k);
  apart = λ bytes bundle fault h k. err_ok bundle fault (sym (break_is bytes fault k) ∙ read_is bytes bundle h);
  some = λ bytes. either bytes (bundle_of bytes) refl;
}
