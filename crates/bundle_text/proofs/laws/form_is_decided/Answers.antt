-- The lines of a text are those that are cut from it, and its sections those of its lines.
use Rattle.std.proofs.Common.{ap, ◌∙◌}
use Rattle.bundle_text.specs.Pieces.{lines}
use Rattle.bundle_text.specs.Lines.{with_lines, no_lines}
use Rattle.bundle_text.proofs.LineLaws.{lines_are_of_form, lines_are_unique}
use Rattle.bundle_text.proofs.Grammar.Sections.{sections_are}
use Rattle.bundle_text.proofs.Grammar.Whole.{sections_read}
use Rattle.bundle_text.proofs.laws.form_is_decided.Goals as goal

pub returns : goal.returns
returns c = record {
  reads = λ bytes bundle. (
    λ e. record { text = lines bytes; text_is = lines_are_of_form bytes; bundle_is = sections_are (lines bytes) bundle e },
    λ h. ap (λ ls. with_lines 1 no_lines ls) (lines_are_unique h.text bytes h.text_is) ∙ sections_read h.text bundle h.bundle_is,
  );
  breaks = λ bytes fault. (
    λ e. record { text = lines bytes; text_is = lines_are_of_form bytes; first = e },
    λ h. ap (λ ls. with_lines 1 no_lines ls) (lines_are_unique h.text bytes h.text_is) ∙ h.first,
  );
}
