-- Both ways.
use Rattle.std.proofs.Common.{subst}
use Rattle.bundle_text.specs.Form.{AreLinesOf}
use Rattle.bundle_text.proofs.LineLaws.{lines_are_of_form, lines_are_unique}
use Rattle.bundle_text.proofs.laws.lines_are_decided.Goals as goal

pub returns : goal.returns
returns c = record { lines = λ bytes text. (λ e. subst (λ ls. AreLinesOf ls bytes) e (lines_are_of_form bytes), λ h. lines_are_unique text bytes h) }
