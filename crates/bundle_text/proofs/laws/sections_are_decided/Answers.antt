-- Section by section.
use Rattle.bundle_text.proofs.Grammar.Sections.{sections_are}
use Rattle.bundle_text.proofs.Grammar.Whole.{sections_read}
use Rattle.bundle_text.proofs.laws.sections_are_decided.Goals as goal

pub returns : goal.returns
returns c = record { sections = λ text bundle. (sections_are text bundle, sections_read text bundle) }
