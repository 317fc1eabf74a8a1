-- Both ways.
use Rattle.std.proofs.Common.{subst}
use Rattle.bundle_text.specs.Form.{AreTokensOf}
use Rattle.bundle_text.proofs.TokenLaws.{tokens_are_of_form, tokens_are_unique}
use Rattle.bundle_text.proofs.laws.tokens_are_decided.Goals as goal

pub returns : goal.returns
returns c = record { tokens = λ line ts. (λ e. subst (λ us. AreTokensOf us line) e (tokens_are_of_form line), λ h. tokens_are_unique ts line h) }
