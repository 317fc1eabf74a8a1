-- Both ways.
use Rattle.bundle_text.proofs.TextLaws.{ok_is, is_ok, err_is, is_err}
use Rattle.bundle_text.proofs.laws.text_lines_are_decided.Goals as goal

pub returns : goal.returns
returns c = record {
  lines = λ bytes text. (ok_is bytes text, is_ok bytes text);
  fault = λ bytes fault. (err_is bytes fault, is_err bytes fault);
}
