-- By what the number is decided as.
use Rattle.bundle_text.proofs.NumberLaws.{number_decided}
use Rattle.bundle_text.proofs.laws.numbers_are_decided.Goals as goal

pub returns : goal.returns
returns c = record {
  number = λ low high text n.
      let d = (number_decided low high text).value n in
      (λ e. ((d.0 e).0, (d.0 e).1.0, (d.0 e).1.1), λ p. d.1 (p.0, (p.1, p.2)));
  bad_number = λ low high text. (number_decided low high text).bad_number;
  out_of_range = λ low high text. (number_decided low high text).out_of_range;
}
