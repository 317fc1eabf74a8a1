-- By what the word is decided as.
use Rattle.bundle_text.proofs.NumberLaws.{word_decided}
use Rattle.bundle_text.proofs.laws.words_are_decided.Goals as goal

pub returns : goal.returns
returns c = record {
  word = λ text. (word_decided text).value;
  bad_number = λ text. (word_decided text).bad_number;
  out_of_range = λ text. (word_decided text).out_of_range;
}
