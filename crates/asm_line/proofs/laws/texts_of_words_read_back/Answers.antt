-- A word's digits are read as the word.
use Rattle.asm_line.proofs.Forms.{reads_word}
use Rattle.asm_line.proofs.laws.texts_of_words_read_back.Goals as goal

pub returns : goal.returns
returns c = record { reads = reads_word }
