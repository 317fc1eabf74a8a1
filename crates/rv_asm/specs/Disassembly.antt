-- The listing of words.
use Rattle.std.specs.Prelude.{ℕ, List, [], ◌∷◌, ◌++◌, map, length, Option, Some, None}
use Rattle.std.specs.List.{flat_map, range_with_len}
use Rattle.isa_model.specs.declared.instr.Instr.{Instr}
use Rattle.isa_model.specs.InstrTable.{instr_of}
use Rattle.rv_decode.specs.Text.{word_text, text_of_instr}
use Rattle.rv_asm.specs.declared.assembling.Assembled.{Assembled}

-- the text of an instruction, or of a word that spells none
abbrev pub line_text : ℕ → Option Instr → List ℕ
line_text word None = word_text word
line_text word (Some instr) = text_of_instr instr

-- the line of a word
abbrev pub line_of_word : ℕ → List ℕ
line_of_word word = line_text word (instr_of word)

abbrev pub lines_of_words : List ℕ → List (List ℕ)
lines_of_words words = map line_of_word words

-- a line and LF
abbrev pub ended : List ℕ → List ℕ
ended line = line ++ 0x0a ∷ []

abbrev pub listing_of : List ℕ → List ℕ
listing_of words = flat_map ended (lines_of_words words)

-- words on lines of their own, one after the other from this line on
abbrev pub one_per_line : List ℕ → ℕ → Assembled
one_per_line words first_line = record { words = words; lines = range_with_len first_line (length words) }
