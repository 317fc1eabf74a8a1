-- The lines of words assemble to the words.
use Rattle.std.proofs.Common.{◌≡◌, ℕ, suc, ◌+◌, ◌^◌, ◌<◌, ◌≤◌, List, [], ◌∷◌, ◌++◌, map, length, get_or, Option, Some, None, IfSome, Ok, if◌then◌else◌, Fits, w32, refl, ap, ◌∙◌, arith}
use Rattle.std.specs.List.{range_with_len, AllByRecursion}
use Rattle.std.proofs.Math.Facts.{Fits-lt-pow}
use Rattle.std.proofs.lemmas.Bool.{le-ltb}
use Rattle.isa_model.specs.declared.instr.Instr.{Instr}
use Rattle.isa_model.specs.Encoding.{IsInstr, word_of}
use Rattle.isa_model.specs.InstrTable.{instr_of}
use Rattle.isa_model.proofs.TableLaws.{instr_of-valid, word_of-instr_of}
use Rattle.asm_line.specs.declared.line.AsmKind.TheVariants.{TooManyWords}
use Rattle.asm_line.specs.declared.line.Item.TheVariants.{One}
use Rattle.asm_line.specs.declared.line.Line.{Line}
use Rattle.asm_line.specs.LineForm.{line_of}
use Rattle.asm_line.proofs.Forms.{reads_instr, reads_word}
use Rattle.rv_asm.specs.declared.listing.Placed.{Placed}
use Rattle.rv_asm.specs.Listing.{placed_from, place_of}
use Rattle.isa_model.specs.Limits.{max_code_words}
use Rattle.rv_asm.specs.Refusals.{refusal_or, refusal_in_reading}
use Rattle.rv_asm.specs.Assembly.{linked, words_then, read_then, Assembles}
use Rattle.rv_asm.specs.Disassembly.{line_text, line_of_word, lines_of_words, one_per_line}

-- numbers of 32 bits
pub all_words : (words : List ℕ) → ((i : ℕ) → Fits w32 (get_or words i 0)) → AllByRecursion (λ word. word < 2 ^ 32) words
all_words [] fit = tt
all_words (word ∷ words) fit = (Fits-lt-pow (fit 0), all_words words (λ i. fit (suc i)))

-- a line that is one word
abbrev plain_line : ℕ → Line
plain_line word = record { labels = []; item = Ok (One word) }

line_text_reads : (word : ℕ) (found : Option Instr) → word < 2 ^ 32 → IfSome found IsInstr → IfSome found (λ instr. word_of instr ≡ word) → line_of (line_text word found) ≡ plain_line word
line_text_reads word None small valid back = reads_word word small
line_text_reads word (Some instr) small valid back = reads_instr instr valid ∙ ap plain_line back

line_of-word : (word : ℕ) → word < 2 ^ 32 → line_of (line_of_word word) ≡ plain_line word
line_of-word word small = line_text_reads word (instr_of word) small (instr_of-valid word small) (word_of-instr_of word small)

lines_of-words : (words : List ℕ) → AllByRecursion (λ word. word < 2 ^ 32) words → map line_of (lines_of_words words) ≡ map plain_line words
lines_of-words [] each = refl
lines_of-words (word ∷ words) each = λ i. line_of-word word each.0 i ∷ lines_of-words words each.1 i

-- the lines from one on, whose number and place these are
abbrev plain_lines : ℕ → ℕ → List ℕ → List Placed
plain_lines number place words = placed_from number place (map plain_line words)

none_refused : (seen : List (List ℕ)) (number place : ℕ) (words : List ℕ) → place + length words ≤ max_code_words → refusal_in_reading seen (plain_lines number place words) ≡ None
none_refused seen number place [] room = refl
none_refused seen number place (word ∷ words) room =
    let later = refusal_in_reading (seen ++ []) (plain_lines (number + 1) (place + 1) words) in
    ap (λ over. refusal_or number (if over then Some TooManyWords else None) later) (le-ltb max_code_words (place + 1) (omega arith))
    ∙ none_refused (seen ++ []) (number + 1) (place + 1) words (omega arith)

-- words with the numbers of their lines
abbrev numbered : ℕ → List ℕ → List (ℕ × ℕ)
numbered number [] = []
numbered number (word ∷ words) = (word, number) ∷ numbered (number + 1) words

linked-plain : (find : List ℕ → Option ℕ) (number place : ℕ) (words : List ℕ) → linked find (plain_lines number place words) ≡ Ok (numbered number words)
linked-plain find number place [] = refl
linked-plain find number place (word ∷ words) = ap (words_then number (Ok (word ∷ []))) (linked-plain find (number + 1) (place + 1) words)

words-numbered : (number : ℕ) (words : List ℕ) → map (λ w. w.0) (numbered number words) ≡ words
words-numbered number [] = refl
words-numbered number (word ∷ words) = ap (λ ws. word ∷ ws) (words-numbered (number + 1) words)

lines-numbered : (number : ℕ) (words : List ℕ) → map (λ w. w.1) (numbered number words) ≡ range_with_len number (length words)
lines-numbered number [] = refl
lines-numbered number (word ∷ words) = ap (λ ns. number ∷ ns) (lines-numbered (number + 1) words)

pub lines_assemble : (words : List ℕ) → AllByRecursion (λ word. word < 2 ^ 32) words → length words ≤ max_code_words
    → (first_line : ℕ) → Assembles (lines_of_words words) first_line (one_per_line words first_line)
lines_assemble words each few first_line =
    let placed = plain_lines first_line 0 words in
    ap (λ ls. read_then (refusal_in_reading [] (placed_from first_line 0 ls)) (linked (place_of (placed_from first_line 0 ls)) (placed_from first_line 0 ls))) (lines_of-words words each)
    ∙ ap (λ r. read_then r (linked (place_of placed) placed)) (none_refused [] first_line 0 words (omega arith))
    ∙ ap (read_then None) (linked-plain (place_of placed) first_line 0 words)
    ∙ (λ i. Ok (record { words = words-numbered first_line words i; lines = lines-numbered first_line words i }))
