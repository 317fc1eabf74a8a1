-- How many words a listing has.
use Rattle.std.proofs.Common.{◌≡◌, ℕ, ◌+◌, ◌≤◌, List, [], ◌∷◌, ◌++◌, map, length, Option, Some, None, Result, Ok, Err, IfOk, ℤ, refl, sym, subst, ◌∙◌, arith, length-append}
use Rattle.std.proofs.lemmas.List.{length-map}
use Rattle.asm_line.specs.declared.line.AsmKind.{AsmKind}
use Rattle.asm_line.specs.declared.line.Item.{Item}
use Rattle.asm_line.specs.declared.line.Item.TheVariants.{Empty, One, Two, JumpTo, BranchTo}
use Rattle.asm_line.specs.declared.line.Line.{Line}
use Rattle.asm_line.specs.LineForm.{line_of}
use Rattle.asm_line.specs.Operands.{◌>>=◌}
use Rattle.rv_asm.specs.declared.assembling.Assembled.{Assembled}
use Rattle.rv_asm.specs.declared.fault.AsmFault.{AsmFault}
use Rattle.rv_asm.specs.declared.listing.Placed.{Placed}
use Rattle.rv_asm.specs.Listing.{word_count, placed_from, placed_lines, place_of}
use Rattle.isa_model.specs.Limits.{max_code_words}
use Rattle.rv_asm.specs.Refusals.{kind_in_reading, refusal_or, refusal_in_reading}
use Rattle.rv_asm.specs.Assembly.{words_of_item, words_of_line, on_line, words_then, linked, read_then, assembly, Assembles}
use Rattle.rv_asm.proofs.Reading.{room_of_line}

-- a line has as many words as are counted for it
one_word : (off : Result ℤ AsmKind) (word : ℤ → ℕ) → IfOk (off >>= λ o. Ok (word o ∷ [])) (λ words. length words ≡ 1)
one_word (Ok off) word = refl
one_word (Err kind) word = tt

words_of_item-count : (find : List ℕ → Option ℕ) (at : ℕ) (item : Item) → IfOk (words_of_item find at item) (λ words. length words ≡ word_count (Ok item))
words_of_item-count find at Empty = refl
words_of_item-count find at (One word) = refl
words_of_item-count find at (Two first second) = refl
words_of_item-count find at (JumpTo rd label) = one_word _ _
words_of_item-count find at (BranchTo op rs1 rs2 label) = one_word _ _

counted : (find : List ℕ → Option ℕ) (at : ℕ) (item : Result Item AsmKind) → IfOk (item >>= λ i. words_of_item find at i) (λ words. length words ≡ word_count item)
counted find at (Ok item) = words_of_item-count find at item
counted find at (Err kind) = tt

-- the words of lines from this place on are so few that there is room for them
room_then : (place count number : ℕ) (words : Result (List ℕ) AsmKind) (later : Result (List (ℕ × ℕ)) AsmFault)
    → IfOk words (λ ws. length ws ≡ count) → IfOk later (λ ls. place + count + length ls ≤ max_code_words)
    → IfOk (words_then number words later) (λ ws. place + length ws ≤ max_code_words)
room_then place count number (Err kind) later some rest = tt
room_then place count number (Ok words) (Err fault) some rest = tt
room_then place count number (Ok words) (Ok later) some rest =
    let all = length-append (on_line number words) later in
    let here = length-map words (λ (word : ℕ). let pair : ℕ × ℕ = (word, number) in pair) in
    omega arith

none_first : (number : ℕ) (kind : Option AsmKind) (later : Option AsmFault) → refusal_or number kind later ≡ None → (kind ≡ None) × (later ≡ None)
none_first number None later accepted = (refl, accepted)
none_first number (Some kind) later accepted = absurd (cc)

linked_room : (find : List ℕ → Option ℕ) (seen : List (List ℕ)) (number place : ℕ) (lines : List Line) → place ≤ max_code_words
    → refusal_in_reading seen (placed_from number place lines) ≡ None → IfOk (linked find (placed_from number place lines)) (λ words. place + length words ≤ max_code_words)
linked_room find seen number place [] room accepted = omega arith
linked_room find seen number place (line ∷ lines) room accepted =
    let p : Placed = record { number = number; place = place; line = line } in
    let count = word_count line.item in
    let rest = placed_from (number + 1) (place + count) lines in
    let none = none_first number (kind_in_reading seen p) (refusal_in_reading (seen ++ line.labels) rest) accepted in
    room_then place count number (words_of_line find p) (linked find rest) (counted find place line.item)
    (linked_room find (seen ++ line.labels) (number + 1) (place + count) lines (room_of_line seen p none.0) none.1)

read_room : (refusal : Option AsmFault) (words : Result (List (ℕ × ℕ)) AsmFault) → (refusal ≡ None → IfOk words (λ ws. 0 + length ws ≤ max_code_words))
    → IfOk (read_then refusal words) (λ a. (length a.words ≤ max_code_words) × (length a.lines ≡ length a.words))
read_room (Some fault) words room = tt
read_room None (Err fault) room = tt
read_room None (Ok words) room =
    let all_words = length-map words (λ (w : ℕ × ℕ). w.0) in
    let all_lines = length-map words (λ (w : ℕ × ℕ). w.1) in
    let few : 0 + length words ≤ max_code_words = room refl in
    (omega arith, all_lines ∙ sym all_words)

assembly_room : (source : List (List ℕ)) (first_line : ℕ) → IfOk (assembly source first_line) (λ a. (length a.words ≤ max_code_words) × (length a.lines ≡ length a.words))
assembly_room source first_line =
    let placed = placed_lines source first_line in
    read_room (refusal_in_reading [] placed) (linked (place_of placed) placed) (linked_room (place_of placed) [] first_line 0 (map line_of source) (omega arith))

-- what a listing assembles to has at most so many words, each with a line
pub few_words : (source : List (List ℕ)) (first_line : ℕ) (assembled : Assembled) → Assembles source first_line assembled
    → (length assembled.words ≤ max_code_words) × (length assembled.lines ≡ length assembled.words)
few_words source first_line assembled assembles =
    let Few : Result Assembled AsmFault → Type 0 = λ r. IfOk r (λ a. (length a.words ≤ max_code_words) × (length a.lines ≡ length a.words)) in
    subst Few assembles (assembly_room source first_line)
