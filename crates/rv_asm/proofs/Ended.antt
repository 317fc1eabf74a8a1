-- Printed lines that are ended by LF are the lines of their text.
use Rattle.std.proofs.Common.{◌≡◌, ◌≢◌, ℕ, zero, suc, ◌-◌, ◌^◌, ◌<◌, ◌==◌, cond, eqb, List, [], ◌∷◌, ◌++◌, length, take, get_or, refl, ap, ◌∙◌, arith, append_assoc}
use Rattle.std.specs.List.{list_any, list_all, flat_map, slice_split, AllByRecursion}
use Rattle.std.specs.Str.Lines.{lines, lines_of_parts, strip_carriage_return}
use Rattle.std.proofs.lemmas.Bool.{leb-true, and_parts, or_from, ne_eqb}
use Rattle.asm_line.proofs.Parts.{Lacks, split_after}
use Rattle.rv_asm.specs.Disassembly.{lines_of_words, ended, listing_of}
use Rattle.rv_asm.proofs.Printed.{is_printed, IsPrinted, lines_printed}

-- a printed text has no LF
no_line_end : (text : List ℕ) → IsPrinted text → Lacks (λ b. b == 10) text
no_line_end [] h = refl
no_line_end (b ∷ text) h =
    let parts = and_parts (is_printed b) (list_all is_printed text) h in
    let above = leb-true 0x20 b parts.0 in
    or_from (eqb b 10) (list_any (λ b. b == 10) text) (ne_eqb b 10 (λ e. omega arith)) (no_line_end text parts.1)

-- nor a carriage return
no_return : (text : List ℕ) (i : ℕ) → IsPrinted text → get_or text i 0 ≢ 13
no_return [] i h e = omega arith
no_return (b ∷ text) zero h e = let above = leb-true 0x20 b (and_parts (is_printed b) (list_all is_printed text) h).0 in omega arith
no_return (b ∷ text) (suc i) h e = no_return text i (and_parts (is_printed b) (list_all is_printed text) h).1 e

strip-printed : (text : List ℕ) → IsPrinted text → strip_carriage_return text ≡ text
strip-printed text h =
    ap (λ t. cond t (take (length text - 1) text) text) (ne_eqb (get_or text (length text - 1) 0) 13 (no_return text (length text - 1) h))

-- the text's parts are the lines, and an empty one after the last
split-ended : (ls : List (List ℕ)) → AllByRecursion IsPrinted ls → slice_split (λ b. b == 10) (flat_map ended ls) ≡ ls ++ [] ∷ []
split-ended [] each = refl
split-ended (l ∷ ls) each =
    ap (slice_split (λ b. b == 10)) (append_assoc l (10 ∷ []) (flat_map ended ls))
    ∙ split_after (λ b. b == 10) l 10 (flat_map ended ls) (no_line_end l each.0) refl ∙ ap (λ parts. l ∷ parts) (split-ended ls each.1)

lines-parts : (ls : List (List ℕ)) → AllByRecursion IsPrinted ls → lines_of_parts (ls ++ [] ∷ []) ≡ ls
lines-parts [] each = refl
lines-parts (l ∷ []) each = ap (λ t. t ∷ []) (strip-printed l each.0)
lines-parts (l ∷ next ∷ ls) each = ap (λ t. t ∷ lines_of_parts (next ∷ ls ++ [] ∷ [])) (strip-printed l each.0) ∙ ap (λ rest. l ∷ rest) (lines-parts (next ∷ ls) each.1)

lines-ended : (ls : List (List ℕ)) → AllByRecursion IsPrinted ls → lines (flat_map ended ls) ≡ ls
lines-ended ls each = ap lines_of_parts (split-ended ls each) ∙ lines-parts ls each

-- the lines of the listing of words
pub lines-listing : (words : List ℕ) → AllByRecursion (λ word. word < 2 ^ 32) words → (text : List ℕ) → text ≡ listing_of words → lines text ≡ lines_of_words words
lines-listing words each text is = ap lines is ∙ lines-ended (lines_of_words words) (lines_printed words each)
