-- How many lines a text has, how many tokens a line, and how many bytes they have.
use Rattle.std.proofs.Common.{◌≡◌, ℕ, ◌+◌, ◌-◌, ◌≤◌, Bool, true, false, cond, eqb, List, [], ◌∷◌, length, take, filter, get_or, refl, arith, length-take}
use Rattle.std.specs.List.{slice_split, onto_first}
use Rattle.std.proofs.lemmas.Bool.{cond_both, eqb-false}
use Rattle.bundle_text.specs.Pieces.{is_line_end, is_blank, without_cr, lines_of, lines, is_some_bytes, tokens}
use Rattle.bundle_text.specs.declared.pieces.TheConstants.{CARRIAGE_RETURN}
use Rattle.bundle_text.proofs.Splits.{IsMore, split_more}

-- the bytes of pieces, and one more for each
abbrev pub size : List (List ℕ) → ℕ
size [] = 0
size (piece ∷ others) = length piece + 1 + size others

size_onto : (x : ℕ) (ps : List (List ℕ)) → IsMore ps → size (onto_first x ps) ≡ size ps + 1
size_onto x [] h = absurd h
size_onto x (p ∷ ps) h = omega arith

size_either : (t : Bool) (x n : ℕ) (ps : List (List ℕ)) → IsMore ps → size ps ≡ n → size (cond t ([] ∷ ps) (onto_first x ps)) ≡ n + 1
size_either true x n ps more e = omega arith
size_either false x n ps more e = let one = size_onto x ps more in omega arith

size_split : (p : ℕ → Bool) (xs : List ℕ) → size (slice_split p xs) ≡ length xs + 1
size_split p [] = refl
size_split p (x ∷ xs) =
    let e = size_either (p x) x (length xs + 1) (slice_split p xs) (split_more p xs) (size_split p xs) in omega arith

without_cr_short : (line : List ℕ) → length (without_cr line) ≤ length line
without_cr_short line =
    cond_both (eqb (get_or line (length line - 1) 0) CARRIAGE_RETURN) (take (length line - 1) line) line (λ l. length l ≤ length line)
    (λ e. omega (arith, length-take (length line - 1) line)) (λ e. omega arith)

-- ---- lines

size_lines : (ps : List (List ℕ)) → size (lines_of ps) ≤ size ps
size_lines [] = omega arith
size_lines (last ∷ []) = cond_both (eqb (length last) 0) [] (last ∷ []) (λ ls. size ls ≤ size (last ∷ [])) (λ e. omega arith) (λ e. omega arith)
size_lines (piece ∷ next ∷ others) =
    let short = without_cr_short piece in
    let rest = size_lines (next ∷ others) in
    omega arith

some_length : (last : List ℕ) → eqb (length last) 0 ≡ false → 1 ≤ length last
some_length [] e = absurd (eqb-false 0 0 e refl)
some_length (b ∷ bs) e = omega arith

count_lines : (ps : List (List ℕ)) → IsMore ps → length (lines_of ps) + 1 ≤ size ps
count_lines [] h = absurd h
count_lines (last ∷ []) h =
    cond_both (eqb (length last) 0) [] (last ∷ []) (λ ls. length ls + 1 ≤ size (last ∷ [])) (λ e. omega arith)
    (λ e. let some = some_length last e in omega arith)
count_lines (piece ∷ next ∷ others) h = let rest = count_lines (next ∷ others) tt in omega arith

pub lines_size : (bytes : List ℕ) → size (lines bytes) ≤ length bytes + 1
lines_size bytes =
    let whole = size_split is_line_end bytes in
    let most = size_lines (slice_split is_line_end bytes) in
    omega arith

pub lines_count : (bytes : List ℕ) → length (lines bytes) ≤ length bytes
lines_count bytes =
    let whole = size_split is_line_end bytes in
    let most = count_lines (slice_split is_line_end bytes) (split_more is_line_end bytes) in
    omega arith

-- ---- tokens

abbrev count : List (List ℕ) → ℕ
count ps = length (filter is_some_bytes ps)

count_more : (p : List ℕ) (ps : List (List ℕ)) → (count ps ≤ count (p ∷ ps)) × (count (p ∷ ps) ≤ count ps + 1)
count_more p ps =
    cond_both (is_some_bytes p) (p ∷ filter is_some_bytes ps) (filter is_some_bytes ps) (λ l. (count ps ≤ length l) × (length l ≤ count ps + 1))
    (λ e. (omega arith, omega arith)) (λ e. (omega arith, omega arith))

count_onto : (x : ℕ) (ps : List (List ℕ)) → count (onto_first x ps) ≤ count ps + 1
count_onto x [] = let one = count_more (x ∷ []) [] in omega (arith, one.1)
count_onto x (p ∷ ps) =
    let new = count_more (x ∷ p) ps in
    let old = count_more p ps in
    omega (arith, new.1, old.0)

count_either : (t : Bool) (x n : ℕ) (ps : List (List ℕ)) → count ps ≤ n → count (cond t ([] ∷ ps) (onto_first x ps)) ≤ n + 1
count_either true x n ps h = omega arith
count_either false x n ps h = let one = count_onto x ps in omega arith

count_split : (p : ℕ → Bool) (xs : List ℕ) → count (slice_split p xs) ≤ length xs
count_split p [] = omega arith
count_split p (x ∷ xs) = let e = count_either (p x) x (length xs) (slice_split p xs) (count_split p xs) in omega arith

pub tokens_count : (line : List ℕ) → length (tokens line) ≤ length line
tokens_count line = count_split is_blank line
