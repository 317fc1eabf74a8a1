-- The lines and the tokens of a text of which the first piece is cut off.
use Rattle.std.proofs.Common.{◌≡◌, ℕ, Bool, true, false, cond, List, [], ◌∷◌, ◌++◌, filter, Bor, refl, ap, sym, ◌∙◌, append_assoc}
use Rattle.std.specs.List.{slice_split, onto_first}
use Rattle.bundle_text.specs.Pieces.{is_line_end, without_cr, lines_of, lines, is_some_bytes, texts}

abbrev pub IsMore : List (List ℕ) → Type 0
IsMore [] = ⊥
IsMore (t ∷ ts) = Unit {0}

onto_more : (x : ℕ) (ts : List (List ℕ)) → IsMore (onto_first x ts)
onto_more x [] = tt
onto_more x (t ∷ ts) = tt

cond_more : (b : Bool) (x : ℕ) (ts us : List (List ℕ)) → IsMore (cond b ([] ∷ us) (onto_first x ts))
cond_more true x ts us = tt
cond_more false x ts us = onto_more x ts

pub split_more : (p : ℕ → Bool) (xs : List ℕ) → IsMore (slice_split p xs)
split_more p [] = tt
split_more p (x ∷ xs) = cond_more (p x) x (slice_split p xs) (slice_split p xs)

lines_of-more : (piece : List ℕ) (ts : List (List ℕ)) → IsMore ts → lines_of (piece ∷ ts) ≡ without_cr piece ∷ lines_of ts
lines_of-more piece [] h = absurd h
lines_of-more piece (t ∷ ts) h = refl

-- a line that has an end, and then the lines of the rest
pub lines-cut : (bytes piece rest : List ℕ) → slice_split is_line_end bytes ≡ piece ∷ slice_split is_line_end rest → lines bytes ≡ without_cr piece ∷ lines rest
lines-cut bytes piece rest h = ap lines_of h ∙ lines_of-more piece (slice_split is_line_end rest) (split_more is_line_end rest)

texts-append : (xs ys : List (Bor (List ℕ))) → texts (xs ++ ys) ≡ texts xs ++ texts ys
texts-append [] ys = refl
texts-append (x ∷ xs) ys = ap (λ l. x.now ∷ l) (texts-append xs ys)

kept : (b : Bool) (t : List ℕ) (ts : List (List ℕ)) → b ≡ true → cond b (t ∷ ts) ts ≡ t ∷ ts
kept b t ts h = ap (λ c. cond c (t ∷ ts) ts) h

-- a piece with bytes is a token more
pub token-found : (found : List (Bor (List ℕ))) (piece : Bor (List ℕ)) (pieces : List (List ℕ)) → is_some_bytes piece.now ≡ true
    → texts found ++ filter is_some_bytes (piece.now ∷ pieces) ≡ texts (found ++ piece ∷ []) ++ filter is_some_bytes pieces
token-found found piece pieces h =
    ap (λ l. texts found ++ l) (kept (is_some_bytes piece.now) piece.now (filter is_some_bytes pieces) h)
    ∙ sym (append_assoc (texts found) (piece.now ∷ []) (filter is_some_bytes pieces))
    ∙ ap (λ l. l ++ filter is_some_bytes pieces) (sym (texts-append found (piece ∷ [])))

-- a piece without bytes is no token
pub token-skipped : (front : List (List ℕ)) (piece : List ℕ) (pieces : List (List ℕ)) → is_some_bytes piece ≡ false
    → front ++ filter is_some_bytes (piece ∷ pieces) ≡ front ++ filter is_some_bytes pieces
token-skipped front piece pieces h =
    ap (λ b. front ++ cond b (piece ∷ filter is_some_bytes pieces) (filter is_some_bytes pieces)) h
