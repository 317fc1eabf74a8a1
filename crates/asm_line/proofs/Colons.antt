-- What colons part.
use Rattle.std.proofs.Common.{◌≡◌, ℕ, Bool, true, false, cond, List, [], ◌∷◌, ◌++◌, refl, ap, sym, ◌∙◌, append_assoc, append-nil}
use Rattle.std.specs.List.{slice_split, onto_first, join_with_byte}
use Rattle.std.proofs.lemmas.List.Splits.{join_with_byte-slice_split}
use Rattle.asm_line.specs.declared.pieces.Separator.TheVariants.{Colon}
use Rattle.asm_line.specs.Pieces.{pieces, trim_start, is_separator}
use Rattle.asm_line.specs.Names.{is_name}
use Rattle.asm_line.specs.LineForm.{Parts, with_label, no_labels, parts_of}

-- at least one piece
abbrev pub IsMore : List (List ℕ) → Type 0
IsMore [] = ⊥
IsMore (t ∷ ts) = Unit {0}

onto_more : (x : ℕ) (ts : List (List ℕ)) → IsMore (onto_first x ts)
onto_more x [] = tt
onto_more x (t ∷ ts) = tt

cond_more : (b : Bool) (x : ℕ) (ts us : List (List ℕ)) → IsMore (cond b ([] ∷ us) (onto_first x ts))
cond_more true x ts us = tt
cond_more false x ts us = onto_more x ts

pub split_more : (p : ℕ → Bool) (xs : List ℕ) → IsMore (slice_split p xs)
split_more p [] = tt
split_more p (x ∷ xs) = cond_more (p x) x (slice_split p xs) (slice_split p xs)

-- labels before the parts
abbrev pub with_labels : List (List ℕ) → Parts → Parts
with_labels labels parts = record { labels = labels ++ parts.labels; rest = parts.rest }

parts_of-more : (piece : List ℕ) (others : List (List ℕ)) → IsMore others
    → parts_of (piece ∷ others) ≡ cond (is_name (trim_start piece)) (with_label (trim_start piece) (parts_of others)) (no_labels (join_with_byte 0x3a (piece ∷ others)))
parts_of-more piece [] h = absurd h
parts_of-more piece (next ∷ others) h = refl

pub parts_of-label : (text piece rest : List ℕ) → pieces Colon text ≡ piece ∷ pieces Colon rest → is_name (trim_start piece) ≡ true
    → parts_of (pieces Colon text) ≡ with_label (trim_start piece) (parts_of (pieces Colon rest))
parts_of-label text piece rest e h =
    ap parts_of e ∙ parts_of-more piece (pieces Colon rest) (split_more (is_separator Colon) rest)
    ∙ ap (λ b. cond b (with_label (trim_start piece) (parts_of (pieces Colon rest))) (no_labels (join_with_byte 0x3a (piece ∷ pieces Colon rest)))) h

pub parts_of-rest : (text piece rest : List ℕ) → pieces Colon text ≡ piece ∷ pieces Colon rest → is_name (trim_start piece) ≡ false
    → parts_of (pieces Colon text) ≡ no_labels text
parts_of-rest text piece rest e h =
    ap parts_of e ∙ parts_of-more piece (pieces Colon rest) (split_more (is_separator Colon) rest)
    ∙ ap (λ b. cond b (with_label (trim_start piece) (parts_of (pieces Colon rest))) (no_labels (join_with_byte 0x3a (piece ∷ pieces Colon rest)))) h
    ∙ ap (λ l. no_labels (join_with_byte 0x3a l)) (sym e) ∙ ap no_labels (join_with_byte-slice_split 0x3a text)

pub with_labels-more : (labels : List (List ℕ)) (label : List ℕ) (parts : Parts) → with_labels labels (with_label label parts) ≡ with_labels (labels ++ label ∷ []) parts
with_labels-more labels label parts = ap (λ l. let p : Parts = record { labels = l; rest = parts.rest } in p) (sym (append_assoc labels (label ∷ []) parts.labels))

pub with_labels-none : (labels : List (List ℕ)) (rest : List ℕ) → with_labels labels (no_labels rest) ≡ record { labels = labels; rest = rest }
with_labels-none labels rest = ap (λ l. let p : Parts = record { labels = l; rest = rest } in p) (append-nil labels)
