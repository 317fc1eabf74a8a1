-- The lines of a text are the lines of its form, and no others are.
use Rattle.std.proofs.Common.{◌≡◌, ◌≢◌, ℕ, ◌+◌, ◌-◌, ◌≤◌, inl, inr, Bool, true, false, cond, eqb, List, [], ◌∷◌, ◌++◌, length, take, get_or, refl, sym, ap, ◌∙◌, subst, arith, append_assoc, length-append}
use Rattle.std.specs.List.{All, AllByRecursion, slice_split, onto_first, join_with_byte}
use Rattle.std.proofs.lemmas.Bool.{eqb-true, eqb-false, ne_eqb, eq-eqb, cond-true, cond-false}
use Rattle.std.proofs.lemmas.List.{take_more, take_all}
use Rattle.std.proofs.lemmas.List.Elements.{All-from_recursion}
use Rattle.std.proofs.lemmas.List.Splits.{slice_split_none, slice_split_at, join_with_byte-slice_split}
use Rattle.std.proofs.Math.Seq.{get_or-append_seam}
use Rattle.bundle_text.specs.Pieces.{is_line_end, without_cr, lines_of, lines}
use Rattle.bundle_text.specs.Form.{line_end, carriage_return, LacksLineEnd, IsLineBefore, AreLinesOf}
use Rattle.bundle_text.proofs.Splits.{IsMore, split_more, lines-cut}

-- ---- the last byte

last_byte : (xs : List ℕ) (b : ℕ) → 1 ≤ length xs → get_or xs (length xs - 1) 0 ≡ b → xs ≡ take (length xs - 1) xs ++ b ∷ []
last_byte xs b some e =
    let all : length xs - 1 + 1 ≡ length xs = omega arith in
    sym (take_all (length xs) xs (omega arith)) ∙ ap (λ n. take n xs) (sym all) ∙ take_more xs (length xs - 1) 0 (omega arith)
    ∙ ap (λ x. take (length xs - 1) xs ++ x ∷ []) e

-- a line that ends with CR
pub ends_with_cr : (line : List ℕ) → get_or line (length line - 1) 0 ≡ carriage_return → line ≡ take (length line - 1) line ++ carriage_return ∷ []
ends_with_cr [] e = absurd (omega arith)
ends_with_cr (b ∷ bs) e = last_byte (b ∷ bs) carriage_return (omega arith) e

length_front : (front : List ℕ) (b : ℕ) → length (front ++ b ∷ []) - 1 ≡ length front
length_front front b = omega (arith, length-append front (b ∷ []))

last_of : (front : List ℕ) (b : ℕ) → get_or (front ++ b ∷ []) (length (front ++ b ∷ []) - 1) 0 ≡ b
last_of front b = ap (λ n. get_or (front ++ b ∷ []) n 0) (length_front front b) ∙ get_or-append_seam front b [] 0

take_front : (front : List ℕ) (b : ℕ) → take (length front) (front ++ b ∷ []) ≡ front
take_front [] b = refl
take_front (x ∷ front) b = ap (λ l. x ∷ l) (take_front front b)

pub without_cr-of : (front : List ℕ) → without_cr (front ++ carriage_return ∷ []) ≡ front
without_cr-of front =
    let line = front ++ carriage_return ∷ [] in
    cond-true (eqb (get_or line (length line - 1) 0) carriage_return) (take (length line - 1) line) line (eq-eqb _ _ (last_of front carriage_return))
    ∙ ap (λ n. take n line) (length_front front carriage_return) ∙ take_front front carriage_return

pub without_cr-keeps : (line : List ℕ) → ((front : List ℕ) → line ≢ front ++ carriage_return ∷ []) → without_cr line ≡ line
without_cr-keeps line none =
    cond-false (eqb (get_or line (length line - 1) 0) carriage_return) (take (length line - 1) line) line
    (ne_eqb _ _ (λ e. none (take (length line - 1) line) (ends_with_cr line e)))

-- ---- the lines are of the form

lacks_onto : (x : ℕ) (ps : List (List ℕ)) → x ≢ line_end → IsMore ps → AllByRecursion LacksLineEnd ps → AllByRecursion LacksLineEnd (onto_first x ps)
lacks_onto x [] ne more h = absurd more
lacks_onto x (p ∷ ps) ne more h = ((ne, h.0), h.1)

lacks_either : (t : Bool) (x : ℕ) (ps : List (List ℕ)) → is_line_end x ≡ t → IsMore ps → AllByRecursion LacksLineEnd ps
    → AllByRecursion LacksLineEnd (cond t ([] ∷ ps) (onto_first x ps))
lacks_either true x ps e more h = (tt, h)
lacks_either false x ps e more h = lacks_onto x ps (eqb-false x line_end e) more h

pieces_lack : (bytes : List ℕ) → AllByRecursion LacksLineEnd (slice_split is_line_end bytes)
pieces_lack [] = (tt, tt)
pieces_lack (b ∷ bs) = lacks_either (is_line_end b) b (slice_split is_line_end bs) refl (split_more is_line_end bs) (pieces_lack bs)

lacks_part : (xs ys : List ℕ) → LacksLineEnd (xs ++ ys) → LacksLineEnd xs
lacks_part [] ys h = tt
lacks_part (x ∷ xs) ys h = (h.0, lacks_part xs ys h.1)

-- a piece with its end, before the rest
piece_before : (cr : Bool) (piece rest : List ℕ) (ls : List (List ℕ)) → eqb (get_or piece (length piece - 1) 0) carriage_return ≡ cr → LacksLineEnd piece
    → AreLinesOf ls rest → AreLinesOf (cond cr (take (length piece - 1) piece) piece ∷ ls) (piece ++ line_end ∷ rest)
piece_before true piece rest ls e lacks more =
    let front = take (length piece - 1) piece in
    let is = ends_with_cr piece (eqb-true _ _ e) in (
      rest,
      lacks_part front (carriage_return ∷ []) (rw is at lacks),
      inl (ap (λ l. l ++ line_end ∷ rest) is ∙ append_assoc front (carriage_return ∷ []) (line_end ∷ rest)),
      more,
    )
piece_before false piece rest ls e lacks more = (
  rest,
  lacks,
  inr (inl (refl, λ front is. eqb-false _ _ e (ap (λ l. get_or l (length l - 1) 0) is ∙ last_of front carriage_return))),
  more,
)

no_bytes : (last : List ℕ) → length last ≡ 0 → last ≡ []
no_bytes [] e = refl
no_bytes (b ∷ bs) e = absurd (omega arith)

last_line : (none : Bool) (last : List ℕ) → eqb (length last) 0 ≡ none → LacksLineEnd last → AreLinesOf (cond none [] (last ∷ [])) last
last_line true last e lacks = no_bytes last (eqb-true (length last) 0 e)
last_line false last e lacks = ([], lacks, inr (inr (refl, λ is. eqb-false (length last) 0 e (ap length is), refl)), refl)

pieces_are_lines : (ps : List (List ℕ)) → IsMore ps → AllByRecursion LacksLineEnd ps → AreLinesOf (lines_of ps) (join_with_byte line_end ps)
pieces_are_lines [] more h = absurd more
pieces_are_lines (last ∷ []) more h = last_line (eqb (length last) 0) last refl h.0
pieces_are_lines (piece ∷ next ∷ others) more h =
    piece_before (eqb (get_or piece (length piece - 1) 0) carriage_return) piece (join_with_byte line_end (next ∷ others)) (lines_of (next ∷ others)) refl h.0
    (pieces_are_lines (next ∷ others) tt h.1)

pub lines_are_of_form : (bytes : List ℕ) → AreLinesOf (lines bytes) bytes
lines_are_of_form bytes =
    subst (λ bs. AreLinesOf (lines bytes) bs) (join_with_byte-slice_split line_end bytes)
    (pieces_are_lines (slice_split is_line_end bytes) (split_more is_line_end bytes) (pieces_lack bytes))

-- ---- no other lines are

lacks_tests : (line : List ℕ) → LacksLineEnd line → AllByRecursion (λ b. is_line_end b ≡ false) line
lacks_tests [] h = tt
lacks_tests (b ∷ bs) h = (ne_eqb b line_end h.0, lacks_tests bs h.1)

lacks_all : (line : List ℕ) → LacksLineEnd line → All (λ b. is_line_end b ≡ false) line
lacks_all line h = All-from_recursion (λ b. is_line_end b ≡ false) line (lacks_tests line h)

-- a piece before a line end
cut_piece : (piece rest bytes : List ℕ) → LacksLineEnd piece → bytes ≡ piece ++ line_end ∷ rest → lines bytes ≡ without_cr piece ∷ lines rest
cut_piece piece rest bytes lacks e =
    lines-cut bytes piece rest (ap (λ l. slice_split is_line_end l) e ∙ slice_split_at is_line_end piece line_end rest (lacks_all piece lacks) refl)

lacks_cr : (line : List ℕ) → LacksLineEnd line → LacksLineEnd (line ++ carriage_return ∷ [])
lacks_cr [] h = (λ e. absurd (omega arith), tt)
lacks_cr (b ∷ bs) h = (h.0, lacks_cr bs h.1)

first_is : (line rest bytes : List ℕ) → LacksLineEnd line → IsLineBefore line rest bytes → lines bytes ≡ line ∷ lines rest
first_is line rest bytes lacks (inl e) =
    cut_piece (line ++ carriage_return ∷ []) rest bytes (lacks_cr line lacks) (e ∙ sym (append_assoc line (carriage_return ∷ []) (line_end ∷ rest)))
    ∙ ap (λ l. l ∷ lines rest) (without_cr-of line)
first_is line rest bytes lacks (inr (inl (e, none))) =
    cut_piece line rest bytes lacks e ∙ ap (λ l. l ∷ lines rest) (without_cr-keeps line none)
first_is line rest bytes lacks (inr (inr (e, some, ends))) =
    ap lines e ∙ ap lines_of (slice_split_none is_line_end line (lacks_all line lacks))
    ∙ cond-false (eqb (length line) 0) [] (line ∷ []) (ne_eqb (length line) 0 (λ n. some (no_bytes line n))) ∙ ap (λ r. line ∷ lines r) (sym ends)

pub lines_are_unique : (ls : List (List ℕ)) (bytes : List ℕ) → AreLinesOf ls bytes → lines bytes ≡ ls
lines_are_unique [] bytes e = ap lines e
lines_are_unique (line ∷ others) bytes h =
    first_is line h.0 bytes h.1 h.2 ∙ ap (λ ls. line ∷ ls) (lines_are_unique others h.0 h.3)
