-- The tokens of a line are the tokens of its form, and no others are.
use Rattle.std.proofs.Common.{◌≡◌, ◌≢◌, ℕ, inl, inr, Bool, true, false, cond, eqb, List, [], ◌∷◌, ◌++◌, length, filter, refl, sym, ap, ◌∙◌, subst, arith, append_assoc, append-nil}
use Rattle.std.specs.List.{AllByRecursion, slice_split, onto_first}
use Rattle.std.proofs.lemmas.Bool.{eqb-true, ne_eqb, or_cases, or_left, or_right, eq-eqb, not_from_false, cond-true, false_from_ne_true}
use Rattle.std.proofs.lemmas.List.Elements.{All-from_recursion}
use Rattle.std.proofs.lemmas.List.Splits.{slice_split_none, slice_split_at, slice_split-cons_yes}
use Rattle.bundle_text.specs.Pieces.{is_blank, is_some_bytes, tokens}
use Rattle.bundle_text.specs.Form.{IsBlank, IsToken, BeginsBlank, AreTokensOf}

-- ---- blanks

blank_from : (b : ℕ) → is_blank b ≡ true → IsBlank b
blank_from b h =
    elim (or_cases (eqb b 0x20) (eqb b 0x09) h) as (λ _. IsBlank b) [ inl e ↦ inl (eqb-true b 0x20 e) | inr e ↦ inr (eqb-true b 0x09 e) ]

blank_true : (b : ℕ) → IsBlank b → is_blank b ≡ true
blank_true b (inl e) = or_left (eqb b 0x20) (eqb b 0x09) (eq-eqb b 0x20 e)
blank_true b (inr e) = or_right (eqb b 0x20) (eqb b 0x09) (eq-eqb b 0x09 e)

not_blank : (b : ℕ) → is_blank b ≡ false → IsBlank b → ⊥
not_blank b e h = let yes = blank_true b h in cc

blank_false : (b : ℕ) → (IsBlank b → ⊥) → is_blank b ≡ false
blank_false b none = false_from_ne_true (is_blank b) (λ e. none (blank_from b e))

-- ---- the tokens are of the form

-- a blank more before the tokens
blank_before : (b : ℕ) (ts : List (List ℕ)) (line : List ℕ) → IsBlank b → AreTokensOf ts line → AreTokensOf ts (b ∷ line)
blank_before b [] line blank h = (blank, h)
blank_before b (t ∷ ts) line blank h = (b ∷ h.0, h.1, (blank, h.2), h.3, ap (λ l. b ∷ l) h.4, h.5, h.6)

-- a first piece, and the tokens of what begins with the blank after it
record IsFirst (piece : List ℕ) (others : List (List ℕ)) (line : List ℕ) : Type 0 where
  rest : List ℕ
  parts : line ≡ piece ++ rest
  whole : AllByRecursion (λ b. IsBlank b → ⊥) piece
  begins : BeginsBlank rest
  more : AreTokensOf (filter is_some_bytes others) rest

abbrev FirstOf : List (List ℕ) → List ℕ → Type 0
FirstOf [] line = ⊥
FirstOf (piece ∷ others) line = IsFirst piece others line

some_bytes : (b : ℕ) (bs : List ℕ) → is_some_bytes (b ∷ bs) ≡ true
some_bytes b bs = not_from_false (eqb (length (b ∷ bs)) 0) (ne_eqb (length (b ∷ bs)) 0 (λ e. omega arith))

kept : (b : ℕ) (bs : List ℕ) (others : List (List ℕ)) → filter is_some_bytes ((b ∷ bs) ∷ others) ≡ (b ∷ bs) ∷ filter is_some_bytes others
kept b bs others = cond-true (is_some_bytes (b ∷ bs)) ((b ∷ bs) ∷ filter is_some_bytes others) (filter is_some_bytes others) (some_bytes b bs)

-- the tokens of a line, by its first piece
tokens_from : (piece : List ℕ) (others : List (List ℕ)) (line : List ℕ) → IsFirst piece others line → AreTokensOf (filter is_some_bytes (piece ∷ others)) line
tokens_from [] others line h = subst (λ l. AreTokensOf (filter is_some_bytes others) l) (sym h.parts) h.more
tokens_from (b ∷ bs) others line h =
    subst (λ ts. AreTokensOf ts line) (sym (kept b bs others))
    ([], h.rest, tt, record { some = λ e. cc; whole = h.whole }, h.parts, h.begins, h.more)

blank_first : (b : ℕ) (ps : List (List ℕ)) (line : List ℕ) → IsBlank b → FirstOf ps line → IsFirst [] ps (b ∷ line)
blank_first b [] line blank h = absurd h
blank_first b (p ∷ ps) line blank h = record {
  rest = b ∷ line;
  parts = refl;
  whole = tt;
  begins = blank;
  more = blank_before b (filter is_some_bytes (p ∷ ps)) line blank (tokens_from p ps line h);
}

byte_first : (b : ℕ) (ps : List (List ℕ)) (line : List ℕ) → (IsBlank b → ⊥) → FirstOf ps line → FirstOf (onto_first b ps) (b ∷ line)
byte_first b [] line none h = absurd h
byte_first b (p ∷ ps) line none h = record {
  rest = h.rest;
  parts = ap (λ l. b ∷ l) h.parts;
  whole = (none, h.whole);
  begins = h.begins;
  more = h.more;
}

either_first : (t : Bool) (b : ℕ) (ps : List (List ℕ)) (line : List ℕ) → is_blank b ≡ t → FirstOf ps line
    → FirstOf (cond t ([] ∷ ps) (onto_first b ps)) (b ∷ line)
either_first true b ps line e h = blank_first b ps line (blank_from b e) h
either_first false b ps line e h = byte_first b ps line (not_blank b e) h

first_of : (line : List ℕ) → FirstOf (slice_split is_blank line) line
first_of [] = record { rest = []; parts = refl; whole = tt; begins = tt; more = tt }
first_of (b ∷ bs) = either_first (is_blank b) b (slice_split is_blank bs) bs refl (first_of bs)

tokens_of_pieces : (ps : List (List ℕ)) (line : List ℕ) → FirstOf ps line → AreTokensOf (filter is_some_bytes ps) line
tokens_of_pieces [] line h = absurd h
tokens_of_pieces (p ∷ ps) line h = tokens_from p ps line h

pub tokens_are_of_form : (line : List ℕ) → AreTokensOf (tokens line) line
tokens_are_of_form line = tokens_of_pieces (slice_split is_blank line) line (first_of line)

-- ---- no other tokens are

after_blank : (b : ℕ) (line : List ℕ) → IsBlank b → tokens (b ∷ line) ≡ tokens line
after_blank b line h = ap (λ ps. filter is_some_bytes ps) (slice_split-cons_yes is_blank b line (blank_true b h))

after_blanks : (blanks line : List ℕ) → AllByRecursion IsBlank blanks → tokens (blanks ++ line) ≡ tokens line
after_blanks [] line h = refl
after_blanks (b ∷ bs) line h = after_blank b (bs ++ line) h.0 ∙ after_blanks bs line h.1

no_tokens : (blanks : List ℕ) → AllByRecursion IsBlank blanks → tokens blanks ≡ []
no_tokens [] h = refl
no_tokens (b ∷ bs) h = after_blank b bs h.0 ∙ no_tokens bs h.1

whole_tests : (token : List ℕ) → AllByRecursion (λ b. IsBlank b → ⊥) token → AllByRecursion (λ b. is_blank b ≡ false) token
whole_tests [] h = tt
whole_tests (b ∷ bs) h = (blank_false b h.0, whole_tests bs h.1)

token_kept : (token : List ℕ) (others : List (List ℕ)) → token ≢ [] → filter is_some_bytes (token ∷ others) ≡ token ∷ filter is_some_bytes others
token_kept [] others some = absurd (some refl)
token_kept (b ∷ bs) others some = kept b bs others

-- a token before the rest of a line
token_first : (token rest : List ℕ) → IsToken token → BeginsBlank rest → tokens (token ++ rest) ≡ token ∷ tokens rest
token_first token [] is begins =
    ap tokens (append-nil token)
    ∙ ap (λ ps. filter is_some_bytes ps) (slice_split_none is_blank token (All-from_recursion (λ b. is_blank b ≡ false) token (whole_tests token is.whole)))
    ∙ token_kept token [] is.some
token_first token (b ∷ rest) is begins =
    ap (λ ps. filter is_some_bytes ps)
    (slice_split_at is_blank token b rest (All-from_recursion (λ x. is_blank x ≡ false) token (whole_tests token is.whole)) (blank_true b begins))
    ∙ token_kept token (slice_split is_blank rest) is.some ∙ ap (λ ts. token ∷ ts) (sym (after_blank b rest begins))

pub tokens_are_unique : (ts : List (List ℕ)) (line : List ℕ) → AreTokensOf ts line → tokens line ≡ ts
tokens_are_unique [] line h = no_tokens line h
tokens_are_unique (token ∷ others) line h =
    ap tokens (h.4 ∙ append_assoc h.0 token h.1) ∙ after_blanks h.0 (token ++ h.1) h.2 ∙ token_first token h.1 h.3 h.5
    ∙ ap (λ ts. token ∷ ts) (tokens_are_unique others h.1 h.6)
