-- The tokens of a line that is written as tokens with one blank between each two, and the first line of a text.
use Rattle.std.proofs.Common.{◌≡◌, ◌≢◌, ℕ, ◌-◌, ◌≤◌, Bool, true, false, not, leb, eqb, ◌&&◌, List, [], ◌∷◌, ◌++◌, length, get_or, take, filter, refl, sym, ap, ◌∙◌, arith, append-nil}
use Rattle.std.specs.List.{AllByRecursion, All, list_all, slice_split}
use Rattle.std.proofs.lemmas.Bool.{and_parts, and_from, or_from, leb-true, ne_eqb, eqb-true, eqb-false, not-true, false_from_ne_true, false≢true, cond-true, cond-false}
use Rattle.std.proofs.lemmas.List.Elements.{All-from_recursion, All-get_or}
use Rattle.std.proofs.lemmas.List.Splits.{slice_split_none, slice_split_at}
use Rattle.bundle_text.specs.Pieces.{is_line_end, is_blank, is_text_byte, is_text, without_cr, lines, is_some_bytes, tokens}
use Rattle.bundle_text.specs.Text.{after_blanks}
use Rattle.bundle_text.specs.declared.pieces.TheConstants.{CARRIAGE_RETURN}
use Rattle.bundle_text.proofs.Splits.{lines-cut}

-- ---- bytes of tokens

-- printable ASCII but the space
abbrev pub is_visible : ℕ → Bool
is_visible b = leb 0x21 b && leb b 0x7e

abbrev pub IsVisible : List ℕ → Type 0
IsVisible bytes = list_all is_visible bytes ≡ true

-- a token as it is written
pub record IsPlain (token : List ℕ) : Type 0 where
  pub some : is_some_bytes token ≡ true
  pub visible : IsVisible token

pub some_bytes-cons : (b : ℕ) (bs : List ℕ) → is_some_bytes (b ∷ bs) ≡ true
some_bytes-cons b bs = ap not (ne_eqb (length (b ∷ bs)) 0 (λ q. omega arith))

visible-low : (b : ℕ) → is_visible b ≡ true → 33 ≤ b
visible-low b e = leb-true 33 b (and_parts (leb 33 b) (leb b 126) e).0

visible-high : (b : ℕ) → is_visible b ≡ true → b ≤ 126
visible-high b e = leb-true b 126 (and_parts (leb 33 b) (leb b 126) e).1

visible-no_blank : (b : ℕ) → is_visible b ≡ true → is_blank b ≡ false
visible-no_blank b e =
    let low = visible-low b e in or_from (eqb b 32) (eqb b 9) (ne_eqb b 32 (λ q. omega arith)) (ne_eqb b 9 (λ q. omega arith))

-- what holds of each visible byte holds of each byte of a token
each_visible : (P : ℕ → Type 0) → ((b : ℕ) → is_visible b ≡ true → P b) → (bytes : List ℕ) → IsVisible bytes → AllByRecursion P bytes
each_visible P h [] e = tt
each_visible P h (b ∷ bs) e = let p = and_parts (is_visible b) (list_all is_visible bs) e in (h b p.0, each_visible P h bs p.1)

each_append : (P : ℕ → Type 0) (xs ys : List ℕ) → AllByRecursion P xs → AllByRecursion P ys → AllByRecursion P (xs ++ ys)
each_append P [] ys h k = k
each_append P (x ∷ xs) ys h k = (h.0, each_append P xs ys h.1 k)

each_after_blanks : (P : ℕ → Type 0) → ((b : ℕ) → is_visible b ≡ true → P b) → P 32 → (ts : List (List ℕ)) → AllByRecursion IsPlain ts
    → AllByRecursion P (after_blanks ts)
each_after_blanks P h blank [] plain = tt
each_after_blanks P h blank (t ∷ ts) plain =
    (blank, each_append P t (after_blanks ts) (each_visible P h t plain.0.visible) (each_after_blanks P h blank ts plain.1))

-- what holds of each visible byte and of the space holds of each byte of a line
each_of_line : (P : ℕ → Type 0) → ((b : ℕ) → is_visible b ≡ true → P b) → P 32 → (word : List ℕ) (ts : List (List ℕ)) → IsPlain word
    → AllByRecursion IsPlain ts → AllByRecursion P (word ++ after_blanks ts)
each_of_line P h blank word ts first plain =
    each_append P word (after_blanks ts) (each_visible P h word first.visible) (each_after_blanks P h blank ts plain)

-- ---- the tokens of a line

no_blanks : (bytes : List ℕ) → IsVisible bytes → All (λ b. is_blank b ≡ false) bytes
no_blanks bytes e =
    All-from_recursion (λ b. is_blank b ≡ false) bytes (each_visible (λ b. is_blank b ≡ false) visible-no_blank bytes e)

split_tokens : (word : List ℕ) (ts : List (List ℕ)) → IsVisible word → AllByRecursion IsPlain ts → slice_split is_blank (word ++ after_blanks ts) ≡ word ∷ ts
split_tokens word [] e plain =
    ap (λ l. slice_split is_blank l) (append-nil word) ∙ slice_split_none is_blank word (no_blanks word e)
split_tokens word (t ∷ ts) e plain =
    slice_split_at is_blank word 32 (t ++ after_blanks ts) (no_blanks word e) refl ∙ ap (λ l. word ∷ l) (split_tokens t ts plain.0.visible plain.1)

all_kept : (ts : List (List ℕ)) → AllByRecursion IsPlain ts → filter is_some_bytes ts ≡ ts
all_kept [] plain = refl
all_kept (t ∷ ts) plain =
    cond-true (is_some_bytes t) (t ∷ filter is_some_bytes ts) (filter is_some_bytes ts) plain.0.some ∙ ap (λ l. t ∷ l) (all_kept ts plain.1)

-- the tokens of a line are those that it is written of
pub tokens-line : (word : List ℕ) (ts : List (List ℕ)) → IsPlain word → AllByRecursion IsPlain ts → tokens (word ++ after_blanks ts) ≡ word ∷ ts
tokens-line word ts first plain =
    ap (λ l. filter is_some_bytes l) (split_tokens word ts first.visible plain) ∙ all_kept (word ∷ ts) (first, plain)

-- ---- lines

-- a line that is written as it is: of bytes of text, without CR
pub record IsRaw (line : List ℕ) : Type 0 where
  pub text : is_text line ≡ true
  pub no_cr : AllByRecursion (λ b. b ≢ CARRIAGE_RETURN) line

-- the same by a test that computes, for a line of which the bytes are known
pub raw_by_test : (line : List ℕ) → is_text line ≡ true → list_all (λ b. not (eqb b CARRIAGE_RETURN)) line ≡ true → IsRaw line
raw_by_test line text tested = record { text = text; no_cr = none line tested }
  where
    none : (bytes : List ℕ) → list_all (λ b. not (eqb b CARRIAGE_RETURN)) bytes ≡ true → AllByRecursion (λ b. b ≢ CARRIAGE_RETURN) bytes
    none [] e = tt
    none (b ∷ bs) e =
        let p = and_parts (not (eqb b CARRIAGE_RETURN)) (list_all (λ c. not (eqb c CARRIAGE_RETURN)) bs) e in
        (eqb-false b CARRIAGE_RETURN (not-true (eqb b CARRIAGE_RETURN) p.0), none bs p.1)

visible-text : (b : ℕ) → is_visible b ≡ true → is_text_byte b ≡ true
visible-text b e =
    let low = visible-low b e in
    let high = visible-high b e in grind arith

visible-no_cr : (b : ℕ) → is_visible b ≡ true → b ≢ CARRIAGE_RETURN
visible-no_cr b e = let low = visible-low b e in λ q. omega arith

text_from_each : (bytes : List ℕ) → AllByRecursion (λ b. is_text_byte b ≡ true) bytes → is_text bytes ≡ true
text_from_each [] h = refl
text_from_each (b ∷ bs) h = and_from (is_text_byte b) (is_text bs) h.0 (text_from_each bs h.1)

-- a line of tokens is one
pub raw_line : (word : List ℕ) (ts : List (List ℕ)) → IsPlain word → AllByRecursion IsPlain ts → IsRaw (word ++ after_blanks ts)
raw_line word ts first plain = record {
  text = text_from_each (word ++ after_blanks ts) (each_of_line (λ b. is_text_byte b ≡ true) visible-text refl word ts first plain);
  no_cr = each_of_line (λ b. b ≢ CARRIAGE_RETURN) visible-no_cr (λ q. omega arith) word ts first plain;
}

text-no_line_end : (b : ℕ) → is_text_byte b ≡ true → is_line_end b ≡ false
text-no_line_end b e =
    false_from_ne_true (is_line_end b) (λ t. false≢true (sym (ap is_text_byte (eqb-true b 10 t)) ∙ e))

each_no_line_end : (bytes : List ℕ) → is_text bytes ≡ true → AllByRecursion (λ b. is_line_end b ≡ false) bytes
each_no_line_end [] e = tt
each_no_line_end (b ∷ bs) e =
    let p = and_parts (is_text_byte b) (is_text bs) e in (text-no_line_end b p.0, each_no_line_end bs p.1)

last_no_cr : (line : List ℕ) → AllByRecursion (λ b. b ≢ CARRIAGE_RETURN) line → eqb (get_or line (length line - 1) 0) CARRIAGE_RETURN ≡ false
last_no_cr [] h = refl
last_no_cr (b ∷ bs) h =
    ne_eqb (get_or (b ∷ bs) (length (b ∷ bs) - 1) 0) CARRIAGE_RETURN
    (All-get_or (λ c. c ≢ CARRIAGE_RETURN) (b ∷ bs) (length (b ∷ bs) - 1) 0 (omega arith) (All-from_recursion (λ c. c ≢ CARRIAGE_RETURN) (b ∷ bs) h))

without_cr-raw : (line : List ℕ) → IsRaw line → without_cr line ≡ line
without_cr-raw line h =
    cond-false (eqb (get_or line (length line - 1) 0) CARRIAGE_RETURN) (take (length line - 1) line) line (last_no_cr line h.no_cr)

-- a line and its end, and then the lines of the rest
pub lines-raw : (line rest : List ℕ) → IsRaw line → lines (line ++ 10 ∷ rest) ≡ line ∷ lines rest
lines-raw line rest h =
    lines-cut (line ++ 10 ∷ rest) line rest
    (slice_split_at is_line_end line 10 rest (All-from_recursion (λ b. is_line_end b ≡ false) line (each_no_line_end line h.text)) refl)
    ∙ ap (λ l. l ∷ lines rest) (without_cr-raw line h)
