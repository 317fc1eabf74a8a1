-- Written numbers read as they are.
use Rattle.std.proofs.Common.{◌≡◌, ℕ, ◌+◌, ◌-◌, ◌*◌, ◌/◌, ◌%◌, ◌^◌, ◌≤◌, ◌<◌, Bool, true, false, cond, leb, eqb, ◌&&◌, List, [], ◌∷◌, ◌++◌, length, map, decimal, Option, Some, None, Ok, Err, refl, sym, ap, ◌∙◌, arith}
use Rattle.std.specs.List.{list_all}
use Rattle.std.proofs.lemmas.Bool.{and_from, and_right, le-leb, eqb-true, cond-true, cond-false, agree_below_at}
use Rattle.std.proofs.lemmas.List.Folds.{list_all-append}
use Rattle.std.proofs.lemmas.Fmt.{decimal_by_steps}
use Rattle.std.proofs.lemmas.Nat.{div-add-mod'}
use Rattle.std.proofs.Math.Nat.{div-div-eq-div-mul}
use Rattle.bundle_text.specs.Form.{digit_char}
use Rattle.bundle_text.specs.Pieces.{is_some_bytes}
use Rattle.bundle_text.specs.Numbers.{is_decimal_digit, decimal_after, decimal_of, number_within, number_in, hex_digit_of, with_digit, hex_after, hex_of, without_0x, word_within, word_of}
use Rattle.bundle_text.specs.Text.{word_text}
use Rattle.bundle_text.specs.declared.bundle.BundleKind.TheVariants.{OutOfRange}
use Rattle.bundle_text.proofs.RoundTrip.Tokens.{is_visible, IsVisible, IsPlain, some_bytes-cons}

-- ---- decimal

pub is_digit : (d : ℕ) → d < 10 → is_decimal_digit (48 + d) ≡ true
is_digit d lt = and_from (leb 48 (48 + d)) (leb (48 + d) 57) (le-leb 48 (48 + d) (omega arith)) (le-leb (48 + d) 57 (omega arith))

pub digit-visible : (d : ℕ) → d < 10 → is_visible (48 + d) ≡ true
digit-visible d lt = and_from (leb 33 (48 + d)) (leb (48 + d) 126) (le-leb 33 (48 + d) (omega arith)) (le-leb (48 + d) 126 (omega arith))

one_digit_after : (m d : ℕ) → d < 10 → decimal_after m ((48 + d) ∷ []) ≡ Some (m * 10 + d)
one_digit_after m d lt =
    cond-true (is_decimal_digit (48 + d)) (Some (m * 10 + (48 + d - 48))) None (is_digit d lt)
    ∙ ap (λ k. Some (m * 10 + k)) (let e : 48 + d - 48 ≡ d = omega arith in e)

decimal_after-push : (ds : List ℕ) (m n d : ℕ) → d < 10 → decimal_after m ds ≡ Some n → decimal_after m (ds ++ (48 + d) ∷ []) ≡ Some (n * 10 + d)
decimal_after-push [] m n d lt e =
    let same : m ≡ n = cc in one_digit_after m d lt ∙ ap (λ k. Some (k * 10 + d)) same
decimal_after-push (c ∷ cs) m n d lt e =
    let next = m * 10 + (c - 48) in
    (elim (is_decimal_digit c) as
    (λ b. cond b (decimal_after next cs) None ≡ Some n → cond b (decimal_after next (cs ++ (48 + d) ∷ [])) None ≡ Some (n * 10 + d)) [
      | true ↦ λ h. decimal_after-push cs next n d lt h
      | false ↦ λ h. cc
    ]) e

-- a text of digits and its number
record IsWritten (number : ℕ) (text : List ℕ) : Type 0 where
  reads : decimal_after 0 text ≡ Some number
  some : is_some_bytes text ≡ true
  visible : IsVisible text

some_bytes-push : (bs : List ℕ) (b : ℕ) → is_some_bytes (bs ++ b ∷ []) ≡ true
some_bytes-push [] b = refl
some_bytes-push (c ∷ cs) b = some_bytes-cons c (cs ++ b ∷ [])

written_one : (n : ℕ) → n < 10 → IsWritten n ((48 + n) ∷ [])
written_one n lt = record {
  reads = one_digit_after 0 n lt ∙ ap Some (let e : 0 * 10 + n ≡ n = omega arith in e);
  some = refl;
  visible = and_from (is_visible (48 + n)) true (digit-visible n lt) refl;
}

written_more : (n : ℕ) (ds : List ℕ) → 10 ≤ n → IsWritten (n / 10) ds → IsWritten n (ds ++ (48 + n % 10) ∷ [])
written_more n ds low h =
    let lt : n % 10 < 10 = omega arith in record {
      reads = decimal_after-push ds 0 (n / 10) (n % 10) lt h.reads ∙ ap Some (div-add-mod' n 10);
      some = some_bytes-push ds (48 + n % 10);
      visible = list_all-append is_visible ds ((48 + n % 10) ∷ [])
          ∙ and_from (list_all is_visible ds) (is_visible (48 + n % 10) && true) h.visible
          (and_from (is_visible (48 + n % 10)) true (digit-visible (n % 10) lt) refl);
    }

written : (n : ℕ) → n < 2 ^ 64 → IsWritten n (decimal n)
written n small = decimal_by_steps IsWritten written_one written_more n small

decimal_of-some : (text : List ℕ) (n : ℕ) → is_some_bytes text ≡ true → decimal_after 0 text ≡ Some n → decimal_of text ≡ Some n
decimal_of-some [] n some e = cc
decimal_of-some (d ∷ ds) n some e = e

pub decimal_of-decimal : (n : ℕ) → n < 2 ^ 64 → decimal_of (decimal n) ≡ Some n
decimal_of-decimal n small = let w = written n small in decimal_of-some (decimal n) n w.some w.reads

pub plain_decimal : (n : ℕ) → n < 2 ^ 64 → IsPlain (decimal n)
plain_decimal n small = let w = written n small in record { some = w.some; visible = w.visible }

pub number_in-decimal : (low high n : ℕ) → low ≤ n → n ≤ high → n < 2 ^ 64 → number_in low high (decimal n) ≡ Ok n
number_in-decimal low high n above below small =
    ap (λ o. number_within low high o) (decimal_of-decimal n small)
    ∙ cond-true (leb low n && leb n high) (Ok n) (Err OutOfRange) (and_from (leb low n) (leb n high) (le-leb low n above) (le-leb n high below))

-- ---- words

-- the characters of digits, tried one after another

abbrev is_number : Option ℕ → ℕ → Bool
is_number None n = false
is_number (Some m) n = eqb m n

number_is : (o : Option ℕ) (n : ℕ) → is_number o n ≡ true → o ≡ Some n
number_is None n e = cc
number_is (Some m) n e = ap Some (eqb-true m n e)

abbrev reads_digit : ℕ → Bool
reads_digit d = is_number (hex_digit_of (digit_char d)) d

hex_digit_of-char : (d : ℕ) → d < 16 → hex_digit_of (digit_char d) ≡ Some d
hex_digit_of-char d lt =
    number_is (hex_digit_of (digit_char d)) d (agree_below_at reads_digit (λ k. true) 16 d refl lt)

char-visible : (d : ℕ) → d < 16 → is_visible (digit_char d) ≡ true
char-visible d lt = agree_below_at (λ k. is_visible (digit_char k)) (λ k. true) 16 d refl lt

char-no_x : (d : ℕ) → d < 16 → eqb (digit_char d) 0x78 ≡ false
char-no_x d lt = agree_below_at (λ k. eqb (digit_char k) 0x78) (λ k. false) 16 d refl lt

-- a digit, and then the others
hex_after-char : (n d : ℕ) (cs : List ℕ) → d < 16 → hex_after (Some n) (digit_char d ∷ cs) ≡ hex_after (Some (n * 16 + d)) cs
hex_after-char n d cs lt = ap (λ o. hex_after (with_digit n o) cs) (hex_digit_of-char d lt)

-- the digit at a place of a number, of which those before are read
hex_after-place : (word place higher : ℕ) (cs : List ℕ) → higher ≡ place * 16
    → hex_after (Some (word / higher)) (digit_char (word / place % 16) ∷ cs) ≡ hex_after (Some (word / place)) cs
hex_after-place word place higher cs e =
    let front : word / higher ≡ word / place / 16 = ap (λ k. word / k) e ∙ sym (div-div-eq-div-mul word place 16) in
    hex_after-char (word / higher) (word / place % 16) cs (omega arith)
    ∙ ap (λ k. hex_after (Some (k * 16 + word / place % 16)) cs) front
    ∙ ap (λ k. hex_after (Some k) cs) (div-add-mod' (word / place) 16)

-- the last digits of a word
abbrev tail : ℕ → ℕ → List ℕ → List ℕ
tail word place cs = digit_char (word / place % 16) ∷ cs

hex_after-word : (word : ℕ) → word < 2 ^ 32 → hex_after (Some 0) (word_text word) ≡ Some word
hex_after-word word small =
    let c0 = tail word 1 [] in
    let c1 = tail word 0x10 c0 in
    let c2 = tail word 0x100 c1 in
    let c3 = tail word 0x1000 c2 in
    let c4 = tail word 0x10000 c3 in
    let c5 = tail word 0x100000 c4 in
    let c6 = tail word 0x1000000 c5 in
    let c7 = tail word 0x10000000 c6 in
    let none : 0 ≡ word / 0x100000000 = omega arith in
    ap (λ k. hex_after (Some k) c7) none ∙ hex_after-place word 0x10000000 0x100000000 c6 refl
    ∙ hex_after-place word 0x1000000 0x10000000 c5 refl ∙ hex_after-place word 0x100000 0x1000000 c4 refl
    ∙ hex_after-place word 0x10000 0x100000 c3 refl ∙ hex_after-place word 0x1000 0x10000 c2 refl
    ∙ hex_after-place word 0x100 0x1000 c1 refl ∙ hex_after-place word 0x10 0x100 c0 refl ∙ hex_after-place word 1 0x10 [] refl
    ∙ ap Some (let e : word / 1 ≡ word = omega arith in e)

without_0x-two : (b c : ℕ) (cs : List ℕ) → eqb c 0x78 ≡ false → without_0x (b ∷ c ∷ cs) ≡ b ∷ c ∷ cs
without_0x-two b c cs e = cond-false (eqb b 0x30 && eqb c 0x78) cs (b ∷ c ∷ cs) (and_right (eqb b 0x30) (eqb c 0x78) e)

pub word_of-word : (word : ℕ) → word < 2 ^ 32 → word_of (word_text word) ≡ Ok word
word_of-word word small =
    let c0 = tail word 1 [] in
    let cs = tail word 0x100000 (tail word 0x10000 (tail word 0x1000 (tail word 0x100 (tail word 0x10 c0)))) in
    ap (λ l. word_within (leb (length l) 8) (hex_of l))
    (without_0x-two (digit_char (word / 0x10000000 % 16)) (digit_char (word / 0x1000000 % 16)) cs
    (char-no_x (word / 0x1000000 % 16) (omega arith)))
    ∙ ap (λ o. word_within true o) (hex_after-word word small)

visible_places : (word : ℕ) (ks : List ℕ) → IsVisible (map (λ k. digit_char (word / 16 ^ k % 16)) ks)
visible_places word [] = refl
visible_places word (k ∷ ks) =
    and_from (is_visible (digit_char (word / 16 ^ k % 16))) (list_all is_visible (map (λ i. digit_char (word / 16 ^ i % 16)) ks))
    (char-visible (word / 16 ^ k % 16) (omega arith)) (visible_places word ks)

plain_places : (word : ℕ) (k : ℕ) (ks : List ℕ) → IsPlain (map (λ i. digit_char (word / 16 ^ i % 16)) (k ∷ ks))
plain_places word k ks = record {
  some = some_bytes-cons (digit_char (word / 16 ^ k % 16)) (map (λ i. digit_char (word / 16 ^ i % 16)) ks);
  visible = visible_places word (k ∷ ks);
}

pub plain_word : (word : ℕ) → IsPlain (word_text word)
plain_word word = plain_places word 7 (6 ∷ 5 ∷ 4 ∷ 3 ∷ 2 ∷ 1 ∷ 0 ∷ [])
