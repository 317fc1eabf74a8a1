-- Numbers and names that were written are read as what they were.
use Rattle.std.proofs.Common.{◌≡◌, ℕ, zero, suc, ◌+◌, ◌-◌, ◌*◌, ◌/◌, ◌%◌, ◌^◌, ◌<◌, ◌≤◌, Bool, true, false, ◌&&◌, cond, eqb, ltb, leb, List, [], ◌∷◌, ◌++◌, length, drop, codes, Option, Some, None, option_map, Ok, Err, ℤ, pos, negsuc, refl, ap, ◌∙◌, arith, length-append, pow_mono, lit<, lit≤}
use Rattle.std.proofs.Math.Nat.{pow-suc}
use Rattle.std.specs.Fmt.{digits, decimal, signed_decimal, digit_glyph}
use Rattle.std.specs.List.{list_any, list_all}
use Rattle.std.proofs.lemmas.Bool.{agree_below, agree_below_at, eqb-true, eq-eqb, ne_eqb, leb-true, lt-ltb, le-leb, and_parts, and_from, and_left, and_right, or_from}
use Rattle.std.proofs.lemmas.Fmt.{decimal_by_steps}
use Rattle.std.proofs.lemmas.Nat.{div_below}
use Rattle.std.proofs.lemmas.List.Folds.{list_all-append}
use Rattle.isa_model.specs.Bits.{IsInBits}
use Rattle.isa_model.specs.Encoding.{IsEven}
use Rattle.rv_decode.specs.Text.{hex_digits, register_text, target_text, csr_text}
use Rattle.asm_line.specs.declared.line.AsmKind.TheVariants.{BadRegister, BadNumber, OutOfRange}
use Rattle.asm_line.specs.declared.fields.Target.TheVariants.{Distance}
use Rattle.asm_line.specs.declared.pieces.Separator.{Separator}
use Rattle.asm_line.specs.declared.pieces.Separator.TheVariants.{Hash, Colon, Comma, Opening, Blank}
use Rattle.asm_line.specs.Pieces.{is_separator}
use Rattle.asm_line.specs.Numbers.{is_decimal_digit, digit_of, with_digit, digits_after, digits_value, natural_of, number_of, distance_of, negative, begins, is_within, is_even}
use Rattle.asm_line.specs.Names.{number_named, register_names}
use Rattle.asm_line.specs.Operands.{◌>>=◌, or_fault, register, in_range, number_in, unsigned_in, word_in, word_value, csr, target_or_label, target}
use Rattle.asm_line.proofs.Parts.{Lacks, lacks-append}

-- whether an answer is this number
abbrev pub is_answer : ℕ → Option ℕ → Bool
is_answer n None = false
is_answer n (Some m) = eqb m n

pub answer_is : (n : ℕ) (o : Option ℕ) → is_answer n o ≡ true → o ≡ Some n
answer_is n None h = cc
answer_is n (Some m) h = ap (λ k. Some k) (eqb-true m n h)

-- a test that passes at each number below a written-out one
below_passes : (test : ℕ → Bool) (n k : ℕ) → agree_below test (λ _. true) n ≡ true → k < n → test k ≡ true
below_passes test n k h lt = agree_below_at test (λ _. true) n k h lt

-- ---- digits

pub digits_after-append : (base : ℕ) (o : Option ℕ) (xs ys : List ℕ) → digits_after base o (xs ++ ys) ≡ digits_after base (digits_after base o xs) ys
digits_after-append base None xs ys = refl
digits_after-append base (Some n) [] ys = refl
digits_after-append base (Some n) (x ∷ xs) ys = digits_after-append base (with_digit base n (digit_of x)) xs ys

one_digit : (base n b d : ℕ) → digit_of b ≡ Some d → d < base → digits_after base (Some n) (b ∷ []) ≡ Some (n * base + d)
one_digit base n b d e lt =
    ap (λ o. digits_after base (with_digit base n o) []) e
    ∙ ap (λ t. digits_after base (cond t (Some (n * base + d)) None) []) (lt-ltb d base lt)

glyph_digit : (d : ℕ) → d < 16 → digit_of (digit_glyph false d) ≡ Some d
glyph_digit d lt = answer_is d (digit_of (digit_glyph false d)) (below_passes (λ k. is_answer k (digit_of (digit_glyph false k))) 16 d refl lt)

decimal_digit_of : (d : ℕ) → d < 10 → digit_of (48 + d) ≡ Some d
decimal_digit_of d lt = answer_is d (digit_of (48 + d)) (below_passes (λ k. is_answer k (digit_of (48 + k))) 10 d refl lt)

decimal_digit_is : (d : ℕ) → d < 10 → is_decimal_digit (48 + d) ≡ true
decimal_digit_is d lt = below_passes (λ k. is_decimal_digit (48 + k)) 10 d refl lt

-- what the digits of a number are, whatever it is
pub record IsNumberText (n : ℕ) (text : List ℕ) : Type 0 where
  pub digits : list_all is_decimal_digit text ≡ true
  pub some : 0 < length text
  pub value : digits_after 10 (Some 0) text ≡ Some n

number_text_one : (n : ℕ) → n < 10 → IsNumberText n ((48 + n) ∷ [])
number_text_one n lt = record {
  digits = and_from (is_decimal_digit (48 + n)) true (decimal_digit_is n lt) refl;
  some = omega arith;
  value = one_digit 10 0 (48 + n) n (decimal_digit_of n lt) lt ∙ ap (λ k. Some k) (let e : 0 * 10 + n ≡ n = omega arith in e);
}

number_text_more : (n : ℕ) (ds : List ℕ) → 10 ≤ n → IsNumberText (n / 10) ds → IsNumberText n (ds ++ ((48 + n % 10) ∷ []))
number_text_more n ds large h =
    let lt : n % 10 < 10 = omega arith in
    record {
      digits = list_all-append is_decimal_digit ds ((48 + n % 10) ∷ [])
          ∙ and_from (list_all is_decimal_digit ds) (is_decimal_digit (48 + n % 10) && true) h.digits (and_from (is_decimal_digit (48 + n % 10)) true (decimal_digit_is (n % 10) lt) refl);
      some = let e = length-append ds ((48 + n % 10) ∷ []) in omega arith;
      value = digits_after-append 10 (Some 0) ds ((48 + n % 10) ∷ [])
          ∙ ap (λ o. digits_after 10 o ((48 + n % 10) ∷ [])) h.value
          ∙ one_digit 10 (n / 10) (48 + n % 10) (n % 10) (decimal_digit_of (n % 10) lt) lt
          ∙ ap (λ k. Some k) (let e : n / 10 * 10 + n % 10 ≡ n = omega arith in e);
    }

pub decimal_text : (n : ℕ) → n < 2 ^ 64 → IsNumberText n (decimal n)
decimal_text n lt = decimal_by_steps (λ k ds. IsNumberText k ds) number_text_one number_text_more n lt

-- ---- hexadecimal digits

pub hex_value : (count n : ℕ) → n < 16 ^ count → digits_after 16 (Some 0) (hex_digits count n) ≡ Some n
hex_value zero n lt = ap (λ k. Some k) (let e : 0 ≡ n = omega arith in e)
hex_value (suc count) n lt =
    let small : n % 16 < 16 = omega arith in
    let e = pow-suc 16 count in
    let front : n / 16 < 16 ^ count = div_below n 16 (16 ^ count) (omega arith) (omega arith) in
    digits_after-append 16 (Some 0) (hex_digits count (n / 16)) (digit_glyph false (n % 16) ∷ [])
    ∙ ap (λ o. digits_after 16 o (digit_glyph false (n % 16) ∷ [])) (hex_value count (n / 16) front)
    ∙ one_digit 16 (n / 16) (digit_glyph false (n % 16)) (n % 16) (glyph_digit (n % 16) small) small
    ∙ ap (λ k. Some k) (let q : n / 16 * 16 + n % 16 ≡ n = omega arith in q)

-- ---- signs and prefixes

digit_range : (b : ℕ) → is_decimal_digit b ≡ true → (48 ≤ b) × (b ≤ 57)
digit_range b h = let parts = and_parts (leb 48 b) (leb b 57) h in (leb-true 48 b parts.0, leb-true b 57 parts.1)

-- digits alone don't begin as a negative or a hexadecimal number does
no_minus : (text : List ℕ) → list_all is_decimal_digit text ≡ true → begins (codes "-") text ≡ false
no_minus [] h = refl
no_minus (a ∷ text) h =
    let range = digit_range a (and_parts (is_decimal_digit a) (list_all is_decimal_digit text) h).0 in
    and_left (eqb 45 a) true (ne_eqb 45 a (λ e. omega arith))

no_hex_prefix : (text : List ℕ) → list_all is_decimal_digit text ≡ true → begins (codes "0x") text ≡ false
no_hex_prefix [] h = refl
no_hex_prefix (a ∷ []) h = and_right (eqb 48 a) false refl
no_hex_prefix (a ∷ b ∷ text) h =
    let rest = (and_parts (is_decimal_digit a) (list_all is_decimal_digit (b ∷ text)) h).1 in
    let range = digit_range b (and_parts (is_decimal_digit b) (list_all is_decimal_digit text) rest).0 in
    and_right (eqb 48 a) (eqb 120 b && true) (and_left (eqb 120 b) true (ne_eqb 120 b (λ e. omega arith)))

digits_value-some : (base : ℕ) (text : List ℕ) → 0 < length text → digits_value base text ≡ digits_after base (Some 0) text
digits_value-some base text some = ap (λ t. cond t None (digits_after base (Some 0) text)) (ne_eqb (length text) 0 (λ e. omega arith))

pub decimal_value : (n : ℕ) → n < 2 ^ 64 → digits_value 10 (decimal n) ≡ Some n
decimal_value n lt = let t = decimal_text n lt in digits_value-some 10 (decimal n) t.some ∙ t.value

pub number_of-decimal : (n : ℕ) → n < 2 ^ 64 → number_of (decimal n) ≡ Some (pos n)
number_of-decimal n lt =
    let t = decimal_text n lt in
    ap (λ b. cond b (option_map negative (digits_value 10 (drop 1 (decimal n)))) (option_map pos (natural_of (decimal n)))) (no_minus (decimal n) t.digits)
    ∙ ap (λ b. option_map pos (cond b (digits_value 16 (drop 2 (decimal n))) (digits_value 10 (decimal n)))) (no_hex_prefix (decimal n) t.digits)
    ∙ ap (option_map pos) (decimal_value n lt)

pub number_of-signed : (z : ℤ) → IsInBits 32 z → number_of (signed_decimal z) ≡ Some z
number_of-signed (pos n) small = number_of-decimal n (omega arith)
number_of-signed (negsuc n) small = ap (option_map negative) (decimal_value (suc n) (omega arith))

pub number_of-hex : (count n : ℕ) → 0 < count → n < 16 ^ count → number_of (codes "0x" ++ hex_digits count n) ≡ Some (pos n)
number_of-hex zero n some lt = absurd (omega arith)
number_of-hex (suc count) n some lt =
    let e = length-append (hex_digits count (n / 16)) (digit_glyph false (n % 16) ∷ []) in
    ap (option_map pos) (digits_value-some 16 (hex_digits (suc count) n) (omega arith) ∙ hex_value (suc count) n lt)

pub distance_of-target : (z : ℤ) → IsInBits 32 z → distance_of (target_text z) ≡ Some z
distance_of-target (pos n) small = ap (option_map pos) (decimal_value n (omega arith))
distance_of-target (negsuc n) small =
    ap (option_map negative) (decimal_value (n + 1) (omega arith)) ∙ ap (λ k. Some (negative k)) (let e : n + 1 ≡ suc n = omega arith in e)

-- ---- registers

pub register-text : (r : ℕ) → r < 32 → register (register_text r) ≡ Ok r
unfolding digits
register-text r lt =
    ap (λ o. or_fault o BadRegister)
    (answer_is r (number_named register_names (register_text r)) (below_passes (λ k. is_answer k (number_named register_names (register_text k))) 32 r refl lt))

-- ---- numbers in their ranges

pub number_in-is : (below above : ℕ) (text : List ℕ) (z : ℤ) → number_of text ≡ Some z → is_within below above z ≡ true → number_in below above text ≡ Ok z
number_in-is below above text z e h =
    ap (λ o. or_fault o BadNumber >>= λ n. in_range below above n) e ∙ ap (λ t. cond t (Ok z) (Err OutOfRange)) h

pub unsigned_in-is : (above : ℕ) (text : List ℕ) (n : ℕ) → number_of text ≡ Some (pos n) → n ≤ above → unsigned_in above text ≡ Ok n
unsigned_in-is above text n e le =
    ap (λ r. r >>= λ z. Ok (word_value z)) (number_in-is 0 above text (pos n) e (le-leb n above le))

pub word_in-is : (text : List ℕ) (n : ℕ) → number_of text ≡ Some (pos n) → n < 2 ^ 32 → word_in text ≡ Ok n
word_in-is text n e lt =
    ap (λ r. r >>= λ z. Ok (word_value z)) (number_in-is (2 ^ 31) (2 ^ 32 - 1) text (pos n) e (le-leb n (2 ^ 32 - 1) (omega arith)))

-- a CSR is written as a number
pub csr-text : (n : ℕ) → n < 2 ^ 12 → csr (csr_text n) ≡ Ok n
csr-text n lt = unsigned_in-is (2 ^ 12 - 1) (csr_text n) n (number_of-hex 3 n (lit< tt) lt) (omega arith)

within_12 : (z : ℤ) → IsInBits 11 z → is_within (2 ^ 11) (2 ^ 11 - 1) z ≡ true
within_12 (pos n) lt = le-leb n (2 ^ 11 - 1) (omega arith)
within_12 (negsuc n) lt = lt-ltb n (2 ^ 11) lt

pub in_32 : (z : ℤ) (below : ℕ) → below ≤ 32 → IsInBits below z → IsInBits 32 z
in_32 (pos n) below le lt = let p = pow_mono {i = below} {j = 32} le in omega arith
in_32 (negsuc n) below le lt = let p = pow_mono {i = below} {j = 32} le in omega arith

pub imm12-text : (z : ℤ) → IsInBits 11 z → number_in (2 ^ 11) (2 ^ 11 - 1) (signed_decimal z) ≡ Ok z
imm12-text z small = number_in-is (2 ^ 11) (2 ^ 11 - 1) (signed_decimal z) z (number_of-signed z (in_32 z 11 (lit≤ tt) small)) (within_12 z small)

reaches : (below : ℕ) (z : ℤ) → 0 < below → IsInBits below z → IsEven z → (is_within (2 ^ below) (2 ^ below - 2) z && is_even z) ≡ true
reaches zero (pos n) some lt even = absurd (omega arith)
reaches (suc below) (pos n) some lt even =
    let e = pow-suc 2 below in
    and_from (leb n (2 ^ suc below - 2)) (eqb (n % 2) 0) (le-leb n (2 ^ suc below - 2) (omega arith)) (eq-eqb (n % 2) 0 even)
reaches below (negsuc n) some lt odd = and_from (ltb n (2 ^ below)) (eqb (n % 2) 1) (lt-ltb n (2 ^ below) lt) (eq-eqb (n % 2) 1 odd)

pub target-text : (below : ℕ) (z : ℤ) → 0 < below → below ≤ 32 → IsInBits below z → IsEven z → target (2 ^ below) (target_text z) ≡ Ok (Distance z)
target-text below z some le small even =
    ap (λ o. target_or_label (2 ^ below) o (target_text z)) (distance_of-target z (in_32 z below le small))
    ∙ ap (λ t. cond t (Ok (Distance z)) (Err OutOfRange)) (reaches below z some small even)

-- ---- what was written has no separator

lacks_each : (p : ℕ → Bool) → ((b : ℕ) → is_decimal_digit b ≡ true → p b ≡ false) → (text : List ℕ) → list_all is_decimal_digit text ≡ true → Lacks p text
lacks_each p each [] h = refl
lacks_each p each (b ∷ text) h =
    let parts = and_parts (is_decimal_digit b) (list_all is_decimal_digit text) h in
    or_from (p b) (list_any p text) (each b parts.0) (lacks_each p each text parts.1)

no_digit_parts : (s : Separator) (b : ℕ) → is_decimal_digit b ≡ true → is_separator s b ≡ false
no_digit_parts Hash b h = let range = digit_range b h in ne_eqb b 0x23 (λ e. omega arith)
no_digit_parts Colon b h = let range = digit_range b h in ne_eqb b 0x3a (λ e. omega arith)
no_digit_parts Comma b h = let range = digit_range b h in ne_eqb b 0x2c (λ e. omega arith)
no_digit_parts Opening b h = let range = digit_range b h in ne_eqb b 0x28 (λ e. omega arith)
no_digit_parts Blank b h = let range = digit_range b h in or_from (eqb b 0x20) (eqb b 0x09) (ne_eqb b 0x20 (λ e. omega arith)) (ne_eqb b 0x09 (λ e. omega arith))

pub decimal-lacks : (s : Separator) (n : ℕ) → n < 2 ^ 64 → Lacks (is_separator s) (decimal n)
decimal-lacks s n lt = lacks_each (is_separator s) (no_digit_parts s) (decimal n) (decimal_text n lt).digits

no_glyph_parts : (s : Separator) (d : ℕ) → d < 16 → is_separator s (digit_glyph false d) ≡ false
no_glyph_parts Hash d lt = agree_below_at (λ k. is_separator Hash (digit_glyph false k)) (λ _. false) 16 d refl lt
no_glyph_parts Colon d lt = agree_below_at (λ k. is_separator Colon (digit_glyph false k)) (λ _. false) 16 d refl lt
no_glyph_parts Comma d lt = agree_below_at (λ k. is_separator Comma (digit_glyph false k)) (λ _. false) 16 d refl lt
no_glyph_parts Opening d lt = agree_below_at (λ k. is_separator Opening (digit_glyph false k)) (λ _. false) 16 d refl lt
no_glyph_parts Blank d lt = agree_below_at (λ k. is_separator Blank (digit_glyph false k)) (λ _. false) 16 d refl lt

pub hex-lacks : (s : Separator) (count n : ℕ) → Lacks (is_separator s) (hex_digits count n)
hex-lacks s zero n = refl
hex-lacks s (suc count) n =
    lacks-append (is_separator s) (hex_digits count (n / 16)) (digit_glyph false (n % 16) ∷ []) (hex-lacks s count (n / 16))
    (or_from (is_separator s (digit_glyph false (n % 16))) false (no_glyph_parts s (n % 16) (omega arith)) refl)
