-- The numbers of tokens are those of the form.
use Rattle.std.proofs.Common.{◌≡◌, ℕ, ◌+◌, ◌-◌, ◌*◌, ◌<◌, ◌≤◌, ◌↔◌, ◌⊎◌, inl, inr, Bool, true, false, ◌&&◌, cond, eqb, leb, ltb, List, [], ◌∷◌, ◌++◌, codes, length, Option, Some, None, Result, Ok, Err, refl, sym, ap, ◌∙◌, subst, arith}
use Rattle.std.proofs.lemmas.Bool.{eqb-true, eqb-false, leb-true, leb-false, ltb-true, ltb-false, lt-ltb, le-ltb, and_parts, and_cases, cond_both}
use Rattle.std.proofs.lemmas.Str.{digit_value_digit}
use Rattle.std.specs.Char.{digit_value}
use Rattle.std.specs.Str.Parse.{IsNumeral, AllDigits, digits_value, digits_value_after}
use Rattle.timer_plan.specs.Tokens.{IsDecimal}
use Rattle.bundle_text.specs.Numbers.{decimal_of, number_within, number_in, is_decimal_digit, hex_letter_of, hex_digit_of, with_digit, hex_after, hex_of, without_0x, word_within, word_of}
use Rattle.bundle_text.specs.Form.{SpellsHex, IsHexWord, IsLongHex}
use Rattle.bundle_text.specs.declared.bundle.BundleKind.{BundleKind}
use Rattle.bundle_text.specs.declared.bundle.BundleKind.TheVariants.{BadNumber, OutOfRange}
use Rattle.bundle_text.proofs.HexDigits.{hex_after-None}
use Rattle.bundle_text.proofs.RunTokens.{SpellsDecimal, decimal_spelled}
use Rattle.bundle_text.proofs.Decides.{Decides, decides_ok, decides_bad, decides_out}

-- ---- decimals

abbrev pub IsWithin : ℕ → ℕ → ℕ → Type 0
IsWithin low high n = (low ≤ n) × (n ≤ high)

abbrev pub IsOutside : ℕ → ℕ → ℕ → Type 0
IsOutside low high n = (n < low) ⊎ (high < n)

within_not_outside : (low high n : ℕ) → IsWithin low high n → IsOutside low high n → ⊥
within_not_outside low high n p (inl lt) = let h = p.0 in omega arith
within_not_outside low high n p (inr lt) = let h = p.1 in omega arith

one_number : (t : List ℕ) (a b : ℕ) → IsDecimal t a → IsDecimal t b → a ≡ b
one_number t a b h k = h.value ∙ sym k.value

abbrev pub DecidesNumber : ℕ → ℕ → List ℕ → Result ℕ BundleKind → Type 0
DecidesNumber low high t answer = Decides (IsDecimal t) (IsWithin low high) (IsOutside low high) answer

outside_of : (low high n : ℕ) → (leb low n ≡ false) ⊎ (leb n high ≡ false) → IsOutside low high n
outside_of low high n (inl e) = inl (leb-false low n e)
outside_of low high n (inr e) = inr (leb-false n high e)

either_range : (t : Bool) (low high n : ℕ) (token : List ℕ) → (leb low n && leb n high) ≡ t → IsDecimal token n
    → DecidesNumber low high token (cond t (Ok n) (Err OutOfRange))
either_range true low high n token e d =
    let p = and_parts (leb low n) (leb n high) e in
    decides_ok (IsDecimal token) (IsWithin low high) (IsOutside low high) (one_number token) (within_not_outside low high) n d (leb-true low n p.0, leb-true n high p.1)
either_range false low high n token e d =
    decides_out (IsDecimal token) (IsWithin low high) (IsOutside low high) (one_number token) (within_not_outside low high) n d
    (outside_of low high n (and_cases (leb low n) (leb n high) e))

number_of_decimal : (low high : ℕ) (token : List ℕ) (o : Option ℕ) → SpellsDecimal token o → DecidesNumber low high token (number_within low high o)
number_of_decimal low high token None none = decides_bad (IsDecimal token) (IsWithin low high) (IsOutside low high) none
number_of_decimal low high token (Some n) d = either_range (leb low n && leb n high) low high n token refl d

pub number_decided : (low high : ℕ) (token : List ℕ) → DecidesNumber low high token (number_in low high token)
number_decided low high token = number_of_decimal low high token (decimal_of token) (decimal_spelled token)

-- ---- hexadecimal digits

abbrev HexDigit : ℕ → Option ℕ → Type 0
HexDigit b (Some d) = (digit_value b < 16) × (digit_value b ≡ d)
HexDigit b None = digit_value b < 16 → ⊥

decimal_value : (b : ℕ) → 48 ≤ b → b ≤ 57 → digit_value b ≡ b - 48
decimal_value b low high = let e = digit_value_digit b (low, high) in omega arith

capital_value : (b : ℕ) → 65 ≤ b → b ≤ 70 → digit_value b ≡ b - 55
capital_value b low high = rw (le-ltb b 48 (omega arith), le-ltb b 58 (omega arith), le-ltb b 65 (omega arith), lt-ltb b 91 (omega arith))

small_value : (b : ℕ) → 97 ≤ b → b ≤ 102 → digit_value b ≡ b - 87
small_value b low high =
    rw (le-ltb b 48 (omega arith), le-ltb b 58 (omega arith), le-ltb b 65 (omega arith), le-ltb b 91 (omega arith), le-ltb b 97 (omega arith), lt-ltb b 123 (omega arith))

-- where a digit may be
record IsHexChar (b : ℕ) : Type 0 where
  range : ((48 ≤ b) × (b ≤ 57)) ⊎ (((97 ≤ b) × (b ≤ 102)) ⊎ ((65 ≤ b) × (b ≤ 70)))

char_from : (b : ℕ) → digit_value b < 16 → IsHexChar b
char_from b =
    let P : ℕ → Type 0 = λ v. v < 16 → IsHexChar b in
    cond_both (ltb b 48) 36 _ P (λ e lt. absurd (omega arith))
    (λ e1. cond_both (ltb b 58) (b - 48) _ P (λ e lt. let low = ltb-false b 48 e1 in let high = ltb-true b 58 e in record { range = inl (low, omega arith) })
    (λ e2. cond_both (ltb b 65) 36 _ P (λ e lt. absurd (omega arith))
    (λ e3. cond_both (ltb b 91) (b - 55) _ P (λ e lt. let low = ltb-false b 65 e3 in record { range = inr (inr (low, omega arith)) })
    (λ e4. cond_both (ltb b 97) 36 _ P (λ e lt. absurd (omega arith))
    (λ e5. cond_both (ltb b 123) (b - 87) 36 P (λ e lt. let low = ltb-false b 97 e5 in record { range = inr (inl (low, omega arith)) })
    (λ e lt. absurd (omega arith)))))))

outside_one : (low high b : ℕ) → (leb low b ≡ false) ⊎ (leb b high ≡ false) → low ≤ b → b ≤ high → ⊥
outside_one low high b (inl e) at_least at_most = let lt = leb-false low b e in omega arith
outside_one low high b (inr e) at_least at_most = let lt = leb-false b high e in omega arith

not_between : (low high b : ℕ) → (leb low b && leb b high) ≡ false → low ≤ b → b ≤ high → ⊥
not_between low high b e = outside_one low high b (and_cases (leb low b) (leb b high) e)

no_char : (b : ℕ) → (leb 48 b && leb b 57) ≡ false → (leb 97 b && leb b 102) ≡ false → (leb 65 b && leb b 70) ≡ false → IsHexChar b → ⊥
no_char b decimal small capital h =
    elim h.range as (λ _. ⊥) [
      | inl p ↦ not_between 48 57 b decimal p.0 p.1
      | inr q ↦ elim q as (λ _. ⊥) [ inl p ↦ not_between 97 102 b small p.0 p.1 | inr p ↦ not_between 65 70 b capital p.0 p.1 ]
    ]

capital_is : (t : Bool) (b : ℕ) → (leb 65 b && leb b 70) ≡ t → (leb 48 b && leb b 57) ≡ false → (leb 97 b && leb b 102) ≡ false
    → HexDigit b (cond t (Some (b - 55)) None)
capital_is true b e decimal small =
    let p = and_parts (leb 65 b) (leb b 70) e in
    let low = leb-true 65 b p.0 in
    let high = leb-true b 70 p.1 in
    let v = capital_value b low high in (omega arith, v)
capital_is false b e decimal small = λ lt. no_char b decimal small e (char_from b lt)

small_is : (t : Bool) (b : ℕ) → (leb 97 b && leb b 102) ≡ t → (leb 48 b && leb b 57) ≡ false
    → HexDigit b (cond t (Some (b - 87)) (cond (leb 65 b && leb b 70) (Some (b - 55)) None))
small_is true b e decimal =
    let p = and_parts (leb 97 b) (leb b 102) e in
    let low = leb-true 97 b p.0 in
    let high = leb-true b 102 p.1 in
    let v = small_value b low high in (omega arith, v)
small_is false b e decimal = capital_is (leb 65 b && leb b 70) b refl decimal e

decimal_is : (t : Bool) (b : ℕ) → (leb 48 b && leb b 57) ≡ t → HexDigit b (cond t (Some (b - 48)) (hex_letter_of b))
decimal_is true b e =
    let p = and_parts (leb 48 b) (leb b 57) e in
    let low = leb-true 48 b p.0 in
    let high = leb-true b 57 p.1 in
    let v = decimal_value b low high in (omega arith, v)
decimal_is false b e = small_is (leb 97 b && leb b 102) b refl e

hex_digit_is : (b : ℕ) → HexDigit b (hex_digit_of b)
hex_digit_is b = decimal_is (is_decimal_digit b) b refl

-- what the digits after a number make, or that some byte is no digit
abbrev HexIs : ℕ → List ℕ → Option ℕ → Type 0
HexIs n text (Some m) = AllDigits 16 text × (m ≡ digits_value_after 16 n text)
HexIs n text None = AllDigits 16 text → ⊥

value_more : (n b d : ℕ) (bs : List ℕ) (o : Option ℕ) → digit_value b < 16 → digit_value b ≡ d → HexIs (n * 16 + d) bs o → HexIs n (b ∷ bs) o
value_more n b d bs (Some m) lt e h = ((lt, h.0), h.1 ∙ ap (λ v. digits_value_after 16 (n * 16 + v) bs) (sym e))
value_more n b d bs None lt e h = λ all. h all.1

hex_more : (n b : ℕ) (bs : List ℕ) (o : Option ℕ) → HexDigit b o → ((m : ℕ) → HexIs m bs (hex_after (Some m) bs)) → HexIs n (b ∷ bs) (hex_after (with_digit n o) bs)
hex_more n b bs (Some d) digit rest = value_more n b d bs (hex_after (Some (n * 16 + d)) bs) digit.0 digit.1 (rest (n * 16 + d))
hex_more n b bs None none rest = rw (hex_after-None bs) (λ all. none all.0)

hex_is : (text : List ℕ) (n : ℕ) → HexIs n text (hex_after (Some n) text)
hex_is [] n = (tt, refl)
hex_is (b ∷ bs) n = hex_more n b bs (hex_digit_of b) (hex_digit_is b) (hex_is bs)

-- what a text spells in base 16, or that it spells nothing
abbrev HexOf : List ℕ → Option ℕ → Type 0
HexOf text (Some m) = IsNumeral 16 text × (m ≡ digits_value 16 text)
HexOf text None = IsNumeral 16 text → ⊥

some_hex : (text : List ℕ) (o : Option ℕ) → 0 < length text → HexIs 0 text o → HexOf text o
some_hex text (Some m) some h = ((some, h.0), h.1)
some_hex text None some h = λ numeral. h numeral.1

some_length : (text : List ℕ) → (length text ≡ 0 → ⊥) → 0 < length text
some_length [] none = absurd (none refl)
some_length (b ∷ bs) none = omega arith

either_hex : (t : Bool) (text : List ℕ) → eqb (length text) 0 ≡ t → HexOf text (cond t None (hex_after (Some 0) text))
either_hex true text e = λ numeral. let some = numeral.0 in let none = eqb-true (length text) 0 e in omega arith
either_hex false text e = some_hex text (hex_after (Some 0) text) (some_length text (eqb-false (length text) 0 e)) (hex_is text 0)

hex_of-is : (text : List ℕ) → HexOf text (hex_of text)
hex_of-is text = either_hex (eqb (length text) 0) text refl

-- ---- words

-- `0x` begins no digits
digits_alone : (t : Bool) (b c : ℕ) (bs : List ℕ) → ((eqb b 0x30) && (eqb c 0x78)) ≡ t → AllDigits 16 (b ∷ c ∷ bs) → cond t bs (b ∷ c ∷ bs) ≡ b ∷ c ∷ bs
digits_alone true b c bs e h =
    let p = and_parts (eqb b 0x30) (eqb c 0x78) e in
    let x = eqb-true c 0x78 p.1 in
    let small : digit_value 0x78 < 16 = subst (λ d. digit_value d < 16) x h.1.0 in
    absurd (omega arith)
digits_alone false b c bs e h = refl

without_0x-digits : (digits : List ℕ) → AllDigits 16 digits → without_0x digits ≡ digits
without_0x-digits [] h = refl
without_0x-digits (b ∷ []) h = refl
without_0x-digits (b ∷ c ∷ bs) h = digits_alone ((eqb b 0x30) && (eqb c 0x78)) b c bs refl h

digits_from : (text digits : List ℕ) → (text ≡ digits) ⊎ (text ≡ codes "0x" ++ digits) → AllDigits 16 digits → digits ≡ without_0x text
digits_from text digits (inl e) h = sym (without_0x-digits digits h) ∙ ap without_0x (sym e)
digits_from text digits (inr e) h = sym (ap without_0x e)

digits_are : (text digits : List ℕ) → SpellsHex text digits → digits ≡ without_0x text
digits_are text digits h = digits_from text digits h.front h.numeral.1

prefix_or_none : (t : Bool) (b c : ℕ) (bs : List ℕ) → ((eqb b 0x30) && (eqb c 0x78)) ≡ t
    → (b ∷ c ∷ bs ≡ cond t bs (b ∷ c ∷ bs)) ⊎ (b ∷ c ∷ bs ≡ codes "0x" ++ cond t bs (b ∷ c ∷ bs))
prefix_or_none true b c bs e =
    let p = and_parts (eqb b 0x30) (eqb c 0x78) e in
    inr (ap (λ x. x ∷ c ∷ bs) (eqb-true b 0x30 p.0) ∙ ap (λ x. 0x30 ∷ x ∷ bs) (eqb-true c 0x78 p.1))
prefix_or_none false b c bs e = inl refl

front_of : (text : List ℕ) → (text ≡ without_0x text) ⊎ (text ≡ codes "0x" ++ without_0x text)
front_of [] = inl refl
front_of (b ∷ []) = inl refl
front_of (b ∷ c ∷ bs) = prefix_or_none ((eqb b 0x30) && (eqb c 0x78)) b c bs refl

abbrev WordIs : List ℕ → Result ℕ BundleKind → Type 0
WordIs text (Ok word) = IsHexWord text word
WordIs text (Err BadNumber) = (digits : List ℕ) → SpellsHex text digits → ⊥
WordIs text (Err OutOfRange) = IsLongHex text
WordIs text (Err kind) = ⊥

short_or_long : (t : Bool) (text : List ℕ) (n : ℕ) → leb (length (without_0x text)) 8 ≡ t → SpellsHex text (without_0x text)
    → n ≡ digits_value 16 (without_0x text) → WordIs text (cond t (Ok n) (Err OutOfRange))
short_or_long true text n e s v = record { digits = without_0x text; spelled = s; few = leb-true (length (without_0x text)) 8 e; value = v }
short_or_long false text n e s v =
    let many = leb-false (length (without_0x text)) 8 e in record { digits = without_0x text; spelled = s; many = omega arith }

word_from : (text : List ℕ) (o : Option ℕ) → HexOf (without_0x text) o → WordIs text (word_within (leb (length (without_0x text)) 8) o)
word_from text None none = λ digits s. none (subst (λ ds. IsNumeral 16 ds) (digits_are text digits s) s.numeral)
word_from text (Some n) h =
    short_or_long (leb (length (without_0x text)) 8) text n refl (record { front = front_of text; numeral = h.0 }) h.1

pub word_is : (text : List ℕ) → WordIs text (word_of text)
word_is text = word_from text (hex_of (without_0x text)) (hex_of-is (without_0x text))

-- ---- one of three

same_digits : (text a b : List ℕ) → SpellsHex text a → SpellsHex text b → a ≡ b
same_digits text a b h k = digits_are text a h ∙ sym (digits_are text b k)

one_word : (text : List ℕ) (a b : ℕ) → IsHexWord text a → IsHexWord text b → a ≡ b
one_word text a b h k = h.value ∙ ap (digits_value 16) (same_digits text h.digits k.digits h.spelled k.spelled) ∙ sym k.value

not_long : (text : List ℕ) (word : ℕ) → IsHexWord text word → IsLongHex text → ⊥
not_long text word h k =
    let same = ap length (same_digits text h.digits k.digits h.spelled k.spelled) in
    let few = h.few in
    let many = k.many in
    omega arith

pub record DecidesWord (text : List ℕ) (answer : Result ℕ BundleKind) : Type 0 where
  pub value : (word : ℕ) → (answer ≡ Ok word) ↔ IsHexWord text word
  pub bad_number : (answer ≡ Err BadNumber) ↔ ((digits : List ℕ) → SpellsHex text digits → ⊥)
  pub out_of_range : (answer ≡ Err OutOfRange) ↔ IsLongHex text

decides_word : (text : List ℕ) (answer : Result ℕ BundleKind) → WordIs text answer → DecidesWord text answer
decides_word text (Ok w) h = record {
  value = λ v. (λ e. let same : w ≡ v = cc in subst (λ n. IsHexWord text n) same h, λ k. ap (λ n. Ok n) (one_word text w v h k));
  bad_number = (λ e. cc, λ none. absurd (none h.digits h.spelled));
  out_of_range = (λ e. cc, λ long. absurd (not_long text w h long));
}
decides_word text (Err BadNumber) h = record {
  value = λ v. (λ e. cc, λ k. absurd (h k.digits k.spelled));
  bad_number = (λ e. h, λ p. refl);
  out_of_range = (λ e. cc, λ long. absurd (h long.digits long.spelled));
}
decides_word text (Err OutOfRange) h = record {
  value = λ v. (λ e. cc, λ k. absurd (not_long text v k h));
  bad_number = (λ e. cc, λ none. absurd (none h.digits h.spelled));
  out_of_range = (λ e. h, λ p. refl);
}
decides_word text (Err kind) h = absurd h

pub word_decided : (text : List ℕ) → DecidesWord text (word_of text)
word_decided text = decides_word text (word_of text) (word_is text)
