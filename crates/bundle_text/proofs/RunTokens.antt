-- What the token of a run spells, by what it is read as.
use Rattle.std.proofs.Common.{◌≡◌, ℕ, ◌+◌, ◌-◌, ◌*◌, ◌<◌, ◌⊎◌, inl, inr, Bool, true, false, ◌&&◌, cond, eqb, leb, List, [], ◌∷◌, ◌++◌, Option, Some, None, option_map, refl, sym, ap, ◌∙◌, subst, arith}
use Rattle.std.proofs.lemmas.Bool.{eqb-true, eqb-false, leb-true, leb-false, and_parts, and_cases}
use Rattle.std.proofs.lemmas.Str.{digit_value_digit}
use Rattle.std.specs.Char.{digit_value}
use Rattle.std.specs.Str.Parse.{AllDigits, digits_value_after}
use Rattle.std.proofs.lemmas.Str.Parse.{digit_from_value}
use Rattle.std.specs.Int.{IsInRange as IsBetween}
use Rattle.core_model.specs.declared.event.Event.{Event}
use Rattle.core_model.specs.declared.event.Event.TheVariants.{Go, Tick}
use Rattle.core_model.specs.declared.event.EventRun.{EventRun}
use Rattle.timer_plan.specs.Tokens.{IsDecimal, SpellsTimes, SpellsRun, SpellsEventRun, letter_of, IsInRange, IsOutOfRange}
use Rattle.timer_plan.specs.Tokens.SpellsTimes.{Once, Starred}
use Rattle.timer_plan.proofs.Spelling.{digit_range, no_digit, digit_below, digit_decimal, times_after, event_after}
use Rattle.timer_plan.proofs.Decides.{HasLetter}
use Rattle.bundle_text.specs.Numbers.{is_decimal_digit, decimal_after, decimal_of}
use Rattle.bundle_text.specs.Runs.{times_of, run_of}

-- ---- decimals

-- what the digits after a number make, or that some byte is no digit
abbrev DecimalIs : ℕ → List ℕ → Option ℕ → Type 0
DecimalIs n text (Some m) = AllDigits 10 text × (m ≡ digits_value_after 10 n text)
DecimalIs n text None = AllDigits 10 text → ⊥

digit_more : (o : Option ℕ) (n b : ℕ) (bs : List ℕ) → IsBetween 48 57 b → DecimalIs (n * 10 + (b - 48)) bs o → DecimalIs n (b ∷ bs) o
digit_more (Some m) n b bs r h =
    let v : digit_value b ≡ b - 48 = let e = digit_value_digit b r in omega arith in
    ((digit_below b r, h.0), h.1 ∙ ap (λ d. digits_value_after 10 (n * 10 + d) bs) (sym v))
digit_more None n b bs r h = λ all. h all.1

either_digit : (t : Bool) (n b : ℕ) (bs : List ℕ) (o : Option ℕ) → is_decimal_digit b ≡ t → DecimalIs (n * 10 + (b - 48)) bs o
    → DecimalIs n (b ∷ bs) (cond t o None)
either_digit true n b bs o e h = digit_more o n b bs (digit_range b e) h
either_digit false n b bs o e h = λ all. no_digit b e (digit_from_value b all.0)

decimal_is : (n : ℕ) (text : List ℕ) → DecimalIs n text (decimal_after n text)
decimal_is n [] = (tt, refl)
decimal_is n (b ∷ bs) =
    either_digit (is_decimal_digit b) n b bs (decimal_after (n * 10 + (b - 48)) bs) refl (decimal_is (n * 10 + (b - 48)) bs)

-- what a text spells, or that it spells no decimal number
abbrev pub SpellsDecimal : List ℕ → Option ℕ → Type 0
SpellsDecimal text (Some n) = IsDecimal text n
SpellsDecimal text None = (n : ℕ) → IsDecimal text n → ⊥

some_digits : (b : ℕ) (bs : List ℕ) (o : Option ℕ) → DecimalIs 0 (b ∷ bs) o → SpellsDecimal (b ∷ bs) o
some_digits b bs (Some n) h = record { digits = (omega arith, h.0); value = h.1 }
some_digits b bs None h = λ n d. h d.digits.1

pub decimal_spelled : (text : List ℕ) → SpellsDecimal text (decimal_of text)
decimal_spelled [] = λ n d. let low : 0 < 0 = d.digits.0 in omega arith
decimal_spelled (b ∷ bs) = some_digits b bs (decimal_of (b ∷ bs)) (decimal_is 0 (b ∷ bs))

-- ---- how often

abbrev TimesIs : List ℕ → Option ℕ → Type 0
TimesIs text (Some n) = SpellsTimes text n
TimesIs text None = (n : ℕ) → SpellsTimes text n → ⊥

star_first : (b : ℕ) (text : List ℕ) (n : ℕ) → SpellsTimes (b ∷ text) n → (b ≡ 42) × IsDecimal text n
star_first b text n (Once e one) = cc
star_first b text n (Starred number e d) =
    let star : b ≡ 42 = cc in
    let same : number ≡ text = cc in
    (star, subst (λ l. IsDecimal l n) same d)

after_star : (b : ℕ) (text : List ℕ) (o : Option ℕ) → b ≡ 42 → SpellsDecimal text o → TimesIs (b ∷ text) o
after_star b text (Some n) e h = Starred text (ap (λ x. x ∷ text) e) h
after_star b text None e h = λ n s. h n (star_first b text n s).1

either_star : (t : Bool) (b : ℕ) (text : List ℕ) (o : Option ℕ) → eqb b 42 ≡ t → SpellsDecimal text o → TimesIs (b ∷ text) (cond t o None)
either_star true b text o e h = after_star b text o (eqb-true b 42 e) h
either_star false b text o e h = λ n s. eqb-false b 42 e (star_first b text n s).0

times_spelled : (text : List ℕ) → TimesIs text (times_of text)
times_spelled [] = Once refl refl
times_spelled (b ∷ text) = either_star (eqb b 42) b text (decimal_of text) refl (decimal_spelled text)

-- ---- a hart digit and how often

abbrev pub RunIs : List ℕ → Option (ℕ × ℕ) → Type 0
RunIs token (Some run) = SpellsRun token run.0 run.1
RunIs token None = (hart times : ℕ) → SpellsRun token hart times → ⊥

times_more : (b : ℕ) (suffix : List ℕ) (o : Option ℕ) → IsBetween 48 57 b → TimesIs suffix o → RunIs (b ∷ suffix) (option_map (λ times. (b - 48, times)) o)
times_more b suffix (Some n) r h = record { digit = b; suffix = suffix; parts = refl; hart_is = digit_decimal b (b - 48) r refl; times_are = h }
times_more b suffix None r h = λ hart times s. h times (times_after (b ∷ suffix) suffix b hart times refl s)

digit_first : (b : ℕ) (suffix : List ℕ) (hart times : ℕ) → SpellsRun (b ∷ suffix) hart times → IsBetween 48 57 b
digit_first b suffix hart times s =
    let e = s.parts in
    let same : s.digit ≡ b = cc in
    subst (λ d. IsBetween 48 57 d) same (digit_from_value s.digit s.hart_is.digits.1.0)

either_run : (t : Bool) (b : ℕ) (suffix : List ℕ) (o : Option ℕ) → is_decimal_digit b ≡ t → TimesIs suffix o
    → RunIs (b ∷ suffix) (cond t (option_map (λ times. (b - 48, times)) o) None)
either_run true b suffix o e h = times_more b suffix o (digit_range b e) h
either_run false b suffix o e h = λ hart times s. no_digit b e (digit_first b suffix hart times s)

no_bytes_no_run : (hart times : ℕ) → SpellsRun [] hart times → ⊥
no_bytes_no_run hart times s = let e = s.parts in cc

pub run_spelled : (token : List ℕ) → RunIs token (run_of token)
run_spelled [] = no_bytes_no_run
run_spelled (b ∷ suffix) = either_run (is_decimal_digit b) b suffix (times_of suffix) refl (times_spelled suffix)

-- ---- ranges

pub in_range : (hart times : ℕ) → (leb hart 7 && (leb 1 times && leb times 1048576)) ≡ true → IsInRange hart times
in_range hart times h =
    let p = and_parts (leb hart 7) (leb 1 times && leb times 1048576) h in
    let q = and_parts (leb 1 times) (leb times 1048576) p.1 in
    let high = leb-true hart 7 p.0 in
    record { hart_high = omega arith; times_low = leb-true 1 times q.0; times_high = leb-true times 1048576 q.1 }

times_out : (hart times : ℕ) → (leb 1 times ≡ false) ⊎ (leb times 1048576 ≡ false) → IsOutOfRange hart times
times_out hart times (inl e) = let low = leb-false 1 times e in inr (inl (omega arith))
times_out hart times (inr e) = inr (inr (leb-false times 1048576 e))

either_out : (hart times : ℕ) → (leb hart 7 ≡ false) ⊎ ((leb 1 times && leb times 1048576) ≡ false) → IsOutOfRange hart times
either_out hart times (inl e) = let high = leb-false hart 7 e in inl (omega arith)
either_out hart times (inr e) = times_out hart times (and_cases (leb 1 times) (leb times 1048576) e)

pub out_of_range : (hart times : ℕ) → (leb hart 7 && (leb 1 times && leb times 1048576)) ≡ false → IsOutOfRange hart times
out_of_range hart times h = either_out hart times (and_cases (leb hart 7) (leb 1 times && leb times 1048576) h)

-- ---- the letters of events

pub spelled_after : (letter : ℕ) (rest : List ℕ) (event : ℕ → Event) (hart times : ℕ) → HasLetter letter event → SpellsRun rest hart times
    → SpellsEventRun (letter ∷ rest) (record { event = event hart; times = times })
spelled_after letter rest event hart times has s = record {
  rest = rest;
  parts = ap (λ l. l ++ rest) (sym (has.letter_is hart));
  rest_is = subst (λ h. SpellsRun rest h times) (sym (has.hart_is hart)) s;
}

-- an event has one of two letters
letter_is : (event : Event) (letter : ℕ) → letter_of event ≡ letter ∷ [] → (letter ≡ 103) ⊎ (letter ≡ 116)
letter_is (Go hart) letter e = inl (let same : letter ≡ 103 = cc in same)
letter_is (Tick hart) letter e = inr (let same : letter ≡ 116 = cc in same)

pub no_letter : (letter : ℕ) (rest : List ℕ) → (letter ≡ 103 → ⊥) → (letter ≡ 116 → ⊥) → (run : EventRun) → SpellsEventRun (letter ∷ rest) run → ⊥
no_letter letter rest go tick run s =
    elim (letter_is run.event letter (event_after letter rest run s).letter_is) as (λ _. ⊥) [ inl e ↦ go e | inr e ↦ tick e ]

pub no_bytes_of : (event : Event) (rest : List ℕ) → [] ≡ letter_of event ++ rest → ⊥
no_bytes_of (Go hart) rest e = cc
no_bytes_of (Tick hart) rest e = cc
