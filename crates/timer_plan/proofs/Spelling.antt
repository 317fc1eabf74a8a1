-- A text spells at most one run.
use Rattle.std.proofs.Common.{◌≡◌, ℕ, ◌+◌, ◌-◌, ◌<◌, ◌≤◌, ◌^◌, leb, min, length, get_or, take, drop, Option, Some, None, IfSome, Bool, true, false, cond, eqb, List, [], ◌∷◌, ◌++◌, codes, decimal, refl, sym, ap, ◌∙◌, subst, arith}
use Rattle.std.proofs.lemmas.Bool.{eqb-true, and_parts, leb-true, le-leb}
use Rattle.std.proofs.lemmas.List.{take_all}
use Rattle.std.proofs.lemmas.Str.{digit_value_digit}
use Rattle.std.specs.Char.{digit_value, is_ascii_digit}
use Rattle.std.specs.Int.{IsInRange as IsBetween}
use Rattle.std.proofs.lemmas.Fmt.{decimal_digit, decimal_is_IsNumeral}
use Rattle.core_model.specs.Events.{hart_of}
use Rattle.core_model.specs.declared.event.Event.{Event}
use Rattle.core_model.specs.declared.event.Event.TheVariants.{Go, Tick}
use Rattle.core_model.specs.declared.event.EventRun.{EventRun}
use Rattle.core_model.specs.declared.event.OrderRun.{OrderRun}
use Rattle.timer_plan.specs.OrderText.{times_text, run_token}
use Rattle.timer_plan.specs.Tokens.{IsDecimal, SpellsTimes, SpellsRun, SpellsOrderRun, letter_of, SpellsEventRun}
use Rattle.timer_plan.specs.Tokens.SpellsTimes.{Once, Starred}

decimal_one : (text : List ℕ) (m n : ℕ) → IsDecimal text m → IsDecimal text n → m ≡ n
decimal_one text m n h k = h.value ∙ sym k.value

times_one : (text : List ℕ) (m n : ℕ) → SpellsTimes text m → SpellsTimes text n → m ≡ n
times_one text m n (Once e v) (Once f w) = v ∙ sym w
times_one text m n (Once e v) (Starred number f d) = cc
times_one text m n (Starred number e d) (Once f w) = cc
times_one text m n (Starred number e d) (Starred other f k) =
    let same : number ≡ other = cc in
    decimal_one other m n (subst (λ l. IsDecimal l m) same d) k

pub run_hart_one : (text : List ℕ) (hart times hart2 times2 : ℕ) → SpellsRun text hart times → SpellsRun text hart2 times2 → hart ≡ hart2
run_hart_one text hart times hart2 times2 h k =
    let e = h.parts in
    let f = k.parts in
    let same : h.digit ≡ k.digit = cc in
    decimal_one (k.digit ∷ []) hart hart2 (subst (λ d. IsDecimal (d ∷ []) hart) same h.hart_is) k.hart_is

pub run_times_one : (text : List ℕ) (hart times hart2 times2 : ℕ) → SpellsRun text hart times → SpellsRun text hart2 times2 → times ≡ times2
run_times_one text hart times hart2 times2 h k =
    let e = h.parts in
    let f = k.parts in
    let same : h.suffix ≡ k.suffix = cc in
    times_one k.suffix times times2 (subst (λ l. SpellsTimes l times) same h.times_are) k.times_are

order_equal : (a b : OrderRun) → a.hart ≡ b.hart → a.times ≡ b.times → a ≡ b
order_equal a b e f = ap (λ h. record { hart = h; times = a.times }) e ∙ ap (λ n. record { hart = b.hart; times = n }) f

pub order_one : (token : List ℕ) (a b : OrderRun) → SpellsOrderRun token a → SpellsOrderRun token b → a ≡ b
order_one token a b h k =
    order_equal a b (run_hart_one token a.hart a.times b.hart b.times h k) (run_times_one token a.hart a.times b.hart b.times h k)

-- ---- what code reads

-- a list by its first and the rest
pub first_and_rest : (xs : List ℕ) → 1 ≤ length xs → xs ≡ get_or xs 0 0 ∷ take (length xs - 1) (drop 1 xs)
first_and_rest [] low = absurd (omega arith)
first_and_rest (x ∷ xs) low = ap (λ l. x ∷ l) (sym (take_all (length (x ∷ xs) - 1) xs (omega arith)))

pub digit_range : (b : ℕ) → is_ascii_digit b ≡ true → IsBetween 48 57 b
digit_range b h = let p = and_parts (leb 48 b) (leb b 57) h in (leb-true 48 b p.0, leb-true b 57 p.1)

pub no_digit : (b : ℕ) → is_ascii_digit b ≡ false → IsBetween 48 57 b → ⊥
no_digit b h p = let e = rw (le-leb 48 b p.0, le-leb b 57 p.1) at h in cc

pub digit_below : (b : ℕ) → IsBetween 48 57 b → digit_value b < 10
digit_below b h = let e = digit_value_digit b h in let high = h.1 in omega arith

pub digit_decimal : (b hart : ℕ) → IsBetween 48 57 b → hart ≡ b - 48 → IsDecimal (b ∷ []) hart
digit_decimal b hart h e =
    let v = digit_value_digit b h in record { digits = (omega arith, (digit_below b h, tt)); value = omega arith }

pub starred_found : (text number : List ℕ) (cap : ℕ) (o : Option ℕ) → text ≡ 42 ∷ number
    → IfSome o (λ value. (n : ℕ) × (value ≡ min n cap) × IsDecimal number n) → IfSome o (λ value. (n : ℕ) × (value ≡ min n cap) × SpellsTimes text n)
starred_found text number cap None e h = tt
starred_found text number cap (Some value) e h = (h.0, h.1, Starred number e h.2)

-- how often, after the digit
pub times_after : (text rest : List ℕ) (b hart times : ℕ) → text ≡ b ∷ rest → SpellsRun text hart times → SpellsTimes rest times
times_after text rest b hart times e h =
    let f = h.parts in
    let same : h.suffix ≡ rest = cc in subst (λ l. SpellsTimes l times) same h.times_are

-- ---- events

first_same : (x y : ℕ) → x ∷ [] ≡ y ∷ [] → x ≡ y
first_same x y e = cc

letter_event : (a b : Event) → letter_of a ≡ letter_of b → hart_of a ≡ hart_of b → a ≡ b
letter_event (Go h) (Go k) e f = ap Go f
letter_event (Go h) (Tick k) e f = absurd (omega (arith, first_same 103 116 e))
letter_event (Tick h) (Go k) e f = absurd (omega (arith, first_same 116 103 e))
letter_event (Tick h) (Tick k) e f = ap Tick f

-- what a token of events is after its letter
pub record IsAfter (letter : ℕ) (rest : List ℕ) (run : EventRun) : Type 0 where
  pub letter_is : letter_of run.event ≡ letter ∷ []
  pub rest_is : SpellsRun rest (hart_of run.event) run.times

after_letter : (letter : ℕ) (rest : List ℕ) (event : Event) (times : ℕ) (r : List ℕ) → letter ∷ rest ≡ letter_of event ++ r → SpellsRun r (hart_of event) times
    → IsAfter letter rest (record { event = event; times = times })
after_letter letter rest (Go h) times r e s =
    let a : 103 ≡ letter = cc in
    let b : r ≡ rest = cc in record { letter_is = ap (λ k. k ∷ []) a; rest_is = subst (λ l. SpellsRun l h times) b s }
after_letter letter rest (Tick h) times r e s =
    let a : 116 ≡ letter = cc in
    let b : r ≡ rest = cc in record { letter_is = ap (λ k. k ∷ []) a; rest_is = subst (λ l. SpellsRun l h times) b s }

pub event_after : (letter : ℕ) (rest : List ℕ) (run : EventRun) → SpellsEventRun (letter ∷ rest) run → IsAfter letter rest run
event_after letter rest run h = after_letter letter rest run.event run.times h.rest h.parts h.rest_is

pub event_one : (letter : ℕ) (rest : List ℕ) (a b : EventRun) → SpellsEventRun (letter ∷ rest) a → SpellsEventRun (letter ∷ rest) b → a ≡ b
event_one letter rest a b h k =
    let p = event_after letter rest a h in
    let q = event_after letter rest b k in
    let e : a.event ≡ b.event =
    letter_event a.event b.event (p.letter_is ∙ sym q.letter_is) (run_hart_one rest (hart_of a.event) a.times (hart_of b.event) b.times p.rest_is q.rest_is) in
    let f : a.times ≡ b.times = run_times_one rest (hart_of a.event) a.times (hart_of b.event) b.times p.rest_is q.rest_is in
    ap (λ v. record { event = v; times = a.times }) e ∙ ap (λ n. record { event = b.event; times = n }) f

-- ---- what is written of a run

written_times : (b : Bool) (times : ℕ) → times < 2 ^ 64 → (b ≡ true → times ≡ 1) → SpellsTimes (cond b [] (codes "*" ++ decimal times)) times
written_times true times small one = Once refl (one refl)
written_times false times small one =
    let p = decimal_is_IsNumeral times small in Starred (decimal times) refl (record { digits = p.0; value = sym p.1 })

pub written_run : (run : OrderRun) → run.hart < 10 → run.times < 2 ^ 64 → SpellsOrderRun (run_token run) run
written_run run digit small =
    let one = decimal_digit run.hart digit in
    let p = decimal_is_IsNumeral run.hart (let fits : run.hart < 2 ^ 64 = omega arith in fits) in record {
      digit = 48 + run.hart;
      suffix = times_text run.times;
      parts = ap (λ l. l ++ times_text run.times) one;
      hart_is = subst (λ l. IsDecimal l run.hart) one (record { digits = p.0; value = sym p.1 });
      times_are = written_times (eqb run.times 1) run.times small (eqb-true run.times 1);
    }
