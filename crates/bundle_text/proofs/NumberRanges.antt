-- The numbers of tokens are in their ranges.
use Rattle.std.proofs.Common.{◌≡◌, ℕ, ◌+◌, ◌-◌, ◌*◌, ◌<◌, ◌≤◌, ◌^◌, Bool, true, false, ◌&&◌, cond, eqb, leb, List, [], ◌∷◌, length, Option, Some, None, Result, Ok, Err, refl, sym, ap, ◌∙◌, arith, suc}
use Rattle.std.proofs.Math.Nat.{pow-suc, pow-le-pow_right, mul-le-mul_left, mul_comm, mul_assoc}
use Rattle.std.proofs.lemmas.Bool.{and_parts, leb-true}
use Rattle.std.proofs.lemmas.Option.{none-some, same_Some}
use Rattle.core_model.specs.Events.{hart_of}
use Rattle.core_model.specs.declared.event.Event.{Event}
use Rattle.core_model.specs.declared.event.Event.TheVariants.{Go, Tick}
use Rattle.core_model.specs.declared.event.EventRun.{EventRun}
use Rattle.core_model.specs.declared.event.OrderRun.{OrderRun}
use Rattle.bundle_text.specs.Numbers.{is_decimal_digit, number_in, number_within, decimal_of, hex_letter_of, hex_digit_of, with_digit, hex_after, hex_of, without_0x, word_within, word_of_digits, word_of}
use Rattle.bundle_text.specs.Runs.{run_of, run_within, order_operand, event_with, event_operand}
use Rattle.bundle_text.specs.Range.{IsWord, IsOrderRunInRange, IsEventRunInRange}
use Rattle.bundle_text.specs.declared.bundle.BundleKind.{BundleKind}
use Rattle.bundle_text.specs.declared.bundle.BundleKind.TheVariants.{BadNumber, OutOfRange}
use Rattle.bundle_text.proofs.Steps.{same_ok, err_ok, if_ok}
use Rattle.bundle_text.proofs.HexDigits.{hex_after-None}

-- ---- decimals

pub within_range : (low high n : ℕ) (o : Option ℕ) → number_within low high o ≡ Ok n → (low ≤ n) × (n ≤ high)
within_range low high n None h = absurd (err_ok n BadNumber h)
within_range low high n (Some m) h =
    let p = if_ok (leb low m && leb m high) (Ok m) OutOfRange n h in
    let q = and_parts (leb low m) (leb m high) p.0 in
    let at_least = leb-true low m q.0 in
    let at_most = leb-true m high q.1 in
    let e : m ≡ n = same_ok m n p.1 in
    (omega arith, omega arith)

pub number_range : (low high : ℕ) (t : List ℕ) (n : ℕ) → number_in low high t ≡ Ok n → (low ≤ n) × (n ≤ high)
number_range low high t n h = within_range low high n (decimal_of t) h

-- ---- words

none_else : (t : Bool) (o : Option ℕ) (y : ℕ) → cond t None o ≡ Some y → o ≡ Some y
none_else true o y e = absurd (none-some y e)
none_else false o y e = e

some_or : (t : Bool) (x y : ℕ) (o : Option ℕ) → (t ≡ true → x < 16) → ((d : ℕ) → o ≡ Some d → d < 16) → cond t (Some x) o ≡ Some y → y < 16
some_or true x y o small rest e = rw (← same_Some x y e) (small refl)
some_or false x y o small rest e = rest y e

capital_small : (b d : ℕ) → cond (leb 65 b && leb b 70) (Some (b - 55)) None ≡ Some d → d < 16
capital_small b d h =
    some_or (leb 65 b && leb b 70) (b - 55) d None
    (λ e. let q = and_parts (leb 65 b) (leb b 70) e in let high = leb-true b 70 q.1 in omega arith) (λ n e. absurd (none-some n e)) h

letter_small : (b d : ℕ) → hex_letter_of b ≡ Some d → d < 16
letter_small b d h =
    some_or (leb 97 b && leb b 102) (b - 87) d (cond (leb 65 b && leb b 70) (Some (b - 55)) None)
    (λ e. let q = and_parts (leb 97 b) (leb b 102) e in let high = leb-true b 102 q.1 in omega arith) (capital_small b) h

digit_small : (b d : ℕ) → hex_digit_of b ≡ Some d → d < 16
digit_small b d h =
    some_or (is_decimal_digit b) (b - 48) d (hex_letter_of b)
    (λ e. let q = and_parts (leb 48 b) (leb b 57) e in let high = leb-true b 57 q.1 in omega arith) (letter_small b) h

grows : (m so_far d p q : ℕ) → m < (so_far * 16 + d + 1) * p → d < 16 → q ≡ p * 16 → m < (so_far + 1) * q
grows m so_far d p q below low e =
    let most : so_far * 16 + d + 1 ≤ (so_far + 1) * 16 = omega arith in
    let wide = mul-le-mul_left p most in
    let left = mul_comm p (so_far * 16 + d + 1) in
    let right = mul_comm p ((so_far + 1) * 16) in
    let whole : (so_far + 1) * q ≡ (so_far + 1) * 16 * p = ap (λ n. (so_far + 1) * n) (e ∙ mul_comm p 16) ∙ sym (mul_assoc (so_far + 1) 16 p) in
    omega arith

hex_more : (so_far m : ℕ) (bs : List ℕ) (o : Option ℕ) → ((d : ℕ) → o ≡ Some d → d < 16) → hex_after (with_digit so_far o) bs ≡ Some m
    → ((n : ℕ) → hex_after (Some n) bs ≡ Some m → m < (n + 1) * 16 ^ length bs) → m < (so_far + 1) * 16 ^ suc (length bs)
hex_more so_far m bs None small h rest = absurd (none-some m (sym (hex_after-None bs) ∙ h))
hex_more so_far m bs (Some d) small h rest =
    grows m so_far d (16 ^ length bs) (16 ^ suc (length bs)) (rest (so_far * 16 + d) h) (small d refl) (pow-suc 16 (length bs))

-- a number and so many digits after it
hex_after_range : (so_far m : ℕ) (text : List ℕ) → hex_after (Some so_far) text ≡ Some m → m < (so_far + 1) * 16 ^ length text
hex_after_range so_far m [] h = let e : so_far ≡ m = same_Some so_far m h in omega arith
hex_after_range so_far m (b ∷ bs) h = hex_more so_far m bs (hex_digit_of b) (digit_small b) h (λ n e. hex_after_range n m bs e)

word_parts : (short : Bool) (o : Option ℕ) (n : ℕ) → word_within short o ≡ Ok n → (short ≡ true) × (o ≡ Some n)
word_parts short None n h = absurd (err_ok n BadNumber h)
word_parts short (Some m) n h =
    let p = if_ok short (Ok m) OutOfRange n h in (p.0, ap (λ k. Some k) (same_ok m n p.1))

word_digits_range : (digits : List ℕ) (n : ℕ) → word_of_digits digits ≡ Ok n → IsWord n
word_digits_range digits n h =
    let p = word_parts (leb (length digits) 8) (hex_of digits) n h in
    let few = leb-true (length digits) 8 p.0 in
    let some = none_else (eqb (length digits) 0) (hex_after (Some 0) digits) n p.1 in
    let below = hex_after_range 0 n digits some in
    let pos : 0 < 16 = omega arith in
    let top : 16 ^ length digits ≤ 16 ^ 8 = pow-le-pow_right {n = 16} pos {i = length digits} {j = 8} few in
    omega arith

pub word_range : (t : List ℕ) (n : ℕ) → word_of t ≡ Ok n → IsWord n
word_range t n h = word_digits_range (without_0x t) n h

-- ---- runs

run_range : (o : Option (ℕ × ℕ)) (run : OrderRun) → run_within o ≡ Ok run → IsOrderRunInRange run
run_range None run h = absurd (err_ok run BadNumber h)
run_range (Some r) run h =
    let found : OrderRun = record { hart = r.0; times = r.1 } in
    let p = if_ok (leb r.0 7 && (leb 1 r.1 && leb r.1 1048576)) (Ok found) OutOfRange run h in
    let q = and_parts (leb r.0 7) (leb 1 r.1 && leb r.1 1048576) p.0 in
    let s = and_parts (leb 1 r.1) (leb r.1 1048576) q.1 in
    let same : found ≡ run = same_ok found run p.1 in
    rw (← same) (record { hart = leb-true r.0 7 q.0; times = record { low = leb-true 1 r.1 s.0; high = leb-true r.1 1048576 s.1 } })

pub order_range : (t : List ℕ) (run : OrderRun) → order_operand t ≡ Ok run → IsOrderRunInRange run
order_range t run h = run_range (run_of t) run h

event_range_of : (event : ℕ → Event) → ((hart : ℕ) → hart_of (event hart) ≡ hart) → (r : Result OrderRun BundleKind)
    → ((o : OrderRun) → r ≡ Ok o → IsOrderRunInRange o) → (run : EventRun) → event_with event r ≡ Ok run → IsEventRunInRange run
event_range_of event hart_is (Ok o) fits run h =
    let found : EventRun = record { event = event o.hart; times = o.times } in
    let same : found ≡ run = same_ok found run h in
    let is = fits o refl in
    rw (← same) (record { hart = rw (hart_is o.hart) is.hart; times = is.times })
event_range_of event hart_is (Err kind) fits run h = absurd (err_ok run kind h)

go_range : (t : List ℕ) (run : EventRun) → event_with (λ hart. Go hart) (order_operand t) ≡ Ok run → IsEventRunInRange run
go_range t run h = event_range_of (λ hart. Go hart) (λ hart. refl) (order_operand t) (order_range t) run h

tick_range : (t : List ℕ) (run : EventRun) → event_with (λ hart. Tick hart) (order_operand t) ≡ Ok run → IsEventRunInRange run
tick_range t run h = event_range_of (λ hart. Tick hart) (λ hart. refl) (order_operand t) (order_range t) run h

either_range : (go : Bool) (letter : ℕ) (t : List ℕ) (run : EventRun)
    → cond go (event_with (λ hart. Go hart) (order_operand t)) (cond (eqb letter 0x74) (event_with (λ hart. Tick hart) (order_operand t)) (Err BadNumber))
    ≡ Ok run
    → IsEventRunInRange run
either_range true letter t run h = go_range t run h
either_range false letter t run h =
    let p = if_ok (eqb letter 0x74) (event_with (λ hart. Tick hart) (order_operand t)) BadNumber run h in tick_range t run p.1

pub event_range : (t : List ℕ) (run : EventRun) → event_operand t ≡ Ok run → IsEventRunInRange run
event_range [] run h = absurd (err_ok run BadNumber h)
event_range (letter ∷ t) run h = either_range (eqb letter 0x67) letter t run h
