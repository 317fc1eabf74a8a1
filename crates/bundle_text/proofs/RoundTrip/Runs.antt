-- Written runs read as they are.
use Rattle.std.proofs.Common.{◌≡◌, ℕ, ◌+◌, ◌-◌, ◌≤◌, ◌<◌, ◌^◌, Bool, true, false, cond, leb, eqb, ◌&&◌, List, [], ◌∷◌, ◌++◌, codes, decimal, Some, None, option_map, Ok, Err, refl, sym, ap, ◌∙◌, subst, arith}
use Rattle.std.proofs.lemmas.Bool.{and_from, le-leb, eqb-true, cond-true}
use Rattle.std.proofs.lemmas.Fmt.{decimal_digit}
use Rattle.core_model.specs.declared.event.Event.{Event}
use Rattle.core_model.specs.declared.event.Event.TheVariants.{Go, Tick}
use Rattle.core_model.specs.declared.event.EventRun.{EventRun}
use Rattle.core_model.specs.declared.event.OrderRun.{OrderRun}
use Rattle.bundle_text.specs.Numbers.{is_decimal_digit}
use Rattle.bundle_text.specs.Runs.{times_of, run_of, run_within, order_operand, event_with, event_operand}
use Rattle.bundle_text.specs.Range.{IsTimes, IsEventRunInRange, IsOrderRunInRange}
use Rattle.bundle_text.specs.Text.{times_text, event_run_text, order_run_text}
use Rattle.bundle_text.specs.declared.bundle.BundleKind.TheVariants.{OutOfRange}
use Rattle.bundle_text.proofs.RoundTrip.Tokens.{is_visible, IsVisible, IsPlain, some_bytes-cons}
use Rattle.bundle_text.proofs.RoundTrip.Numbers.{is_digit, digit-visible, decimal_of-decimal, plain_decimal}

-- how often, by whether it is once
read_times : (b : Bool) (times : ℕ) → times < 2 ^ 64 → (b ≡ true → times ≡ 1) → times_of (cond b [] (codes "*" ++ decimal times)) ≡ Some times
read_times true times small one = ap Some (sym (one refl))
read_times false times small one = decimal_of-decimal times small

times_of-text : (times : ℕ) → IsTimes times → times_of (times_text times) ≡ Some times
times_of-text times h = read_times (eqb times 1) times (let high = h.high in omega arith) (eqb-true times 1)

visible_times : (b : Bool) (times : ℕ) → times < 2 ^ 64 → IsVisible (cond b [] (codes "*" ++ decimal times))
visible_times true times small = refl
visible_times false times small = (plain_decimal times small).visible

times_text-visible : (times : ℕ) → IsTimes times → IsVisible (times_text times)
times_text-visible times h = visible_times (eqb times 1) times (let high = h.high in omega arith)

-- a hart's digit, and how often
run_of-digit : (hart times : ℕ) (suffix : List ℕ) → hart < 10 → times_of suffix ≡ Some times → run_of ((48 + hart) ∷ suffix) ≡ Some (hart, times)
run_of-digit hart times suffix lt e =
    cond-true (is_decimal_digit (48 + hart)) (option_map (λ n. (48 + hart - 48, n)) (times_of suffix)) None (is_digit hart lt)
    ∙ ap (λ o. option_map (λ n. (48 + hart - 48, n)) o) e ∙ ap (λ h. Some (h, times)) (let d : 48 + hart - 48 ≡ hart = omega arith in d)

run_within-range : (hart times : ℕ) → hart ≤ 7 → IsTimes times → run_within (Some (hart, times)) ≡ Ok (record { hart = hart; times = times })
run_within-range hart times high h =
    cond-true (leb hart 7 && (leb 1 times && leb times 1048576)) (Ok (record { hart = hart; times = times })) (Err OutOfRange)
    (and_from (leb hart 7) (leb 1 times && leb times 1048576) (le-leb hart 7 high)
    (and_from (leb 1 times) (leb times 1048576) (le-leb 1 times h.low) (le-leb times 1048576 h.high)))

-- the text of a run, whose hart is one digit
run_digit : (run : OrderRun) → run.hart ≤ 7 → order_run_text run ≡ (48 + run.hart) ∷ times_text run.times
run_digit run high = ap (λ l. l ++ times_text run.times) (decimal_digit run.hart (omega arith))

pub order_operand-text : (run : OrderRun) → IsOrderRunInRange run → order_operand (order_run_text run) ≡ Ok run
order_operand-text run h =
    ap order_operand (run_digit run h.hart)
    ∙ ap run_within (run_of-digit run.hart run.times (times_text run.times) (let high = h.hart in omega arith) (times_of-text run.times h.times))
    ∙ run_within-range run.hart run.times h.hart h.times

plain_digit : (hart : ℕ) (suffix : List ℕ) → hart ≤ 7 → IsVisible suffix → IsPlain ((48 + hart) ∷ suffix)
plain_digit hart suffix high e = record {
  some = some_bytes-cons (48 + hart) suffix;
  visible = and_from (is_visible (48 + hart)) _ (digit-visible hart (omega arith)) e;
}

pub plain_order_run : (run : OrderRun) → IsOrderRunInRange run → IsPlain (order_run_text run)
plain_order_run run h =
    subst IsPlain (sym (run_digit run h.hart)) (plain_digit run.hart (times_text run.times) h.hart (times_text-visible run.times h.times))

-- the run of an order that has the hart and the times of a run of events
abbrev order_run : ℕ → ℕ → OrderRun
order_run hart times = record { hart = hart; times = times }

order_range : (hart times : ℕ) → hart ≤ 7 → IsTimes times → IsOrderRunInRange (order_run hart times)
order_range hart times high h = record { hart = high; times = h }

operand_go : (hart times : ℕ) → hart ≤ 7 → IsTimes times
    → event_operand (event_run_text (record { event = Go hart; times = times })) ≡ Ok (record { event = Go hart; times = times })
operand_go hart times high h = ap (event_with (λ k. Go k)) (order_operand-text (order_run hart times) (order_range hart times high h))

operand_tick : (hart times : ℕ) → hart ≤ 7 → IsTimes times
    → event_operand (event_run_text (record { event = Tick hart; times = times })) ≡ Ok (record { event = Tick hart; times = times })
operand_tick hart times high h = ap (event_with (λ k. Tick k)) (order_operand-text (order_run hart times) (order_range hart times high h))

operand_of : (event : Event) (times : ℕ) → IsEventRunInRange (record { event = event; times = times })
    → event_operand (event_run_text (record { event = event; times = times })) ≡ Ok (record { event = event; times = times })
operand_of (Go hart) times h = operand_go hart times h.hart h.times
operand_of (Tick hart) times h = operand_tick hart times h.hart h.times

pub event_operand-text : (run : EventRun) → IsEventRunInRange run → event_operand (event_run_text run) ≡ Ok run
event_operand-text run h = operand_of run.event run.times h

-- a letter before a token
plain_letter : (letter : ℕ) (token : List ℕ) → is_visible letter ≡ true → IsPlain token → IsPlain (letter ∷ token)
plain_letter letter token e h =
    record { some = some_bytes-cons letter token; visible = and_from (is_visible letter) _ e h.visible }

plain_event : (event : Event) (times : ℕ) → IsEventRunInRange (record { event = event; times = times })
    → IsPlain (event_run_text (record { event = event; times = times }))
plain_event (Go hart) times h =
    plain_letter 103 (order_run_text (order_run hart times)) refl (plain_order_run (order_run hart times) (order_range hart times h.hart h.times))
plain_event (Tick hart) times h =
    plain_letter 116 (order_run_text (order_run hart times)) refl (plain_order_run (order_run hart times) (order_range hart times h.hart h.times))

pub plain_event_run : (run : EventRun) → IsEventRunInRange run → IsPlain (event_run_text run)
plain_event_run run h = plain_event run.event run.times h
