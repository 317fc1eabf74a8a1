-- The run that a token of `events` or `order` says.
use Rattle.std.specs.Prelude.{ℕ, ◌-◌, ◌==◌, ◌&&◌, nat_le, List, [], ◌∷◌, Option, Some, None, option_map, Result, Ok, Err, if◌then◌else◌}
use Rattle.isa_model.specs.Limits.{max_events}
use Rattle.core_model.specs.declared.event.Event.{Event}
use Rattle.core_model.specs.declared.event.Event.TheVariants.{Go, Tick}
use Rattle.core_model.specs.declared.event.EventRun.{EventRun}
use Rattle.core_model.specs.declared.event.OrderRun.{OrderRun}
use Rattle.timer_plan.specs.declared.token.TokenFault.{TokenFault}
use Rattle.timer_plan.specs.declared.token.TokenFault.TheVariants as fault
use Rattle.bundle_text.specs.Numbers.{is_decimal_digit, decimal_of}
use Rattle.bundle_text.specs.declared.bundle.BundleKind.{BundleKind}
use Rattle.bundle_text.specs.declared.bundle.BundleKind.TheVariants.{BadNumber, OutOfRange}

-- `*` and a decimal number; nothing is once
abbrev pub times_of : List ℕ → Option ℕ
times_of [] = Some 1
times_of (b ∷ number) = if b == 0x2a then decimal_of number else None

-- a hart digit and how often
abbrev pub run_of : List ℕ → Option (ℕ × ℕ)
run_of [] = None
run_of (digit ∷ suffix) = if is_decimal_digit digit then option_map (λ times. (digit - 48, times)) (times_of suffix) else None

-- the run of a hart from 0 to 7, from 1 to 2^20 times
abbrev pub run_within : Option (ℕ × ℕ) → Result OrderRun BundleKind
run_within None = Err BadNumber
run_within (Some run) =
    if nat_le run.0 7 && (nat_le 1 run.1 && nat_le run.1 max_events) then Ok (record { hart = run.0; times = run.1 }) else Err OutOfRange

-- a run of one hart of the order
abbrev pub order_operand : List ℕ → Result OrderRun BundleKind
order_operand token = run_within (run_of token)

abbrev pub event_with : (ℕ → Event) → Result OrderRun BundleKind → Result EventRun BundleKind
event_with event (Ok run) = Ok (record { event = event run.hart; times = run.times })
event_with event (Err kind) = Err kind

-- a run of one event: `g` or `t`, and as in an order
abbrev pub event_operand : List ℕ → Result EventRun BundleKind
event_operand [] = Err BadNumber
event_operand (letter ∷ token) =
    if letter == 0x67
    then event_with (λ hart. Go hart) (order_operand token)
    else (if letter == 0x74 then event_with (λ hart. Tick hart) (order_operand token) else Err BadNumber)

-- the kind of a token that is no run
abbrev pub kind_of : TokenFault → BundleKind
kind_of fault.BadNumber = BadNumber
kind_of fault.OutOfRange = OutOfRange
