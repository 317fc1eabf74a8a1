-- The runs of tokens are those of the form.
use Rattle.std.proofs.Common.{◌≡◌, ℕ, Bool, true, false, ◌&&◌, cond, eqb, leb, List, [], ◌∷◌, Option, Some, None, Result, Ok, Err, refl, sym, subst}
use Rattle.std.proofs.lemmas.Bool.{eqb-true, eqb-false}
use Rattle.core_model.specs.Events.{hart_of}
use Rattle.core_model.specs.declared.event.Event.{Event}
use Rattle.core_model.specs.declared.event.Event.TheVariants.{Go, Tick}
use Rattle.core_model.specs.declared.event.EventRun.{EventRun}
use Rattle.core_model.specs.declared.event.OrderRun.{OrderRun}
use Rattle.timer_plan.specs.Tokens.{SpellsOrderRun, SpellsRun, SpellsEventRun, IsInRange, IsOutOfRange}
use Rattle.timer_plan.proofs.Spelling.{order_one, event_one, event_after}
use Rattle.timer_plan.specs.declared.token.TokenFault.{TokenFault}
use Rattle.timer_plan.specs.declared.token.TokenFault.TheVariants as fault
use Rattle.timer_plan.proofs.Decides.{Decides as TokenDecides, in_not_out, HasLetter, go_letter, tick_letter}
use Rattle.bundle_text.specs.Runs.{run_of, run_within, order_operand, event_with, event_operand, kind_of}
use Rattle.bundle_text.specs.declared.bundle.BundleKind.{BundleKind}
use Rattle.bundle_text.specs.declared.bundle.BundleKind.TheVariants.{BadNumber, OutOfRange}
use Rattle.bundle_text.proofs.RunTokens.{RunIs, run_spelled, in_range, out_of_range, spelled_after, no_letter, no_bytes_of}
use Rattle.bundle_text.proofs.Decides.{Decides, decides_ok, decides_bad, decides_out}

-- ---- runs of an order

abbrev pub InOrder : OrderRun → Type 0
InOrder run = IsInRange run.hart run.times

abbrev pub OutOfOrder : OrderRun → Type 0
OutOfOrder run = IsOutOfRange run.hart run.times

abbrev pub DecidesOrder : List ℕ → Result OrderRun BundleKind → Type 0
DecidesOrder token answer = Decides (SpellsOrderRun token) InOrder OutOfOrder answer

order_apart : (run : OrderRun) → InOrder run → OutOfOrder run → ⊥
order_apart run = in_not_out run.hart run.times

order_some : (t : Bool) (token : List ℕ) (hart times : ℕ) → (leb hart 7 && (leb 1 times && leb times 1048576)) ≡ t → SpellsRun token hart times
    → DecidesOrder token (cond t (Ok (record { hart = hart; times = times })) (Err OutOfRange))
order_some true token hart times e s =
    decides_ok (SpellsOrderRun token) InOrder OutOfOrder (order_one token) order_apart (record { hart = hart; times = times }) s (in_range hart times e)
order_some false token hart times e s =
    decides_out (SpellsOrderRun token) InOrder OutOfOrder (order_one token) order_apart (record { hart = hart; times = times }) s (out_of_range hart times e)

order_of_run : (token : List ℕ) (o : Option (ℕ × ℕ)) → RunIs token o → DecidesOrder token (run_within o)
order_of_run token None none = decides_bad (SpellsOrderRun token) InOrder OutOfOrder (λ run. none run.hart run.times)
order_of_run token (Some run) s = order_some (leb run.0 7 && (leb 1 run.1 && leb run.1 1048576)) token run.0 run.1 refl s

pub order_decided : (token : List ℕ) → DecidesOrder token (order_operand token)
order_decided token = order_of_run token (run_of token) (run_spelled token)

-- ---- runs of events

abbrev pub InEvents : EventRun → Type 0
InEvents run = IsInRange (hart_of run.event) run.times

abbrev pub OutOfEvents : EventRun → Type 0
OutOfEvents run = IsOutOfRange (hart_of run.event) run.times

abbrev pub DecidesEvent : List ℕ → Result EventRun BundleKind → Type 0
DecidesEvent token answer = Decides (SpellsEventRun token) InEvents OutOfEvents answer

event_apart : (run : EventRun) → InEvents run → OutOfEvents run → ⊥
event_apart run = in_not_out (hart_of run.event) run.times

event_some : (t : Bool) (letter : ℕ) (rest : List ℕ) (event : ℕ → Event) (hart times : ℕ) → HasLetter letter event
    → (leb hart 7 && (leb 1 times && leb times 1048576)) ≡ t → SpellsRun rest hart times
    → DecidesEvent (letter ∷ rest) (event_with event (cond t (Ok (record { hart = hart; times = times })) (Err OutOfRange)))
event_some true letter rest event hart times has e s =
    decides_ok (SpellsEventRun (letter ∷ rest)) InEvents OutOfEvents (event_one letter rest) event_apart (record { event = event hart; times = times })
    (spelled_after letter rest event hart times has s) (subst (λ h. IsInRange h times) (sym (has.hart_is hart)) (in_range hart times e))
event_some false letter rest event hart times has e s =
    decides_out (SpellsEventRun (letter ∷ rest)) InEvents OutOfEvents (event_one letter rest) event_apart (record { event = event hart; times = times })
    (spelled_after letter rest event hart times has s) (subst (λ h. IsOutOfRange h times) (sym (has.hart_is hart)) (out_of_range hart times e))

event_of_run : (letter : ℕ) (rest : List ℕ) (event : ℕ → Event) (o : Option (ℕ × ℕ)) → HasLetter letter event → RunIs rest o
    → DecidesEvent (letter ∷ rest) (event_with event (run_within o))
event_of_run letter rest event None has none =
    decides_bad (SpellsEventRun (letter ∷ rest)) InEvents OutOfEvents
    (λ run s. none (hart_of run.event) run.times (event_after letter rest run s).rest_is)
event_of_run letter rest event (Some run) has s =
    event_some (leb run.0 7 && (leb 1 run.1 && leb run.1 1048576)) letter rest event run.0 run.1 has refl s

after_letter : (letter : ℕ) (rest : List ℕ) (event : ℕ → Event) → HasLetter letter event
    → DecidesEvent (letter ∷ rest) (event_with event (order_operand rest))
after_letter letter rest event has = event_of_run letter rest event (run_of rest) has (run_spelled rest)

tick_or_none : (t : Bool) (letter : ℕ) (rest : List ℕ) → eqb letter 116 ≡ t → (letter ≡ 103 → ⊥)
    → DecidesEvent (letter ∷ rest) (cond t (event_with (λ hart. Tick hart) (order_operand rest)) (Err BadNumber))
tick_or_none true letter rest e go = after_letter letter rest (λ hart. Tick hart) (rw (eqb-true letter 116 e) tick_letter)
tick_or_none false letter rest e go =
    decides_bad (SpellsEventRun (letter ∷ rest)) InEvents OutOfEvents (no_letter letter rest go (eqb-false letter 116 e))

go_or_tick : (t : Bool) (letter : ℕ) (rest : List ℕ) → eqb letter 103 ≡ t
    → DecidesEvent (letter ∷ rest)
    (cond t (event_with (λ hart. Go hart) (order_operand rest))
    (cond (eqb letter 116) (event_with (λ hart. Tick hart) (order_operand rest)) (Err BadNumber)))
go_or_tick true letter rest e = after_letter letter rest (λ hart. Go hart) (rw (eqb-true letter 103 e) go_letter)
go_or_tick false letter rest e = tick_or_none (eqb letter 116) letter rest refl (eqb-false letter 103 e)

pub event_decided : (token : List ℕ) → DecidesEvent token (event_operand token)
event_decided [] = decides_bad (SpellsEventRun []) InEvents OutOfEvents (λ run s. no_bytes_of run.event s.rest s.parts)
event_decided (letter ∷ rest) = go_or_tick (eqb letter 103) letter rest refl

-- ---- the answer of `timer_plan`, as this crate says it

abbrev pub answer_of : {R : Type 0} → Result R TokenFault → Result R BundleKind
answer_of (Ok run) = Ok run
answer_of (Err fault) = Err (kind_of fault)

same_answer : {R : Type 0} (Spelled In Out : R → Type 0) (answer : Result R TokenFault) (decided : Result R BundleKind)
    → TokenDecides Spelled In Out answer → Decides Spelled In Out decided → decided ≡ answer_of answer
same_answer Spelled In Out (Ok run) decided h d = (d.value run).1 ((h.run run).0 refl)
same_answer Spelled In Out (Err fault.BadNumber) decided h d = d.bad_number.1 (h.bad_number.0 refl)
same_answer Spelled In Out (Err fault.OutOfRange) decided h d = d.out_of_range.1 (h.out_of_range.0 refl)

pub order_operand-is : (token : List ℕ) (answer : Result OrderRun TokenFault) → TokenDecides (SpellsOrderRun token) InOrder OutOfOrder answer
    → order_operand token ≡ answer_of answer
order_operand-is token answer h = same_answer (SpellsOrderRun token) InOrder OutOfOrder answer (order_operand token) h (order_decided token)

pub event_operand-is : (token : List ℕ) (answer : Result EventRun TokenFault) → TokenDecides (SpellsEventRun token) InEvents OutOfEvents answer
    → event_operand token ≡ answer_of answer
event_operand-is token answer h = same_answer (SpellsEventRun token) InEvents OutOfEvents answer (event_operand token) h (event_decided token)
