-- What an answer says of its token, at each answer.
use Rattle.std.proofs.Common.{◌≡◌, ℕ, ◌<◌, ◌≤◌, ◌↔◌, inl, inr, min, List, [], ◌∷◌, ◌++◌, Result, Ok, Err, refl, sym, ap, subst, arith}
use Rattle.core_model.specs.Events.{hart_of}
use Rattle.core_model.specs.declared.event.Event.{Event}
use Rattle.core_model.specs.declared.event.Event.TheVariants.{Go, Tick}
use Rattle.core_model.specs.declared.event.EventRun.{EventRun}
use Rattle.core_model.specs.declared.event.OrderRun.{OrderRun}
use Rattle.timer_plan.specs.Tokens.{SpellsOrderRun, SpellsRun, letter_of, SpellsEventRun, IsInRange, IsOutOfRange}
use Rattle.timer_plan.specs.declared.token.TokenFault.{TokenFault}
use Rattle.timer_plan.specs.declared.token.TokenFault.TheVariants.{BadNumber, OutOfRange}
use Rattle.timer_plan.proofs.Spelling.{order_one, event_one, event_after}

pub in_not_out : (hart times : ℕ) → IsInRange hart times → IsOutOfRange hart times → ⊥
in_not_out hart times h (inl high) = let p = h.hart_high in omega arith
in_not_out hart times h (inr (inl none)) = let p = h.times_low in omega arith
in_not_out hart times h (inr (inr many)) = let p = h.times_high in omega arith

-- The answer is the run that is spelled, where its numbers are in range; BadNumber where none is spelled; and OutOfRange where one
-- is spelled that has a number out of range.
pub record Decides {R : Type 0} (Spelled In Out : R → Type 0) (answer : Result R TokenFault) : Type 0 where
  pub run : (r : R) → (answer ≡ Ok r) ↔ (Spelled r × In r)
  pub bad_number : (answer ≡ Err BadNumber) ↔ ((r : R) → Spelled r → ⊥)
  pub out_of_range : (answer ≡ Err OutOfRange) ↔ ((r : R) × Spelled r × Out r)

decides_ok : {R : Type 0} (Spelled In Out : R → Type 0) → ((a b : R) → Spelled a → Spelled b → a ≡ b) → ((r : R) → In r → Out r → ⊥)
    → (r : R) → Spelled r → In r → Decides Spelled In Out (Ok r)
decides_ok {R} Spelled In Out one apart r s i = record {
  run = λ q. (λ e. let same : r ≡ q = cc in (subst Spelled same s, subst In same i), λ p. ap Ok (one r q s p.0));
  bad_number = (λ e. cc, λ none. absurd (none r s));
  out_of_range = (λ e. cc, λ p. absurd (apart p.0 (subst In (one r p.0 s p.1) i) p.2));
}

decides_bad : {R : Type 0} (Spelled In Out : R → Type 0) → ((r : R) → Spelled r → ⊥) → Decides Spelled In Out (Err BadNumber)
decides_bad {R} Spelled In Out none = record {
  run = λ q. (λ e. cc, λ p. absurd (none q p.0));
  bad_number = (λ e. none, λ p. refl);
  out_of_range = (λ e. cc, λ p. absurd (none p.0 p.1));
}

decides_out : {R : Type 0} (Spelled In Out : R → Type 0) → ((a b : R) → Spelled a → Spelled b → a ≡ b) → ((r : R) → In r → Out r → ⊥)
    → (r : R) → Spelled r → Out r → Decides Spelled In Out (Err OutOfRange)
decides_out {R} Spelled In Out one apart r s o = record {
  run = λ q. (λ e. cc, λ p. absurd (apart q p.1 (subst Out (one r q s p.0) o)));
  bad_number = (λ e. cc, λ none. absurd (none r s));
  out_of_range = (λ e. (r, s, o), λ p. refl);
}

-- ---- orders

abbrev pub DecidesOrder : List ℕ → Result OrderRun TokenFault → Type 0
DecidesOrder token answer = Decides (SpellsOrderRun token) (λ run. IsInRange run.hart run.times) (λ run. IsOutOfRange run.hart run.times) answer

order_apart : (run : OrderRun) → IsInRange run.hart run.times → IsOutOfRange run.hart run.times → ⊥
order_apart run = in_not_out run.hart run.times

pub order_ok : (token : List ℕ) (run : OrderRun) → SpellsOrderRun token run → IsInRange run.hart run.times → DecidesOrder token (Ok run)
order_ok token run s i = decides_ok (SpellsOrderRun token) _ _ (order_one token) order_apart run s i

pub order_bad : (token : List ℕ) → ((hart times : ℕ) → SpellsRun token hart times → ⊥) → DecidesOrder token (Err BadNumber)
order_bad token none = decides_bad (SpellsOrderRun token) _ _ (λ run. none run.hart run.times)

pub order_out : (token : List ℕ) (run : OrderRun) → SpellsOrderRun token run → IsOutOfRange run.hart run.times → DecidesOrder token (Err OutOfRange)
order_out token run s o = decides_out (SpellsOrderRun token) _ _ (order_one token) order_apart run s o

-- the numbers as they are read, up to a cap
pub order_within : (token : List ℕ) (hart value times : ℕ) → value ≡ min times 10000000 → SpellsRun token hart times
    → hart < 8 → 1 ≤ value → value ≤ 1048576 → DecidesOrder token (Ok (record { hart = hart; times = value }))
order_within token hart value times e s high low many =
    let same : times ≡ value = omega arith in
    order_ok token (record { hart = hart; times = value }) (subst (λ n. SpellsRun token hart n) same s)
    (record { hart_high = high; times_low = low; times_high = many })

times_out : (hart value times : ℕ) → value ≡ min times 10000000 → IsOutOfRange hart value → IsOutOfRange hart times
times_out hart value times e (inl high) = inl high
times_out hart value times e (inr (inl none)) = inr (inl (omega arith))
times_out hart value times e (inr (inr many)) = inr (inr (omega arith))

pub order_outside : (token : List ℕ) (hart value times : ℕ) → value ≡ min times 10000000 → SpellsRun token hart times
    → IsOutOfRange hart value → DecidesOrder token (Err OutOfRange)
order_outside token hart value times e s o = order_out token (record { hart = hart; times = times }) s (times_out hart value times e o)

-- ---- events

abbrev pub DecidesEvent : List ℕ → Result EventRun TokenFault → Type 0
DecidesEvent token answer =
    Decides (SpellsEventRun token) (λ run. IsInRange (hart_of run.event) run.times) (λ run. IsOutOfRange (hart_of run.event) run.times) answer

event_apart : (run : EventRun) → IsInRange (hart_of run.event) run.times → IsOutOfRange (hart_of run.event) run.times → ⊥
event_apart run = in_not_out (hart_of run.event) run.times

-- the token of a run after the letter of its event
spelled_after : (letter : ℕ) (rest : List ℕ) (run : EventRun) → letter_of run.event ≡ letter ∷ [] → SpellsRun rest (hart_of run.event) run.times
    → SpellsEventRun (letter ∷ rest) run
spelled_after letter rest run e s = record { rest = rest; parts = ap (λ l. l ++ rest) (sym e); rest_is = s }

pub event_ok : (token : List ℕ) (letter : ℕ) (rest : List ℕ) (run : EventRun) → token ≡ letter ∷ rest → letter_of run.event ≡ letter ∷ []
    → SpellsRun rest (hart_of run.event) run.times → IsInRange (hart_of run.event) run.times → DecidesEvent token (Ok run)
event_ok token letter rest run is e s i =
    subst (λ t. DecidesEvent t (Ok run)) (sym is)
    (decides_ok (SpellsEventRun (letter ∷ rest)) _ _ (event_one letter rest) event_apart run (spelled_after letter rest run e s) i)

-- an event of each hart that has this letter
pub record HasLetter (letter : ℕ) (event : ℕ → Event) : Type 0 where
  pub letter_is : (hart : ℕ) → letter_of (event hart) ≡ letter ∷ []
  pub hart_is : (hart : ℕ) → hart_of (event hart) ≡ hart

after_err : (letter : ℕ) (rest : List ℕ) (event : ℕ → Event) → HasLetter letter event → (fault : TokenFault) → DecidesOrder rest (Err fault)
    → DecidesEvent (letter ∷ rest) (Err fault)
after_err letter rest event has BadNumber d =
    decides_bad (SpellsEventRun (letter ∷ rest)) _ _
    (λ run h. d.bad_number.0 refl (record { hart = hart_of run.event; times = run.times }) (event_after letter rest run h).rest_is)
after_err letter rest event has OutOfRange d =
    let p = d.out_of_range.0 refl in
    let run : EventRun = record { event = event p.0.hart; times = p.0.times } in
    let same = sym (has.hart_is p.0.hart) in
    decides_out (SpellsEventRun (letter ∷ rest)) _ _ (event_one letter rest) event_apart run
    (spelled_after letter rest run (has.letter_is p.0.hart) (subst (λ h. SpellsRun rest h p.0.times) same p.1))
    (subst (λ h. IsOutOfRange h p.0.times) same p.2)

pub event_err : (token : List ℕ) (letter : ℕ) (rest : List ℕ) (event : ℕ → Event) → HasLetter letter event → token ≡ letter ∷ rest → (fault : TokenFault)
    → DecidesOrder rest (Err fault) → DecidesEvent token (Err fault)
event_err token letter rest event has is fault d =
    subst (λ t. DecidesEvent t (Err fault)) (sym is) (after_err letter rest event has fault d)

pub go_letter : HasLetter 103 Go
go_letter = record { letter_is = λ hart. refl; hart_is = λ hart. refl }

pub tick_letter : HasLetter 116 Tick
tick_letter = record { letter_is = λ hart. refl; hart_is = λ hart. refl }
