-- What the token of a run spells, by productions (this project's own): a hart digit and how often; the token of a run of events
-- has a letter before.
use Rattle.std.specs.Prelude.{◌≡◌, ℕ, ◌<◌, ◌≤◌, ◌⊎◌, List, [], ◌∷◌, ◌++◌, codes}
use Rattle.std.specs.Str.Parse.{IsNumeral, digits_value}
use Rattle.isa_model.specs.Limits.{max_harts, max_events}
use Rattle.core_model.specs.Events.{hart_of}
use Rattle.core_model.specs.declared.event.Event.{Event}
use Rattle.core_model.specs.declared.event.Event.TheVariants.{Go, Tick}
use Rattle.core_model.specs.declared.event.EventRun.{EventRun}
use Rattle.core_model.specs.declared.event.OrderRun.{OrderRun}

-- one or more decimal digits, and their number
pub record IsDecimal (text : List ℕ) (number : ℕ) : Type 0 where
  pub digits : IsNumeral 10 text
  pub value : number ≡ digits_value 10 text

-- nothing, which is once, or `*` and a decimal number
pub data SpellsTimes (text : List ℕ) (times : ℕ) : Type 0 where
  Once : text ≡ [] → times ≡ 1 → SpellsTimes text times
  Starred : (number : List ℕ) → text ≡ codes "*" ++ number → IsDecimal number times → SpellsTimes text times

-- a decimal digit, which is the hart's number, and how often
pub record SpellsRun (text : List ℕ) (hart times : ℕ) : Type 0 where
  pub digit : ℕ
  pub suffix : List ℕ
  pub parts : text ≡ digit ∷ suffix
  pub hart_is : IsDecimal (digit ∷ []) hart
  pub times_are : SpellsTimes suffix times

-- the token of a run of an order
abbrev pub SpellsOrderRun : List ℕ → OrderRun → Type 0
SpellsOrderRun token run = SpellsRun token run.hart run.times

-- the letter of an event
abbrev pub letter_of : Event → List ℕ
letter_of (Go hart) = codes "g"
letter_of (Tick hart) = codes "t"

-- the token of a run of events
pub record SpellsEventRun (token : List ℕ) (run : EventRun) : Type 0 where
  pub rest : List ℕ
  pub parts : token ≡ letter_of run.event ++ rest
  pub rest_is : SpellsRun rest (hart_of run.event) run.times

-- a hart is one of 8, and comes at least once and at most 1,048,576 times
pub record IsInRange (hart times : ℕ) : Type 0 where
  pub hart_high : hart < max_harts
  pub times_low : 1 ≤ times
  pub times_high : times ≤ max_events

-- a number of a run is outside its range
abbrev pub IsOutOfRange : ℕ → ℕ → Type 0
IsOutOfRange hart times = (max_harts ≤ hart) ⊎ ((times ≡ 0) ⊎ (max_events < times))
