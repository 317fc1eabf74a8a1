-- Where a line that is allowed stands, and what the lines before it have said.
use Rattle.std.proofs.Common.{◌≡◌, Bool, true, false, Option, Some, None, refl}
use Rattle.std.proofs.lemmas.Bool.{false≢true}
use Rattle.bundle_text.specs.Places.{place_after, may_end, is_in_code}
use Rattle.bundle_text.specs.declared.draft.Word.{Word}
use Rattle.bundle_text.specs.declared.draft.Word.TheVariants as word
use Rattle.bundle_text.specs.declared.draft.Place.{Place}
use Rattle.bundle_text.specs.declared.draft.Place.TheVariants as at

-- whether the slots were read
abbrev pub has_slots : Place → Bool
has_slots at.Start = false
has_slots at.Header = false
has_slots p = true

-- whether a task is open
abbrev pub has_task : Place → Bool
has_task at.Tape = true
has_task at.Words = true
has_task at.Code = true
has_task at.CodeEnd = true
has_task p = false

-- whether a word stands only after the slots
abbrev pub needs_slots : Word → Bool
needs_slots word.Bundle = false
needs_slots word.Slots = false
needs_slots w = true

-- whether a word stands only inside a task
abbrev pub needs_task : Word → Bool
needs_task word.Tape = true
needs_task word.Words = true
needs_task word.Code = true
needs_task word.EndCode = true
needs_task word.EndTask = true
needs_task w = false

-- where a line of a word stands
abbrev pub place_of : Word → Place
place_of word.Bundle = at.Header
place_of word.Slots = at.Plans
place_of word.Plan = at.Plans
place_of word.Task = at.Tape
place_of word.Tape = at.Tape
place_of word.Words = at.Words
place_of word.Code = at.Code
place_of word.EndCode = at.CodeEnd
place_of word.EndTask = at.Tasks
place_of word.World = at.Worlds
place_of word.Events = at.Events
place_of word.Order = at.Order

abbrev pub if_then : Bool → Bool → Bool
if_then true b = b
if_then false b = true

abbrev pub PlaceFits : Place → Word → Option Place → Type 0
PlaceFits before w None = Unit {0}
PlaceFits before w (Some after) =
    (after ≡ place_of w) × (if_then (needs_slots w) (has_slots before) ≡ true) × (if_then (needs_task w) (has_task before) ≡ true)

pub place_fits : (before : Place) (w : Word) → PlaceFits before w (place_after before w)
place_fits at.Start word.Bundle = (refl, refl, refl)
place_fits at.Start w = tt
place_fits at.Header word.Slots = (refl, refl, refl)
place_fits at.Header w = tt
place_fits at.Plans word.Plan = (refl, refl, refl)
place_fits at.Plans word.Task = (refl, refl, refl)
place_fits at.Plans word.World = (refl, refl, refl)
place_fits at.Plans word.Events = (refl, refl, refl)
place_fits at.Plans word.Order = (refl, refl, refl)
place_fits at.Plans w = tt
place_fits at.Tasks word.Task = (refl, refl, refl)
place_fits at.Tasks word.World = (refl, refl, refl)
place_fits at.Tasks word.Events = (refl, refl, refl)
place_fits at.Tasks word.Order = (refl, refl, refl)
place_fits at.Tasks w = tt
place_fits at.Worlds word.World = (refl, refl, refl)
place_fits at.Worlds word.Events = (refl, refl, refl)
place_fits at.Worlds word.Order = (refl, refl, refl)
place_fits at.Worlds w = tt
place_fits at.Events word.Events = (refl, refl, refl)
place_fits at.Events word.Order = (refl, refl, refl)
place_fits at.Events w = tt
place_fits at.Order word.Order = (refl, refl, refl)
place_fits at.Order w = tt
place_fits at.Tape word.Tape = (refl, refl, refl)
place_fits at.Tape word.Words = (refl, refl, refl)
place_fits at.Tape word.Code = (refl, refl, refl)
place_fits at.Tape word.EndTask = (refl, refl, refl)
place_fits at.Tape w = tt
place_fits at.Words word.Words = (refl, refl, refl)
place_fits at.Words word.EndTask = (refl, refl, refl)
place_fits at.Words w = tt
place_fits at.Code w = tt
place_fits at.CodeEnd word.EndTask = (refl, refl, refl)
place_fits at.CodeEnd w = tt

pub ends_with_slots : (p : Place) → may_end p ≡ true → has_slots p ≡ true
ends_with_slots at.Start e = e
ends_with_slots at.Header e = e
ends_with_slots p e = refl

pub code_place : (p : Place) → is_in_code p ≡ true → (has_slots p ≡ true) × (has_task p ≡ true)
code_place at.Code e = (refl, refl)
code_place p e = absurd (false≢true e)
