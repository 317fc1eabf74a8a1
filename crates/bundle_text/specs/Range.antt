-- The ranges of a bundle's numbers and the lengths of its lists.
use Rattle.std.specs.Prelude.{◌≡◌, ◌≢◌, ℕ, ◌+◌, ◌<◌, ◌≤◌, ◌^◌, ⊤, true, false, List, [], ◌∷◌, length}
use Rattle.std.specs.List.{AllByRecursion}
use Rattle.isa_model.specs.Limits.{max_fuel, max_output_words, max_data_words, max_band, max_quantum, max_events}
use Rattle.core_model.specs.Events.{hart_of}
use Rattle.core_model.specs.declared.event.EventRun.{EventRun}
use Rattle.core_model.specs.declared.event.OrderRun.{OrderRun}
use Rattle.bundle_text.specs.Pieces.{is_text, tokens}
use Rattle.bundle_text.specs.Operands.{has_plan}
use Rattle.bundle_text.specs.Lines.{is_endcode}
use Rattle.bundle_text.specs.declared.pieces.TheConstants.{CARRIAGE_RETURN}
use Rattle.bundle_text.specs.declared.bundle.Bundle.{Bundle}
use Rattle.bundle_text.specs.declared.bundle.TaskText.{TaskText}
use Rattle.bundle_text.specs.declared.bundle.PlanText.{PlanText}
use Rattle.core_model.specs.declared.world.World.{World}
use Rattle.bundle_text.specs.declared.bundle.Code.{Code}
use Rattle.bundle_text.specs.declared.bundle.Code.TheVariants.{Words, Text}

-- A list has fewer than 2^32 items.
abbrev pub IsShort : {A : Type 0} → List A → Type 0
IsShort items = length items < 2 ^ 32

abbrev pub IsWord : ℕ → Type 0
IsWord n = n < 2 ^ 32

abbrev pub IsByte : ℕ → Type 0
IsByte n = n < 2 ^ 8

pub record IsLineInRange (line : List ℕ) : Type 0 where
  pub bytes : AllByRecursion IsByte line
  pub short : IsShort line

-- words; or lines whose numbers fit 32 bits, with the number after the last one
abbrev pub IsCodeInRange : Code → Type 0
IsCodeInRange (Words words) = AllByRecursion IsWord words × IsShort words
IsCodeInRange (Text first_line lines) = (first_line + length lines < 2 ^ 32) × AllByRecursion IsLineInRange lines

pub record IsTaskInRange (task : TaskText) : Type 0 where
  pub fuel_low : 1 ≤ task.fuel
  pub fuel_high : task.fuel ≤ max_fuel
  pub out_max : task.out_max ≤ max_output_words
  pub data_len : task.data_len ≤ max_data_words
  pub band : task.band ≤ max_band
  pub tape : AllByRecursion IsWord task.tape
  pub tape_short : IsShort task.tape
  pub code : IsCodeInRange task.code

abbrev pub IsQuantum : ℕ → Type 0
IsQuantum n = n ≤ max_quantum

pub record IsPlanInRange (plan : PlanText) : Type 0 where
  pub hart : plan.hart ≤ 7
  pub tail_low : 1 ≤ plan.plan.tail
  pub tail_high : plan.plan.tail ≤ max_quantum
  pub quanta : AllByRecursion IsQuantum plan.plan.quanta
  pub quanta_short : IsShort plan.plan.quanta

-- A hart has at most one plan.
abbrev pub ArePlansApart : List PlanText → Type 0
ArePlansApart [] = ⊤
ArePlansApart (plan ∷ others) = (has_plan plan.hart others ≡ false) × ArePlansApart others

pub record IsWorldInRange (world : World) : Type 0 where
  pub secret : IsWord world.secret
  pub tape : AllByRecursion IsWord world.tape
  pub tape_short : IsShort world.tape

-- All worlds have one length.
abbrev pub AreWorldsAsLong : List World → Type 0
AreWorldsAsLong [] = ⊤
AreWorldsAsLong (first ∷ others) = AllByRecursion (λ world. length world.tape ≡ length first.tape) others

-- from 1 to 2^20
pub record IsTimes (times : ℕ) : Type 0 where
  pub low : 1 ≤ times
  pub high : times ≤ max_events

pub record IsEventRunInRange (run : EventRun) : Type 0 where
  pub hart : hart_of run.event ≤ 7
  pub times : IsTimes run.times

pub record IsOrderRunInRange (run : OrderRun) : Type 0 where
  pub hart : run.hart ≤ 7
  pub times : IsTimes run.times

-- All numbers of a bundle are in their ranges, and its lists are short. How long a list may be for a core is not said here.
pub record IsInRange (bundle : Bundle) : Type 0 where
  pub slots_low : 1 ≤ bundle.slots
  pub slots_high : bundle.slots ≤ 8
  pub plans : AllByRecursion IsPlanInRange bundle.plans
  pub plans_short : IsShort bundle.plans
  pub plans_apart : ArePlansApart bundle.plans
  pub tasks : AllByRecursion IsTaskInRange bundle.tasks
  pub tasks_short : IsShort bundle.tasks
  pub worlds : AllByRecursion IsWorldInRange bundle.worlds
  pub worlds_short : IsShort bundle.worlds
  pub worlds_as_long : AreWorldsAsLong bundle.worlds
  pub events : AllByRecursion IsEventRunInRange bundle.events
  pub events_short : IsShort bundle.events
  pub order : AllByRecursion IsOrderRunInRange bundle.order
  pub order_short : IsShort bundle.order

-- A line of code that is read back as it is: of text, without CR and LF, and not one that ends the code.
pub record IsCodeLine (line : List ℕ) : Type 0 where
  pub text : is_text line ≡ true
  pub no_cr : AllByRecursion (λ b. b ≢ CARRIAGE_RETURN) line
  pub goes_on : is_endcode (tokens line) ≡ false

abbrev pub AreCodeLines : Code → Type 0
AreCodeLines (Words words) = ⊤
AreCodeLines (Text first_line lines) = AllByRecursion IsCodeLine lines

-- The bundle may be written.
pub record IsWritable (bundle : Bundle) : Type 0 where
  pub range : IsInRange bundle
  pub code : AllByRecursion (λ task. AreCodeLines task.code) bundle.tasks
