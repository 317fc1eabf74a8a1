-- A bundle's text by productions: its sections in the order in which they stand, the lines of each, and what their tokens say. Blank
-- lines and comments may stand between any two lines outside code.
use Rattle.std.specs.Prelude.{◌≡◌, ℕ, ◌+◌, ◌==◌, ◌≤◌, ◌⊎◌, ⊤, Bool, true, false, List, [], ◌∷◌, ◌++◌, length, codes}
use Rattle.std.specs.List.{AllByRecursion}
use Rattle.isa_model.specs.Limits.{max_fuel, max_output_words, max_data_words, max_quantum}
use Rattle.core_model.specs.Events.{hart_of}
use Rattle.core_model.specs.declared.event.EventRun.{EventRun}
use Rattle.core_model.specs.declared.event.OrderRun.{OrderRun}
use Rattle.core_model.specs.declared.world.World.{World}
use Rattle.timer_plan.specs.Tokens.{IsDecimal, SpellsOrderRun, SpellsEventRun, IsInRange}
use Rattle.bundle_text.specs.Pieces.{is_text}
use Rattle.bundle_text.specs.Form.{AreLinesOf, AreTokensOf, IsHexWord}
use Rattle.bundle_text.specs.Range.{ArePlansApart, AreWorldsAsLong}
use Rattle.bundle_text.specs.declared.bundle.Bundle.{Bundle}
use Rattle.bundle_text.specs.declared.bundle.TaskText.{TaskText}
use Rattle.bundle_text.specs.declared.bundle.PlanText.{PlanText}
use Rattle.bundle_text.specs.declared.bundle.Code.{Code}
use Rattle.bundle_text.specs.declared.bundle.Code.TheVariants.{Words, Text}

-- ---- tokens

-- a decimal number in a range
pub record IsNumber (low high : ℕ) (token : List ℕ) (number : ℕ) : Type 0 where
  pub decimal : IsDecimal token number
  pub at_least : low ≤ number
  pub at_most : number ≤ high

-- a run of the order whose numbers are in their ranges
abbrev pub IsOrderRun : List ℕ → OrderRun → Type 0
IsOrderRun token run = SpellsOrderRun token run × IsInRange run.hart run.times

-- a run of events whose numbers are in their ranges
abbrev pub IsEventRun : List ℕ → EventRun → Type 0
IsEventRun token run = SpellsEventRun token run × IsInRange (hart_of run.event) run.times

-- Each token says its item.
abbrev pub AreEach : {A : Type 0} → (List ℕ → A → Type 0) → List (List ℕ) → List A → Type 0
AreEach Says [] items = items ≡ []
AreEach {A} Says (token ∷ tokens) items =
    (first : A) × (others : List A) × (items ≡ first ∷ others) × Says token first × AreEach Says tokens others

-- nothing, or `quanta Q ..`
abbrev pub AreQuanta : List (List ℕ) → List ℕ → Type 0
AreQuanta [] quanta = quanta ≡ []
AreQuanta (word ∷ tokens) quanta = (word ≡ codes "quanta") × AreEach (IsNumber 0 max_quantum) tokens quanta

-- `H tail T`, and its quanta
pub record IsPlan (tokens : List (List ℕ)) (plan : PlanText) : Type 0 where
  pub hart : List ℕ
  pub tail : List ℕ
  pub quanta : List (List ℕ)
  pub parts : tokens ≡ hart ∷ codes "tail" ∷ tail ∷ quanta
  pub hart_is : IsNumber 0 7 hart plan.hart
  pub tail_is : IsNumber 1 max_quantum tail plan.plan.tail
  pub quanta_are : AreQuanta quanta plan.plan.quanta

-- `band B` in a text with bands; else nothing, which is band 0
abbrev pub IsBand : Bool → List (List ℕ) → ℕ → Type 0
IsBand true tokens band = (token : List ℕ) × (tokens ≡ codes "band" ∷ token ∷ []) × IsNumber 0 1 token band
IsBand false tokens band = (tokens ≡ []) × (band ≡ 0)

-- `fuel F out O data D`, and the band
pub record IsTaskHead (has_bands : Bool) (tokens : List (List ℕ)) (task : TaskText) : Type 0 where
  pub fuel : List ℕ
  pub out_max : List ℕ
  pub data_len : List ℕ
  pub band : List (List ℕ)
  pub parts : tokens ≡ codes "fuel" ∷ fuel ∷ codes "out" ∷ out_max ∷ codes "data" ∷ data_len ∷ band
  pub fuel_is : IsNumber 1 max_fuel fuel task.fuel
  pub out_max_is : IsNumber 0 max_output_words out_max task.out_max
  pub data_len_is : IsNumber 0 max_data_words data_len task.data_len
  pub band_is : IsBand has_bands band task.band

-- `S W ..`
pub record IsWorld (tokens : List (List ℕ)) (world : World) : Type 0 where
  pub secret : List ℕ
  pub tape : List (List ℕ)
  pub parts : tokens ≡ secret ∷ tape
  pub secret_is : IsNumber 0 0xffffffff secret world.secret
  pub tape_is : AreEach IsHexWord tape world.tape

-- ---- lines

-- a line of text with this word and these tokens after it
pub record IsLine (word : List ℕ) (line : List ℕ) (tokens : List (List ℕ)) : Type 0 where
  pub text : is_text line ≡ true
  pub tokens_are : AreTokensOf (word ∷ tokens) line

-- `#` first
abbrev pub BeginsComment : List ℕ → Type 0
BeginsComment [] = ⊥
BeginsComment (b ∷ bs) = b ≡ 0x23

-- no tokens, or a comment
abbrev pub AreSilent : List (List ℕ) → Type 0
AreSilent [] = ⊤
AreSilent (first ∷ others) = BeginsComment first

-- a line of text that says nothing: it is blank or a comment
pub record IsSilent (line : List ℕ) : Type 0 where
  pub tokens : List (List ℕ)
  pub text : is_text line ≡ true
  pub tokens_are : AreTokensOf tokens line
  pub silent : AreSilent tokens

-- a line of this word that says one item
abbrev pub SaysOne : {A : Type 0} → List ℕ → (List (List ℕ) → A → Type 0) → List ℕ → List A → Type 0
SaysOne {A} word Says line items = (tokens : List (List ℕ)) × (item : A) × IsLine word line tokens × Says tokens item × (items ≡ item ∷ [])

-- a line of this word each of whose tokens says an item
abbrev pub SaysEach : {A : Type 0} → List ℕ → (List ℕ → A → Type 0) → List ℕ → List A → Type 0
SaysEach word Says line items = (tokens : List (List ℕ)) × IsLine word line tokens × AreEach Says tokens items

-- ---- sections

-- The lines say these items, in their order: each line some of them, and a silent line none.
abbrev pub AreSaid : {A : Type 0} → (List ℕ → List A → Type 0) → List (List ℕ) → List A → Type 0
AreSaid Says [] items = items ≡ []
AreSaid {A} Says (line ∷ lines) items =
    (first : List A) × (others : List A) × (items ≡ first ++ others) × ((IsSilent line × (first ≡ [])) ⊎ Says line first) × AreSaid Says lines others

-- `bundle V` and `slots N`
pub record IsHead (lines : List (List ℕ)) (version slots : ℕ) : Type 0 where
  pub before : List (List ℕ)
  pub between : List (List ℕ)
  pub bundle_line : List ℕ
  pub slots_line : List ℕ
  pub parts : lines ≡ before ++ (bundle_line ∷ (between ++ slots_line ∷ []))
  pub before_silent : AllByRecursion IsSilent before
  pub between_silent : AllByRecursion IsSilent between
  pub version_token : List ℕ
  pub slots_token : List ℕ
  pub bundle_line_is : IsLine (codes "bundle") bundle_line (version_token ∷ [])
  pub slots_line_is : IsLine (codes "slots") slots_line (slots_token ∷ [])
  pub version_is : IsNumber 1 2 version_token version
  pub slots_is : IsNumber 1 8 slots_token slots

-- a line of text that isn't `endcode` alone
pub record IsOfCode (line : List ℕ) : Type 0 where
  pub text : is_text line ≡ true
  pub goes_on : ¬ (IsLine (codes "endcode") line [])

-- `code`, lines of code of which the first has this number, and `endcode`
pub record IsCodeBlock (number : ℕ) (lines : List (List ℕ)) (first_line : ℕ) (code : List (List ℕ)) : Type 0 where
  pub code_line : List ℕ
  pub end_line : List ℕ
  pub after : List (List ℕ)
  pub parts : lines ≡ code_line ∷ (code ++ (end_line ∷ after))
  pub code_line_is : IsLine (codes "code") code_line []
  pub code_is : AllByRecursion IsOfCode code
  pub end_line_is : IsLine (codes "endcode") end_line []
  pub after_silent : AllByRecursion IsSilent after
  pub numbered : first_line ≡ number + 1

-- lines of words, or a code block; the first of these lines has this number
abbrev pub IsCode : ℕ → List (List ℕ) → Code → Type 0
IsCode number lines (Words words) = AreSaid (SaysEach (codes "words") IsHexWord) lines words
IsCode number lines (Text first_line code) = IsCodeBlock number lines first_line code

-- the lines of a task, of which the first has this number: its head, its tape, its code and `endtask`
pub record IsTaskBlock (has_bands : Bool) (number : ℕ) (lines : List (List ℕ)) (task : TaskText) : Type 0 where
  pub head : List ℕ
  pub tape : List (List ℕ)
  pub code : List (List ℕ)
  pub end_line : List ℕ
  pub after : List (List ℕ)
  pub parts : lines ≡ head ∷ (tape ++ (code ++ (end_line ∷ after)))
  pub head_tokens : List (List ℕ)
  pub head_is : IsLine (codes "task") head head_tokens
  pub limits_are : IsTaskHead has_bands head_tokens task
  pub tape_is : AreSaid (SaysEach (codes "tape") IsHexWord) tape task.tape
  pub code_is : IsCode (number + 1 + length tape) code task.code
  pub end_line_is : IsLine (codes "endtask") end_line []
  pub after_silent : AllByRecursion IsSilent after

-- The lines are the blocks of these tasks; the first line has this number.
abbrev pub AreTaskBlocks : Bool → ℕ → List (List ℕ) → List TaskText → Type 0
AreTaskBlocks has_bands number lines [] = lines ≡ []
AreTaskBlocks has_bands number lines (task ∷ others) =
    (block : List (List ℕ)) × (rest : List (List ℕ)) × (lines ≡ block ++ rest) × IsTaskBlock has_bands number block task
    × AreTaskBlocks has_bands (number + length block) rest others

-- the lines of a bundle, section by section
pub record IsBundle (lines : List (List ℕ)) (bundle : Bundle) : Type 0 where
  pub head : List (List ℕ)
  pub plans : List (List ℕ)
  pub tasks : List (List ℕ)
  pub worlds : List (List ℕ)
  pub events : List (List ℕ)
  pub order : List (List ℕ)
  pub parts : lines ≡ head ++ (plans ++ (tasks ++ (worlds ++ (events ++ order))))
  pub version : ℕ
  pub head_is : IsHead head version bundle.slots
  pub plans_are : AreSaid (SaysOne (codes "plan") IsPlan) plans bundle.plans
  pub plans_apart : ArePlansApart bundle.plans
  pub tasks_are : AreTaskBlocks (version == 2) (1 + length head + length plans) tasks bundle.tasks
  pub worlds_are : AreSaid (SaysOne (codes "world") IsWorld) worlds bundle.worlds
  pub worlds_as_long : AreWorldsAsLong bundle.worlds
  pub events_are : AreSaid (SaysEach (codes "events") IsEventRun) events bundle.events
  pub order_is : AreSaid (SaysEach (codes "order") IsOrderRun) order bundle.order

-- The bytes read as this bundle: their lines are those of the bundle.
pub record Reads (bytes : List ℕ) (bundle : Bundle) : Type 0 where
  pub text : List (List ℕ)
  pub text_is : AreLinesOf text bytes
  pub bundle_is : IsBundle text bundle
