-- What each line of a text makes of what the lines before it say, the bundle of a text, and its first fault.
use Rattle.std.specs.Prelude.{ℕ, ◌+◌, ◌==◌, Bool, false, ◌++◌, List, [], ◌∷◌, Option, Some, None, Result, Ok, Err, codes, if◌then◌else◌}
use Rattle.std.specs.Str.{bytes_eq}
use Rattle.bundle_text.specs.Pieces.{is_text, lines, tokens}
use Rattle.bundle_text.specs.Numbers.{word_of}
use Rattle.bundle_text.specs.Operands.{◌>>=◌, each, no_operands, one_number, task_operands, plan_operands, has_plan, world_operands}
use Rattle.bundle_text.specs.Runs.{event_operand, order_operand}
use Rattle.bundle_text.specs.Places.{word_named, place_after, may_end, is_in_code}
use Rattle.bundle_text.specs.declared.draft.Draft.{Draft}
use Rattle.bundle_text.specs.declared.draft.Word.{Word}
use Rattle.bundle_text.specs.declared.draft.Word.TheVariants as word
use Rattle.bundle_text.specs.declared.draft.Place.{Place}
use Rattle.bundle_text.specs.declared.draft.Place.TheVariants as at
use Rattle.bundle_text.specs.declared.bundle.Bundle.{Bundle}
use Rattle.bundle_text.specs.declared.bundle.TaskText.{TaskText}
use Rattle.bundle_text.specs.declared.bundle.PlanText.{PlanText}
use Rattle.bundle_text.specs.declared.bundle.Code.{Code}
use Rattle.bundle_text.specs.declared.bundle.Code.TheVariants.{Words, Text}
use Rattle.bundle_text.specs.declared.bundle.BundleFault.{BundleFault}
use Rattle.bundle_text.specs.declared.bundle.BundleKind.{BundleKind}
use Rattle.bundle_text.specs.declared.bundle.BundleKind.TheVariants.{NotText, UnknownWord, Misplaced, Operands, Repeated, Missing}

-- ---- what the operands of a line add

-- a task without tape and code
abbrev pub task_with : ℕ → ℕ → ℕ → ℕ → TaskText
task_with fuel out_max data_len band = record { fuel = fuel; out_max = out_max; data_len = data_len; band = band; tape = []; code = Words [] }

abbrev pub with_words : Code → List ℕ → Code
with_words (Words words) more = Words (words ++ more)
with_words (Text first_line lines) more = Text first_line lines

abbrev pub with_code_line : Code → List ℕ → Code
with_code_line (Words words) line = Words words
with_code_line (Text first_line lines) line = Text first_line (lines ++ line ∷ [])

-- the plans and a plan more, unless its hart has one
abbrev pub with_plan : List PlanText → PlanText → Result (List PlanText) BundleKind
with_plan plans plan = if has_plan plan.hart plans then Err Repeated else Ok (plans ++ plan ∷ [])

-- the task is ended, and none is open
abbrev pub with_task_ended : Draft → Draft
with_task_ended d =
    record d { bundle = record d.bundle { tasks = d.bundle.tasks ++ d.task ∷ [] }; task = task_with 0 0 0 0 }

-- what a line of this word, number and operands adds
abbrev pub with_operands : Word → ℕ → Draft → List (List ℕ) → Result Draft BundleKind
with_operands word.Bundle number d ts = one_number 1 2 ts >>= λ version. Ok (record d { has_bands = version == 2 })
with_operands word.Slots number d ts = one_number 1 8 ts >>= λ slots. Ok (record d { bundle = record d.bundle { slots = slots } })
with_operands word.Plan number d ts =
    plan_operands ts >>= λ plan. with_plan d.bundle.plans plan >>= λ plans. Ok (record d { bundle = record d.bundle { plans = plans } })
with_operands word.Task number d ts =
    task_operands d.has_bands ts >>= λ limits. Ok (record d { task = task_with limits.0 limits.1 limits.2 limits.3 })
with_operands word.Tape number d ts = each word_of ts >>= λ words. Ok (record d { task = record d.task { tape = d.task.tape ++ words } })
with_operands word.Words number d ts =
    each word_of ts >>= λ words. Ok (record d { task = record d.task { code = with_words d.task.code words } })
with_operands word.Code number d ts =
    if no_operands ts then Ok (record d { task = record d.task { code = Text (number + 1) [] } }) else Err Operands
with_operands word.EndCode number d ts = Err Misplaced
with_operands word.EndTask number d ts = if no_operands ts then Ok (with_task_ended d) else Err Operands
with_operands word.World number d ts =
    world_operands d.bundle.worlds ts >>= λ world. Ok (record d { bundle = record d.bundle { worlds = d.bundle.worlds ++ world ∷ [] } })
with_operands word.Events number d ts =
    each event_operand ts >>= λ runs. Ok (record d { bundle = record d.bundle { events = d.bundle.events ++ runs } })
with_operands word.Order number d ts =
    each order_operand ts >>= λ runs. Ok (record d { bundle = record d.bundle { order = d.bundle.order ++ runs } })

-- ---- what a line is

-- whether the token's first byte is `#`
abbrev pub is_comment : List ℕ → Bool
is_comment [] = false
is_comment (b ∷ bs) = b == 0x23

-- `endcode`, by itself
abbrev pub is_endcode : List (List ℕ) → Bool
is_endcode [] = false
is_endcode (t ∷ []) = bytes_eq t (codes "endcode")
is_endcode (t ∷ u ∷ ts) = false

-- a line that stands at this place
abbrev pub placed_line : Word → Option Place → ℕ → Draft → List (List ℕ) → Result Draft BundleKind
placed_line w None number d ts = Err Misplaced
placed_line w (Some place) number d ts = with_operands w number (record d { place = place }) ts

abbrev pub line_of_word : Option Word → ℕ → Draft → List (List ℕ) → Result Draft BundleKind
line_of_word None number d ts = Err UnknownWord
line_of_word (Some w) number d ts = placed_line w (place_after d.place w) number d ts

-- a line outside code: a blank line and a comment say nothing
abbrev pub line_of_tokens : ℕ → Draft → List (List ℕ) → Result Draft BundleKind
line_of_tokens number d [] = Ok d
line_of_tokens number d (first ∷ ts) = if is_comment first then Ok d else line_of_word (word_named first) number d ts

-- a line of code, or the end of it
abbrev pub line_of_code : Draft → List ℕ → Draft
line_of_code d line =
    if is_endcode (tokens line)
    then record d { place = at.CodeEnd }
    else record d { task = record d.task { code = with_code_line d.task.code line } }

-- what the line of this number makes of the draft, or why it breaks the grammar
unfoldable pub with_line : ℕ → Draft → List ℕ → Result Draft BundleKind
with_line number d line =
    if is_text line
    then (if is_in_code d.place then Ok (line_of_code d line) else line_of_tokens number d (tokens line))
    else Err NotText

-- ---- what a text is

-- what no line says
abbrev pub no_lines : Draft
no_lines = record {
  place = at.Start;
  has_bands = false;
  bundle = record { slots = 0; plans = []; tasks = []; worlds = []; events = []; order = [] };
  task = task_with 0 0 0 0;
}

-- a fault at this line
abbrev pub at_line : {A : Type 0} → ℕ → Result A BundleKind → Result A BundleFault
at_line number (Ok x) = Ok x
at_line number (Err kind) = Err (record { line = number; kind = kind })

-- the bundle where no line is left; the number is that of the line that would come
abbrev pub at_end : ℕ → Draft → Result Bundle BundleFault
at_end number d = if may_end d.place then Ok d.bundle else Err (record { line = number; kind = Missing })

-- the bundle of the lines that are left, or the first fault
abbrev pub with_lines : ℕ → Draft → List (List ℕ) → Result Bundle BundleFault
with_lines number d [] = at_end number d
with_lines number d (line ∷ others) = at_line number (with_line number d line) >>= λ next. with_lines (number + 1) next others

-- the bundle of a text, or its first fault
abbrev pub bundle_of : List ℕ → Result Bundle BundleFault
bundle_of bytes = with_lines 1 no_lines (lines bytes)
