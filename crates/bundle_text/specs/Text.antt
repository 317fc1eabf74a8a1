-- The canonical text of a bundle: lines in the order of the form, tokens with one blank between each two, no line for an empty list.
use Rattle.std.specs.Prelude.{◌≡◌, ℕ, ◌/◌, ◌%◌, ◌^◌, ◌==◌, Bool, not, List, [], ◌∷◌, ◌++◌, map, codes, decimal, Ok, if◌then◌else◌}
use Rattle.std.specs.List.{flat_map, list_any}
use Rattle.core_model.specs.declared.event.Event.{Event}
use Rattle.core_model.specs.declared.event.Event.TheVariants.{Go, Tick}
use Rattle.core_model.specs.declared.event.EventRun.{EventRun}
use Rattle.core_model.specs.declared.event.OrderRun.{OrderRun}
use Rattle.bundle_text.specs.Form.{digit_char}
use Rattle.bundle_text.specs.Lines.{bundle_of}
use Rattle.bundle_text.specs.declared.bundle.Bundle.{Bundle}
use Rattle.bundle_text.specs.declared.bundle.TaskText.{TaskText}
use Rattle.bundle_text.specs.declared.bundle.PlanText.{PlanText}
use Rattle.core_model.specs.declared.world.World.{World}
use Rattle.bundle_text.specs.declared.bundle.Code.{Code}
use Rattle.bundle_text.specs.declared.bundle.Code.TheVariants.{Words, Text}

-- eight lower case hexadecimal digits, the most significant first
abbrev pub word_text : ℕ → List ℕ
word_text word = map (λ k. digit_char (word / 16 ^ k % 16)) (7 ∷ 6 ∷ 5 ∷ 4 ∷ 3 ∷ 2 ∷ 1 ∷ 0 ∷ [])

-- each token with a blank in front
abbrev pub after_blanks : List (List ℕ) → List ℕ
after_blanks [] = []
after_blanks (token ∷ others) = codes " " ++ (token ++ after_blanks others)

-- a word, its operands and the end of their line
abbrev pub line_text : List ℕ → List (List ℕ) → List ℕ
line_text word operands = word ++ (after_blanks operands ++ codes "\n")

-- the same, and nothing where there are no operands
abbrev pub list_text : List ℕ → List (List ℕ) → List ℕ
list_text word [] = []
list_text word (token ∷ others) = line_text word (token ∷ others)

-- `quanta Q ..`, or nothing
abbrev pub quanta_text : List ℕ → List (List ℕ)
quanta_text [] = []
quanta_text (q ∷ qs) = codes "quanta" ∷ map decimal (q ∷ qs)

abbrev pub plan_text : PlanText → List ℕ
plan_text p = line_text (codes "plan") (decimal p.hart ∷ codes "tail" ∷ decimal p.plan.tail ∷ quanta_text p.plan.quanta)

abbrev pub code_text : Code → List ℕ
code_text (Words words) = list_text (codes "words") (map word_text words)
code_text (Text first_line lines) = codes "code\n" ++ (flat_map (λ line. line ++ codes "\n") lines ++ codes "endcode\n")

-- `band B`, in a text with bands
abbrev pub band_text : Bool → ℕ → List (List ℕ)
band_text has_bands band = if has_bands then codes "band" ∷ decimal band ∷ [] else []

abbrev pub task_head_text : Bool → TaskText → List ℕ
task_head_text has_bands t =
    line_text (codes "task")
    (codes "fuel" ∷ decimal t.fuel ∷ codes "out" ∷ decimal t.out_max ∷ codes "data" ∷ decimal t.data_len ∷ band_text has_bands t.band)

abbrev pub task_text : Bool → TaskText → List ℕ
task_text has_bands t = task_head_text has_bands t ++ (list_text (codes "tape") (map word_text t.tape) ++ (code_text t.code ++ codes "endtask\n"))

abbrev pub world_text : World → List ℕ
world_text w = line_text (codes "world") (decimal w.secret ∷ map word_text w.tape)

-- `*` and the number, left out for 1
abbrev pub times_text : ℕ → List ℕ
times_text times = if times == 1 then [] else codes "*" ++ decimal times

abbrev pub event_text : Event → List ℕ
event_text (Go hart) = codes "g" ++ decimal hart
event_text (Tick hart) = codes "t" ++ decimal hart

abbrev pub event_run_text : EventRun → List ℕ
event_run_text run = event_text run.event ++ times_text run.times

abbrev pub order_run_text : OrderRun → List ℕ
order_run_text run = decimal run.hart ++ times_text run.times

-- whether a task is of another band than 0: only then does the text say bands
abbrev pub has_bands : List TaskText → Bool
has_bands tasks = list_any (λ t. not (t.band == 0)) tasks

abbrev pub version_text : Bool → List ℕ
version_text has_bands = if has_bands then codes "bundle 2\n" else codes "bundle 1\n"

-- the version and the slots
abbrev pub head_text : Bool → ℕ → List ℕ
head_text has_bands slots = version_text has_bands ++ line_text (codes "slots") (decimal slots ∷ [])

-- the text that a bundle is written as
abbrev pub text_of : Bundle → List ℕ
text_of b =
    head_text (has_bands b.tasks) b.slots ++ (flat_map plan_text b.plans ++ (flat_map (task_text (has_bands b.tasks)) b.tasks ++ (flat_map world_text b.worlds
    ++ (list_text (codes "events") (map event_run_text b.events) ++ list_text (codes "order") (map order_run_text b.order)))))

-- ---- what a text doesn't keep: at which line code began

abbrev pub unnumbered_code : Code → Code
unnumbered_code (Words words) = Words words
unnumbered_code (Text first_line lines) = Text 0 lines

abbrev pub unnumbered_task : TaskText → TaskText
unnumbered_task t = record t { code = unnumbered_code t.code }

abbrev pub unnumbered : Bundle → Bundle
unnumbered b = record b { tasks = map unnumbered_task b.tasks }

-- The text reads as the bundle, but for the numbers of the lines at which code begins.
pub record ReadsBack (text : List ℕ) (bundle : Bundle) : Type 0 where
  pub again : Bundle
  pub read : bundle_of text ≡ Ok again
  pub same : unnumbered again ≡ unnumbered bundle
