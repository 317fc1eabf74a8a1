-- The words of a bundle's tasks (this project's own).
use Rattle.std.specs.Prelude.{List, [], ◌∷◌, Result, Ok, Err, ℕ}
use Rattle.rv_asm.specs.declared.fault.AsmFault.{AsmFault}
use Rattle.rv_asm.specs.Assembly.{assembly}
use Rattle.bundle_text.specs.declared.bundle.Code.{Code}
use Rattle.bundle_text.specs.declared.bundle.Code.TheVariants.{Words, Text}
use Rattle.bundle_text.specs.declared.bundle.TaskText.{TaskText}
use Rattle.rv_loader.specs.declared.coding.CodedTask.{CodedTask}

-- what follows from a success; a refusal stays
infixl 10 ◌>>=◌
abbrev pub ◌>>=◌ : {A B E : Type 0} → Result A E → (A → Result B E) → Result B E
(Ok x) >>= f = f x
(Err e) >>= f = Err e

-- the words of code, which stand there or are what its lines assemble to
abbrev pub words_of : Code → Result (List ℕ) AsmFault
words_of (Words words) = Ok words
words_of (Text first_line lines) = do
  assembled ← assembly lines first_line
  Ok assembled.words

-- a task with these words
abbrev pub coded_task : TaskText → List ℕ → CodedTask
coded_task text words = record { code = words; data_len = text.data_len; fuel = text.fuel; out_max = text.out_max; tape = text.tape }

-- the tasks with the words of their code; or the fault of the first one whose code doesn't assemble
abbrev pub coded_tasks : List TaskText → Result (List CodedTask) AsmFault
coded_tasks [] = Ok []
coded_tasks (text ∷ texts) = do
  words ← words_of text.code
  tasks ← coded_tasks texts
  Ok (coded_task text words ∷ tasks)
