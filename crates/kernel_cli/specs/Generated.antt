-- What a work over the bundle of a number finds, and its answer. It reads nothing.
use Rattle.std.specs.Prelude.{◌≡◌, ℕ, List, Ok}
use Rattle.core_model.specs.declared.loaded.Loaded.{Loaded}
use Rattle.core_model.specs.KernelWords.{KernelCodeState, kernel_code}
use Rattle.bundle_text.specs.Text.{text_of}
use Rattle.masked_gen.specs.Generator.{generated}
use Rattle.rv_loader.specs.Loading.{loading_of}
use Rattle.kernel_cli.specs.Answer.{Answer, done}
use Rattle.kernel_cli.specs.Bundles.{loading_answer}
use Rattle.kernel_cli.specs.Drills.{IsDrillOrder, drill_report}
use Rattle.kernel_cli.specs.Findings.{Finding, Nothing, order_in}
use Rattle.kernel_cli.specs.declared.work.GeneratedWork.{GeneratedWork}
use Rattle.kernel_cli.specs.declared.work.GeneratedWork.TheVariants.{Gen, Drill}

-- The bundle of these numbers loads as this for one hart.
abbrev pub IsGenerated : ℕ → ℕ → Loaded → Type 0
IsGenerated seed tasks loaded = loading_of (generated seed tasks) 1 ≡ Ok loaded

-- an order of hart 0 of this bundle
abbrev pub IsOrderOf : ℕ → ℕ → KernelCodeState → List ℕ → Type 0
IsOrderOf seed tasks code order = (loaded : Loaded) → IsGenerated seed tasks loaded → IsDrillOrder code loaded order

-- the bundle of a number, as text
abbrev pub gen_answer : ℕ → ℕ → Answer
gen_answer seed tasks = done (text_of (generated seed tasks))

-- the report of its run by an order of hart 0
abbrev pub drill_answer : ℕ → ℕ → List ℕ → Answer
drill_answer seed tasks order = loading_answer (λ loaded. done (drill_report kernel_code loaded order)) (loading_of (generated seed tasks) 1)

abbrev pub generated_answer : GeneratedWork → Finding → Answer
generated_answer (Gen seed tasks) found = gen_answer seed tasks
generated_answer (Drill seed tasks) found = drill_answer seed tasks (order_in found)

-- what it finds
abbrev pub IsFoundOfGenerated : GeneratedWork → Finding → Type 0
IsFoundOfGenerated (Gen seed tasks) found = found ≡ Nothing
IsFoundOfGenerated (Drill seed tasks) found = IsOrderOf seed tasks kernel_code (order_in found)
