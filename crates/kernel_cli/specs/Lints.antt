-- What `lint` checks and says: the lines of its input are code, which assembles to words, and these are a save part, EBREAK and a restore part
-- that may stand in place of the kernel's, or break a rule first at one place.
use Rattle.std.specs.Prelude.{◌≡◌, ℕ, ◌≤◌, List, [], ◌++◌, length, Result, Ok, Err, codes, decimal}
use Rattle.core_model.specs.KernelWords.{linked_code}
use Rattle.bundle_text.specs.TextLines.{text_lines_of}
use Rattle.bundle_text.specs.declared.bundle.BundleFault.{BundleFault}
use Rattle.bundle_text.specs.declared.bundle.Code.TheVariants.{Text}
use Rattle.rv_asm.specs.declared.fault.AsmFault.{AsmFault}
use Rattle.masked_gen.specs.Generator.{generated}
use Rattle.rv_loader.specs.Coding.{words_of}
use Rattle.rv_loader.specs.Loading.{loading_of}
use Rattle.scrub_rules.specs.Parts.{Parts}
use Rattle.scrub_rules.specs.Broken.{AreAcceptedParts, IsFirstBroken}
use Rattle.scrub_rules.specs.declared.rule.Rule.{Rule}
use Rattle.scrub_rules.specs.declared.rule.Rule.TheVariants as rules
use Rattle.scrub_rules.specs.declared.rule.RuleFault.{RuleFault}
use Rattle.kernel_cli.specs.Answer.{Answer, done, refused, judged}
use Rattle.kernel_cli.specs.Bundles.{loading_answer}
use Rattle.kernel_cli.specs.Drills.{drill_report}
use Rattle.kernel_cli.specs.Findings.{Finding, order_in, routine_in}
use Rattle.kernel_cli.specs.Generated.{IsOrderOf}
use Rattle.kernel_cli.specs.Refusals.{bundle_refusal, asm_refusal}
use Rattle.kernel_cli.specs.Works.{text_limit}
use Rattle.kernel_cli.specs.declared.work.CodeWork.{CodeWork}
use Rattle.kernel_cli.specs.declared.work.CodeWork.TheVariants.{Lint, LintDrill}

-- the words that code assembles to, or the line that refuses it
abbrev pub words_or_refusal : Result (List ℕ) AsmFault → Result (List ℕ) (List ℕ)
words_or_refusal (Ok words) = Ok words
words_or_refusal (Err fault) = Err (asm_refusal fault)

abbrev pub words_of_lines : Result (List (List ℕ)) BundleFault → Result (List ℕ) (List ℕ)
words_of_lines (Ok lines) = words_or_refusal (words_of (Text 1 lines))
words_of_lines (Err fault) = Err (bundle_refusal fault)

-- the words of an input, or the line that refuses it: the first line with a byte outside the set, or else the first that doesn't assemble
abbrev pub words_in : List ℕ → Result (List ℕ) (List ℕ)
words_in bytes = words_of_lines (text_lines_of bytes)

-- What is found of words: their two parts, where they are accepted; else the first rule that they break, and where.
abbrev pub IsLinted : List ℕ → Result Parts RuleFault → Type 0
IsLinted words (Ok parts) = AreAcceptedParts words parts.save parts.restore
IsLinted words (Err fault) = IsFirstBroken words fault.at fault.rule

abbrev pub rule_text : Rule → List ℕ
rule_text rules.Divide = codes "divide"
rule_text rules.Length = codes "length"
rule_text rules.Form = codes "form"
rule_text rules.Base = codes "base"
rule_text rules.NotZero = codes "notzero"
rule_text rules.Meets = codes "meets"
rule_text rules.Slot = codes "slot"
rule_text rules.Left = codes "left"
rule_text rules.Restored = codes "restored"
rule_text rules.Memory = []

-- the line of accepted words, with how many words each part has
abbrev pub accepted_text : ℕ → ℕ → List ℕ
accepted_text save restore = codes "accepted " ++ (decimal save ++ (codes " " ++ (decimal restore ++ codes "\n")))

-- the line of words that break a rule
abbrev pub refused_text : RuleFault → List ℕ
refused_text fault = codes "refused " ++ (decimal fault.at ++ (codes " " ++ (rule_text fault.rule ++ codes "\n")))

-- The bytes are lines of code, no more of them than the limit, which assembles to these words.
pub record AssembleAs (bytes words : List ℕ) : Type 0 where
  pub within : length bytes ≤ text_limit
  pub words_are : words_in bytes ≡ Ok words

-- the answer of words, or the line that refuses the input
abbrev pub words_answer : Result (List ℕ) (List ℕ) → Answer → Answer
words_answer (Ok words) answer = answer
words_answer (Err text) answer = refused text

-- the answer of a routine: that it is accepted, which answers so, or the first rule that it breaks
abbrev pub routine_answer : (Parts → Answer) → Result Parts RuleFault → Answer
routine_answer accepted (Ok parts) = accepted parts
routine_answer accepted (Err fault) = judged (refused_text fault)

-- the line of an accepted routine
abbrev pub routine_accepted : Parts → List ℕ
routine_accepted parts = accepted_text (length parts.save) (length parts.restore)

-- that line, and the report of the bundle of a number under the kernel with these parts, by an order of hart 0
abbrev pub drilled_answer : ℕ → ℕ → List ℕ → Parts → Answer
drilled_answer seed tasks order parts =
    loading_answer (λ loaded. done (routine_accepted parts ++ drill_report (linked_code parts.save parts.restore) loaded order)) (loading_of (generated seed tasks) 1)

-- the answer to a work over lines of code that assemble
abbrev pub code_answer : CodeWork → Finding → Answer
code_answer Lint found = routine_answer (λ parts. done (routine_accepted parts)) (routine_in found)
code_answer (LintDrill seed tasks) found = routine_answer (drilled_answer seed tasks (order_in found)) (routine_in found)

-- what is found of the routine that the bytes assemble as
abbrev pub IsRoutineFound : List ℕ → Finding → Type 0
IsRoutineFound bytes found = (words : List ℕ) → AssembleAs bytes words → IsLinted words (routine_in found)

-- an order of hart 0 of the bundle of a number, under the kernel with the two parts of a routine that is accepted
abbrev pub IsLintOrder : ℕ → ℕ → Finding → Type 0
IsLintOrder seed tasks found = (parts : Parts) → routine_in found ≡ Ok parts → IsOrderOf seed tasks (linked_code parts.save parts.restore) (order_in found)

-- what is found of the bytes
abbrev pub IsFoundOfCode : CodeWork → List ℕ → Finding → Type 0
IsFoundOfCode Lint bytes found = IsRoutineFound bytes found
IsFoundOfCode (LintDrill seed tasks) bytes found = IsRoutineFound bytes found × IsLintOrder seed tasks found
