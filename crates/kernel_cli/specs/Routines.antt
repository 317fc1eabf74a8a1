-- What the input of `lint` is read as, as the code has it.
use Rattle.std.specs.Prelude.{◌≡◌, ℕ, ◌≤◌, List, length, Result, Ok, Err}
use Rattle.isa_model.specs.Limits.{max_code_words}
use Rattle.scrub_rules.specs.Parts.{Parts}
use Rattle.scrub_rules.specs.Broken.{AreAcceptedParts, IsFirstBroken}
use Rattle.scrub_rules.specs.declared.rule.RuleFault.{RuleFault}
use Rattle.kernel_cli.specs.declared.answer.Response.{Response}
use Rattle.kernel_cli.specs.Answer.{Answer, refused, judged}
use Rattle.kernel_cli.specs.Lints.{words_in, words_answer, routine_answer, refused_text}
use Rattle.kernel_cli.specs.Outcome.{IsAnswer}

-- the words that were decided, or the answer with the line that refuses them
abbrev pub AreWordsOf : Result (List ℕ) (List ℕ) → Result (List ℕ) Response → Type 0
AreWordsOf decided (Ok words) = (decided ≡ Ok words) × (length words ≤ max_code_words)
AreWordsOf decided (Err response) = (text : List ℕ) × (decided ≡ Err text) × IsAnswer response (refused text)

-- The response says the first rule that words break, and where.
pub record IsRuleRefusal (words : List ℕ) (response : Response) : Type 0 where
  pub fault : RuleFault
  pub broken : IsFirstBroken words fault.at fault.rule
  pub answer : IsAnswer response (judged (refused_text fault))

-- the parts of accepted words, or that answer
abbrev pub IsChecked : List ℕ → Result Parts Response → Type 0
IsChecked words (Ok parts) = AreAcceptedParts words parts.save parts.restore
IsChecked words (Err response) = IsRuleRefusal words response

-- the parts of the accepted words that the bytes assemble to
pub record IsRoutineOf (bytes : List ℕ) (parts : Parts) : Type 0 where
  pub words : List ℕ
  pub words_are : words_in bytes ≡ Ok words
  pub accepted : AreAcceptedParts words parts.save parts.restore

-- The bytes are no routine that is accepted: they don't assemble, or their words break this rule first. This is the answer, whatever the answer
-- to an accepted one is.
pub record IsNoRoutine (bytes : List ℕ) (response : Response) : Type 0 where
  pub fault : RuleFault
  pub broken : (words : List ℕ) → words_in bytes ≡ Ok words → IsFirstBroken words fault.at fault.rule
  pub answer : (accepted : Parts → Answer) → IsAnswer response (words_answer (words_in bytes) (routine_answer accepted (Err fault)))

abbrev pub IsRoutineIn : List ℕ → Result Parts Response → Type 0
IsRoutineIn bytes (Ok parts) = IsRoutineOf bytes parts
IsRoutineIn bytes (Err response) = IsNoRoutine bytes response
