-- What the input of `lint` is read as, and the answer over it.
use Rattle.std.proofs.Common.{◌≡◌, ◌∙◌, ℕ, ◌≤◌, List, [], ◌++◌, length, Some, Result, Ok, Err, refl, sym, ap, subst}
use Rattle.core_model.specs.KernelWords.{linked_code}
use Rattle.core_model.specs.declared.loaded.Loaded.{Loaded}
use Rattle.scrub_rules.specs.Parts.{Parts}
use Rattle.scrub_rules.specs.Broken.{AreAcceptedParts}
use Rattle.scrub_rules.specs.declared.rule.Rule.TheVariants as rules
use Rattle.scrub_rules.specs.declared.rule.RuleFault.{RuleFault}
use Rattle.kernel_cli.specs.Answer.{Answer, done}
use Rattle.kernel_cli.specs.AnswerOf.{answer_of}
use Rattle.kernel_cli.specs.Bundles.{loading_answer}
use Rattle.kernel_cli.specs.Drills.{IsDrillOrder, drill_report}
use Rattle.kernel_cli.specs.Findings.{Finding, Linted}
use Rattle.kernel_cli.specs.Generated.{IsGenerated}
use Rattle.kernel_cli.specs.Lints.{words_in, words_answer, routine_answer, routine_accepted, drilled_answer, code_answer}
use Rattle.kernel_cli.specs.Outcome.{IsAnswer, IsAnswerOver}
use Rattle.kernel_cli.specs.Routines.{AreWordsOf, IsRoutineOf, IsNoRoutine}
use Rattle.kernel_cli.specs.Works.{text_limit}
use Rattle.kernel_cli.specs.declared.answer.Response.{Response}
use Rattle.kernel_cli.specs.declared.work.Work.TheVariants.{Code}
use Rattle.kernel_cli.specs.declared.work.CodeWork.{CodeWork}
use Rattle.kernel_cli.specs.declared.work.CodeWork.TheVariants.{Lint, LintDrill}
use Rattle.kernel_cli.proofs.Answering.{answer_within}

-- ---- no routine

-- what stands for a rule where there are no words
no_rule : RuleFault
no_rule = record { at = 0; rule = rules.Memory }

pub no_words : (bytes : List ℕ) (response : Response) → AreWordsOf (words_in bytes) (Err response) → IsNoRoutine bytes response
no_words bytes response h = record {
  fault = no_rule;
  broken = λ words e. absurd (cc (sym h.1 ∙ e));
  answer = λ accepted. subst (λ (w : Result (List ℕ) (List ℕ)). IsAnswer response (words_answer w (routine_answer accepted (Err no_rule)))) (sym h.1) h.2;
}

-- ---- the answers

-- the answer over an input within the limit
code_within : (work : CodeWork) (found : Finding) (bytes : List ℕ) (response : Response) → length bytes ≤ text_limit
    → IsAnswer response (words_answer (words_in bytes) (code_answer work found)) → IsAnswer response (answer_of (Some (Code work)) found bytes)
code_within work found bytes response within is =
    subst (λ (a : Answer). IsAnswer response a) (sym (answer_within (Code work) found bytes refl within)) is

pub lint_refused : (bytes : List ℕ) (response : Response) → length bytes ≤ text_limit → IsNoRoutine bytes response → IsAnswerOver (Code Lint) bytes response
lint_refused bytes response within r = (
  Linted (Err r.fault) [],
  λ words a. r.broken words a.words_are,
  code_within Lint (Linted (Err r.fault) []) bytes response within (r.answer (λ parts. done (routine_accepted parts))),
)

pub lint_drill_refused : (seed tasks : ℕ) (bytes : List ℕ) (response : Response) → length bytes ≤ text_limit → IsNoRoutine bytes response
    → IsAnswerOver (Code (LintDrill seed tasks)) bytes response
lint_drill_refused seed tasks bytes response within r = (
  Linted (Err r.fault) [],
  (λ words a. r.broken words a.words_are, λ parts e. absurd (cc e)),
  code_within (LintDrill seed tasks) (Linted (Err r.fault) []) bytes response within (r.answer (drilled_answer seed tasks [])),
)

-- the words of a routine are one list
one_routine : (bytes : List ℕ) (parts : Parts) → IsRoutineOf bytes parts → (words : List ℕ) → words_in bytes ≡ Ok words
    → AreAcceptedParts words parts.save parts.restore
one_routine bytes parts r words e =
    let same : r.words ≡ words = cc (sym r.words_are ∙ e) in
    subst (λ (ws : List ℕ). AreAcceptedParts ws parts.save parts.restore) same r.accepted

-- the answer over a routine
over_routine : (work : CodeWork) (found : Finding) (bytes : List ℕ) (parts : Parts) (response : Response) → length bytes ≤ text_limit
    → IsRoutineOf bytes parts → IsAnswer response (code_answer work found) → IsAnswer response (answer_of (Some (Code work)) found bytes)
over_routine work found bytes parts response within r is = code_within work found bytes response within
    (subst (λ (w : Result (List ℕ) (List ℕ)). IsAnswer response (words_answer w (code_answer work found))) (sym r.words_are) is)

pub lint_accepted : (bytes : List ℕ) (parts : Parts) (response : Response) → length bytes ≤ text_limit → IsRoutineOf bytes parts
    → IsAnswer response (done (routine_accepted parts)) → IsAnswerOver (Code Lint) bytes response
lint_accepted bytes parts response within r is = (
  Linted (Ok parts) [],
  λ words a. one_routine bytes parts r words a.words_are,
  over_routine Lint (Linted (Ok parts) []) bytes parts response within r is,
)

pub lint_drilled : (seed tasks : ℕ) (bytes : List ℕ) (parts : Parts) (loaded : Loaded) (order : List ℕ) (response : Response) → length bytes ≤ text_limit
    → IsRoutineOf bytes parts → IsGenerated seed tasks loaded → IsDrillOrder (linked_code parts.save parts.restore) loaded order
    → IsAnswer response (done (routine_accepted parts ++ drill_report (linked_code parts.save parts.restore) loaded order))
    → IsAnswerOver (Code (LintDrill seed tasks)) bytes response
lint_drilled seed tasks bytes parts loaded order response within r loads is_order is =
    let report : Loaded → Answer = λ l. done (routine_accepted parts ++ drill_report (linked_code parts.save parts.restore) l order) in
    let answer : drilled_answer seed tasks order parts ≡ report loaded = ap (λ x. loading_answer report x) loads in (
      Linted (Ok parts) order,
      (
        λ words a. one_routine bytes parts r words a.words_are,
        λ other e found l. (let same : parts ≡ other = cc e in
            let bundle : loaded ≡ found = cc (sym loads ∙ l) in
            subst (λ (p : Parts). IsDrillOrder (linked_code p.save p.restore) found order) same
            (subst (λ (x : Loaded). IsDrillOrder (linked_code parts.save parts.restore) x order) bundle is_order)),
      ),
      over_routine (LintDrill seed tasks) (Linted (Ok parts) order) bytes parts response within r (subst (λ (a : Answer). IsAnswer response a) (sym answer) is),
    )
