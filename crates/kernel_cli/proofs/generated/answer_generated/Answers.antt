-- What the bundle of a number loads as is one, so an order of it is found.
use Rattle.std.proofs.Common.{◌≡◌, ◌∙◌, ℕ, List, sym, ap, subst}
use Rattle.core_model.specs.KernelWords.{kernel_code}
use Rattle.core_model.specs.declared.loaded.Loaded.{Loaded}
use Rattle.kernel_cli.specs.Answer.{Answer, done}
use Rattle.kernel_cli.specs.Bundles.{loading_answer}
use Rattle.kernel_cli.specs.Drills.{IsDrillOrder, drill_report}
use Rattle.kernel_cli.specs.Findings.{Ordered}
use Rattle.kernel_cli.specs.Generated.{IsGenerated, drill_answer}
use Rattle.kernel_cli.specs.Outcome.{IsAnswer, IsAnswerOver}
use Rattle.kernel_cli.specs.declared.answer.Response.{Response}
use Rattle.kernel_cli.specs.declared.work.Work.TheVariants.{Generated}
use Rattle.kernel_cli.specs.declared.work.GeneratedWork.{GeneratedWork}
use Rattle.kernel_cli.specs.declared.work.GeneratedWork.TheVariants.{Drill}
use Rattle.kernel_cli.proofs.generated.answer_generated.Goals as goal

drill_answered : (seed tasks : ℕ) (loaded : Loaded) (order : List ℕ) (response : Response) → IsGenerated seed tasks loaded
    → IsDrillOrder kernel_code loaded order → IsAnswer response (done (drill_report kernel_code loaded order))
    → (bytes : List ℕ) → IsAnswerOver (Generated (Drill seed tasks)) bytes response
drill_answered seed tasks loaded order response loads drilled is bytes =
    let report : Loaded → Answer = λ l. done (drill_report kernel_code l order) in
    let answer : drill_answer seed tasks order ≡ report loaded = ap (λ x. loading_answer report x) loads in (
      Ordered order,
      λ other l. subst (λ (x : Loaded). IsDrillOrder kernel_code x order) (cc (sym loads ∙ l)) drilled,
      subst (λ (a : Answer). IsAnswer response a) (sym answer) is,
    )

pub returns-in_ok-drill_text-in-Drill-clause-answer : goal.returns-in_ok-drill_text-in-Drill-clause-answer
returns-in_ok-drill_text-in-Drill-clause-answer c =
    let drilled = c.in_ok-drill_text-in-Drill.ensures.text in
    let response = c.done-in-Drill.result in
    λ bytes. subst (λ (work : GeneratedWork). IsAnswerOver (Generated work) bytes response) (sym c.in-Drill.is)
    (drill_answered c.in-Drill.seed c.in-Drill.tasks drilled.0 drilled.2 response drilled.1 drilled.3
    (subst (λ (text : List ℕ). IsAnswer response (done text)) drilled.4 c.done-in-Drill.ensures.answer) bytes)
