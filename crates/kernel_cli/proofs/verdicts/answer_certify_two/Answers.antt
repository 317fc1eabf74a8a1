-- What is judged of the first task by two probes is found.
use Rattle.std.proofs.Common.{◌≡◌, ◌∙◌, List, slice_get, Some, ap, subst}
use Rattle.isa_model.specs.declared.task.Task.{Task}
use Rattle.core_model.specs.declared.world.World.{World}
use Rattle.probing_laws.specs.CertifiedTwo.{IsCertifiedTwo}
use Rattle.kernel_cli.specs.Findings.{JudgedByTwo}
use Rattle.kernel_cli.proofs.Reporting.{first_is}
use Rattle.kernel_cli.proofs.verdicts.answer_certify_two.Goals as goal

pub returns : goal.returns
returns c =
    let at_first : (T : Task) → slice_get c.args.loaded.now.tasks 0 ≡ Some T → c.index-as_slice-0.result ≡ T =
    λ T at. c.index-as_slice-0.is ∙ first_is c.as_slice.result.now c.index-as_slice-0.result T (ap (λ (ts : List Task). slice_get ts 0) c.as_slice.ensures.items ∙ at) in
    record {
      answer = (
        JudgedByTwo c.certify_two-judgement.result,
        record {
          judged = c.in_ok-answer_judgement_by_two.ensures.judged;
          certified = λ T at. subst (λ (U : Task). IsCertifiedTwo U c.args.loaded.now.worlds c.certify_two-judgement.result) (at_first T at)
              (subst (λ (ws : List World). IsCertifiedTwo c.index-as_slice-0.result ws c.certify_two-judgement.result) c.as_slice-2.ensures.items
              c.certify_two-judgement.ensures.certified);
        },
        c.in_ok-answer_judgement_by_two.ensures.answer,
      );
    }
