-- What is judged of the first task is found.
use Rattle.std.proofs.Common.{◌≡◌, ◌∙◌, List, slice_get, Some, ap, subst}
use Rattle.isa_model.specs.declared.task.Task.{Task}
use Rattle.core_model.specs.declared.world.World.{World}
use Rattle.probing_laws.specs.Certified.{IsCertified}
use Rattle.kernel_cli.specs.Findings.{Judged}
use Rattle.kernel_cli.proofs.Reporting.{first_is}
use Rattle.kernel_cli.proofs.verdicts.answer_certify.Goals as goal

pub returns : goal.returns
returns c =
    let at_first : (T : Task) → slice_get c.args.loaded.now.tasks 0 ≡ Some T → c.index-as_slice-0.result ≡ T =
    λ T at. c.index-as_slice-0.is ∙ first_is c.as_slice.result.now c.index-as_slice-0.result T (ap (λ (ts : List Task). slice_get ts 0) c.as_slice.ensures.items ∙ at) in
    record {
      answer = (
        Judged c.certify-judgement.result,
        record {
          judged = c.in_ok-answer_judgement.ensures.judged;
          certified = λ T at. subst (λ (U : Task). IsCertified U c.args.loaded.now.worlds c.certify-judgement.result) (at_first T at)
              (subst (λ (ws : List World). IsCertified c.index-as_slice-0.result ws c.certify-judgement.result) c.as_slice-2.ensures.items
              c.certify-judgement.ensures.certified);
        },
        c.in_ok-answer_judgement.ensures.answer,
      );
    }
