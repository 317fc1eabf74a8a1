-- By what lies behind a refusal.
use Rattle.std.proofs.Common.{refl}
use Rattle.rv_loader.specs.Coding.{coded_tasks}
use Rattle.rv_loader.proofs.Outcomes.{refusal_says}
use Rattle.rv_loader.proofs.laws.refusals_are_so.Goals as goal

pub returns : goal.returns
returns c = record { law = λ bundle harts fault h. refusal_says bundle harts (coded_tasks bundle.tasks) fault refl h }
