use Rattle.symbolic_run.proofs.StraightRuns.{runs-are-paths}
use Rattle.symbolic_run.proofs.laws.runs_are_paths.Goals as goal

pub returns : goal.returns
returns c = record { law = runs-are-paths }
