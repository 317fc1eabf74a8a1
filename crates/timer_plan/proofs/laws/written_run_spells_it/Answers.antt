-- The digits that are written of a number are a decimal number.
use Rattle.timer_plan.proofs.Spelling.{written_run}
use Rattle.timer_plan.proofs.laws.written_run_spells_it.Goals as goal

pub returns : goal.returns
returns c = record { spelled = written_run }
