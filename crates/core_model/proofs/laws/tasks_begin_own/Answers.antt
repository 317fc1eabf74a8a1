-- Each task begins with what is its own.
use Rattle.core_model.proofs.Conservation.{tasks-begin-own}
use Rattle.core_model.proofs.laws.tasks_begin_own.Goals as goal

pub returns : goal.returns
returns c = record { law = tasks-begin-own }
