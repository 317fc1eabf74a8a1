-- An exception ends the task, and so does the return from a trap.
use Rattle.alone_run.proofs.executing.follow.Goals as goal

pub returns-in-Raises : goal.returns-in-Raises
returns-in-Raises c = record { left = λ s h. rw c.in-Raises.is (c.raise.ensures.left c.args.task.now s h) }

pub returns-in-Returns : goal.returns-in-Returns
returns-in-Returns c = record { left = λ s h. rw c.in-Returns.is (c.raise-in-Returns.ensures.left c.args.task.now s h) }
