-- A word that is missing or spells nothing raises.
use Rattle.alone_run.proofs.executing.execute_word.Goals as goal

pub returns-in-None : goal.returns-in-None
returns-in-None c = record { left = λ s h. rw c.in-None.is (c.raise.ensures.left c.args.task.now s h) }

pub returns-in-None-decode : goal.returns-in-None-decode
returns-in-None-decode c = record { left = λ s h. rw (c.in-Some.is, ← c.in-None-decode.ensures.table) (c.raise-in-None-decode.ensures.left c.args.task.now s h) }
