-- A word that is missing or spells nothing raises.
use Rattle.masked_run.proofs.executing.execute_word.Goals as goal

pub returns-in-None : goal.returns-in-None
returns-in-None c = record { done = λ known. rw c.in-None.is (c.raise.ensures.done c.args.task.now c.args.fixed.now) }

pub returns-in-None-decode : goal.returns-in-None-decode
returns-in-None-decode c = record { done = λ known. rw (c.in-Some.is, ← c.in-None-decode.ensures.table) (c.raise-in-None-decode.ensures.done c.args.task.now c.args.fixed.now) }
