-- An instruction that is privileged is illegal.
use Rattle.alone_run.proofs.executing.perform.Goals as goal

pub returns-in-Mret : goal.returns-in-Mret
returns-in-Mret c = record { performed = λ s h. rw c.in-Mret.is (c.raise.ensures.left c.args.task.now s h) }

pub returns-in-Csr : goal.returns-in-Csr
returns-in-Csr c = record { performed = λ s h. rw c.in-Csr.is (c.raise-in-Csr.ensures.left c.args.task.now s h) }

pub returns-in-CsrImm : goal.returns-in-CsrImm
returns-in-CsrImm c = record { performed = λ s h. rw c.in-CsrImm.is (c.raise-in-CsrImm.ensures.left c.args.task.now s h) }
