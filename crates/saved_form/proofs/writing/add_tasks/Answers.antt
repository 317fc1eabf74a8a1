-- One task more is written.
use Rattle.std.proofs.Common.{arith}
use Rattle.saved_form.specs.Spelling.{of_task}
use Rattle.saved_form.proofs.Written.{more-written}
use Rattle.saved_form.proofs.writing.add_tasks.Goals as goal

pub loop-task-preserved : goal.loop-task-preserved
loop-task-preserved c =
    more-written of_task c.args.tasks.now c.loop-task.task-index c.task-item.result c.loop-task.out.items c.add_task.new.out.items _
    (omega arith) c.task-item.is c.loop-task.invariant c.in_ok-add_task.ensures.ok
