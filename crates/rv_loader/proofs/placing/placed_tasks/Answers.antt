-- There are at most 32 tasks, and one more is placed after the others.
use Rattle.std.proofs.Common.{◌≡◌, length, ap, ◌∙◌, arith}
use Rattle.std.proofs.lemmas.Iterator.Consumers.{YieldsList-turn}
use Rattle.std.proofs.lemmas.Iterator.Adapters.{YieldsList-from_vec}
use Rattle.std.proofs.lemmas.Grind.{common_steps}
use Rattle.rv_loader.proofs.Places.{length-placed, placed-push}
use Rattle.rv_loader.proofs.placing.placed_tasks.Goals as goal

pub overflow_cast-len : goal.overflow_cast-len
overflow_cast-len c =
    let road = YieldsList-from_vec {s = c.into_iter-task-iterator.result} _ c.into_iter-task-iterator.ensures.into_iter_gives.0 (c.into_iter-task-iterator.ensures.into_iter_gives.1 ∙ c.args.tasks.ok.0) in
    let turn = YieldsList-turn road c.loop-task.yielded c.loop-task.task-iterator c.loop-task.yielded_by c.next.result c.next.new.self c.in-Some.task c.in-Some.is c.next.ensures.steps in
    let count = ap length c.loop-task.invariant ∙ length-placed c.loop-task.yielded in
    omega (arith, turn.0, count, c.args.tasks.ok.0)

pub task_at-requires : goal.task_at-requires
task_at-requires c =
    let road = YieldsList-from_vec {s = c.into_iter-task-iterator.result} _ c.into_iter-task-iterator.ensures.into_iter_gives.0 (c.into_iter-task-iterator.ensures.into_iter_gives.1 ∙ c.args.tasks.ok.0) in
    let turn = YieldsList-turn road c.loop-task.yielded c.loop-task.task-iterator c.loop-task.yielded_by c.next.result c.next.new.self c.in-Some.task c.in-Some.is c.next.ensures.steps in
    let count = ap length c.loop-task.invariant ∙ length-placed c.loop-task.yielded in
    record { number = omega (arith, turn.0, count, c.args.tasks.ok.0) }

pub loop-task-preserved : goal.loop-task-preserved
loop-task-preserved c =
    let count = ap length c.loop-task.invariant ∙ length-placed c.loop-task.yielded in
    let number : c.len.result ≡ length c.loop-task.yielded = c.len.ensures.length ∙ count in
    let more = placed-push c.loop-task.yielded c.in-Some.task c.len.result number in
    grind (arith, common_steps, more)
