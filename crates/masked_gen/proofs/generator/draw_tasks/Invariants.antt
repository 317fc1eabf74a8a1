-- The tasks so far are drawn.
use Rattle.std.proofs.Common.{◌≡◌}
use Rattle.masked_gen.specs.Draws.{drawn, draws}
use Rattle.masked_gen.specs.Generator.{task_draw}
use Rattle.masked_gen.proofs.generator.draw_tasks.Given as goal

abbrev pub invariant-loop : goal.invariant-loop
invariant-loop l = draws l.counter task_draw l.fn.rng ≡ drawn l.tasks l.rng
