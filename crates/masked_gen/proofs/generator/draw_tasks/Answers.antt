-- One task more is one draw more.
use Rattle.std.proofs.Common.{ap, sym, ◌∙◌}
use Rattle.masked_gen.specs.Draws.{drawn}
use Rattle.masked_gen.specs.Generator.{task_draw}
use Rattle.masked_gen.proofs.DrawLemmas.{none-drawn, more-drawn}
use Rattle.masked_gen.proofs.generator.draw_tasks.Goals as goal

pub loop-init : goal.loop-init
loop-init c = none-drawn task_draw c.args.rng.now ∙ ap (λ tasks. drawn tasks c.args.rng.now) (sym c.empty-tasks.ensures.items)

pub loop-preserved : goal.loop-preserved
loop-preserved c =
    more-drawn task_draw c.loop.counter c.args.rng.now c.loop.rng c.draw_task.new.rng c.loop.tasks c.in_ok-draw_task.field-0 c.loop.invariant c.in_ok-draw_task.ensures.drawn
    ∙ ap (λ tasks. drawn tasks c.draw_task.new.rng) (sym c.in_ok-push.ensures.items)
