-- One gate more is one draw more.
use Rattle.std.proofs.Common.{ap, sym, ◌∙◌}
use Rattle.masked_gen.specs.Draws.{drawn}
use Rattle.masked_gen.specs.Generator.{gate_draw}
use Rattle.masked_gen.proofs.DrawLemmas.{none-drawn, more-drawn}
use Rattle.masked_gen.proofs.draws.draw_gates.Goals as goal

pub loop-init : goal.loop-init
loop-init c =
    none-drawn gate_draw c.draw_word.new.rng ∙ ap (λ gates. drawn gates c.draw_word.new.rng) (sym c.new-gates.ensures.items)

pub loop-preserved : goal.loop-preserved
loop-preserved c =
    more-drawn gate_draw c.loop.counter c.draw_word.new.rng c.loop.rng c.draw_gate.new.rng c.loop.gates.items c.draw_gate.result c.loop.invariant c.draw_gate.ensures.drawn
    ∙ ap (λ gates. drawn gates c.draw_gate.new.rng) (sym c.in_ok-push.ensures.items)
