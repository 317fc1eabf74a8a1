-- One word more is one draw more.
use Rattle.std.proofs.Common.{ap, sym, ◌∙◌}
use Rattle.masked_gen.specs.Draws.{drawn, word_draw}
use Rattle.masked_gen.proofs.DrawLemmas.{none-drawn, more-drawn}
use Rattle.masked_gen.proofs.draws.draw_words.Goals as goal

pub loop-init : goal.loop-init
loop-init c = none-drawn word_draw c.args.rng.now ∙ ap (λ words. drawn words c.args.rng.now) (sym c.new-words.ensures.items)

pub loop-preserved : goal.loop-preserved
loop-preserved c =
    more-drawn word_draw c.loop.counter c.args.rng.now c.loop.rng c.draw_word.new.rng c.loop.words.items c.draw_word.result c.loop.invariant c.draw_word.ensures.drawn
    ∙ ap (λ words. drawn words c.draw_word.new.rng) (sym c.in_ok-push.ensures.items)
