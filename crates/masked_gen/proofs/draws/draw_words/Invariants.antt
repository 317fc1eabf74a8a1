-- The words so far are drawn.
use Rattle.std.proofs.Common.{◌≡◌}
use Rattle.masked_gen.specs.Draws.{drawn, word_draw, draws}
use Rattle.masked_gen.proofs.draws.draw_words.Given as goal

abbrev pub invariant-loop : goal.invariant-loop
invariant-loop l = draws l.counter word_draw l.fn.rng ≡ drawn l.words.items l.rng
