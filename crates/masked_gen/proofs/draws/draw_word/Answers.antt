-- The generator's step is the draw.
use Rattle.masked_gen.proofs.DrawLemmas.{word-drawn}
use Rattle.masked_gen.proofs.draws.draw_word.Goals as goal

pub returns : goal.returns
returns c = record { drawn = word-drawn c.args.rng.now c.next_word.new.self c.next_word.result c.next_word.ensures }
