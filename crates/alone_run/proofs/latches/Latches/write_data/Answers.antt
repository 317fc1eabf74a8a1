-- The latch of the word's address holds it.
use Rattle.std.proofs.Common.{IsSome, refl}
use Rattle.alone_run.specs.DataWords.{data_word}
use Rattle.alone_run.proofs.DataWrite.{data-written}
use Rattle.alone_run.proofs.latches.Latches.write_data.Goals as goal

pub returns-in-Some : goal.returns-in-Some
returns-in-Some c = record {
  held = λ T v h inside.
      let here : IsSome (data_word c.args.self.now.memory c.args.at) = rw (← c.in-Some.ensures.word) refl in
      rw c.set.ensures.written (data-written T c.args.self.now v c.args.at c.args.word here h);
}

pub returns-in-None : goal.returns-in-None
returns-in-None c = record {
  held = λ T v h inside.
      let none = rw inside at (c.in-None.ensures.held T v h) in
      absurd (cc none);
}
