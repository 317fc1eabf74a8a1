-- The gates so far are drawn.
use Rattle.std.proofs.Common.{◌≡◌}
use Rattle.masked_gen.specs.Draws.{drawn, draws}
use Rattle.masked_gen.specs.Generator.{gate_draw}
use Rattle.masked_gen.proofs.draws.draw_gates.Given as goal

abbrev pub invariant-loop : goal.invariant-loop
invariant-loop l = draws l.counter gate_draw l.initial.rng ≡ drawn l.gates.items l.rng
