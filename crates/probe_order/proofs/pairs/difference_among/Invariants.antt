-- All groups are alike at the first places so far, each with the later ones.
use Rattle.probe_order.specs.Pairs.{AreAlikePairs}
use Rattle.probe_order.proofs.pairs.difference_among.Given as goal

abbrev pub invariant-loop-first : goal.invariant-loop-first
invariant-loop-first l = AreAlikePairs l.groups l.rows l.first l.places
