-- The tallies so far.
use Rattle.std.proofs.Common.{◌≤◌, ◌*◌, List}
use Rattle.hart_model.specs.declared.probe.Probe.{Probe}
use Rattle.probe_log.specs.Counts.{StandFor, total_of}
use Rattle.hart_runner.specs.Remains.{AreTalliesOf, entries_of_harts}
use Rattle.hart_runner.proofs.closing.sum_of.Given as goal

abbrev pub invariant-loop-tally : goal.invariant-loop-tally
invariant-loop-tally l = record {
  small : total_of l.sum ≤ 1152921504606846976 * l.tally-index;
  stands : (log : List Probe) → AreTalliesOf log l.tallies → StandFor l.sum (entries_of_harts l.tally-index log);
}
