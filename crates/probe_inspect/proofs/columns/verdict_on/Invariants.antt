-- In the steps so far all groups are alike.
use Rattle.std.proofs.Common.{◌≡◌, ◌*◌, ◌≤◌}
use Rattle.probe_inspect.specs.Course.{latches_at, places_before}
use Rattle.probe_inspect.specs.Columns.{AreAlikeTo}
use Rattle.probe_inspect.proofs.columns.verdict_on.Given as goal

abbrev pub invariant-loop-step : goal.invariant-loop-step
invariant-loop-step l = record {
  place : l.at ≡ places_before (latches_at l.course) l.step;
  low : l.at ≤ 7 * l.step;
  alike : AreAlikeTo l.course l.groups l.rows l.step;
}
