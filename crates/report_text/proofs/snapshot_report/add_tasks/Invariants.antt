-- The text so far, with the lines of the tasks that are left, is what was there with all lines.
use Rattle.std.proofs.Common.{◌≡◌, ◌++◌, drop}
use Rattle.report_text.specs.Report.{states_from}
use Rattle.report_text.proofs.snapshot_report.add_tasks.Given as goal

abbrev pub invariant-loop-number : goal.invariant-loop-number
invariant-loop-number l = l.out.items ++ states_from l.number (drop l.number l.states) ≡ l.fn.out.items ++ states_from 0 l.states
