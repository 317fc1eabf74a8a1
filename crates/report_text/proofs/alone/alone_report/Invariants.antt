-- The text so far, with the report of the tasks that are left, is the whole report.
use Rattle.std.proofs.Common.{◌≡◌, ◌++◌, string_bytes, drop}
use Rattle.report_text.specs.AloneReport.{report_from, alone_report_of}
use Rattle.report_text.proofs.alone.alone_report.Given as goal

abbrev pub invariant-loop-number : goal.invariant-loop-number
invariant-loop-number l = string_bytes l.text ++ report_from l.number (drop l.number l.ends) ≡ alone_report_of l.ends
