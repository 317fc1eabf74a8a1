-- The text so far is that of the entries so far, the walk is one of the tasks, and the reader is at the next entry.
use Rattle.std.proofs.Common.{◌≡◌, take}
use Rattle.probe_log.specs.Reading.{IsAt}
use Rattle.report_text.specs.Explanations.{explain_text_of}
use Rattle.report_text.proofs.explanations.explain_text.Given as goal

abbrev pub invariant-loop : goal.invariant-loop
invariant-loop l = record {
  text : l.text.items ≡ explain_text_of l.tasks (take l.counter l.log.entries);
  walk : l.walk ≡ l.tasks;
  at : IsAt l.reader l.log.entries l.counter;
}
