-- What is written so far, and the text of what is left, are the whole.
use Rattle.std.proofs.Common.{◌≡◌, ◌++◌, drop, map}
use Rattle.bundle_text.specs.Text.{after_blanks, event_run_text}
use Rattle.bundle_text.proofs.writing.add_event_runs.Given as goal

abbrev pub invariant-loop-run : goal.invariant-loop-run
invariant-loop-run l = l.out.items ++ after_blanks (map event_run_text (drop l.run-index l.runs)) ≡ l.initial.out.items ++ after_blanks (map event_run_text l.runs)
