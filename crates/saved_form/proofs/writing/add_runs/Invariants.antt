-- What is written so far, and the bytes of what is left, are the whole.
use Rattle.std.proofs.Common.{◌≡◌, ◌++◌, drop}
use Rattle.std.specs.List.{flat_map}
use Rattle.saved_form.specs.Spelling.{of_run, bytes_of}
use Rattle.saved_form.proofs.writing.add_runs.Given as goal

abbrev pub invariant-loop-run : goal.invariant-loop-run
invariant-loop-run l = l.out.items ++ bytes_of (flat_map of_run (drop l.run-index l.runs)) ≡ l.initial.out.items ++ bytes_of (flat_map of_run l.runs)
