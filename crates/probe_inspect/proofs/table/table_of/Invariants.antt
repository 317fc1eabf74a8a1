-- The worlds so far, and the task but for its tape.
use Rattle.std.proofs.Common.{◌≡◌}
use Rattle.probe_inspect.specs.Table.{IsTable}
use Rattle.probe_inspect.proofs.table.table_of.Given as goal

abbrev pub invariant-loop-i : goal.invariant-loop-i
invariant-loop-i l = record {
  task : l.in_world ≡ record l.task { tape = l.in_world.tape };
  table : IsTable l.task l.worlds l.course l.i l.table;
}
