-- A core as it is reported, by its own lists (this project's own).
use Rattle.std.specs.Prelude.{ℕ, List, length}
use Rattle.hart_model.specs.HartState.{HartState}
use Rattle.core_model.specs.Board.{BoardState}
use Rattle.probe_log.specs.Counts.{Counts}
use Rattle.resume_laws.specs.Parts.{core_of_parts}
use Rattle.kernel_core.specs.declared.snapshot.Snapshot.{Snapshot}
use Rattle.kernel_core.specs.Snapshots.{states_from}
use Rattle.kernel_core.specs.History.{CoreValue}

-- the snapshot of so many tasks, with these counts; it looks at no log
abbrev pub snapshot_from : BoardState → List HartState → ℕ → Counts → Snapshot
snapshot_from board harts tasks tally = record {
  harts = length harts;
  order = board.order;
  tasks = states_from (core_of_parts board harts) 0 tasks;
  tally = tally;
}

abbrev pub snapshot_now : {K : Type 0} → CoreValue K → Snapshot
snapshot_now c = snapshot_from c.run.board.lists c.run.harts c.tasks c.log.tally
