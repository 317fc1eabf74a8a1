-- The snapshot is that of a core, in which a task has an end where it has ended.
use Rattle.std.proofs.Common.{length, sym, subst}
use Rattle.std.specs.List.{AllByRecursion}
use Rattle.core_model.specs.KernelWords.{kernel_code}
use Rattle.core_model.specs.Orders.{coarse_after}
use Rattle.kernel_core.specs.declared.snapshot.Snapshot.{Snapshot}
use Rattle.report_text.specs.Report.{EndsAtHome}
use Rattle.report_text.proofs.SnapshotEnds.{snapshot_ends}
use Rattle.kernel_cli.proofs.runs.run_text.Goals as goal

pub report-requires : goal.report-requires
report-requires c = record {
  ends = subst (λ (s : Snapshot). AllByRecursion EndsAtHome s.tasks) (sym c.requires.finished.snapshot)
      (snapshot_ends (length c.args.loaded.now.tasks) (coarse_after c.args.loaded.now kernel_code c.args.finished.now.snapshot.order));
}
