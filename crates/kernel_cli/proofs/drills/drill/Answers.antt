-- The report is that of the core after the order that was drilled.
use Rattle.std.proofs.Common.{◌≡◌, ◌∙◌, sym, subst, length, IfOk}
use Rattle.std.specs.List.{AllByRecursion}
use Rattle.kernel_core.specs.declared.snapshot.Snapshot.{Snapshot}
use Rattle.kernel_core.specs.PacedHistory.{ordered}
use Rattle.kernel_core.specs.Snapshots.{snapshot_of}
use Rattle.report_text.specs.Report.{EndsAtHome, report_of}
use Rattle.report_text.proofs.SnapshotEnds.{snapshot_ends}
use Rattle.kernel_cli.specs.Drills.{ordered_core}
use Rattle.kernel_cli.proofs.Drilling.{drilled_text}
use Rattle.kernel_cli.proofs.drills.drill.Goals as goal

pub report-requires : goal.report-requires
report-requires c =
    let P : Snapshot → Type 0 = λ s. AllByRecursion EndsAtHome s.tasks in
    let drilled = c.in_ok-core.ensures.drilled in
    let core = ordered_core c.args.kernel.code c.args.loaded.now drilled.order in
    let same : c.in_ok-snapshot.field-0 ≡ snapshot_of (length c.args.loaded.now.tasks) core =
    c.in_ok-snapshot.ensures.snapshot ∙ c.snapshot.ensures.told (ordered c.args.loaded.now c.args.kernel drilled.order).history drilled.core in
    record { ends = subst P (sym same) (snapshot_ends (length c.args.loaded.now.tasks) core) }

pub returns : goal.returns
returns c =
    let drilled = c.in_ok-core.ensures.drilled in
    record {
      text = drilled_text c.report.result c.args.kernel.code c.args.loaded.now drilled.order drilled.is
          (subst (λ (s : Snapshot). IfOk c.report.result (λ text. text.items ≡ report_of s))
          (c.in_ok-snapshot.ensures.snapshot ∙ c.snapshot.ensures.told (ordered c.args.loaded.now c.args.kernel drilled.order).history drilled.core)
          c.report.ensures.bytes);
    }
