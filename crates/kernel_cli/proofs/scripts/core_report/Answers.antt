-- The snapshot of the core is that of its events.
use Rattle.std.proofs.Common.{◌≡◌, ◌∙◌, List, sym, subst, length, IfOk}
use Rattle.std.specs.List.{AllByRecursion}
use Rattle.core_model.specs.declared.event.Event.{Event}
use Rattle.kernel_core.specs.declared.snapshot.Snapshot.{Snapshot}
use Rattle.kernel_core.specs.Snapshots.{snapshot_of}
use Rattle.report_text.specs.Report.{EndsAtHome, report_of}
use Rattle.report_text.proofs.SnapshotEnds.{snapshot_ends}
use Rattle.kernel_cli.specs.Playing.{told_of, core_by, IsPlayed}
use Rattle.kernel_cli.proofs.Reporting.{each_text}
use Rattle.kernel_cli.proofs.scripts.core_report.Goals as goal

pub report-requires : goal.report-requires
report-requires g c =
    let P : Snapshot → Type 0 = λ s. AllByRecursion EndsAtHome s.tasks in
    let played = c.requires.played in
    let same : c.in_ok-snapshot.field-0 ≡ snapshot_of (length c.args.loaded.now.tasks) (core_by c.args.loaded.now played.0) =
    c.in_ok-snapshot.ensures.snapshot ∙ c.snapshot.ensures.told (told_of c.args.loaded.now played.0) played.1.core in
    record { ends = subst P (sym same) (snapshot_ends (length c.args.loaded.now.tasks) (core_by c.args.loaded.now played.0)) }

pub returns : goal.returns
returns g c = record {
  text = each_text {X = List Event} {Is = λ events. IsPlayed g.K.Keeper.stands c.args.loaded.now events c.args.core.now} c.report.result
      (λ events. report_of (snapshot_of (length c.args.loaded.now.tasks) (core_by c.args.loaded.now events)))
      (λ events played. subst (λ (s : Snapshot). IfOk c.report.result (λ text. text.items ≡ report_of s))
      (c.in_ok-snapshot.ensures.snapshot ∙ c.snapshot.ensures.told (told_of c.args.loaded.now events) played.core) c.report.ensures.bytes);
}
