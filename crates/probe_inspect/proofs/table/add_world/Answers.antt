-- One world more.
use Rattle.std.proofs.Common.{◌≡◌, ◌+◌, List, Option, Some, None, IsSome, sym, subst}
use Rattle.isa_model.specs.declared.task.Task.{Task}
use Rattle.probe_inspect.specs.Rows.{IsAlong, IsRowOf, LeavesAt, IsFollowed}
use Rattle.probe_inspect.specs.Table.{AreRowsTo}
use Rattle.probe_inspect.specs.declared.rows.Row.{Row}
use Rattle.probe_inspect.specs.declared.rows.Followed.{Followed}
use Rattle.probe_inspect.specs.declared.table.Parting.{Parting}
use Rattle.probe_inspect.proofs.Partings.{parting-along, rows-more}
use Rattle.probe_inspect.proofs.table.add_world.Goals as goal

pub returns-in_ok-push-in-Along : goal.returns-in_ok-push-in-Along
returns-in_ok-push-in-Along c =
    let course = c.args.course.now in
    let U = c.args.task.now in
    let row = c.in-Along.row in
    let table = c.args.table.now in
    let followed : IsAlong U course × IsRowOf U course row =
    subst (λ (f : Followed). IsFollowed U course f) c.in-Along.is c.in_ok-row.ensures.followed in
    record {
      table = λ T worlds w there is before. record {
        parting = parting-along T worlds course c.args.world w there (subst (λ (V : Task). IsAlong V course) is followed.0) table.parting before.parting;
        rows = λ none. subst (λ (rs : List Row). AreRowsTo T worlds course (c.args.world + 1) rs) (sym c.in_ok-push-in-Along.ensures.items)
            (rows-more T worlds course c.args.world w there table.rows row (subst (λ (V : Task). IsRowOf V course row) is followed.1) (before.rows none));
      };
    }

no_some : (o : Option Parting) → IsSome o → o ≡ None → ⊥
no_some None some none = absurd cc
no_some (Some p) some none = absurd cc

pub returns-in-Leaves : goal.returns-in-Leaves
returns-in-Leaves c =
    let course = c.args.course.now in
    let U = c.args.task.now in
    let leaves : LeavesAt U course c.in-Leaves.step =
    subst (λ (f : Followed). IsFollowed U course f) c.in-Leaves.is c.in_ok-row.ensures.followed in
    record {
      table = λ T worlds w there is before. record {
        parting = c.earlier-table.ensures.parting T worlds course w there (subst (λ (V : Task). LeavesAt V course c.in-Leaves.step) is leaves) before.parting;
        rows = λ none. absurd (no_some c.earlier-table.result c.earlier-table.ensures.some none);
      };
    }
