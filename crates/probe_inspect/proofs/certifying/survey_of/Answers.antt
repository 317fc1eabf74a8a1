-- The parts of a survey fit together.
use Rattle.std.proofs.Common.{List, sym, subst}
use Rattle.probe_inspect.specs.declared.groups.Group.{Group}
use Rattle.probe_inspect.specs.Certify.{IsFitting}
use Rattle.probe_inspect.proofs.EvenGroups.{even-groups}
use Rattle.probe_inspect.proofs.Judged.{groups-of, rows-along}
use Rattle.probe_inspect.proofs.certifying.survey_of.Goals as goal

pub rows_along-requires-clause-even : goal.rows_along-requires-clause-even
rows_along-requires-clause-even c =
    let eg = c.in_ok-groups.ensures.groups in even-groups c.args.worlds.now c.in_ok-groups.groups.items eg.are eg.even

pub returns-clause-fits : goal.returns-clause-fits
returns-clause-fits c =
    let T = c.args.task.now in
    let worlds = c.args.worlds.now in
    let groups = c.in_ok-groups.groups.items in
    let course = c.in_ok-course.course in
    let rows = c.in_ok-rows.rows in
    let admitted = c.in_ok-admit.ensures.admitted in
    let even = c.in_ok-groups.ensures.groups in
    let first = c.in_ok-course.ensures.course in
    let all = c.in_ok-rows.ensures.rows in
    let fits : IsFitting (record { groups = groups; course = course; rows = rows }) = record {
      groups = groups-of T worlds c.requires.worlds admitted groups even course first rows all;
      along = rows-along T worlds c.requires.worlds admitted groups even course first rows all;
    } in
    let P : List Group → Type 0 = λ gs. IsFitting (record { groups = gs; course = course; rows = rows }) in
    subst P (sym c.new.ensures.items) fits
