-- The first parting is the first divergence.
use Rattle.std.proofs.Common.{Option, length, refl, subst, arith}
use Rattle.probe_inspect.specs.Table.{IsPartingTo, IsFirstParting}
use Rattle.probe_inspect.specs.declared.table.Parting.{Parting}
use Rattle.probe_inspect.proofs.Courses.{some-at, divergence-is}
use Rattle.probe_inspect.proofs.certifying.rows_along.Goals as goal

pub overflow_cast-result-in-Some : goal.overflow_cast-result-in-Some
overflow_cast-result-in-Some c =
    let T = c.args.task.now in
    let worlds = c.args.worlds.now in
    let course = c.args.course.now in
    let p = c.in-Some.parting in
    let first = some-at worlds 0 c.requires.admitted.some in
    let parting : IsFirstParting T worlds course (length worlds) p =
    subst (λ (o : Option Parting). IsPartingTo T worlds course (length worlds) o) c.in-Some.is c.in_ok-table.ensures.table.parting in
    let low = parting.within in
    let within = (c.requires.course first.0 first.1).within in
    let limit = c.requires.worlds.valid.fuel_limit in
    omega (arith, low, within, limit)

pub returns-in-Some-clause-refused : goal.returns-in-Some-clause-refused
returns-in-Some-clause-refused c =
    let T = c.args.task.now in
    let worlds = c.args.worlds.now in
    let course = c.args.course.now in
    let p = c.in-Some.parting in
    let first = some-at worlds 0 c.requires.admitted.some in
    let parting : IsFirstParting T worlds course (length worlds) p =
    subst (λ (o : Option Parting). IsPartingTo T worlds course (length worlds) o) c.in-Some.is c.in_ok-table.ensures.table.parting in
    (c.requires.admitted, c.requires.even, refl, divergence-is T worlds course first.0 first.1 (c.requires.course first.0 first.1) p parting)
