-- One world more, on the tape of the task.
use Rattle.std.proofs.Common.{◌≡◌, ℕ, List, length, refl, ap, sym, ◌∙◌, subst, arith}
use Rattle.std.proofs.lemmas.Option.{slice_get_read}
use Rattle.isa_model.specs.declared.task.Task.{Task}
use Rattle.core_model.specs.declared.world.World.{World}
use Rattle.probe_inspect.specs.Table.{IsTable}
use Rattle.probe_inspect.proofs.table.table_of.Goals as goal

pub loop-i-preserved : goal.loop-i-preserved
loop-i-preserved c =
    let T = c.args.task.now in
    let worlds = c.args.worlds.now in
    let w = c.index-worlds-i.result in
    let inv = c.loop-i.invariant in
    let tape = c.in_ok-in_world-2.field-0 in
    let there = slice_get_read worlds (length worlds) c.loop-i.i w refl c.loop-i-test.true c.index-worlds-i.is in
    let on = λ (t : Task) (ws : List ℕ). let u : Task = record t { tape = ws } in u in
    let task : on c.loop-i.in_world tape ≡ on T tape = ap (λ (t : Task). on t tape) inv.task in
    let same : tape ≡ w.tape = c.in_ok-in_world-2.ensures.same ∙ ap (λ (v : World). v.tape) (sym c.index-worlds-i.is) in
    record {
      task = task;
      table = c.in_ok-add_world.ensures.table T worlds w there (task ∙ ap (on T) same) inv.table;
    }

pub returns : goal.returns
returns c =
    let at : c.loop-i.i ≡ length c.args.worlds.now = omega (arith, c.loop-i-test.false, c.loop-i.auto.i-end) in
    record { table = subst (λ k. IsTable c.args.task.now c.args.worlds.now c.args.course.now k c.loop-i.table) at c.loop-i.invariant.table }
