-- One more is read, and what is read before a fault.
use Rattle.std.proofs.Common.{◌≡◌, List, ◌+◌, ◌++◌, [], ◌∷◌, length, refl, sym, ap, ◌∙◌, arith}
use Rattle.std.proofs.lemmas.Result.{err_from_is_err_and}
use Rattle.std.proofs.lemmas.List.{length_push}
use Rattle.saved_form.specs.Saved.{SavedTask}
use Rattle.saved_form.specs.Fields.{items}
use Rattle.saved_form.specs.Reading.{Known, task}
use Rattle.saved_form.proofs.Onward.{begun, read-on, faulty, read-all, fault-along}
use Rattle.saved_form.proofs.read_tasks.tasks.Goals as goal

pub loop-index-init : goal.loop-index-init
loop-index-init c =
    let k = c.args.known.now in
    let known : Known = record { quanta = k.quanta; tasks = k.tasks; harts = k.harts; slots = k.slots } in
    record {
      items = begun (task known) k.tasks (items (task known) [] k.tasks c.args.numbers.now) c.new-found.result.items _ c.args.numbers.now
          c.new-found.ensures.items (omega arith) refl;
      length = ap length c.new-found.ensures.items;
    }

pub task-requires-clause-few : goal.task-requires-clause-few
task-requires-clause-few c =
    let few = c.requires.few in
    let len = c.loop-index.invariant.length in
    let same = ap length c.as_slice.ensures.value in
    omega (arith, few, len, same)

pub returns-in_err-task : goal.returns-in_err-task
returns-in_err-task c =
    let r = err_from_is_err_and c.from_residual.result c.from_residual.ensures.1 in
    let k = c.args.known.now in
    let known : Known = record { quanta = k.quanta; tasks = k.tasks; harts = k.harts; slots = k.slots } in
    let same = ap (λ (ts : List SavedTask). task known ts c.loop-index.numbers) (sym c.as_slice.ensures.value) in
    rw (r.1, r.2) record {
      value = faulty (task known) k.tasks _ c.loop-index._index c.loop-index.found.items c.loop-index.numbers c.loop-index.invariant.items
          c.in_err-task.field-0.0 (omega arith) (fault-along c.in_err-task.field-0.0 _ _ same c.in_err-task.ensures.value);
    }

pub loop-index-preserved : goal.loop-index-preserved
loop-index-preserved c =
    let k = c.args.known.now in
    let known : Known = record { quanta = k.quanta; tasks = k.tasks; harts = k.harts; slots = k.slots } in
    let before = c.loop-index.found.items in
    let same = ap (λ (ts : List SavedTask). task known ts c.loop-index.numbers) (sym c.as_slice.ensures.value) in
    let more : c.push.new.self.items ≡ before ++ c.in_ok-task.task ∷ [] = c.in_ok-push.ensures.items in
    record {
      items = read-on (task known) k.tasks _ c.loop-index._index before c.loop-index.numbers c.loop-index.invariant.items
          c.push.new.self.items c.task.new.numbers c.in_ok-task.task (omega arith) (same ∙ c.in_ok-task.ensures.value) more;
      length = ap length more ∙ length_push before c.in_ok-task.task ∙ ap (λ n. n + 1) c.loop-index.invariant.length;
    }

pub returns : goal.returns
returns c =
    let k = c.args.known.now in
    let known : Known = record { quanta = k.quanta; tasks = k.tasks; harts = k.harts; slots = k.slots } in
    record {
      value = read-all (task known) k.tasks _ c.loop-index._index c.loop-index.found.items c.loop-index.numbers c.loop-index.invariant.items
          c.new.result (omega arith) c.new.ensures.items;
    }
