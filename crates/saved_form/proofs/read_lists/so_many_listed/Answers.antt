-- One more is read, and what is read before a fault.
use Rattle.std.proofs.Common.{ℕ, List, [], refl, sym, ap, ◌∙◌, arith}
use Rattle.std.proofs.lemmas.Result.{err_from_is_err_and}
use Rattle.saved_form.specs.Fields.{items}
use Rattle.saved_form.specs.Reading.{listed}
use Rattle.saved_form.specs.Lists.{belongs_to}
use Rattle.saved_form.proofs.Onward.{begun, read-on, faulty, read-all, fault-along}
use Rattle.saved_form.proofs.read_lists.so_many_listed.Goals as goal

pub loop-index-init : goal.loop-index-init
loop-index-init c =
    begun (listed (belongs_to c.args.list) c.args.tasks.now) c.args.count (items (listed (belongs_to c.args.list) c.args.tasks.now) [] c.args.count c.args.numbers.now) c.new-found.result.items _ c.args.numbers.now c.new-found.ensures.items (omega arith) refl

pub returns-in_err-task : goal.returns-in_err-task
returns-in_err-task c =
    let r = err_from_is_err_and c.from_residual.result c.from_residual.ensures.1 in
    let same = ap (λ (ts : List ℕ). listed (belongs_to c.args.list) c.args.tasks.now ts c.loop-index.numbers) (sym c.as_slice.ensures.value) in
    rw (r.1, r.2) record {
      value = faulty (listed (belongs_to c.args.list) c.args.tasks.now) c.args.count _ c.loop-index._index c.loop-index.found.items c.loop-index.numbers c.loop-index.invariant
          c.in_err-task.field-0.0 (omega arith) (fault-along c.in_err-task.field-0.0 _ _ same c.in_err-task.ensures.value);
    }

pub loop-index-preserved : goal.loop-index-preserved
loop-index-preserved c =
    let same = ap (λ (ts : List ℕ). listed (belongs_to c.args.list) c.args.tasks.now ts c.loop-index.numbers) (sym c.as_slice.ensures.value) in
    read-on (listed (belongs_to c.args.list) c.args.tasks.now) c.args.count _ c.loop-index._index c.loop-index.found.items c.loop-index.numbers c.loop-index.invariant
    c.push.new.self.items c.listed.new.numbers c.in_ok-task.task (omega arith) (same ∙ c.in_ok-task.ensures.value) c.in_ok-push.ensures.items

pub returns : goal.returns
returns c =
    record {
      value = read-all (listed (belongs_to c.args.list) c.args.tasks.now) c.args.count _ c.loop-index._index c.loop-index.found.items c.loop-index.numbers c.loop-index.invariant
          c.new.result (omega arith) c.new.ensures.words;
    }
