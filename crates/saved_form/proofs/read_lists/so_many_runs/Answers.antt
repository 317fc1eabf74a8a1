-- One more is read, and what is read before a fault.
use Rattle.std.proofs.Common.{◌≡◌, ◌+◌, ◌++◌, [], ◌∷◌, refl, sym, ap, ◌∙◌, arith}
use Rattle.std.specs.List.{sum_by}
use Rattle.std.proofs.lemmas.Result.{err_from_is_err_and}
use Rattle.core_model.specs.declared.event.OrderRun.{OrderRun}
use Rattle.saved_form.specs.Fields.{items}
use Rattle.saved_form.specs.Ranges.{last_hart}
use Rattle.saved_form.specs.Reading.{run}
use Rattle.saved_form.proofs.Onward.{begun, read-on, faulty, read-all, fault-along}
use Rattle.saved_form.proofs.RunFacts.{same-run, last-more, sum-more}
use Rattle.saved_form.proofs.read_lists.so_many_runs.Goals as goal

pub loop-index-init : goal.loop-index-init
loop-index-init c =
    let none = c.new-found.ensures.items in
    record {
      items = begun (run c.args.harts) c.args.count (items (run c.args.harts) [] c.args.count c.args.numbers.now) c.new-found.result.items _ c.args.numbers.now
          none (omega arith) refl;
      last = ap last_hart (sym none);
      total = ap (sum_by (λ (r : OrderRun). r.times)) (sym none);
      bound = omega arith;
    }

pub returns-in_err-run : goal.returns-in_err-run
returns-in_err-run c =
    let r = err_from_is_err_and c.from_residual.result c.from_residual.ensures.1 in
    let before = c.loop-index.found.items in
    let same = same-run c.args.harts before c.loop-index.last c.loop-index.total c.loop-index.numbers c.loop-index.invariant.last c.loop-index.invariant.total in
    rw (r.1, r.2) record {
      value = faulty (run c.args.harts) c.args.count _ c.loop-index._index before c.loop-index.numbers c.loop-index.invariant.items
          c.in_err-run.field-0.0 (omega arith) (fault-along c.in_err-run.field-0.0 _ _ same c.in_err-run.ensures.value);
    }

pub loop-index-preserved : goal.loop-index-preserved
loop-index-preserved c =
    let before = c.loop-index.found.items in
    let run_read = c.in_ok-run.run' in
    let more : c.push.new.self.items ≡ before ++ run_read ∷ [] = c.in_ok-push.ensures.items in
    let same = same-run c.args.harts before c.loop-index.last c.loop-index.total c.loop-index.numbers c.loop-index.invariant.last c.loop-index.invariant.total in
    record {
      items = read-on (run c.args.harts) c.args.count _ c.loop-index._index before c.loop-index.numbers c.loop-index.invariant.items
          c.push.new.self.items c.run.new.numbers run_read (omega arith) (same ∙ c.in_ok-run.ensures.value) more;
      last = sym (ap last_hart more ∙ last-more before run_read);
      total = sym (ap (sum_by (λ (r : OrderRun). r.times)) more ∙ sum-more before run_read ∙ ap (λ n. n + run_read.times) (sym c.loop-index.invariant.total));
      bound = c.in_ok-run.ensures.bound;
    }

pub returns : goal.returns
returns c =
    record {
      value = read-all (run c.args.harts) c.args.count _ c.loop-index._index c.loop-index.found.items c.loop-index.numbers c.loop-index.invariant.items
          c.new.result (omega arith) c.new.ensures.items;
    }
