-- One more is read, and what is read before a fault.
use Rattle.std.proofs.Common.{refl, arith}
use Rattle.std.proofs.lemmas.Result.{err_from_is_err_and}
use Rattle.std.proofs.Common.{[]}
use Rattle.saved_form.specs.Fields.{items}
use Rattle.saved_form.specs.Reading.{hart}
use Rattle.saved_form.proofs.Onward.{begun, read-on, faulty, read-all}
use Rattle.saved_form.proofs.read_harts.harts.Goals as goal

pub loop-index-init : goal.loop-index-init
loop-index-init c =
    begun (hart) c.args.count (items hart [] c.args.count c.args.numbers.now) c.new-found.result.items _ c.args.numbers.now c.new-found.ensures.items (omega arith) refl

pub returns-in_err-hart : goal.returns-in_err-hart
returns-in_err-hart c =
    let r = err_from_is_err_and c.from_residual.result c.from_residual.ensures.1 in
    rw (r.1, r.2) record {
      value = faulty (hart) c.args.count _ c.loop-index._index c.loop-index.found.items c.loop-index.numbers c.loop-index.invariant
          c.in_err-hart.field-0.0 (omega arith) c.in_err-hart.ensures.value;
    }

pub loop-index-preserved : goal.loop-index-preserved
loop-index-preserved c =
    read-on (hart) c.args.count _ c.loop-index._index c.loop-index.found.items c.loop-index.numbers c.loop-index.invariant
    c.push.new.self.items c.hart.new.numbers c.in_ok-hart.hart (omega arith) c.in_ok-hart.ensures.value c.in_ok-push.ensures.items

pub returns : goal.returns
returns c =
    record {
      value = read-all (hart) c.args.count _ c.loop-index._index c.loop-index.found.items c.loop-index.numbers c.loop-index.invariant
          c.new.result (omega arith) c.new.ensures.items;
    }
