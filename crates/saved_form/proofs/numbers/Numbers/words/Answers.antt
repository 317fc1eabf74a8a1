-- One more is read, and what is read before a fault.
use Rattle.std.proofs.Common.{refl, arith}
use Rattle.std.proofs.lemmas.Result.{err_from_is_err_and}
use Rattle.saved_form.specs.Ranges.{any}
use Rattle.saved_form.specs.Reading.{number, numbers}
use Rattle.saved_form.proofs.Onward.{begun, read-on, faulty, read-all}
use Rattle.saved_form.proofs.numbers.Numbers.words.Goals as goal

pub loop-index-init : goal.loop-index-init
loop-index-init c =
    begun (number any) c.args.count (numbers c.args.count any c.args.self.now) c.new-found.result.items _ c.args.self.now c.new-found.ensures.items (omega arith) refl

pub returns-in_err-number : goal.returns-in_err-number
returns-in_err-number c =
    let r = err_from_is_err_and c.from_residual.result c.from_residual.ensures.1 in
    rw (r.1, r.2) record {
      value = faulty (number any) c.args.count _ c.loop-index._index c.loop-index.found.items c.loop-index.self c.loop-index.invariant
          c.in_err-number.field-0.0 (omega arith) c.in_err-number.ensures.value;
    }

pub loop-index-preserved : goal.loop-index-preserved
loop-index-preserved c =
    read-on (number any) c.args.count _ c.loop-index._index c.loop-index.found.items c.loop-index.self c.loop-index.invariant
    c.push.new.self.items c.any.new.self c.in_ok-number.number (omega arith) c.in_ok-number.ensures.value c.in_ok-push.ensures.items

pub returns : goal.returns
returns c =
    record {
      value = read-all (number any) c.args.count _ c.loop-index._index c.loop-index.found.items c.loop-index.self c.loop-index.invariant
          c.new.result (omega arith) c.new.ensures.words;
    }
