-- One more is read, and what is read before a fault.
use Rattle.std.proofs.Common.{refl, arith}
use Rattle.std.proofs.lemmas.Result.{err_from_is_err_and}
use Rattle.isa_model.specs.Limits.{max_quantum}
use Rattle.saved_form.specs.Ranges.{up_to}
use Rattle.saved_form.specs.Reading.{number, numbers}
use Rattle.saved_form.proofs.Onward.{begun, read-on, faulty, read-all}
use Rattle.saved_form.proofs.read_harts.so_many_quanta.Goals as goal

pub loop-index-init : goal.loop-index-init
loop-index-init c =
    begun (number (up_to max_quantum)) c.args.count (numbers c.args.count (up_to max_quantum) c.args.numbers.now) c.new-found.result.items _ c.args.numbers.now c.new-found.ensures.items (omega arith) refl

pub returns-in_err-quantum : goal.returns-in_err-quantum
returns-in_err-quantum c =
    let r = err_from_is_err_and c.from_residual.result c.from_residual.ensures.1 in
    rw (r.1, r.2) record {
      value = faulty (number (up_to max_quantum)) c.args.count _ c.loop-index._index c.loop-index.found.items c.loop-index.numbers c.loop-index.invariant
          c.in_err-quantum.field-0.0 (omega arith) c.in_err-quantum.ensures.value;
    }

pub loop-index-preserved : goal.loop-index-preserved
loop-index-preserved c =
    read-on (number (up_to max_quantum)) c.args.count _ c.loop-index._index c.loop-index.found.items c.loop-index.numbers c.loop-index.invariant
    c.push.new.self.items c.up_to.new.self c.in_ok-quantum.quantum (omega arith) c.in_ok-quantum.ensures.value c.in_ok-push.ensures.items

pub returns : goal.returns
returns c =
    record {
      value = read-all (number (up_to max_quantum)) c.args.count _ c.loop-index._index c.loop-index.found.items c.loop-index.numbers c.loop-index.invariant
          c.new.result (omega arith) c.new.ensures.words;
    }
