-- One more is read, and what is read before a fault.
use Rattle.std.proofs.Common.{◌≡◌, ◌<◌, ◌≤◌, [], length, take, refl, sym, ◌∙◌, arith, length-set}
use Rattle.std.proofs.lemmas.Result.{err_from_is_err_and}
use Rattle.std.proofs.lemmas.List.{take_all, take_more_set, length-replicate}
use Rattle.saved_form.specs.Ranges.{any}
use Rattle.saved_form.specs.Reading.{number, numbers}
use Rattle.saved_form.proofs.Onward.{begun, read-on, faulty, read-all}
use Rattle.saved_form.proofs.numbers.Numbers.array.Goals as goal

pub loop-index-init : goal.loop-index-init
loop-index-init g c = (
  begun (number any) g.row.N (numbers g.row.N any c.args.self.now) [] _ c.args.self.now refl (omega arith) refl,
  length-replicate g.row.N 0,
)

pub returns-in_err-number : goal.returns-in_err-number
returns-in_err-number g c =
    let r = err_from_is_err_and c.from_residual.result c.from_residual.ensures.1 in
    rw (r.1, r.2) record {
      value = faulty (number any) g.row.N _ c.loop-index.index (take c.loop-index.index c.loop-index.found) c.loop-index.self c.loop-index.invariant.0
          c.in_err-number.field-0.0 c.loop-index-test.true c.in_err-number.ensures.value;
    }

pub loop-index-preserved : goal.loop-index-preserved
loop-index-preserved g c =
    let i = c.loop-index.index in
    let xs = c.loop-index.found in
    let len : length xs ≡ g.row.N = c.loop-index.invariant.1 in
    let test : i < g.row.N = c.loop-index-test.true in
    let low : i < length xs = omega (arith, len, test) in (
      read-on (number any) g.row.N _ i (take i xs) c.loop-index.self c.loop-index.invariant.0
          _ c.any.new.self c.in_ok-number.number test c.in_ok-number.ensures.value (take_more_set xs i c.in_ok-number.number low),
      length-set xs i c.in_ok-number.number ∙ len,
    )

pub returns : goal.returns
returns g c =
    let i = c.loop-index.index in
    let xs = c.loop-index.found in
    let len : length xs ≡ g.row.N = c.loop-index.invariant.1 in
    let test : g.row.N ≤ i = c.loop-index-test.false in
    let all : take i xs ≡ xs = take_all i xs (omega (arith, len, test)) in
    record { value = read-all (number any) g.row.N _ i (take i xs) c.loop-index.self c.loop-index.invariant.0 xs test (sym all) }
