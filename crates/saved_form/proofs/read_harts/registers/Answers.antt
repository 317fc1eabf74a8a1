-- One more is read, and what is read before a fault.
use Rattle.std.proofs.Common.{◌≡◌, ◌==◌, ◌&&◌, ◌||◌, not, ◌<◌, ◌≤◌, ℕ, [], length, take, refl, sym, ap, ◌∙◌, arith, length-set}
use Rattle.std.proofs.lemmas.Result.{err_from_is_err_and}
use Rattle.std.proofs.lemmas.List.{take_all, take_more_set, length-take-le}
use Rattle.saved_form.specs.Fields.{items, field}
use Rattle.saved_form.specs.Reading.{register}
use Rattle.saved_form.proofs.Onward.{begun, read-on, faulty, read-all, fault-along}
use Rattle.saved_form.proofs.read_harts.registers.Goals as goal

pub loop-index-init : goal.loop-index-init
loop-index-init c =
    (begun (register c.args.pc) 31 (items (register c.args.pc) [] 31 c.args.numbers.now) [] 31 c.args.numbers.now refl refl refl, refl)

pub returns-in_err-value : goal.returns-in_err-value
returns-in_err-value c =
    let r = err_from_is_err_and c.from_residual.result c.from_residual.ensures.1 in
    let i = c.loop-index.index in
    let xs = c.loop-index.found in
    let len : length xs ≡ 31 = c.loop-index.invariant.1 in
    let test : i < 31 = c.loop-index-test.true in
    let same : length (take i xs) ≡ i = length-take-le i xs (omega (arith, len, test)) in
    let at = ap (λ (k : ℕ). field (λ n. not (c.args.pc == 0x1328 && k == 4) || n == 0) c.loop-index.numbers) same in
    rw (r.1, r.2) record {
      value = faulty (register c.args.pc) 31 _ i (take i xs) c.loop-index.numbers c.loop-index.invariant.0
          c.in_err-value.field-0.0 test (fault-along c.in_err-value.field-0.0 _ _ at c.in_err-value.ensures.value);
    }

pub loop-index-preserved : goal.loop-index-preserved
loop-index-preserved c =
    let i = c.loop-index.index in
    let xs = c.loop-index.found in
    let len : length xs ≡ 31 = c.loop-index.invariant.1 in
    let test : i < 31 = c.loop-index-test.true in
    let low : i < length xs = omega (arith, len, test) in
    let same : length (take i xs) ≡ i = length-take-le i xs (omega (arith, len, test)) in
    let at = ap (λ (k : ℕ). field (λ n. not (c.args.pc == 0x1328 && k == 4) || n == 0) c.loop-index.numbers) same in (
      read-on (register c.args.pc) 31 _ i (take i xs) c.loop-index.numbers c.loop-index.invariant.0
          _ c.next_register.new.numbers c.in_ok-value.value test (at ∙ c.in_ok-value.ensures.value) (take_more_set xs i c.in_ok-value.value low),
      length-set xs i c.in_ok-value.value ∙ len,
    )

pub returns : goal.returns
returns c =
    let i = c.loop-index.index in
    let xs = c.loop-index.found in
    let len : length xs ≡ 31 = c.loop-index.invariant.1 in
    let test : 31 ≤ i = c.loop-index-test.false in
    let all : take i xs ≡ xs = take_all i xs (omega (arith, len, test)) in
    record { value = read-all (register c.args.pc) 31 _ i (take i xs) c.loop-index.numbers c.loop-index.invariant.0 xs test (sym all) }
