-- A digit, and what is read after it.
use Rattle.std.proofs.Common.{◌-◌, arith, length, get_or, take, drop}
use Rattle.std.specs.Int.{IsInRange as IsBetween}
use Rattle.timer_plan.proofs.Spelling.{first_and_rest, digit_decimal, times_after}
use Rattle.timer_plan.proofs.token.numbers_of.Goals as goal

pub returns-in_err-times-in-48-to-57-clause-none : goal.returns-in_err-times-in-48-to-57-clause-none
returns-in_err-times-in-48-to-57-clause-none c =
    let text = c.args.text.now in
    let suffix = take (length text - 1) (drop 1 text) in
    rw c.from_residual.ensures
    (λ hart times h. c.in_err-times-in-48-to-57.ensures.none times (times_after text suffix (get_or text 0 0) hart times (first_and_rest text (omega arith)) h))

pub returns-in_ok-times-in-48-to-57-clause-found : goal.returns-in_ok-times-in-48-to-57-clause-found
returns-in_ok-times-in-48-to-57-clause-found c =
    let text = c.args.text.now in
    let p = c.in_ok-times-in-48-to-57.ensures.found in
    let range : IsBetween 48 57 (get_or text 0 0) = (omega arith, omega arith) in (
      p.0,
      p.1,
      record {
        digit = get_or text 0 0;
        suffix = take (length text - 1) (drop 1 text);
        parts = first_and_rest text (omega arith);
        hart_is = digit_decimal (get_or text 0 0) c.from.result range (omega (arith, c.from.ensures));
        times_are = p.2;
      },
    )
