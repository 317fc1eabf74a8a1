-- A digit more, and a byte that is none.
use Rattle.std.proofs.Common.{◌≡◌, arith, true, false, get_or, sym, ◌∙◌}
use Rattle.std.proofs.lemmas.Int.Digits.{digits_value_more, digits_more}
use Rattle.std.proofs.lemmas.Str.{digit_value_digit}
use Rattle.std.proofs.lemmas.Str.Parse.{digit_at}
use Rattle.std.specs.Char.{is_ascii_digit}
use Rattle.timer_plan.proofs.Spelling.{digit_range, no_digit, digit_below}
use Rattle.timer_plan.proofs.token.decimal.Goals as goal

pub loop-digit-preserved : goal.loop-digit-preserved
loop-digit-preserved c =
    let text = c.args.text.now in
    let i = c.loop-digit.digit-index in
    let lt = c.loop-digit-test.true in
    let is : is_ascii_digit (get_or text i 0) ≡ true = sym c.is_ascii_digit.ensures.value ∙ c.if-not-is_ascii_digit.false in
    let range = digit_range (get_or text i 0) is in
    let digit = digit_value_digit (get_or text i 0) range in
    let more = digits_value_more 10 text i lt in record {
      value = omega (arith, c.min-value.ensures, c.from.ensures);
      digits = digits_more 10 text i lt c.loop-digit.invariant.digits (digit_below (get_or text i 0) range);
    }

pub returns-then-not-is_ascii_digit-clause-none : goal.returns-then-not-is_ascii_digit-clause-none
returns-then-not-is_ascii_digit-clause-none c =
    let text = c.args.text.now in
    let i = c.loop-digit.digit-index in
    let is : is_ascii_digit (get_or text i 0) ≡ false = sym c.is_ascii_digit.ensures.value ∙ c.if-not-is_ascii_digit.true in
    λ number h. no_digit (get_or text i 0) is (digit_at text i h.digits.1 c.loop-digit-test.true)
