-- The digits before the last one, and the last one.
use Rattle.std.proofs.Common.{◌-◌, ◌/◌, ◌%◌, ◌<◌, false, [], ◌∷◌, ◌++◌, ◌∙◌, ap, sym, arith, append_assoc}
use Rattle.std.specs.Fmt.{digit_glyph}
use Rattle.rv_decode.specs.Text.{hex_digits}
use Rattle.rv_decode.proofs.Hex.{hex_digits_step}
use Rattle.rv_decode.proofs.text.+add_hex.Goals as goal

pub returns : goal.returns
returns t c =
    let count = c.args.count in
    let number = c.args.number in
    let old = c.args.out.now.items in
    let front = hex_digits (count - 1) (number / 16) in
    let some : 0 < count = omega arith in
    record {
      ok = c.in_ok-push.ensures.items ∙ ap (λ l. l ++ c.hex_digit.result ∷ []) c.in_ok-add_hex.ensures.ok
          ∙ ap (λ d. (old ++ front) ++ d ∷ []) c.hex_digit.ensures.value
          ∙ append_assoc old front (digit_glyph false (number % 16) ∷ []) ∙ ap (λ l. old ++ l) (sym (hex_digits_step count number some));
    }
