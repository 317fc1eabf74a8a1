-- A digit more.
use Rattle.std.proofs.Common.{◌+◌, ◌*◌, ◌<◌, ◌∙◌, cond, ap, sym, arith, drop, Some, None}
use Rattle.std.proofs.lemmas.Bool.{lt-ltb}
use Rattle.asm_line.specs.Numbers.{with_digit, digits_after}
use Rattle.asm_line.specs.Capped.{capped}
use Rattle.asm_line.proofs.Digits.{digits_after-more, capped_more}
use Rattle.asm_line.proofs.numbers.digits_after.Goals as goal

pub loop-b-preserved : goal.loop-b-preserved
loop-b-preserved c =
    let n = c.loop-b.invariant.0 in
    let i = c.loop-b.b-index in
    let text = c.args.text.now in
    let base = c.args.base in
    let d = c.in_ok-digit.digit in
    let inside : d < base = omega arith in (
      n * base + d,
      c.min-value.ensures ∙ ap (λ v. capped (v * base + d)) c.loop-b.invariant.1 ∙ capped_more n base d (omega arith),
      c.loop-b.invariant.2 ∙ digits_after-more base n text i (omega arith)
          ∙ ap (λ o. digits_after base (with_digit base n o) (drop (i + 1) text)) (sym c.in_ok-digit.ensures.value)
          ∙ ap (λ t. digits_after base (cond t (Some (n * base + d)) None) (drop (i + 1) text)) (lt-ltb d base inside),
    )
