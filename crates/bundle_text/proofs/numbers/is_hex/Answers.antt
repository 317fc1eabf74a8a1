-- What isn't a digit.
use Rattle.std.proofs.Common.{◌≡◌, ◌+◌, ◌∙◌, arith, sym, ap, drop, Some, None, is_some}
use Rattle.bundle_text.specs.Numbers.{hex_after, with_digit}
use Rattle.bundle_text.proofs.HexDigits.{hex_after-None, hex_after-more}
use Rattle.bundle_text.proofs.numbers.is_hex.Goals as goal

pub returns-in-None : goal.returns-in-None
returns-in-None c =
    let text = c.args.text.now in
    let i = c.loop-b.b-index in
    let n = c.loop-b.invariant.0 in
    let more : hex_after (Some n) (drop i text) ≡ None =
    hex_after-more text i (Some n) (omega arith)
    ∙ ap (λ d. hex_after (with_digit n d) (drop (i + 1) text)) (sym c.in-None.ensures.value) ∙ hex_after-None (drop (i + 1) text) in
    record { value = rw c.loop-b.invariant.2 (sym (ap is_some (c.loop-b.invariant.1 ∙ more))) }
