-- A digit more, and what isn't one.
use Rattle.std.proofs.Common.{◌≡◌, ◌+◌, ◌*◌, ◌∙◌, arith, sym, ap, drop, Some, None}
use Rattle.bundle_text.specs.Numbers.{hex_after, with_digit}
use Rattle.bundle_text.proofs.HexDigits.{hex_after-None, hex_after-more, seven, eight, grows}
use Rattle.bundle_text.proofs.numbers.hex_number.Goals as goal

pub overflow_mul-value : goal.overflow_mul-value
overflow_mul-value c =
    let lt = seven c.loop-b.value c.loop-b.b-index c.loop-b.invariant.0 (omega arith) in omega arith

pub overflow_add-value : goal.overflow_add-value
overflow_add-value c =
    let lt = seven c.loop-b.value c.loop-b.b-index c.loop-b.invariant.0 (omega arith) in omega (arith, c.from.ensures)

pub returns-in-None : goal.returns-in-None
returns-in-None c =
    let text = c.args.text.now in
    let i = c.loop-b.b-index in
    let more : hex_after (Some c.loop-b.value) (drop i text) ≡ None =
    hex_after-more text i (Some c.loop-b.value) (omega arith)
    ∙ ap (λ d. hex_after (with_digit c.loop-b.value d) (drop (i + 1) text)) (sym c.in-None.ensures.value) ∙ hex_after-None (drop (i + 1) text) in
    record { value = rw c.loop-b.invariant.2 (sym (c.loop-b.invariant.1 ∙ more)) }

pub loop-b-preserved : goal.loop-b-preserved
loop-b-preserved c =
    let text = c.args.text.now in
    let i = c.loop-b.b-index in (
      rw c.from.ensures (grows c.loop-b.value c.in-Some.digit i c.loop-b.invariant.0 c.in-Some.ensures.bound),
      c.loop-b.invariant.1 ∙ hex_after-more text i (Some c.loop-b.value) (omega arith)
          ∙ ap (λ d. hex_after (with_digit c.loop-b.value d) (drop (i + 1) text)) (sym c.in-Some.ensures.value)
          ∙ ap (λ d. hex_after (Some (c.loop-b.value * 16 + d)) (drop (i + 1) text)) (sym c.from.ensures),
      c.loop-b.invariant.2,
    )

pub overflow_cast-result : goal.overflow_cast-result
overflow_cast-result c =
    let lt = eight c.loop-b.value c.loop-b.b-index c.loop-b.invariant.0 (omega (arith, c.requires.few)) in omega arith
