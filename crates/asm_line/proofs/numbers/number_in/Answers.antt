-- Up to the cap the range is judged alike.
use Rattle.std.proofs.Common.{◌∙◌, ap, arith}
use Rattle.std.specs.Int.{w64}
use Rattle.std.proofs.lemmas.Int.{to_z-of_z}
use Rattle.asm_line.specs.declared.line.AsmKind.TheVariants.{BadNumber}
use Rattle.asm_line.specs.Numbers.{number_of}
use Rattle.asm_line.specs.Operands.{in_range, or_fault, ◌>>=◌}
use Rattle.asm_line.proofs.Digits.{number-capped}
use Rattle.asm_line.proofs.numbers.number_in.Goals as goal

pub returns-in-Some-clause-value : goal.returns-in-Some-clause-value
returns-in-Some-clause-value c =
    let below = c.args.below in
    let above = c.args.above in
    let read = rw (to_z-of_z w64 c.in-Some.number c.in-Some.ensures.fits) at c.in_range.ensures.value in
    read ∙ ap (λ o. or_fault o BadNumber >>= λ n. in_range below above n) c.in-Some.ensures.value
    ∙ number-capped below above (number_of c.args.text.now) (omega arith) (omega arith)
