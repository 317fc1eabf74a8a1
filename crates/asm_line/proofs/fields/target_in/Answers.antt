-- A target is the same up to the cap.
use Rattle.std.proofs.Common.{◌∙◌, ap, arith}
use Rattle.std.specs.Int.{w64}
use Rattle.std.proofs.lemmas.Int.{to_z-of_z}
use Rattle.asm_line.specs.Numbers.{distance_of}
use Rattle.asm_line.specs.Operands.{target_or_label}
use Rattle.asm_line.proofs.Digits.{target-capped}
use Rattle.asm_line.proofs.fields.target_in.Goals as goal

pub returns-in-Some : goal.returns-in-Some
returns-in-Some c =
    let read = rw (to_z-of_z w64 c.in-Some.off c.in-Some.ensures.fits) at c.distance_in.ensures.value in
    record {
      value = read ∙ ap (λ o. target_or_label c.args.reach o c.args.text.now) c.in-Some.ensures.value
          ∙ target-capped c.args.reach (distance_of c.args.text.now) c.args.text.now (omega arith);
    }
