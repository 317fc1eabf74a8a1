-- Every CSR of the table has a number of 12 bits.
use Rattle.std.proofs.Common.{ℕ, ◌<◌, ◌^◌, Option, IfSome, refl, sym, subst}
use Rattle.asm_line.specs.Names.{csr_names}
use Rattle.asm_line.proofs.Range.{named_below}
use Rattle.asm_line.proofs.names.csr.Goals as goal

pub returns-in-Some-clause-bound : goal.returns-in-Some-clause-bound
returns-in-Some-clause-bound c =
    let P : Option ℕ → Type 0 = λ o. IfSome o (λ n. n < 2 ^ 12) in
    subst P (sym c.in-Some.ensures.value) (named_below (2 ^ 12) csr_names c.args.text.now refl)
