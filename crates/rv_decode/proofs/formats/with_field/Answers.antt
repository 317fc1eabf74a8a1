-- A field put above the used bits of a word is added to them.
use Rattle.std.proofs.Common.{ap, ◌∙◌, ◌≡◌, ◌*◌, ◌^◌, ◌%◌, arith}
use Rattle.std.proofs.lemmas.Nat.{or_shifted, or_comm}
use Rattle.std.proofs.Math.Nat.{mod-eq_of_lt}
use lib.Bits.{bit_or}
use Rattle.rv_decode.proofs.formats.with_field.Goals as goal

pub returns : goal.returns
returns c =
    let v = c.args.value in
    let fits : v * 2 ^ c.args.low % 4294967296 ≡ v * 2 ^ c.args.low = mod-eq_of_lt c.requires.value in
    record {
      value = ap (λ m. bit_or c.args.word m) fits ∙ or_comm c.args.word (v * 2 ^ c.args.low)
          ∙ or_shifted v c.args.low c.args.word c.requires.word ∙ grind arith;
    }
