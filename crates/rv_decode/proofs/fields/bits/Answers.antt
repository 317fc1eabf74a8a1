-- A mask of low bits is a remainder.
use Rattle.std.proofs.Common.{ap, ◌∙◌, ◌≡◌, ◌*◌, ◌^◌, ◌%◌, ◌/◌, ◌-◌}
use Rattle.std.proofs.lemmas.Nat.{and_mask, one_shl}
use lib.Bits.{bit_and}
use Rattle.rv_decode.proofs.fields.bits.Goals as goal

pub returns-clause-value : goal.returns-clause-value
returns-clause-value c =
    let fits : 1 * 2 ^ c.args.count % 4294967296 ≡ 2 ^ c.args.count = one_shl c.args.count 32 c.requires.count in
    ap (λ m. bit_and (c.args.word / 2 ^ c.args.low) (m - 1)) fits ∙ and_mask (c.args.word / 2 ^ c.args.low) c.args.count
