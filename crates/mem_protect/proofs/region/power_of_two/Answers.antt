-- Shifts of 1 and of 8 lose no bit.
use Rattle.std.proofs.Common.{◌≡◌, ◌^◌, ◌+◌, ◌*◌, ◌%◌, arith, refl}
use Rattle.std.proofs.lemmas.Nat.{one_shl, shl_whole, pow-add}
use Rattle.mem_protect.proofs.region.power_of_two.Goals as goal

pub returns : goal.returns
returns c =
    let ones = c.low_ones-ones.result in
    let small = c.low_ones-ones.ensures.bound in
    let one : 1 * 2 ^ ones % 2 ^ 64 ≡ 2 ^ ones = one_shl ones 64 (omega arith) in
    let eight : 8 * 2 ^ ones % 2 ^ 64 ≡ 8 * 2 ^ ones = shl_whole 8 4 ones 64 (omega arith) (omega arith) in
    let size : 2 ^ (ones + 3) ≡ 8 * 2 ^ ones = rw (pow-add 2 ones 3) (omega arith) in
    record { value = rw (c.from.ensures, one, eight, ← size, c.low_ones-ones.ensures.value) refl }
