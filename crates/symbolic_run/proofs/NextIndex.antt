-- Where a jump goes, by its index among instructions that stand from an address on.
use Rattle.std.proofs.Common.{◌≡◌, ℕ, ◌+◌, ◌*◌, ◌/◌, ◌%◌, ◌≤◌, ◌<◌, true, ◌&&◌, ◌==◌, nat_lt, ℤ, Some, arith, eqb-true, ltb-true, eq-eqb}
use Rattle.std.proofs.lemmas.Bool.{and_parts}
use Rattle.isa_model.specs.Bits.{low_word, two_complement}
use Rattle.symbolic_run.specs.SymbolicPath.{index_after}
use Rattle.symbolic_run.proofs.Reach.{some-if}

-- a distance in bytes leads from an index to another one, as it leads from pc to pc
target-of : (base index pc distance to : ℕ) → base ≤ 8192 → pc ≡ base + 4 * index
    → (4 * index + distance) % 4294967296 % 4 ≡ 0 → (4 * index + distance) % 4294967296 < 4096 → (4 * index + distance) % 4294967296 / 4 ≡ to
    → (pc + distance) % 4294967296 ≡ base + 4 * to
target-of base index pc distance to high is even low there = omega (arith, high, is, even, low, there)

-- the target of a jump or a branch at an index is the instruction of the other index
pub target-pc : (base index pc to : ℕ) (off : ℤ) → base ≤ 8192 → pc ≡ base + 4 * index
    → index_after index off ≡ Some to → low_word (pc + two_complement 32 off) ≡ base + 4 * to
target-pc base index pc to off high is found =
    let at = low_word (4 * index + two_complement 32 off) in
    let p = some-if ((at % 4 == 0) && nat_lt at 4096) (at / 4) to found in
    let q = and_parts (at % 4 == 0) (nat_lt at 4096) p.0 in
    target-of base index pc (two_complement 32 off) to high is (eqb-true _ _ q.0) (ltb-true _ _ q.1) p.1

-- and it is a multiple of 4
pub index-aligned : (base index at : ℕ) → base % 4 ≡ 0 → at ≡ base + 4 * index → (at % 4 == 0) ≡ true
index-aligned base index at aligned is = eq-eqb _ _ (omega (arith, aligned, is))
