-- What an operation gives of words is a word.
use Rattle.std.proofs.Common.{ℕ, suc, ◌-◌, ◌*◌, ◌^◌, ◌<◌, ◌≤◌, ℤ, pos, negsuc, ◌*ℤ◌, arith}
use Rattle.std.proofs.lemmas.Nat.{xor_lt, or_lt}
use Rattle.std.specs.Prelude.{bit_and}
use Rattle.std.proofs.lemmas.Nat.{and_le_l}
use Rattle.std.proofs.Common.{unsigned_abs, int_div, int_rem}
use Rattle.std.proofs.lemmas.Nat.{mul-le}
use Rattle.isa_model.specs.Bits.{two_complement}
use Rattle.isa_model.specs.Arithmetic.{alu_of, signed, high_word}
use Rattle.isa_model.specs.declared.instr.Alu.{Alu}
use Rattle.isa_model.specs.declared.instr.Alu.TheVariants.{Add, Sub, Sll, Slt, Sltu, Xor, Srl, Sra, Or, And, Mul, Mulh, Mulhsu, Mulhu, Div, Divu, Rem, Remu}

and_low : (a b : ℕ) → a < 2 ^ 32 → bit_and a b < 2 ^ 32
and_low a b low = omega (arith, and_le_l a b)

signed_small : (a : ℕ) → a < 2 ^ 32 → unsigned_abs (signed a) ≤ 2 ^ 31
signed_small a low = grind arith

high_low : (x y : ℤ) → unsigned_abs x < 2 ^ 32 → unsigned_abs y < 2 ^ 32 → high_word (x *ℤ y) < 2 ^ 32
high_low (pos m) (pos n) first second = let most : m * n ≤ (2 ^ 32 - 1) * (2 ^ 32 - 1) = mul-le m n (2 ^ 32 - 1) (2 ^ 32 - 1) (omega arith) (omega arith) in omega arith
high_low (pos m) (negsuc n) first second = grind arith
high_low (negsuc m) (pos n) first second = grind arith
high_low (negsuc m) (negsuc n) first second =
    let most : suc m * suc n ≤ (2 ^ 32 - 1) * (2 ^ 32 - 1) = mul-le (suc m) (suc n) (2 ^ 32 - 1) (2 ^ 32 - 1) (omega arith) (omega arith) in omega arith

quotient_low : (x y : ℤ) → unsigned_abs x ≤ 2 ^ 31 → two_complement 32 (int_div x y) < 2 ^ 32
quotient_low (pos m) (pos n) small = grind arith
quotient_low (pos m) (negsuc n) small = grind arith
quotient_low (negsuc m) (pos n) small = grind arith
quotient_low (negsuc m) (negsuc n) small = grind arith

remainder_low : (x y : ℤ) → unsigned_abs x ≤ 2 ^ 31 → two_complement 32 (int_rem x y) < 2 ^ 32
remainder_low (pos m) y small = grind arith
remainder_low (negsuc m) y small = grind arith

pub alu-is_word : (op : Alu) (a b : ℕ) → a < 2 ^ 32 → b < 2 ^ 32 → alu_of op a b < 2 ^ 32
alu-is_word Add a b low_a low_b = grind arith
alu-is_word Sub a b low_a low_b = grind arith
alu-is_word Sll a b low_a low_b = grind arith
alu-is_word Slt a b low_a low_b = grind arith
alu-is_word Sltu a b low_a low_b = grind arith
alu-is_word Xor a b low_a low_b = xor_lt 32 a b low_a low_b
alu-is_word Srl a b low_a low_b = grind arith
alu-is_word Sra a b low_a low_b = grind arith
alu-is_word Or a b low_a low_b = or_lt 32 a b low_a low_b
alu-is_word And a b low_a low_b = and_low a b low_a
alu-is_word Mul a b low_a low_b = grind arith
alu-is_word Mulh a b low_a low_b = let first = signed_small a low_a in let second = signed_small b low_b in high_low (signed a) (signed b) (omega arith) (omega arith)
alu-is_word Mulhsu a b low_a low_b = let first = signed_small a low_a in high_low (signed a) (pos b) (omega arith) low_b
alu-is_word Mulhu a b low_a low_b = high_low (pos a) (pos b) low_a low_b
alu-is_word Div a b low_a low_b = grind (arith, quotient_low (signed a) (signed b) (signed_small a low_a))
alu-is_word Divu a b low_a low_b = grind arith
alu-is_word Rem a b low_a low_b = grind (arith, remainder_low (signed a) (signed b) (signed_small a low_a))
alu-is_word Remu a b low_a low_b = grind arith
