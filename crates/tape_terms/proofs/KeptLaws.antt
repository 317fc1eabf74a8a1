-- Operations that give one of their operands.
use Rattle.std.proofs.Common.{◌≡◌, ℕ, ◌^◌, ◌<◌, true, arith}
use Rattle.std.specs.Int.Bits.{and_self, or_self, xor_zero_l, xor_zero_r, or_zero_l, or_zero_r}
use Rattle.isa_model.specs.Arithmetic.{alu_of}
use Rattle.isa_model.specs.declared.instr.Alu.{Alu}
use Rattle.isa_model.specs.declared.instr.Alu.TheVariants.{Add, Sub, Sll, Xor, Srl, Or, And}
use Rattle.tape_terms.specs.Kept.{keeps_first, keeps_second, keeps_both}

pub first-kept : (op : Alu) → keeps_first op ≡ true → (v : ℕ) → v < 2 ^ 32 → alu_of op v 0 ≡ v
first-kept Add is v low = omega arith
first-kept Sub is v low = grind arith
first-kept Sll is v low = grind arith
first-kept Srl is v low = grind arith
first-kept Xor is v low = xor_zero_r v
first-kept Or is v low = or_zero_r v
first-kept _ is v low = cc

pub second-kept : (op : Alu) → keeps_second op ≡ true → (v : ℕ) → v < 2 ^ 32 → alu_of op 0 v ≡ v
second-kept Add is v low = omega arith
second-kept Xor is v low = xor_zero_l v
second-kept Or is v low = or_zero_l v
second-kept _ is v low = cc

pub both-kept : (op : Alu) → keeps_both op ≡ true → (v : ℕ) → alu_of op v v ≡ v
both-kept Or is v = or_self v
both-kept And is v = and_self v
both-kept _ is v = cc
