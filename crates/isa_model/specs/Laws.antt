-- What holds of the effect table and of the run alone, whatever the task. Each is the contract of a law in `src/laws.rt`.
use Rattle.std.specs.Prelude.{◌≡◌, ℕ, ◌%◌, ◌^◌, ◌<◌, ◌⊎◌, true, ℤ, pos, ◌+ℤ◌, ◌*ℤ◌, unsigned_abs, int_lt}
use Rattle.isa_model.specs.declared.instr.Instr.{Instr}
use Rattle.isa_model.specs.declared.instr.Alu.TheVariants.{Div, Rem}
use Rattle.isa_model.specs.declared.latch.Latch.TheVariants.{Reg}
use Rattle.isa_model.specs.declared.task.Task.{Task}
use Rattle.isa_model.specs.Bits.{two_complement}
use Rattle.isa_model.specs.Arithmetic.{alu_of, signed}
use Rattle.isa_model.specs.Effect.{Operands, effect_of, has_no_repetition}
use Rattle.isa_model.specs.Alone.{alone_at}
use Rattle.isa_model.specs.AloneValue.{alone_value}

-- An instruction writes a latch at most once.
abbrev pub WritesEachLatchOnce : Type 0
WritesEachLatchOnce = (instr : Instr) (pc : ℕ) (o : Operands) → has_no_repetition (effect_of instr pc o).writes ≡ true

-- x0 is 0 (unprivileged manual, RV32I, "Programmers' Model").
abbrev pub ZeroRegisterStays : Type 0
ZeroRegisterStays = (T : Task) (n : ℕ) → alone_value T n (Reg 0) ≡ 0

-- The pc of the run alone is a multiple of 4.
abbrev pub PcIsAligned : Type 0
PcIsAligned = (T : Task) (n : ℕ) → T.code_at % 4 ≡ 0 → (alone_at T n).pc % 4 ≡ 0

-- A signed division of words: the divisor times the quotient and the remainder make the dividend, and the remainder is nearer to 0 than
-- the divisor and 0 or of the sign of the dividend (unprivileged manual, M, "Division Operations"). The words are those of quotient and
-- remainder.
pub record IsDivision (a b : ℕ) : Type 0 where
  pub quotient : ℤ
  pub remainder : ℤ
  pub adds_up : quotient *ℤ signed b +ℤ remainder ≡ signed a
  pub is_smaller : unsigned_abs remainder < unsigned_abs (signed b)
  pub sign : (remainder ≡ pos 0) ⊎ (int_lt remainder (pos 0) ≡ int_lt (signed a) (pos 0))
  pub quotient_word : alu_of Div a b ≡ two_complement 32 quotient
  pub remainder_word : alu_of Rem a b ≡ two_complement 32 remainder

abbrev pub DividesTowardsZero : Type 0
DividesTowardsZero = (a b : ℕ) → a < 2 ^ 32 → 0 < b → b < 2 ^ 32 → IsDivision a b
