-- Latches: when two are one, and their order (this project's own).
use Rattle.std.specs.Prelude.{◌≡◌, ℕ, ◌+◌, ◌<◌, Bool, true, false, ◌==◌, ◌⊎◌, nat_lt}
use Rattle.isa_model.specs.declared.latch.Latch.{Latch}
use Rattle.isa_model.specs.declared.latch.Latch.TheVariants.{Reg, PortA, PortB, Res, Load, Store, Scr, Mul, Mem}

abbrev pub same_latch : Latch → Latch → Bool
same_latch (Reg a) (Reg b) = a == b
same_latch (Mem a) (Mem b) = a == b
same_latch PortA PortA = true
same_latch PortB PortB = true
same_latch Res Res = true
same_latch Load Load = true
same_latch Store Store = true
same_latch Scr Scr = true
same_latch Mul Mul = true
same_latch _ _ = false

-- the register of a latch exists
abbrev pub IsLatch : Latch → Type 0
IsLatch (Reg r) = r < 32
IsLatch _ = Unit {0}

-- the place of a latch in the order: registers by number, PortA, PortB, Res, Load, Store, Scr, Mul, memory by address
abbrev pub latch_rank : Latch → ℕ
latch_rank (Reg r) = r
latch_rank PortA = 32
latch_rank PortB = 33
latch_rank Res = 34
latch_rank Load = 35
latch_rank Store = 36
latch_rank Scr = 37
latch_rank Mul = 38
latch_rank (Mem a) = 39 + a

abbrev pub is_before : Latch → Latch → Bool
is_before a b = nat_lt (latch_rank a) (latch_rank b)

-- The order is strict, and of two latches that are not one, one comes before the other.
pub record IsStrictTotalOrder (before : Latch → Latch → Bool) : Type 0 where
  pub irreflexive : (a : Latch) → before a a ≡ false
  pub transitive : (a b c : Latch) → before a b ≡ true → before b c ≡ true → before a c ≡ true
  pub total : (a b : Latch) → IsLatch a → IsLatch b → (before a b ≡ true) ⊎ (before b a ≡ true) ⊎ (a ≡ b)
