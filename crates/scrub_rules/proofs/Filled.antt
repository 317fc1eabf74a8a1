-- Lists of which the items from 1 on are written one by one.
use Rattle.std.proofs.Common.{◌≡◌, ℕ, zero, suc, ◌+◌, ◌≤◌, List, set, replicate, refl, ap, arith}
use Rattle.routine_laws.specs.declared.content.Content.{Content}
use Rattle.routine_laws.specs.declared.content.Content.TheVariants.{Unknown, Public, TaskReg, OldSlotWord, SlotAddress}
use Rattle.routine_laws.specs.Accepted.{at_save, at_restore}

-- the list when the items below this index are written
abbrev pub filled : (ℕ → Content) → List Content → ℕ → List Content
filled content start zero = start
filled content start (suc zero) = start
filled content start (suc (suc k)) = set (filled content start (suc k)) (suc k) (content (suc k))

pub filled_more : (content : ℕ → Content) (start : List Content) (i : ℕ) → 1 ≤ i
    → set (filled content start i) i (content i) ≡ filled content start (i + 1)
filled_more content start zero low = absurd (omega (arith, low))
filled_more content start (suc k) low =
    let same : suc (suc k) ≡ suc k + 1 = omega arith in
    ap (λ n. filled content start n) same

pub filled_regs : filled TaskReg (replicate 32 Unknown) 32 ≡ at_save.regs
filled_regs = refl

pub filled_old_slot : filled OldSlotWord (replicate 36 Unknown) 32 ≡ at_save.slot
filled_old_slot = refl

pub filled_slot : filled TaskReg (replicate 36 Public) 32 ≡ at_restore.slot
filled_slot = refl

pub public_regs_are : set (replicate 32 Public) 5 SlotAddress ≡ at_restore.regs
public_regs_are = refl
