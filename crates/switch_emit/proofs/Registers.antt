-- Lines register by register: those of the registers from one on are its own and those of the registers from the next on.
use Rattle.std.proofs.Common.{◌≡◌, ◌≢◌, ℕ, suc, ◌+◌, ◌-◌, ◌<◌, ◌≤◌, ◌==◌, true, false, not, List, [], ◌∷◌, ◌++◌, refl, arith, append_assoc}
use Rattle.std.proofs.lemmas.List.{append-nil}
use Rattle.std.proofs.lemmas.Bool.Decides.{nat_tests}
use Rattle.std.specs.List.{flat_map, filter}
use Rattle.core_model.specs.KernelText.{Line, numbers_from, x5}

from_next : (r : ℕ) → r < 32 → numbers_from r (32 - r) ≡ r ∷ numbers_from (r + 1) (32 - (r + 1))
from_next r h =
    let e : 32 - r ≡ suc (32 - (r + 1)) = omega arith in
    rw e refl

from_end : (r : ℕ) → 32 ≤ r → numbers_from r (32 - r) ≡ []
from_end r h =
    let e : 32 - r ≡ 0 = omega arith in
    rw e refl

kept : (r : ℕ) → r ≢ x5 → not (r == x5) ≡ true
kept r h = grind (arith, nat_tests)

skipped : (r : ℕ) → r ≡ x5 → not (r == x5) ≡ false
skipped r h = grind (arith, nat_tests)

-- the lines so far with those of the registers from r on are all
module _ (f : ℕ → List Line) (r : ℕ) (lines all : List Line) where
  pub next_each : r < 32 → lines ++ flat_map f (numbers_from r (32 - r)) ≡ all
      → (lines ++ f r) ++ flat_map f (numbers_from (r + 1) (32 - (r + 1))) ≡ all
  next_each below e = rw append_assoc (rw (from_next r below) at e)

  pub next_kept : r < 32 → r ≢ x5 → lines ++ flat_map f (filter (λ i. not (i == x5)) (numbers_from r (32 - r))) ≡ all
      → (lines ++ f r) ++ flat_map f (filter (λ i. not (i == x5)) (numbers_from (r + 1) (32 - (r + 1)))) ≡ all
  next_kept below other e = rw append_assoc (rw (from_next r below, kept r other) at e)

  pub next_skipped : r < 32 → r ≡ x5 → lines ++ flat_map f (filter (λ i. not (i == x5)) (numbers_from r (32 - r))) ≡ all
      → lines ++ flat_map f (filter (λ i. not (i == x5)) (numbers_from (r + 1) (32 - (r + 1)))) ≡ all
  next_skipped below same e = rw (from_next r below, skipped r same) at e

  pub all_each : 32 ≤ r → lines ++ flat_map f (numbers_from r (32 - r)) ≡ all → lines ≡ all
  all_each past e = rw (from_end r past, append-nil) at e

  pub all_kept : 32 ≤ r → lines ++ flat_map f (filter (λ i. not (i == x5)) (numbers_from r (32 - r))) ≡ all → lines ≡ all
  all_kept past e = rw (from_end r past, append-nil) at e
