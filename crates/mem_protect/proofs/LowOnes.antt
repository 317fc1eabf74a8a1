-- The low ones of a word, as std counts them, and what they amount to.
use Rattle.std.proofs.Common.{◌≡◌, ℕ, zero, suc, ◌+◌, ◌*◌, ◌-◌, ◌/◌, ◌%◌, ◌^◌, ◌<◌, ◌≤◌, ◌⊎◌, inl, inr, refl, ap, ◌∙◌, arith}
use Rattle.std.specs.Int.Count.{count_trailing_zeros}
use Rattle.std.proofs.Math.Nat.{pow-succ'}
use Rattle.hart_model.specs.Pmp.{low_ones}

even_or_odd : (n : ℕ) → (n % 2 ≡ 0) ⊎ (n % 2 ≡ 1)
even_or_odd n = grind arith

complement_of_even : (x n : ℕ) → n < 2 * x → n % 2 ≡ 0 → (2 * x - 1 - n) % 2 ≡ 1
complement_of_even x n below even = omega arith

complement_of_odd : (x n : ℕ) → n < 2 * x → n % 2 ≡ 1 → (2 * x - 1 - n) % 2 ≡ 0
complement_of_odd x n below odd = omega arith

half_of_complement : (x n : ℕ) → n < 2 * x → n % 2 ≡ 1 → (2 * x - 1 - n) / 2 ≡ x - 1 - n / 2
half_of_complement x n below odd = omega arith

complement_step : (width n : ℕ) → n < 2 ^ suc width → count_trailing_zeros width (2 ^ width - 1 - n / 2) ≡ low_ones width (n / 2) → (n % 2 ≡ 0) ⊎ (n % 2 ≡ 1) →
    count_trailing_zeros (suc width) (2 ^ suc width - 1 - n) ≡ low_ones (suc width) n
unfolding count_trailing_zeros low_ones
complement_step width n h rest c =
    let twice = pow-succ' 2 width in
    let below : n < 2 * 2 ^ width = rw twice at h in
    elim c [
      | inl even ↦ rw (twice, complement_of_even (2 ^ width) n below even, even) refl
      | inr odd ↦ rw (twice, complement_of_odd (2 ^ width) n below odd, half_of_complement (2 ^ width) n below odd, odd) (omega arith)
    ]

-- the zeros below a word with every bit turned are its low ones
pub count_of_complement : (width n : ℕ) → n < 2 ^ width → count_trailing_zeros width (2 ^ width - 1 - n) ≡ low_ones width n
unfolding count_trailing_zeros low_ones
count_of_complement zero n h = refl
count_of_complement (suc width) n h =
    let below : n < 2 * 2 ^ width = rw (pow-succ' 2 width) at h in
    complement_step width n h (count_of_complement width (n / 2) (omega arith)) (even_or_odd n)

least_step : (width n : ℕ) → 2 ^ low_ones width (n / 2) - 1 ≤ n / 2 → (n % 2 ≡ 0) ⊎ (n % 2 ≡ 1) → 2 ^ low_ones (suc width) n - 1 ≤ n
unfolding low_ones
least_step width n half (inl even) = rw even (omega arith)
least_step width n half (inr odd) =
    let twice : 2 ^ (1 + low_ones width (n / 2)) ≡ 2 * 2 ^ low_ones width (n / 2) = ap (λ k. 2 ^ k) (omega arith) ∙ pow-succ' 2 (low_ones width (n / 2)) in
    rw (odd, twice) (omega arith)

-- a word is at least its low ones
pub low_ones-least : (width n : ℕ) → 2 ^ low_ones width n - 1 ≤ n
unfolding low_ones
low_ones-least zero n = omega arith
low_ones-least (suc width) n = least_step width n (low_ones-least width (n / 2)) (even_or_odd n)
