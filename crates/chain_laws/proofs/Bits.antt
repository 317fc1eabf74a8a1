-- Exclusive ors of shares.
use Rattle.std.proofs.Common.{◌≡◌, ℕ, ◌+◌, ◌%◌, ◌<◌, min, bit_and, bit_xor, arith}
use Rattle.std.specs.Int.{bit_at}
use Rattle.std.proofs.lemmas.Nat.Bits.{bit_at_and, bit_at_xor, bit_at-lt, same_from_bits}

-- one bit: the exclusive or of the shares after an Xor
xor_bit : (s t b c : ℕ) → s < 2 → t < 2 → b < 2 → c < 2 → ((s + b) % 2 + (t + c) % 2) % 2 ≡ ((s + t) % 2 + (b + c) % 2) % 2
xor_bit s t b c hs ht hb hc = omega arith

pub xor_shares : (s t b c : ℕ) → bit_xor (bit_xor s b) (bit_xor t c) ≡ bit_xor (bit_xor s t) (bit_xor b c)
xor_shares s t b c =
    same_from_bits _ _ (λ i. simp (bit_at_xor) (xor_bit (bit_at s i) (bit_at t i) (bit_at b i) (bit_at c i) (bit_at-lt s i) (bit_at-lt t i) (bit_at-lt b i) (bit_at-lt c i)))

-- one bit: the exclusive or of the shares after an And
and_bit : (s t b c m : ℕ) → s < 2 → t < 2 → b < 2 → c < 2 → m < 2
    → ((min s b + (min s c + m) % 2) % 2 + (min t c + (min t b + m) % 2) % 2) % 2 ≡ min ((s + t) % 2) ((b + c) % 2)
and_bit s t b c m hs ht hb hc hm = omega arith

pub and_shares : (s t b c m : ℕ)
    → bit_xor (bit_xor (bit_and s b) (bit_xor (bit_and s c) m)) (bit_xor (bit_and t c) (bit_xor (bit_and t b) m)) ≡ bit_and (bit_xor s t) (bit_xor b c)
and_shares s t b c m =
    same_from_bits _ _ (λ i. simp (bit_at_xor, bit_at_and) (and_bit (bit_at s i) (bit_at t i) (bit_at b i) (bit_at c i) (bit_at m i)
    (bit_at-lt s i) (bit_at-lt t i) (bit_at-lt b i) (bit_at-lt c i) (bit_at-lt m i)))
