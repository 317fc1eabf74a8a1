-- Numbers as a reader holds them, which stays at a cap where there are more digits: the cap is above every range, so nothing is
-- lost.
use Rattle.std.specs.Prelude.{ℕ, ◌-◌, ◌^◌, min, ℤ, pos, negsuc}

abbrev pub cap : ℕ
cap = 2 ^ 33

abbrev pub capped : ℕ → ℕ
capped n = min n cap

abbrev pub capped_number : ℤ → ℤ
capped_number (pos n) = pos (min n cap)
capped_number (negsuc n) = negsuc (min n (cap - 1))
