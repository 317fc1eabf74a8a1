-- Words of 32 bits as numbers, and signed numbers in them.
use Rattle.std.specs.Prelude.{ℕ, ◌+◌, ◌-◌, ◌*◌, ◌/◌, ◌%◌, ◌^◌, ◌<◌, ℤ, pos, negsuc, nat_lt, if◌then◌else◌}

-- `count` bits of a word from the bit `low` on
abbrev pub bits : ℕ → ℕ → ℕ → ℕ
bits low count word = word / 2 ^ low % 2 ^ count

-- sums are modulo 2 ^ 32
abbrev pub low_word : ℕ → ℕ
low_word n = n % 2 ^ 32

-- the address of the word that a byte lies in
abbrev pub word_address : ℕ → ℕ
word_address at = at / 4 * 4

-- a signed number as `width` bits
abbrev pub two_complement : ℕ → ℤ → ℕ
two_complement width (pos n) = n
two_complement width (negsuc n) = 2 ^ width - (n + 1)

-- `width` bits as a signed number
abbrev pub sign_extend : ℕ → ℕ → ℤ
sign_extend width n = if nat_lt n (2 ^ (width - 1)) then pos n else negsuc (2 ^ width - 1 - n)

-- a signed number that fits `below + 1` bits: `below` bits and the sign
abbrev pub IsInBits : ℕ → ℤ → Type 0
IsInBits below (pos n) = n < 2 ^ below
IsInBits below (negsuc n) = n < 2 ^ below
