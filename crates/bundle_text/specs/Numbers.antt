-- The number of a token, and why it has none.
use Rattle.std.specs.Prelude.{ℕ, ◌+◌, ◌-◌, ◌*◌, Bool, ◌&&◌, ◌==◌, nat_le, List, [], ◌∷◌, Option, Some, None, Result, Ok, Err, length, if◌then◌else◌}
use Rattle.bundle_text.specs.declared.bundle.BundleKind.{BundleKind}
use Rattle.bundle_text.specs.declared.bundle.BundleKind.TheVariants.{BadNumber, OutOfRange}

-- `0` is 48, `9` is 57
abbrev pub is_decimal_digit : ℕ → Bool
is_decimal_digit b = nat_le 48 b && nat_le b 57

-- the number so far, and then more decimal digits
abbrev pub decimal_after : ℕ → List ℕ → Option ℕ
decimal_after so_far [] = Some so_far
decimal_after so_far (d ∷ ds) = if is_decimal_digit d then decimal_after (so_far * 10 + (d - 48)) ds else None

-- one or more decimal digits
abbrev pub decimal_of : List ℕ → Option ℕ
decimal_of [] = None
decimal_of (d ∷ ds) = decimal_after 0 (d ∷ ds)

-- the number, if it is one and in the range
abbrev pub number_within : ℕ → ℕ → Option ℕ → Result ℕ BundleKind
number_within low high None = Err BadNumber
number_within low high (Some n) = if nat_le low n && nat_le n high then Ok n else Err OutOfRange

-- the decimal number of a token, in a range
abbrev pub number_in : ℕ → ℕ → List ℕ → Result ℕ BundleKind
number_in low high token = number_within low high (decimal_of token)

-- `A` is 65 and `F` is 70; `a` is 97 and `f` is 102
abbrev pub hex_letter_of : ℕ → Option ℕ
hex_letter_of b =
    if nat_le 97 b && nat_le b 102 then Some (b - 87) else (if nat_le 65 b && nat_le b 70 then Some (b - 55) else None)

abbrev pub hex_digit_of : ℕ → Option ℕ
hex_digit_of b = if is_decimal_digit b then Some (b - 48) else hex_letter_of b

-- the number so far, and then a digit
abbrev pub with_digit : ℕ → Option ℕ → Option ℕ
with_digit so_far None = None
with_digit so_far (Some d) = Some (so_far * 16 + d)

abbrev pub with_char : Option ℕ → ℕ → Option ℕ
with_char None b = None
with_char (Some so_far) b = with_digit so_far (hex_digit_of b)

-- the number so far, and then more hexadecimal digits
abbrev pub hex_after : Option ℕ → List ℕ → Option ℕ
hex_after so_far [] = so_far
hex_after so_far (b ∷ bs) = hex_after (with_char so_far b) bs

-- one or more hexadecimal digits of either case
abbrev pub hex_of : List ℕ → Option ℕ
hex_of text = if length text == 0 then None else hex_after (Some 0) text

-- the text after `0x` at its front, if it begins so
abbrev pub without_0x : List ℕ → List ℕ
without_0x [] = []
without_0x (b ∷ []) = b ∷ []
without_0x (b ∷ c ∷ bs) = if (b == 0x30) && (c == 0x78) then bs else b ∷ c ∷ bs

-- a number of at most so many digits
abbrev pub word_within : Bool → Option ℕ → Result ℕ BundleKind
word_within is_short None = Err BadNumber
word_within is_short (Some n) = if is_short then Ok n else Err OutOfRange

-- the word of hexadecimal digits, at most 8 of them
abbrev pub word_of_digits : List ℕ → Result ℕ BundleKind
word_of_digits digits = word_within (nat_le (length digits) 8) (hex_of digits)

-- the word of a token: hexadecimal digits, which `0x` may stand before
abbrev pub word_of : List ℕ → Result ℕ BundleKind
word_of token = word_of_digits (without_0x token)
