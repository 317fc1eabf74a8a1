-- The numbers of operands.
use Rattle.std.specs.Prelude.{ℕ, zero, suc, ◌+◌, ◌-◌, ◌*◌, ◌%◌, Bool, ◌&&◌, nat_lt, nat_le, ◌==◌, if◌then◌else◌, List, [], ◌∷◌, length, drop, codes, nat_eq, Option, Some, None, option_map, ℤ, pos, negsuc}
use Rattle.std.specs.List.{starts_with}

abbrev pub is_decimal_digit : ℕ → Bool
is_decimal_digit b = nat_le 0x30 b && nat_le b 0x39

abbrev pub is_lower_case : ℕ → Bool
is_lower_case b = nat_le 0x61 b && nat_le b 0x7a

abbrev pub is_upper_case : ℕ → Bool
is_upper_case b = nat_le 0x41 b && nat_le b 0x5a

-- the value of a digit; letters of either case go on after 9
abbrev pub digit_of : ℕ → Option ℕ
digit_of b =
    if is_decimal_digit b then Some (b - 0x30)
    else if is_lower_case b then Some (b - 0x61 + 10)
    else if is_upper_case b then Some (b - 0x41 + 10)
    else None

-- a number and a digit more, if it is one in this base
abbrev pub with_digit : ℕ → ℕ → Option ℕ → Option ℕ
with_digit base so_far None = None
with_digit base so_far (Some digit) = if nat_lt digit base then Some (so_far * base + digit) else None

-- a number and more digits
abbrev pub digits_after : ℕ → Option ℕ → List ℕ → Option ℕ
digits_after base None text = None
digits_after base (Some so_far) [] = Some so_far
digits_after base (Some so_far) (b ∷ bs) = digits_after base (with_digit base so_far (digit_of b)) bs

-- one or more digits in a base
abbrev pub digits_value : ℕ → List ℕ → Option ℕ
digits_value base text = if length text == 0 then None else digits_after base (Some 0) text

-- whether a text begins with these bytes
abbrev pub begins : List ℕ → List ℕ → Bool
begins front text = starts_with nat_eq text front

-- `0x` and hexadecimal digits, or decimal digits
abbrev pub natural_of : List ℕ → Option ℕ
natural_of text = if begins (codes "0x") text then digits_value 16 (drop 2 text) else digits_value 10 text

abbrev pub negative : ℕ → ℤ
negative zero = pos 0
negative (suc n) = negsuc n

-- `-` and decimal digits, or a natural number
abbrev pub number_of : List ℕ → Option ℤ
number_of text =
    if begins (codes "-") text then option_map negative (digits_value 10 (drop 1 text)) else option_map pos (natural_of text)

-- `.+N` or `.-N`
abbrev pub distance_of : List ℕ → Option ℤ
distance_of text =
    if begins (codes ".+") text then option_map pos (digits_value 10 (drop 2 text))
    else if begins (codes ".-") text then option_map negative (digits_value 10 (drop 2 text))
    else None

-- from -below to above
abbrev pub is_within : ℕ → ℕ → ℤ → Bool
is_within below above (pos n) = nat_le n above
is_within below above (negsuc n) = nat_lt n below

abbrev pub is_even : ℤ → Bool
is_even (pos n) = n % 2 == 0
is_even (negsuc n) = n % 2 == 1
