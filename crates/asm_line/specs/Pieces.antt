-- The pieces of a line: `slice_split p xs` are the parts between the bytes that pass p.
use Rattle.std.specs.Prelude.{ℕ, ◌-◌, Bool, ◌&&◌, ◌||◌, ◌==◌, if◌then◌else◌, List, [], ◌∷◌, length, reverse, map, take, codes, nat_eq, Option, Some, None}
use Rattle.std.specs.List.{slice_split, before_first, after_first, list_any, ends_with}
use Rattle.asm_line.specs.declared.pieces.Separator.{Separator}
use Rattle.asm_line.specs.declared.pieces.Separator.TheVariants.{Hash, Colon, Comma, Opening, Blank}

-- `#`, `:`, `,`, `(`; a blank is a space or a tab
abbrev pub is_separator : Separator → ℕ → Bool
is_separator Hash b = b == 0x23
is_separator Colon b = b == 0x3a
is_separator Comma b = b == 0x2c
is_separator Opening b = b == 0x28
is_separator Blank b = (b == 0x20) || (b == 0x09)

abbrev pub pieces : Separator → List ℕ → List (List ℕ)
pieces separator text = slice_split (is_separator separator) text

-- the pieces of what follows a piece
abbrev pub pieces_after : Separator → Option (List ℕ) → List (List ℕ)
pieces_after separator None = []
pieces_after separator (Some rest) = pieces separator rest

-- what stands before the first separator, or all
abbrev pub before : Separator → List ℕ → List ℕ
before separator text = before_first (is_separator separator) text

-- what stands after the first separator, or nothing
abbrev pub after : Separator → List ℕ → List ℕ
after separator text = after_first (is_separator separator) text

abbrev pub trim_start : List ℕ → List ℕ
trim_start [] = []
trim_start (b ∷ bs) = if is_separator Blank b then trim_start bs else b ∷ bs

abbrev pub trim_end : List ℕ → List ℕ
trim_end text = reverse (trim_start (reverse text))

-- without the blanks at both ends
abbrev pub trim : List ℕ → List ℕ
trim text = trim_end (trim_start text)

-- what commas divide, without the blanks round it; of no text there is none
abbrev pub texts_after : Option (List ℕ) → List (List ℕ)
texts_after rest = map trim (pieces_after Comma rest)

abbrev pub operands_of : List ℕ → List (List ℕ)
operands_of text = if length text == 0 then [] else texts_after (Some text)

-- `offset(rs1)`: what stands before the first `(`
abbrev pub offset_part : List ℕ → List ℕ
offset_part text = before Opening text

-- what stands between the first `(` and the last byte
abbrev pub register_part : List ℕ → List ℕ
register_part text = take (length (after Opening text) - 1) (after Opening text)

-- whether a text is an offset, `(`, a register and `)`; what the two are is judged apart
abbrev pub is_address : List ℕ → Bool
is_address text = list_any (is_separator Opening) text && ends_with nat_eq text (codes ")")
