-- The form of a bundle by productions: the lines of a text, the tokens of a line and the number of a token. Decimal numbers and the runs
-- of events and orders are `timer_plan`'s. What the lines say, section by section, is in `Grammar`.
use Rattle.std.specs.Prelude.{◌≡◌, ◌≢◌, ℕ, ◌≤◌, ◌⊎◌, List, [], ◌∷◌, ◌++◌, length, codes, slice_index, Err}
use Rattle.std.specs.List.{AllByRecursion}
use Rattle.std.specs.Str.Parse.{IsNumeral, digits_value}
use Rattle.bundle_text.specs.Lines.{with_lines, no_lines}
use Rattle.bundle_text.specs.declared.bundle.BundleFault.{BundleFault}

-- LF
abbrev pub line_end : ℕ
line_end = 0x0a

-- CR
abbrev pub carriage_return : ℕ
carriage_return = 0x0d

-- a space or a tab
abbrev pub IsBlank : ℕ → Type 0
IsBlank b = (b ≡ 0x20) ⊎ (b ≡ 0x09)

abbrev pub LacksLineEnd : List ℕ → Type 0
LacksLineEnd line = AllByRecursion (λ b. b ≢ line_end) line

-- The line and what ends it stand in front of the rest. A CR before LF is of the end, and the last line may lack its end.
abbrev pub IsLineBefore : List ℕ → List ℕ → List ℕ → Type 0
IsLineBefore line rest bytes =
    (bytes ≡ line ++ carriage_return ∷ line_end ∷ rest)
    ⊎ ((bytes ≡ line ++ line_end ∷ rest) × ((front : List ℕ) → line ≢ front ++ carriage_return ∷ []))
    ⊎ ((bytes ≡ line) × (line ≢ []) × (rest ≡ []))

-- The bytes are these lines, in their order.
abbrev pub AreLinesOf : List (List ℕ) → List ℕ → Type 0
AreLinesOf [] bytes = bytes ≡ []
AreLinesOf (line ∷ others) bytes = (rest : List ℕ) × LacksLineEnd line × IsLineBefore line rest bytes × AreLinesOf others rest

-- at least one byte and no blank
pub record IsToken (token : List ℕ) : Type 0 where
  pub some : token ≢ []
  pub whole : AllByRecursion (λ b. IsBlank b → ⊥) token

-- no bytes, or a blank first
abbrev pub BeginsBlank : List ℕ → Type 0
BeginsBlank [] = Unit {0}
BeginsBlank (b ∷ bs) = IsBlank b

-- The line has these tokens, in their order, with one or more blanks between each two and any number at both ends.
abbrev pub AreTokensOf : List (List ℕ) → List ℕ → Type 0
AreTokensOf [] line = AllByRecursion IsBlank line
AreTokensOf (token ∷ others) line =
    (blanks : List ℕ) × (rest : List ℕ) × AllByRecursion IsBlank blanks × IsToken token × (line ≡ blanks ++ token ++ rest)
    × BeginsBlank rest × AreTokensOf others rest

-- the character of a digit from 0 to 15
abbrev pub digit_char : ℕ → ℕ
digit_char d = slice_index (codes "0123456789abcdef") d

-- one or more hexadecimal digits, each of either case, which `0x` may stand before
pub record SpellsHex (text : List ℕ) (digits : List ℕ) : Type 0 where
  pub front : (text ≡ digits) ⊎ (text ≡ codes "0x" ++ digits)
  pub numeral : IsNumeral 16 digits

-- such digits, at most 8 of them, and their number
pub record IsHexWord (text : List ℕ) (word : ℕ) : Type 0 where
  pub digits : List ℕ
  pub spelled : SpellsHex text digits
  pub few : length digits ≤ 8
  pub value : word ≡ digits_value 16 digits

-- such digits, 9 or more of them
pub record IsLongHex (text : List ℕ) : Type 0 where
  pub digits : List ℕ
  pub spelled : SpellsHex text digits
  pub many : 9 ≤ length digits

-- The first line of the bytes that breaks the form, and by what.
pub record Breaks (bytes : List ℕ) (fault : BundleFault) : Type 0 where
  pub text : List (List ℕ)
  pub text_is : AreLinesOf text bytes
  pub first : with_lines 1 no_lines text ≡ Err fault
