-- The lines of a text and the tokens of a line, as functions of the bytes. `slice_split p xs` are the parts between the bytes that
-- pass p.
use Rattle.std.specs.Prelude.{ℕ, ◌-◌, Bool, ◌==◌, ◌||◌, ◌&&◌, nat_le, not, List, [], ◌∷◌, length, map, filter, take, slice_index, Option, Some, None, if◌then◌else◌}
use Rattle.std.specs.List.{slice_split, list_all}
use Rattle.std.specs.Borrow.{Bor}
use Rattle.bundle_text.specs.declared.pieces.TheConstants.{LINE_END, CARRIAGE_RETURN, SPACE, TAB}

abbrev pub is_line_end : ℕ → Bool
is_line_end b = b == LINE_END

abbrev pub is_blank : ℕ → Bool
is_blank b = (b == SPACE) || (b == TAB)

-- printable ASCII, a tab or a CR
abbrev pub is_text_byte : ℕ → Bool
is_text_byte b = (nat_le 0x20 b && nat_le b 0x7e) || (b == TAB) || (b == CARRIAGE_RETURN)

abbrev pub is_text : List ℕ → Bool
is_text line = list_all is_text_byte line

-- the line without its last byte, if that is CR
abbrev pub without_cr : List ℕ → List ℕ
without_cr line = if slice_index line (length line - 1) == CARRIAGE_RETURN then take (length line - 1) line else line

-- the lines of the pieces between line ends: a CR before a line end is dropped, and after the last line end there is a line only if
-- there are bytes
abbrev pub lines_of : List (List ℕ) → List (List ℕ)
lines_of [] = []
lines_of (last ∷ []) = if length last == 0 then [] else last ∷ []
lines_of (piece ∷ next ∷ others) = without_cr piece ∷ lines_of (next ∷ others)

abbrev pub lines : List ℕ → List (List ℕ)
lines bytes = lines_of (slice_split is_line_end bytes)

abbrev pub is_some_bytes : List ℕ → Bool
is_some_bytes bytes = not (length bytes == 0)

-- the tokens of a line: what stands between blanks
abbrev pub tokens : List ℕ → List (List ℕ)
tokens line = filter is_some_bytes (slice_split is_blank line)

-- the bytes of tokens that are lent
abbrev pub texts : List (Bor (List ℕ)) → List (List ℕ)
texts ts = map (λ t. t.now) ts

-- a piece and the pieces of what follows it
abbrev pub pieces_after : (ℕ → Bool) → Option (List ℕ) → List (List ℕ)
pieces_after parts None = []
pieces_after parts (Some rest) = slice_split parts rest

-- the lines of a text of which the first line is cut off
abbrev pub lines_cut : Option (List ℕ × List ℕ) → List (List ℕ)
lines_cut None = []
lines_cut (Some cut) = cut.0 ∷ lines cut.1
