-- A line: labels, at most one instruction, and a comment from `#` to its end.
use Rattle.std.specs.Prelude.{ℕ, ◌==◌, length, if◌then◌else◌, List, [], ◌∷◌, Option, Some, None, Result, Ok, Err}
use Rattle.std.specs.List.{join_with_byte}
use Rattle.asm_line.specs.declared.pieces.Separator.TheVariants.{Hash, Colon, Blank}
use Rattle.asm_line.specs.declared.line.AsmKind.{AsmKind}
use Rattle.asm_line.specs.declared.line.AsmKind.TheVariants.{UnknownWord, Operands}
use Rattle.asm_line.specs.declared.line.Item.{Item}
use Rattle.asm_line.specs.declared.line.Item.TheVariants.{Empty}
use Rattle.asm_line.specs.declared.line.Line.{Line}
use Rattle.asm_line.specs.declared.mnemonic.Mnemonic.{Mnemonic}
use Rattle.asm_line.specs.Pieces.{pieces, before, after, trim_start, trim, operands_of}
use Rattle.asm_line.specs.Names.{is_name}
use Rattle.asm_line.specs.Fields.{no_fields}
use Rattle.asm_line.specs.Operands.{have_shapes, with_operands, ◌>>=◌}
use Rattle.asm_line.specs.Table.{row_of, mnemonic_of}

-- The labels of a line, and what follows them.
pub record Parts : Type 0 where
  pub labels : List (List ℕ)
  pub rest : List ℕ

abbrev pub with_label : List ℕ → Parts → Parts
with_label label parts = record { labels = label ∷ parts.labels; rest = parts.rest }

abbrev pub no_labels : List ℕ → Parts
no_labels text = record { labels = []; rest = text }

-- Of the pieces that colons part, those in front that are names are labels. The others, with their colons, are the rest.
abbrev pub parts_of : List (List ℕ) → Parts
parts_of [] = no_labels []
parts_of (piece ∷ []) = no_labels piece
parts_of (piece ∷ next ∷ others) =
    if is_name (trim_start piece)
    then with_label (trim_start piece) (parts_of (next ∷ others))
    else no_labels (join_with_byte 0x3a (piece ∷ next ∷ others))

-- The item of a word and of operands, or the first fault: no such word, then the number and the shapes of the operands, then
-- the operands from the left.
abbrev pub item_of_word : Option Mnemonic → List (List ℕ) → Result Item AsmKind
item_of_word None texts = Err UnknownWord
item_of_word (Some word) texts =
    if have_shapes (row_of word).operands texts
    then (with_operands (row_of word).operands texts no_fields >>= λ fields. Ok ((row_of word).item fields))
    else Err Operands

-- The first word ends at a blank or at the end of the text.
abbrev pub item_of : List ℕ → Result Item AsmKind
item_of text =
    if length text == 0
    then Ok Empty
    else item_of_word (mnemonic_of (before Blank text)) (operands_of (trim (after Blank text)))

abbrev pub line_of_parts : Parts → Line
line_of_parts parts = record { labels = parts.labels; item = item_of (trim parts.rest) }

-- What a line says.
abbrev pub line_of : List ℕ → Line
line_of line = line_of_parts (parts_of (pieces Colon (before Hash line)))
