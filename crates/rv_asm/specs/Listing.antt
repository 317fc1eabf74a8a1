-- The lines of a listing with their numbers and their places, and the places of its labels.
use Rattle.std.specs.Prelude.{ℕ, ◌+◌, Bool, if◌then◌else◌, List, [], ◌∷◌, map, Option, Some, None, Result, Ok, Err, Vec}
use Rattle.std.specs.List.{list_any}
use Rattle.std.specs.Str.{bytes_eq}
use Rattle.std.specs.declared.alloc.Global.{Global}
use Rattle.asm_line.specs.declared.line.AsmKind.{AsmKind}
use Rattle.asm_line.specs.declared.line.Item.{Item}
use Rattle.asm_line.specs.declared.line.Item.TheVariants.{Empty, One, Two, JumpTo, BranchTo}
use Rattle.asm_line.specs.declared.line.Line.{Line}
use Rattle.asm_line.specs.LineForm.{line_of}
use Rattle.rv_asm.specs.declared.listing.Placed.{Placed}

-- the bytes of each line
abbrev pub texts : List (Vec ℕ Global) → List (List ℕ)
texts lines = map (λ line. line.items) lines

-- how many words a line has; a refused one has none
abbrev pub word_count : Result Item AsmKind → ℕ
word_count (Ok Empty) = 0
word_count (Ok (One word)) = 1
word_count (Ok (Two first second)) = 2
word_count (Ok (JumpTo rd label)) = 1
word_count (Ok (BranchTo op rs1 rs2 label)) = 1
word_count (Err kind) = 0

-- The place of a line is the number of words before it.
abbrev pub placed_from : ℕ → ℕ → List Line → List Placed
placed_from number place [] = []
placed_from number place (line ∷ lines) =
    record { number = number; place = place; line = line } ∷ placed_from (number + 1) (place + word_count line.item) lines

abbrev pub placed_lines : List (List ℕ) → ℕ → List Placed
placed_lines listing first_line = placed_from first_line 0 (map line_of listing)

abbrev pub is_among : List (List ℕ) → List ℕ → Bool
is_among labels label = list_any (bytes_eq label) labels

-- The place of a label is that of its line: the next word is the one that it marks.
abbrev pub place_of : List Placed → List ℕ → Option ℕ
place_of [] label = None
place_of (p ∷ ps) label = if is_among p.line.labels label then Some p.place else place_of ps label
