-- What a listing assembles to.
use Rattle.std.specs.Prelude.{◌≡◌, ℕ, ◌-◌, ◌*◌, ◌^◌, if◌then◌else◌, List, [], ◌∷◌, ◌++◌, map, Option, Some, None, Result, Ok, Err, ℤ, pos, ◌-ℤ◌}
use Rattle.isa_model.specs.declared.instr.Instr.TheVariants.{Jal, Branch}
use Rattle.isa_model.specs.Encoding.{word_of}
use Rattle.asm_line.specs.declared.line.AsmKind.{AsmKind}
use Rattle.asm_line.specs.declared.line.AsmKind.TheVariants.{OutOfRange, UnknownLabel}
use Rattle.asm_line.specs.declared.line.Item.{Item}
use Rattle.asm_line.specs.declared.line.Item.TheVariants.{Empty, One, Two, JumpTo, BranchTo}
use Rattle.asm_line.specs.Numbers.{is_within}
use Rattle.asm_line.specs.Operands.{◌>>=◌}
use Rattle.rv_asm.specs.declared.fault.AsmFault.{AsmFault}
use Rattle.rv_asm.specs.declared.listing.Placed.{Placed}
use Rattle.rv_asm.specs.declared.assembling.Assembled.{Assembled}
use Rattle.rv_asm.specs.Listing.{placed_lines, place_of}
use Rattle.rv_asm.specs.Refusals.{refusal_in_reading}

-- the distance from an instruction to a place, in bytes: a word has four, so it is even
abbrev pub distance : ℕ → ℕ → ℤ
distance at place = pos (4 * place) -ℤ pos (4 * at)

-- the distance from an instruction to the place of a label, from -reach to reach - 2
abbrev pub distance_to : ℕ → ℕ → Option ℕ → Result ℤ AsmKind
distance_to reach at None = Err UnknownLabel
distance_to reach at (Some place) =
    if is_within reach (reach - 2) (distance at place) then Ok (distance at place) else Err OutOfRange

-- the words of an item at a place, by the places of the labels
abbrev pub words_of_item : (List ℕ → Option ℕ) → ℕ → Item → Result (List ℕ) AsmKind
words_of_item find at Empty = Ok []
words_of_item find at (One word) = Ok (word ∷ [])
words_of_item find at (Two first second) = Ok (first ∷ second ∷ [])
words_of_item find at (JumpTo rd label) = distance_to (2 ^ 20) at (find label) >>= λ off. Ok (word_of (Jal rd off) ∷ [])
words_of_item find at (BranchTo op rs1 rs2 label) =
    distance_to (2 ^ 12) at (find label) >>= λ off. Ok (word_of (Branch op rs1 rs2 off) ∷ [])

abbrev pub words_of_line : (List ℕ → Option ℕ) → Placed → Result (List ℕ) AsmKind
words_of_line find p = p.line.item >>= λ item. words_of_item find p.place item

-- each word with the number of its line
abbrev pub on_line : ℕ → List ℕ → List (ℕ × ℕ)
on_line number words = map (λ word. (word, number)) words

abbrev pub words_then : ℕ → Result (List ℕ) AsmKind → Result (List (ℕ × ℕ)) AsmFault → Result (List (ℕ × ℕ)) AsmFault
words_then number (Err kind) later = Err (record { line = number; kind = kind })
words_then number (Ok words) (Err fault) = Err fault
words_then number (Ok words) (Ok later) = Ok (on_line number words ++ later)

-- the words of lines, or the first line that is refused
abbrev pub linked : (List ℕ → Option ℕ) → List Placed → Result (List (ℕ × ℕ)) AsmFault
linked find [] = Ok []
linked find (p ∷ ps) = words_then p.number (words_of_line find p) (linked find ps)

-- the words, and their lines
abbrev pub assembled_of : List (ℕ × ℕ) → Assembled
assembled_of words = record { words = map (λ w. w.0) words; lines = map (λ w. w.1) words }

-- All lines are read before any label is looked up.
abbrev pub read_then : Option AsmFault → Result (List (ℕ × ℕ)) AsmFault → Result Assembled AsmFault
read_then (Some fault) words = Err fault
read_then None (Err fault) = Err fault
read_then None (Ok words) = Ok (assembled_of words)

abbrev pub assembly_of_lines : List Placed → Result Assembled AsmFault
assembly_of_lines lines = read_then (refusal_in_reading [] lines) (linked (place_of lines) lines)

abbrev pub assembly : List (List ℕ) → ℕ → Result Assembled AsmFault
assembly listing first_line = assembly_of_lines (placed_lines listing first_line)

-- A listing, whose first line has this number, assembles to these words, each with the number of its line.
abbrev pub Assembles : List (List ℕ) → ℕ → Assembled → Type 0
Assembles listing first_line assembled = assembly listing first_line ≡ Ok assembled

-- A listing is refused, first at this line and for this reason.
abbrev pub IsRefusedAt : List (List ℕ) → ℕ → AsmFault → Type 0
IsRefusedAt listing first_line fault = assembly listing first_line ≡ Err fault
