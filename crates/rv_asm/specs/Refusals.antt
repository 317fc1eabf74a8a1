-- Why a listing is refused while its lines are read.
use Rattle.std.specs.Prelude.{ℕ, ◌+◌, Bool, false, ◌||◌, nat_lt, if◌then◌else◌, List, [], ◌∷◌, ◌++◌, Option, Some, None, Result, Ok, Err}
use Rattle.isa_model.specs.Limits.{max_code_words}
use Rattle.asm_line.specs.declared.line.AsmKind.{AsmKind}
use Rattle.asm_line.specs.declared.line.AsmKind.TheVariants.{DuplicateLabel, TooManyWords}
use Rattle.asm_line.specs.declared.line.Item.{Item}
use Rattle.rv_asm.specs.declared.fault.AsmFault.{AsmFault}
use Rattle.rv_asm.specs.declared.listing.Placed.{Placed}
use Rattle.rv_asm.specs.Listing.{word_count, is_among}

-- whether one of the labels stands among those seen before it
abbrev pub repeats : List (List ℕ) → List (List ℕ) → Bool
repeats seen [] = false
repeats seen (label ∷ labels) = is_among seen label || repeats (seen ++ label ∷ []) labels

abbrev pub kind_of_item : ℕ → Result Item AsmKind → Option AsmKind
kind_of_item place (Err kind) = Some kind
kind_of_item place (Ok item) = if nat_lt max_code_words (place + word_count (Ok item)) then Some TooManyWords else None

-- the first fault of a line, where these labels stand before it
abbrev pub kind_in_reading : List (List ℕ) → Placed → Option AsmKind
kind_in_reading seen p = if repeats seen p.line.labels then Some DuplicateLabel else kind_of_item p.place p.line.item

abbrev pub refusal_or : ℕ → Option AsmKind → Option AsmFault → Option AsmFault
refusal_or number (Some kind) later = Some (record { line = number; kind = kind })
refusal_or number None later = later

-- the first line that is refused
abbrev pub refusal_in_reading : List (List ℕ) → List Placed → Option AsmFault
refusal_in_reading seen [] = None
refusal_in_reading seen (p ∷ ps) = refusal_or p.number (kind_in_reading seen p) (refusal_in_reading (seen ++ p.line.labels) ps)
