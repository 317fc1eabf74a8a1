-- A whole listing, from what its parts say.
use Rattle.std.proofs.Common.{◌≡◌, ◌≢◌, ◌⊎◌, ℕ, List, [], map, Option, Some, None, Result, Ok, Err, IfErr, IfSome, inl, inr, sym, ap, subst, ◌∙◌}
use Rattle.asm_line.specs.declared.line.AsmKind.TheVariants.{Memory}
use Rattle.rv_asm.specs.declared.fault.AsmFault.{AsmFault}
use Rattle.rv_asm.specs.declared.listing.Placed.{Placed}
use Rattle.rv_asm.specs.Listing.{placed_lines, place_of}
use Rattle.rv_asm.specs.Refusals.{refusal_in_reading}
use Rattle.rv_asm.specs.Assembly.{linked, read_then, assembly}
use Rattle.rv_asm.specs.Memory.{memory_fault}
use Rattle.rv_asm.specs.Places.{label_places}
use Rattle.rv_asm.specs.Code.{place_in}
use Rattle.rv_asm.proofs.Labels.{place_in-label_places}
use Rattle.rv_asm.proofs.NoMemory.{IsOfLine, refusal_of_line, linked_of_line}

-- What reading leaves: the lines, the places of their labels, and that no line is refused.
pub record IsRead (source : List (List ℕ)) (first_line : ℕ) (listing : List Placed) (known : List (List ℕ × ℕ)) : Type 0 where
  pub lines : listing ≡ placed_lines source first_line
  pub places : known ≡ label_places listing
  pub accepted : refusal_in_reading [] listing ≡ None

-- the linked lines, by the labels that were gathered and by those of the definition
linked-read : (source : List (List ℕ)) (first_line : ℕ) (listing slice : List Placed) (places : List (List ℕ × ℕ)) → IsRead source first_line listing places
    → slice ≡ listing → linked (place_in places) slice ≡ linked (place_of (placed_lines source first_line)) (placed_lines source first_line)
linked-read source first_line listing slice places read same =
    let find : place_in (label_places listing) ≡ place_of listing = λ i label. place_in-label_places listing label i in
    (λ i. linked (place_in (read.places i)) (same i)) ∙ ap (λ f. linked f listing) find ∙ ap (λ l. linked (place_of l) l) read.lines

-- with no line refused, the words decide
assembly-read : (source : List (List ℕ)) (first_line : ℕ) (listing slice : List Placed) (places : List (List ℕ × ℕ)) → IsRead source first_line listing places
    → slice ≡ listing → assembly source first_line ≡ read_then None (linked (place_in places) slice)
assembly-read source first_line listing slice places read same =
    let accepted = sym (ap (refusal_in_reading []) read.lines) ∙ read.accepted in
    ap (λ r. read_then r (linked (place_of (placed_lines source first_line)) (placed_lines source first_line))) accepted
    ∙ ap (read_then None) (sym (linked-read source first_line listing slice places read same))

-- the words and their lines apart
pub assembles : (source : List (List ℕ)) (first_line : ℕ) (listing slice : List Placed) (places : List (List ℕ × ℕ)) (linked_words : List (ℕ × ℕ)) (words lines : List ℕ)
    → IsRead source first_line listing places → slice ≡ listing → linked (place_in places) slice ≡ Ok linked_words
    → words ≡ map (λ w. w.0) linked_words → lines ≡ map (λ w. w.1) linked_words → assembly source first_line ≡ Ok (record { words = words; lines = lines })
assembles source first_line listing slice places linked_words words lines read same link are_words are_lines =
    assembly-read source first_line listing slice places read same ∙ ap (read_then None) link ∙ (λ i. Ok (record { words = sym are_words i; lines = sym are_lines i }))

pub refused_linking : (source : List (List ℕ)) (first_line : ℕ) (listing slice : List Placed) (places : List (List ℕ × ℕ)) (fault : AsmFault)
    → IsRead source first_line listing places → slice ≡ listing → (fault ≡ memory_fault) ⊎ (linked (place_in places) slice ≡ Err fault)
    → fault.kind ≢ Memory → assembly source first_line ≡ Err fault
refused_linking source first_line listing slice places fault read same (inl memory) other = absurd (other (ap (λ f. f.kind) memory))
refused_linking source first_line listing slice places fault read same (inr link) other = assembly-read source first_line listing slice places read same ∙ ap (read_then None) link

-- a fault of kind Memory is want of memory, and has line 0
pub memory_reading : (source : List (List ℕ)) (first_line : ℕ) (fault : AsmFault)
    → (fault ≡ memory_fault) ⊎ (refusal_in_reading [] (placed_lines source first_line) ≡ Some fault) → fault.kind ≡ Memory → fault.line ≡ 0
memory_reading source first_line fault (inl memory) kind = ap (λ f. f.line) memory
memory_reading source first_line fault (inr refused) kind =
    let Other : Option AsmFault → Type 0 = λ r. IfSome r IsOfLine in
    absurd (subst Other refused (refusal_of_line [] first_line 0 source) kind)

pub memory_linking : (source : List (List ℕ)) (first_line : ℕ) (listing slice : List Placed) (places : List (List ℕ × ℕ)) (fault : AsmFault)
    → IsRead source first_line listing places → slice ≡ listing → (fault ≡ memory_fault) ⊎ (linked (place_in places) slice ≡ Err fault)
    → fault.kind ≡ Memory → fault.line ≡ 0
memory_linking source first_line listing slice places fault read same (inl memory) kind = ap (λ f. f.line) memory
memory_linking source first_line listing slice places fault read same (inr link) kind =
    let Other : Result (List (ℕ × ℕ)) AsmFault → Type 0 = λ r. IfErr r IsOfLine in
    let refused = sym (linked-read source first_line listing slice places read same) ∙ link in
    absurd (subst Other refused (linked_of_line (place_of (placed_lines source first_line)) first_line 0 source) kind)
