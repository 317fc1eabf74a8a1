-- Lines that are read one by one.
use Rattle.std.proofs.Common.{◌≡◌, ℕ, ◌+◌, ◌<◌, ◌≤◌, Bool, true, false, nat_lt, List, [], ◌∷◌, ◌++◌, map, length, get_or, drop, Vec, Option, Some, None, Result, Ok, Err, is_some, if◌then◌else◌, true≢false, sym, ap, subst, ◌∙◌, arith}
use Rattle.std.proofs.lemmas.List.{append_assoc, drop_more}
use Rattle.std.proofs.lemmas.Bool.Decides.{nat_tests}
use Rattle.std.specs.declared.alloc.Global.{Global}
use Rattle.asm_line.specs.declared.line.AsmKind.{AsmKind}
use Rattle.asm_line.specs.declared.line.AsmKind.TheVariants.{DuplicateLabel, TooManyWords}
use Rattle.asm_line.specs.declared.line.Item.{Item}
use Rattle.asm_line.specs.LineForm.{line_of}
use Rattle.rv_asm.specs.declared.listing.Placed.{Placed}
use Rattle.rv_asm.specs.Listing.{texts, word_count, placed_from}
use Rattle.isa_model.specs.Limits.{max_code_words}
use Rattle.rv_asm.specs.Refusals.{repeats, kind_of_item, kind_in_reading, refusal_or, refusal_in_reading}
use Rattle.rv_asm.specs.Places.{names, at_place, label_places}
use Rattle.rv_asm.proofs.Labels.{names-append-at_place, label_places-push}

no_refusal : {kind : AsmKind} → Some kind ≡ None → ⊥
no_refusal e = true≢false (ap is_some e)

-- nothing is refused where a count isn't above its limit
none_over : (limit count : ℕ) → (if nat_lt limit count then Some TooManyWords else None) ≡ None → count ≤ limit
none_over limit count accepted = grind (arith, nat_tests, no_refusal)

-- an accepted item has room
pub room_of_item : (place : ℕ) (item : Result Item AsmKind) → kind_of_item place item ≡ None → place + word_count item ≤ max_code_words
room_of_item place (Err kind) accepted = absurd (no_refusal accepted)
room_of_item place (Ok item) accepted = none_over max_code_words (place + word_count (Ok item)) accepted

-- an item is refused where nothing else is
none_either : (again : Bool) (kind : Option AsmKind) → (if again then Some DuplicateLabel else kind) ≡ None → kind ≡ None
none_either true kind accepted = absurd (no_refusal accepted)
none_either false kind accepted = accepted

-- an accepted line has an accepted item
item_of_line : (seen : List (List ℕ)) (p : Placed) → kind_in_reading seen p ≡ None → kind_of_item p.place p.line.item ≡ None
item_of_line seen p accepted = none_either (repeats seen p.line.labels) (kind_of_item p.place p.line.item) accepted

-- and so has that of an accepted line
pub room_of_line : (seen : List (List ℕ)) (p : Placed) → kind_in_reading seen p ≡ None → p.place + word_count p.line.item ≤ max_code_words
room_of_line seen p accepted = room_of_item p.place p.line.item (item_of_line seen p accepted)

-- the lines from one on, whose number and place these are
abbrev pub lines_from : ℕ → ℕ → List (Vec ℕ Global) → List Placed
lines_from number place lines = placed_from number place (map line_of (texts lines))

-- The lines so far are read, and what is left decides.
pub record AreRead (source : List (Vec ℕ Global)) (first_line : ℕ) (listing : List Placed) (known : List (List ℕ × ℕ)) (number place : ℕ) (left : List (Vec ℕ Global)) : Type 0 where
  pub lines : lines_from first_line 0 source ≡ listing ++ lines_from number place left
  pub refusal : refusal_in_reading [] (lines_from first_line 0 source) ≡ refusal_in_reading (names known) (lines_from number place left)
  pub places : known ≡ label_places listing
  pub room : place ≤ max_code_words

-- a line that is read next
abbrev pub next_placed : ℕ → ℕ → Vec ℕ Global → Placed
next_placed number place text = record { number = number; place = place; line = line_of text.items }

after_line : (lines : List (Vec ℕ Global)) (first_line : ℕ) (listing : List Placed) (places : List (List ℕ × ℕ)) (number place : ℕ) (text : Vec ℕ Global) (left : List (Vec ℕ Global))
    → AreRead lines first_line listing places number place (text ∷ left)
    → kind_in_reading (names places) (next_placed number place text) ≡ None
    → AreRead lines first_line (listing ++ next_placed number place text ∷ []) (places ++ at_place place (line_of text.items).labels) (number + 1) (place + word_count (line_of text.items).item) left
after_line lines first_line listing places number place text left so_far accepted =
    let p = next_placed number place text in
    let later = lines_from (number + 1) (place + word_count p.line.item) left in
    record {
      lines = so_far.lines ∙ sym (append_assoc listing (p ∷ []) later);
      refusal = so_far.refusal ∙ ap (λ kind. refusal_or number kind (refusal_in_reading (names places ++ p.line.labels) later)) accepted
          ∙ ap (λ seen. refusal_in_reading seen later) (sym (names-append-at_place places place p.line.labels));
      places = ap (λ ps. ps ++ at_place place p.line.labels) so_far.places ∙ sym (label_places-push listing p);
      room = room_of_line (names places) p accepted;
    }

-- the line at an index
pub after_line_at : (source : List (Vec ℕ Global)) (first_line : ℕ) (listing new_listing : List Placed) (known new_known : List (List ℕ × ℕ)) (i place new_place : ℕ) (text : Vec ℕ Global) (p : Placed)
    → i < length source → text ≡ get_or source i text → AreRead source first_line listing known (first_line + i) place (drop i source)
    → p ≡ next_placed (first_line + i) place text → kind_in_reading (names known) p ≡ None
    → new_listing ≡ listing ++ p ∷ [] → new_known ≡ known ++ at_place place p.line.labels → new_place ≡ place + word_count p.line.item
    → AreRead source first_line new_listing new_known (first_line + (i + 1)) new_place (drop (i + 1) source)
after_line_at source first_line listing new_listing known new_known i place new_place text p within at so_far read accepted put_line put_labels put_place =
    let Left : List (Vec ℕ Global) → Type 0 = λ left. AreRead source first_line listing known (first_line + i) place left in
    let next : drop i source ≡ text ∷ drop (i + 1) source = drop_more source i text within ∙ ap (λ t. t ∷ drop (i + 1) source) (sym at) in
    let before : AreRead source first_line listing known (first_line + i) place (text ∷ drop (i + 1) source) = subst Left next so_far in
    let number : first_line + (i + 1) ≡ first_line + i + 1 = omega arith in
    rw (put_line, put_labels, put_place, read, number) (after_line source first_line listing known (first_line + i) place text (drop (i + 1) source) before (ap (kind_in_reading (names known)) (sym read) ∙ accepted))
