-- Labels that are added one by one.
use Rattle.std.proofs.Common.{◌≡◌, ℕ, ◌+◌, ◌<◌, Bool, true, false, ◌||◌, List, [], ◌∷◌, ◌++◌, length, get_or, drop, Option, Some, if◌then◌else◌, refl, sym, ap, subst, ◌∙◌}
use Rattle.std.proofs.lemmas.List.{map-append, append_assoc, append-nil, drop_more}
use Rattle.std.specs.Map.{lookup}
use Rattle.std.specs.Str.{bytes_eq}
use Rattle.rv_asm.specs.declared.listing.Placed.{Placed}
use Rattle.rv_asm.specs.Listing.{is_among, place_of}
use Rattle.rv_asm.specs.Refusals.{repeats}
use Rattle.rv_asm.specs.Places.{names, at_place, label_places}
use Rattle.rv_asm.specs.Code.{place_in}

-- The labels so far are added, and what is left decides.
pub record AreAdded (before places : List (List ℕ × ℕ)) (place : ℕ) (labels left : List (List ℕ)) : Type 0 where
  pub again : repeats (names before) labels ≡ repeats (names places) left
  pub added : before ++ at_place place labels ≡ places ++ at_place place left

-- one label more
after_label : (before places : List (List ℕ × ℕ)) (place : ℕ) (labels left : List (List ℕ)) (label : List ℕ)
    → AreAdded before places place labels (label ∷ left) → is_among (names places) label ≡ false
    → AreAdded before (places ++ (label, place) ∷ []) place labels left
after_label before places place labels left label so_far new = record {
  again = so_far.again ∙ ap (λ found. found || repeats (names places ++ label ∷ []) left) new ∙ ap (λ seen. repeats seen left) (sym (map-append (λ e. e.0) places ((label, place) ∷ [])));
  added = so_far.added ∙ sym (append_assoc places ((label, place) ∷ []) (at_place place left));
}

pub after_label_at : (before places new_places : List (List ℕ × ℕ)) (place : ℕ) (labels : List (List ℕ)) (i : ℕ) (label : List ℕ)
    → i < length labels → label ≡ get_or labels i label → AreAdded before places place labels (drop i labels)
    → is_among (names places) label ≡ false → new_places ≡ places ++ (label, place) ∷ []
    → AreAdded before new_places place labels (drop (i + 1) labels)
after_label_at before places new_places place labels i label within at so_far new put =
    let left : drop i labels ≡ label ∷ drop (i + 1) labels = drop_more labels i label within ∙ ap (λ l. l ∷ drop (i + 1) labels) (sym at) in
    let Left : List (List ℕ) → Type 0 = λ ls. AreAdded before places place labels ls in
    let Put : List (List ℕ × ℕ) → Type 0 = λ ps. AreAdded before ps place labels (drop (i + 1) labels) in
    subst Put (sym put) (after_label before places place labels (drop (i + 1) labels) label (subst Left left so_far) new)

-- a label that stood before
pub repeats_at : (before places : List (List ℕ × ℕ)) (place : ℕ) (labels : List (List ℕ)) (i : ℕ) (label : List ℕ)
    → i < length labels → label ≡ get_or labels i label → AreAdded before places place labels (drop i labels)
    → is_among (names places) label ≡ true → repeats (names before) labels ≡ true
repeats_at before places place labels i label within at so_far old =
    let left : drop i labels ≡ label ∷ drop (i + 1) labels = drop_more labels i label within ∙ ap (λ l. l ∷ drop (i + 1) labels) (sym at) in
    so_far.again ∙ ap (repeats (names places)) left ∙ ap (λ found. found || repeats (names places ++ label ∷ []) (drop (i + 1) labels)) old

names-at_place : (place : ℕ) (labels : List (List ℕ)) → names (at_place place labels) ≡ labels
names-at_place place [] = refl
names-at_place place (label ∷ labels) = ap (λ ls. label ∷ ls) (names-at_place place labels)

-- the names with the labels of one place more
pub names-append-at_place : (places : List (List ℕ × ℕ)) (place : ℕ) (labels : List (List ℕ)) → names (places ++ at_place place labels) ≡ names places ++ labels
names-append-at_place places place labels = map-append (λ e. e.0) places (at_place place labels) ∙ ap (λ ls. names places ++ ls) (names-at_place place labels)

-- the labels of one line more
pub label_places-push : (lines : List Placed) (p : Placed) → label_places (lines ++ p ∷ []) ≡ label_places lines ++ at_place p.place p.line.labels
label_places-push [] p = append-nil (at_place p.place p.line.labels)
label_places-push (l ∷ lines) p =
    ap (λ later. at_place l.place l.line.labels ++ later) (label_places-push lines p)
    ∙ sym (append_assoc (at_place l.place l.line.labels) (label_places lines) (at_place p.place p.line.labels))

-- whether a label is the first of some, or one of the others
found-or : (first found : Bool) (place : ℕ) (later : Option ℕ) → (if first then Some place else if found then Some place else later) ≡ (if first || found then Some place else later)
found-or true found place later = refl
found-or false found place later = refl

lookup-at_place : (label : List ℕ) (place : ℕ) (labels : List (List ℕ)) (later : List (List ℕ × ℕ))
    → lookup (bytes_eq label) (at_place place labels ++ later) ≡ (if is_among labels label then Some place else lookup (bytes_eq label) later)
lookup-at_place label place [] later = refl
lookup-at_place label place (l ∷ labels) later =
    ap (λ found. if bytes_eq label l then Some place else found) (lookup-at_place label place labels later)
    ∙ found-or (bytes_eq label l) (is_among labels label) place (lookup (bytes_eq label) later)

-- a look-up in the list of labels finds the place of a label
pub place_in-label_places : (lines : List Placed) (label : List ℕ) → place_in (label_places lines) label ≡ place_of lines label
place_in-label_places [] label = refl
place_in-label_places (p ∷ lines) label =
    lookup-at_place label p.place p.line.labels (label_places lines)
    ∙ ap (λ later. if is_among p.line.labels label then Some p.place else later) (place_in-label_places lines label)
