-- Texts that are written bit by bit.
use Rattle.std.proofs.Common.{◌≡◌, ℕ, ◌+◌, ◌<◌, List, [], ◌∷◌, ◌++◌, length, take, Some, Result, Ok, Err, OnOk, sym, ap, ◌∙◌, append_assoc, append-nil}
use Rattle.std.specs.Prelude.{slice_get}
use Rattle.std.specs.List.{flat_map}
use Rattle.std.proofs.lemmas.List.{take_more}
use Rattle.std.proofs.lemmas.Grind.{flat_map-append}
use Rattle.std.proofs.lemmas.Option.{slice_get_within, get_or_from_slice_get}

-- what holds after a success holds of what follows from it
pub on_ok : {X E : Type 0} (r : Result X E) (P Q : Type 0) → (P → Q) → OnOk r P → OnOk r Q
on_ok (Ok x) P Q f h = f h
on_ok (Err e) P Q f h = h

-- what is appended to a text to which something was appended
pub join : (old mid new x y : List ℕ) → mid ≡ old ++ x → new ≡ mid ++ y → new ≡ old ++ (x ++ y)
join old mid new x y e f = f ∙ ap (λ l. l ++ y) e ∙ append_assoc old x y

-- the text of one entry more
pub entry_more : {X : Type 0} (f : X → List ℕ) (xs : List X) (i : ℕ) (x : X) (old new : List ℕ) → slice_get xs i ≡ Some x
    → old ≡ flat_map f (take i xs) → new ≡ old ++ f x → new ≡ flat_map f (take (i + 1) xs)
entry_more f xs i x old new is e g =
    let lt : i < length xs = slice_get_within xs i x is in
    g ∙ ap (λ l. l ++ f x) e ∙ sym (ap (flat_map f) (take_more xs i x lt ∙ ap (λ y. take i xs ++ y ∷ []) (get_or_from_slice_get xs i x x is))
    ∙ flat_map-append f (take i xs) (x ∷ []) ∙ ap (λ l. flat_map f (take i xs) ++ l) (append-nil (f x)))
