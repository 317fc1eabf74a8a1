-- Texts that some byte parts, and texts that it doesn't stand in.
use Rattle.std.proofs.Common.{◌≡◌, ℕ, suc, ◌+◌, ◌<◌, Bool, true, false, List, [], ◌∷◌, ◌++◌, length, drop, reverse, refl, ap, sym, ◌∙◌, arith, append_assoc, append-nil, take_at, drop_at, drop-drop, take_all}
use Rattle.std.specs.List.{slice_split, onto_first, position_or_len, before_first, after_first, list_any}
use Rattle.std.proofs.lemmas.Bool.{or_parts, or_from}
use Rattle.std.proofs.lemmas.List.{reverse-append, reverse-reverse, length-reverse}
use Rattle.std.proofs.lemmas.List.Folds.{list_any-append}
use Rattle.std.proofs.lemmas.List.Splits.{slice_split-cons_yes, slice_split-cons_no}
use Rattle.asm_line.specs.declared.pieces.Separator.TheVariants.{Blank}
use Rattle.asm_line.specs.Pieces.{is_separator, trim_start, trim_end, trim}

-- no byte of the text passes
abbrev pub Lacks : (ℕ → Bool) → List ℕ → Type 0
Lacks p xs = list_any p xs ≡ false

pub lacks-append : (p : ℕ → Bool) (xs ys : List ℕ) → Lacks p xs → Lacks p ys → Lacks p (xs ++ ys)
lacks-append p xs ys h k = list_any-append p xs ys ∙ or_from (list_any p xs) (list_any p ys) h k

pub lacks-reverse : (p : ℕ → Bool) (xs : List ℕ) → Lacks p xs → Lacks p (reverse xs)
lacks-reverse p [] h = refl
lacks-reverse p (x ∷ xs) h =
    let parts = or_parts (p x) (list_any p xs) h in
    ap (list_any p) (reverse-append (x ∷ []) xs)
    ∙ lacks-append p (reverse xs) (x ∷ []) (lacks-reverse p xs parts.1) (or_from (p x) false parts.0 refl)

-- ---- the first byte that passes

pub place_after : (p : ℕ → Bool) (xs : List ℕ) (y : ℕ) (ys : List ℕ) → Lacks p xs → p y ≡ true → position_or_len p (xs ++ y ∷ ys) ≡ length xs
place_after p [] y ys h hit = rw hit refl
place_after p (x ∷ xs) y ys h hit =
    let parts = or_parts (p x) (list_any p xs) h in
    rw parts.0 (ap (λ n. 1 + n) (place_after p xs y ys parts.1 hit) ∙ (let e : 1 + length xs ≡ suc (length xs) = omega arith in e))

pub place_nowhere : (p : ℕ → Bool) (xs : List ℕ) → Lacks p xs → position_or_len p xs ≡ length xs
place_nowhere p [] h = refl
place_nowhere p (x ∷ xs) h =
    let parts = or_parts (p x) (list_any p xs) h in
    rw parts.0 (ap (λ n. 1 + n) (place_nowhere p xs parts.1) ∙ (let e : 1 + length xs ≡ suc (length xs) = omega arith in e))

pub before_first-at : (p : ℕ → Bool) (xs : List ℕ) (y : ℕ) (ys : List ℕ) → Lacks p xs → p y ≡ true → before_first p (xs ++ y ∷ ys) ≡ xs
before_first-at p xs y ys h hit = take_at xs (y ∷ ys) (position_or_len p (xs ++ y ∷ ys)) (sym (place_after p xs y ys h hit))

pub before_first-none : (p : ℕ → Bool) (xs : List ℕ) → Lacks p xs → before_first p xs ≡ xs
before_first-none p xs h = let e = place_nowhere p xs h in take_all (position_or_len p xs) xs (omega arith)

pub after_first-at : (p : ℕ → Bool) (xs : List ℕ) (y : ℕ) (ys : List ℕ) → Lacks p xs → p y ≡ true → after_first p (xs ++ y ∷ ys) ≡ ys
after_first-at p xs y ys h hit =
    ap (λ n. drop (n + 1) (xs ++ y ∷ ys)) (place_after p xs y ys h hit)
    ∙ sym (drop-drop 1 (length xs) (xs ++ y ∷ ys)) ∙ ap (drop 1) (drop_at xs (y ∷ ys) (length xs) refl)

-- ---- pieces

pub split_whole : (p : ℕ → Bool) (xs : List ℕ) → Lacks p xs → slice_split p xs ≡ xs ∷ []
split_whole p [] h = refl
split_whole p (x ∷ xs) h =
    let parts = or_parts (p x) (list_any p xs) h in
    slice_split-cons_no p x xs parts.0 ∙ ap (λ l. onto_first x l) (split_whole p xs parts.1)

pub split_after : (p : ℕ → Bool) (xs : List ℕ) (y : ℕ) (ys : List ℕ) → Lacks p xs → p y ≡ true → slice_split p (xs ++ y ∷ ys) ≡ xs ∷ slice_split p ys
split_after p [] y ys h hit = slice_split-cons_yes p y ys hit
split_after p (x ∷ xs) y ys h hit =
    let parts = or_parts (p x) (list_any p xs) h in
    slice_split-cons_no p x (xs ++ y ∷ ys) parts.0 ∙ ap (λ l. onto_first x l) (split_after p xs y ys parts.1 hit)

-- ---- blanks at the ends

trim_start-front : (x : ℕ) (xs : List ℕ) → is_separator Blank x ≡ false → trim_start (x ∷ xs) ≡ x ∷ xs
trim_start-front x xs h = rw h refl

-- a text whose first byte is no blank, before any other text
pub trim_start-lacks : (xs ys : List ℕ) → 0 < length xs → Lacks (is_separator Blank) xs → trim_start (xs ++ ys) ≡ xs ++ ys
trim_start-lacks [] ys some h = absurd (omega arith)
trim_start-lacks (x ∷ xs) ys some h =
    let parts = or_parts (is_separator Blank x) (list_any (is_separator Blank) xs) h in trim_start-front x (xs ++ ys) parts.0

pub trim_end-lacks : (xs ys : List ℕ) → 0 < length ys → Lacks (is_separator Blank) ys → trim_end (xs ++ ys) ≡ xs ++ ys
trim_end-lacks xs ys some h =
    ap (λ l. reverse (trim_start l)) (reverse-append xs ys)
    ∙ ap reverse (trim_start-lacks (reverse ys) (reverse xs) (let e = length-reverse ys in omega arith) (lacks-reverse (is_separator Blank) ys h))
    ∙ ap reverse (sym (reverse-append xs ys)) ∙ reverse-reverse (xs ++ ys)

-- blanks inside a text stay
pub trim-lacks : (xs ys zs : List ℕ) → 0 < length xs → Lacks (is_separator Blank) xs → 0 < length zs → Lacks (is_separator Blank) zs
    → trim (xs ++ (ys ++ zs)) ≡ xs ++ (ys ++ zs)
trim-lacks xs ys zs some h more k =
    ap trim_end (trim_start-lacks xs (ys ++ zs) some h ∙ sym (append_assoc xs ys zs))
    ∙ trim_end-lacks (xs ++ ys) zs more k ∙ append_assoc xs ys zs

pub trim-whole : (xs : List ℕ) → Lacks (is_separator Blank) xs → trim xs ≡ xs
trim-whole [] h = refl
trim-whole (x ∷ xs) h =
    let some : 0 < length (x ∷ xs) = omega arith in
    let e = trim_start-lacks (x ∷ xs) [] some h in
    ap trim_end (ap trim_start (sym (append-nil (x ∷ xs))) ∙ e ∙ append-nil (x ∷ xs)) ∙ trim_end-lacks [] (x ∷ xs) some h
