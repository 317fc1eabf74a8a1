-- What stands in a list with one item more, and in lists of which every item is known.
use Rattle.std.proofs.Common.{◌≡◌, ℕ, zero, suc, ◌<◌, ◌⊎◌, inl, inr, List, [], ◌∷◌, ◌++◌, length, map, slice_get, Some, refl, sym, ap, ◌∙◌, subst, arith}
use Rattle.std.proofs.lemmas.Option.{slice_get_within}

module _ {X : Type 0} where
  pub at-push : (xs : List X) (x : X) (i : ℕ) (y : X) → slice_get (xs ++ x ∷ []) i ≡ Some y
      → (slice_get xs i ≡ Some y) ⊎ ((i ≡ length xs) × (x ≡ y))
  at-push [] x zero y is = let e : x ≡ y = cc is in inr (refl, e)
  at-push [] x (suc i) y is = absurd (cc is)
  at-push (z ∷ xs) x zero y is = inl is
  at-push (z ∷ xs) x (suc i) y is = elim (at-push xs x i y is) [ inl before ↦ inl before | inr last ↦ inr (ap suc last.0, last.1) ]

  pub each-push : (P : ℕ → X → Type 0) (xs : List X) (x : X) → ((i : ℕ) (y : X) → slice_get xs i ≡ Some y → P i y) → P (length xs) x
      → (i : ℕ) (y : X) → slice_get (xs ++ x ∷ []) i ≡ Some y → P i y
  each-push P xs x all here i y is = elim (at-push xs x i y is) [
    | inl before ↦ all i y before
    | inr last ↦ subst (λ (j : ℕ). P j y) (sym last.0) (subst (P (length xs)) last.1 here)
  ]

  -- before the last item, and there
  pub push-front : (xs : List X) (x : X) (i : ℕ) (y : X) → slice_get (xs ++ x ∷ []) i ≡ Some y → i < length xs → slice_get xs i ≡ Some y
  push-front xs x i y is low = elim (at-push xs x i y is) [ inl before ↦ before | inr last ↦ absurd (let e = last.0 in omega (arith, e, low)) ]

  pub push-last : (xs : List X) (x : X) (i : ℕ) (y : X) → slice_get (xs ++ x ∷ []) i ≡ Some y → i ≡ length xs → x ≡ y
  push-last xs x i y is here = elim (at-push xs x i y is) [
    | inl before ↦ absurd (let low = slice_get_within xs i y before in omega (arith, low, here))
    | inr last ↦ last.1
  ]

  -- an item of a list that is long enough
  pub item-of : (xs : List X) (i : ℕ) → i < length xs → (x : X) × (slice_get xs i ≡ Some x)
  item-of [] i low = absurd (omega (arith, low))
  item-of (x ∷ xs) zero low = (x, refl)
  item-of (x ∷ xs) (suc i) low = item-of xs i (omega (arith, low))

  -- lists of one length, of which one has the items of the other
  pub same-items : (xs ys : List X) → length xs ≡ length ys → ((i : ℕ) (x : X) → slice_get xs i ≡ Some x → slice_get ys i ≡ Some x) → xs ≡ ys
  same-items [] [] same each = refl
  same-items [] (y ∷ ys) same each = absurd (omega (arith, same))
  same-items (x ∷ xs) [] same each = absurd (omega (arith, same))
  same-items (x ∷ xs) (y ∷ ys) same each =
      let head : y ≡ x = cc (each 0 x refl) in
      let tail = same-items xs ys (omega (arith, same)) (λ i z is. each (suc i) z is) in
      ap (λ (z : X). z ∷ xs) (sym head) ∙ ap (λ (zs : List X). y ∷ zs) tail

pub at-map : {X Y : Type 0} (f : X → Y) (xs : List X) (i : ℕ) (x : X) → slice_get xs i ≡ Some x → slice_get (map f xs) i ≡ Some (f x)
at-map f [] i x is = absurd (cc is)
at-map f (z ∷ xs) zero x is = let e : z ≡ x = cc is in ap (λ y. Some (f y)) e
at-map f (z ∷ xs) (suc i) x is = at-map f xs i x is

-- four lists of one length, with one item more each
module _ {A B C D : Type 0} (P : ℕ → A → B → C → D → Type 0) (la : List A) (lb : List B) (lc : List C) (ld : List D) where
  abbrev pub Each : Type 0
  Each = (i : ℕ) (a : A) (b : B) (c : C) (d : D) → slice_get la i ≡ Some a → slice_get lb i ≡ Some b → slice_get lc i ≡ Some c → slice_get ld i ≡ Some d
      → P i a b c d

pub each-push-4 : {A B C D : Type 0} (P : ℕ → A → B → C → D → Type 0) (la : List A) (lb : List B) (lc : List C) (ld : List D)
    (a : A) (b : B) (c : C) (d : D) → length lb ≡ length la → length lc ≡ length la → length ld ≡ length la
    → Each P la lb lc ld → P (length la) a b c d → Each P (la ++ a ∷ []) (lb ++ b ∷ []) (lc ++ c ∷ []) (ld ++ d ∷ [])
each-push-4 P la lb lc ld a b c d nb nc nd all here i x y z w ex ey ez ew = elim (at-push la a i x ex) [
  | inl before ↦ (
      let low = slice_get_within la i x before in
      all i x y z w before (push-front lb b i y ey (omega (arith, low, nb))) (push-front lc c i z ez (omega (arith, low, nc)))
      (push-front ld d i w ew (omega (arith, low, nd))))
  | inr last ↦ (
      let at = last.0 in
      let eb = push-last lb b i y ey (at ∙ sym nb) in
      let ec = push-last lc c i z ez (at ∙ sym nc) in
      let ed = push-last ld d i w ew (at ∙ sym nd) in
      subst (λ (j : ℕ). P j x y z w) (sym at)
      (subst (λ v. P (length la) v y z w) last.1
      (subst (λ v. P (length la) a v z w) eb (subst (λ v. P (length la) a b v w) ec (subst (λ v. P (length la) a b c v) ed here)))))
]
