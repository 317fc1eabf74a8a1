-- Lists in which one item changes, or which grow by one item.
use Rattle.std.proofs.Common.{Some, slice_get, is_some, unwrap_or, true≢false, ◌≡◌, ℕ, zero, suc, ◌<◌, ◌≢◌, ◌⊎◌, List, [], ◌∷◌, ◌++◌, length, set, get_or, remove, sym, refl, ap, subst, ⊎_elim, inl, inr, arith}
use mathlib.Core.Option.{some, some-injective, some-ne-none}
use lib.ListN.{get_elem?}
use Rattle.atomic_table.proofs.Lists.{at_set}

module _ {A : Type 0} where
  pub at_below : (xs : List A) (i : ℕ) (x : A) → get_elem? xs i ≡ some x → i < length xs
  at_below [] i x e = absurd (some-ne-none x (sym e))
  at_below (y ∷ ys) zero x e = omega arith
  at_below (y ∷ ys) (suc i) x e = let below = at_below ys i x e in omega arith

  -- an item of a longer list is the new one, or was there
  pub at_end : (xs : List A) (new x : A) (i : ℕ) → get_elem? (xs ++ new ∷ []) i ≡ some x → (get_elem? xs i ≡ some x) ⊎ ((i ≡ length xs) × (new ≡ x))
  at_end [] new x zero e = inr (refl, some-injective new x e)
  at_end [] new x (suc i) e = absurd (some-ne-none x (sym e))
  at_end (y ∷ ys) new x zero e = inl e
  at_end (y ∷ ys) new x (suc i) e = ⊎_elim inl (λ last. inr (ap suc last.0, last.1)) (at_end ys new x i e)

  -- what holds of the new item, and of each other one, holds of each
  pub each_set : (P : ℕ → A → Type 0) (xs : List A) (place : ℕ) (new : A) → P place new → ((i : ℕ) (x : A) → i ≢ place → get_elem? xs i ≡ some x → P i x)
      → (i : ℕ) (x : A) → get_elem? (set xs place new) i ≡ some x → P i x
  each_set P xs place new mine others i x e = ⊎_elim
      (λ (t : (i ≡ place) × (new ≡ x)). subst (λ (z : ℕ × A). P z.0 z.1) (λ j. (sym t.0 j, t.1 j)) mine)
      (λ (t : (i ≢ place) × (get_elem? xs i ≡ some x)). others i x t.0 t.1)
      (at_set xs place i new x e)

  pub each_alone : (P : ℕ → A → Type 0) (new : A) → P 0 new → (i : ℕ) (x : A) → get_elem? (new ∷ []) i ≡ some x → P i x
  each_alone P new here zero x e = subst (P 0) (some-injective new x e) here
  each_alone P new here (suc i) x e = absurd (some-ne-none x (sym e))

  pub each_snoc : (P : ℕ → A → Type 0) (xs : List A) (new : A) → P (length xs) new → ((i : ℕ) (x : A) → get_elem? xs i ≡ some x → P i x)
      → (i : ℕ) (x : A) → get_elem? (xs ++ new ∷ []) i ≡ some x → P i x
  each_snoc P xs new last others i x e = ⊎_elim (λ was. others i x was) (λ now. subst (λ (z : ℕ × A). P z.0 z.1) (λ j. (sym now.0 j, now.1 j)) last) (at_end xs new x i e)

  -- the table's word for an item, and std's
  pub to_slice_get : (xs : List A) (i : ℕ) (x : A) → get_elem? xs i ≡ some x → slice_get xs i ≡ Some x
  to_slice_get [] i x e = absurd (some-ne-none x (sym e))
  to_slice_get (y ∷ ys) zero x e = ap (λ z. Some z) (some-injective y x e)
  to_slice_get (y ∷ ys) (suc i) x e = to_slice_get ys i x e

  pub from_slice_get : (xs : List A) (i : ℕ) (x : A) → slice_get xs i ≡ Some x → get_elem? xs i ≡ some x
  from_slice_get [] i x e = absurd (true≢false (sym (ap is_some e)))
  from_slice_get (y ∷ ys) zero x e = ap (λ z. some z) (ap (λ o. unwrap_or o y) e)
  from_slice_get (y ∷ ys) (suc i) x e = from_slice_get ys i x e

  -- the item between two lists stands behind the first
  pub at_seam : (xs ys : List A) (x : A) → get_elem? (xs ++ x ∷ ys) (length xs) ≡ some x
  at_seam [] ys x = refl
  at_seam (z ∷ zs) ys x = at_seam zs ys x

  pub at_index_below : (xs : List A) (i : ℕ) → i < length xs → (x : A) × (get_elem? xs i ≡ some x)
  at_index_below [] i below = absurd (omega arith)
  at_index_below (x ∷ xs) zero below = (x, refl)
  at_index_below (x ∷ xs) (suc i) below = at_index_below xs i (omega arith)

  -- a list that isn't empty is its first item and the rest
  pub first_and_rest : (xs : List A) (x : A) (ys : List A) → 0 < length xs → x ≡ get_or xs 0 x → ys ≡ remove xs 0 → xs ≡ x ∷ ys
  first_and_rest [] x ys some_item e f = absurd (omega arith)
  first_and_rest (z ∷ zs) x ys some_item e f = λ i. sym e i ∷ sym f i

  pub nil_of_length : (xs : List A) → length xs ≡ 0 → xs ≡ []
  nil_of_length [] e = refl
  nil_of_length (x ∷ xs) e = absurd (omega arith)
