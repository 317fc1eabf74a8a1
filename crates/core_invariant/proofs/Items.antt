-- The item at a place of a list after one was put there.
use Rattle.std.proofs.Common.{◌≡◌, ◌≢◌, ℕ, zero, suc, List, [], ◌∷◌, set, slice_get, Some, refl, ap, sym}
use Rattle.core_model.proofs.Lists.{some-is}

pub get-set_same : {X : Type 0} (xs : List X) (i : ℕ) (x y : X) → slice_get xs i ≡ Some x → slice_get (set xs i y) i ≡ Some y
get-set_same [] i x y e = absurd (cc e)
get-set_same (z ∷ xs) zero x y e = refl
get-set_same (z ∷ xs) (suc i) x y e = get-set_same xs i x y e

pub get-set_other : {X : Type 0} (xs : List X) (i j : ℕ) (x : X) → j ≢ i → slice_get (set xs i x) j ≡ slice_get xs j
get-set_other [] i j x ne = refl
get-set_other (z ∷ xs) zero zero x ne = absurd (ne refl)
get-set_other (z ∷ xs) zero (suc j) x ne = refl
get-set_other (z ∷ xs) (suc i) zero x ne = refl
get-set_other (z ∷ xs) (suc i) (suc j) x ne = get-set_other xs i j x (λ e. ne (ap suc e))

-- the item that stands at a place already
pub set-same : {X : Type 0} (xs : List X) (i : ℕ) (x : X) → slice_get xs i ≡ Some x → set xs i x ≡ xs
set-same [] i x is = refl
set-same (y ∷ xs) zero x is = ap (λ z. z ∷ xs) (sym (some-is is))
set-same (y ∷ xs) (suc i) x is = ap (λ zs. y ∷ zs) (set-same xs i x is)
