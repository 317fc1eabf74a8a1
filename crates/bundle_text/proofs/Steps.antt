-- What a chain of steps that may fail leaves of its parts.
use Rattle.std.proofs.Common.{◌≡◌, ℕ, Bool, true, false, cond, List, [], ◌∷◌, ◌++◌, length, Result, Ok, Err, refl, arith}
use Rattle.std.specs.List.{AllByRecursion}
use Rattle.bundle_text.specs.Operands.{◌>>=◌, each}
use Rattle.bundle_text.specs.declared.bundle.BundleKind.{BundleKind}

pub same_ok : {A E : Type 0} (x y : A) → ◌≡◌ {A = Result A E} (Ok x) (Ok y) → x ≡ y
same_ok x y e = cc

pub err_ok : {A E : Type 0} (y : A) (e : E) → ◌≡◌ {A = Result A E} (Err e) (Ok y) → ⊥
err_ok y e h = cc

-- a chain that succeeds began with a success
pub then_ok : {A B E : Type 0} (r : Result A E) (f : A → Result B E) (y : B) → (r >>= f) ≡ Ok y → (x : A) × (r ≡ Ok x) × (f x ≡ Ok y)
then_ok (Ok x) f y e = (x, refl, e)
then_ok (Err k) f y e = absurd (err_ok y k e)

-- a choice that succeeds took the side that may
pub if_ok : {A E : Type 0} (t : Bool) (r : Result A E) (k : E) (y : A) → cond t r (Err k) ≡ Ok y → (t ≡ true) × (r ≡ Ok y)
if_ok true r k y e = (refl, e)
if_ok false r k y e = absurd (err_ok y k e)

pub else_ok : {A E : Type 0} (t : Bool) (r : Result A E) (k : E) (y : A) → cond t (Err k) r ≡ Ok y → (t ≡ false) × (r ≡ Ok y)
else_ok true r k y e = absurd (err_ok y k e)
else_ok false r k y e = (refl, e)

pub all_append : {A : Type 0} (P : A → Type 0) (xs ys : List A) → AllByRecursion P xs → AllByRecursion P ys → AllByRecursion P (xs ++ ys)
all_append P [] ys h k = k
all_append P (x ∷ xs) ys h k = (h.0, all_append P xs ys h.1 k)

-- what each token says has what is common to all sayings
pub each_all : {A : Type 0} (P : A → Type 0) (says : List ℕ → Result A BundleKind) → ((t : List ℕ) (x : A) → says t ≡ Ok x → P x)
    → (ts : List (List ℕ)) (xs : List A) → each says ts ≡ Ok xs → AllByRecursion P xs × (length xs ≡ length ts)
each_all {A} P says holds [] xs e =
    let same : [] ≡ xs = same_ok [] xs e in rw (← same) (tt, refl)
each_all {A} P says holds (t ∷ ts) xs e =
    let first = then_ok (says t) (λ x. each says ts >>= λ more. Ok (x ∷ more)) xs e in
    let others = then_ok (each says ts) (λ more. Ok (first.0 ∷ more)) xs first.2 in
    let same : first.0 ∷ others.0 ≡ xs = same_ok (first.0 ∷ others.0) xs others.2 in
    let rest = each_all P says holds ts others.0 others.1 in
    let count : length (first.0 ∷ others.0) ≡ length (t ∷ ts) = let same_count = rest.1 in omega arith in
    rw (← same) ((holds t first.0 first.1, rest.0), count)
