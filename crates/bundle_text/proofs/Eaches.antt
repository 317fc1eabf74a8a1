-- What each of some tokens says, token by token.
use Rattle.std.proofs.Common.{◌≡◌, ℕ, List, [], ◌∷◌, ◌++◌, Result, Ok, Err, refl, ap, sym, ◌∙◌, append_assoc}
use Rattle.bundle_text.specs.Operands.{◌>>=◌, each}
use Rattle.bundle_text.specs.declared.bundle.BundleKind.{BundleKind}

-- what the tokens say, after values that stand in front
abbrev pub each_after : {A : Type 0} → (List ℕ → Result A BundleKind) → List A → List (List ℕ) → Result (List A) BundleKind
each_after says front ts = each says ts >>= λ more. Ok (front ++ more)

more_in_front : {A : Type 0} (front : List A) (x : A) (rest : Result (List A) BundleKind)
    → ((rest >>= λ xs. Ok (x ∷ xs)) >>= λ more. Ok (front ++ more)) ≡ (rest >>= λ more. Ok ((front ++ x ∷ []) ++ more))
more_in_front front x (Ok xs) = ap (λ l. Ok l) (sym (append_assoc front (x ∷ []) xs))
more_in_front front x (Err kind) = refl

pub each-more : {A : Type 0} (says : List ℕ → Result A BundleKind) (front : List A) (t : List ℕ) (ts : List (List ℕ)) (x : A) → says t ≡ Ok x
    → each_after says front (t ∷ ts) ≡ each_after says (front ++ x ∷ []) ts
each-more says front t ts x h =
    ap (λ r. (r >>= λ y. each says ts >>= λ ys. Ok (y ∷ ys)) >>= λ more. Ok (front ++ more)) h ∙ more_in_front front x (each says ts)

pub each-stops : {A : Type 0} (says : List ℕ → Result A BundleKind) (front : List A) (t : List ℕ) (ts : List (List ℕ)) (kind : BundleKind) → says t ≡ Err kind
    → each_after says front (t ∷ ts) ≡ Err kind
each-stops says front t ts kind h = ap (λ r. (r >>= λ y. each says ts >>= λ ys. Ok (y ∷ ys)) >>= λ more. Ok (front ++ more)) h
