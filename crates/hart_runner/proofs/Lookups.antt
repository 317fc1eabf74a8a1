-- What stands where code looks: the plan of a hart in the list of plans, what an option holds, the front of a list.
use Rattle.std.proofs.Common.{◌≡◌, ℕ, ◌<◌, List, [], ◌∷◌, ◌++◌, length, take, get_or, slice_get, Option, Some, None, MatchOption, IsSome, refl, sym, ap, ◌∙◌, subst, arith}
use Rattle.std.proofs.lemmas.Option.{slice_get-get_or, get_or_from_slice_get}
use Rattle.core_model.specs.declared.plan.Plan.{Plan}
use Rattle.core_model.specs.declared.loaded.Loaded.{Loaded}
use Rattle.core_model.specs.Loaded.{IsLoaded}
use Rattle.core_model.specs.Orders.{plan_at}

pub plan-is : (loaded : Loaded) → IsLoaded loaded → (plans : List Plan) → plans ≡ loaded.plans → (number : ℕ) (plan : Plan) → number < loaded.harts
    → plan ≡ get_or plans number plan → plan ≡ plan_at loaded.plans number
plan-is loaded fits plans same number plan low is =
    let each = fits.limits.plan_each in
    let count = ap (λ (ps : List Plan). length ps) same in
    let at : slice_get plans number ≡ Some plan =
    slice_get-get_or plans number plan (omega (arith, low, each, count)) ∙ ap (λ (p : Plan). Some p) (sym is) in
    sym (get_or_from_slice_get loaded.plans number plan _ (ap (λ (ps : List Plan). slice_get ps number) (sym same) ∙ at))

pub match-some : {X : Type 0} (o : Option X) (P : X → Type 0) → MatchOption o ⊥ P → IsSome o
match-some None P match = absurd match
match-some (Some x) P match = refl

pub match-at : {X : Type 0} (o : Option X) (P : X → Type 0) (x : X) → o ≡ Some x → MatchOption o ⊥ P → P x
match-at o P x is match = subst (λ q. MatchOption q ⊥ P) is match

take-front : {X : Type 0} (front rest : List X) → take (length front) (front ++ rest) ≡ front
take-front [] rest = refl
take-front (x ∷ front) rest = ap (λ xs. x ∷ xs) (take-front front rest)

pub front-at : {X : Type 0} (front rest : List X) (len i : ℕ) (x : X) → len ≡ length front → slice_get (take len (front ++ rest)) i ≡ Some x
    → slice_get front i ≡ Some x
front-at front rest len i x same is =
    sym (ap (λ n. slice_get (take n (front ++ rest)) i) same ∙ ap (λ xs. slice_get xs i) (take-front front rest)) ∙ is
