-- Lists that grow at their end, and the values of a run along a course.
use Rattle.std.proofs.Common.{◌≡◌, ◌⊎◌, inl, inr, ℕ, ◌+◌, ◌<◌, ◌≤◌, List, [], ◌∷◌, ◌++◌, map, length, slice_get, Some, refl, ap, sym, ◌∙◌, subst, arith, add-one, get_or}
use Rattle.std.proofs.lemmas.Bool.{cases_lt}
use Rattle.std.proofs.lemmas.Option.{same_Some, slice_get_read}
use Rattle.isa_model.specs.declared.latch.Latch.{Latch}
use Rattle.isa_model.specs.declared.task.Task.{Task}
use Rattle.isa_model.specs.AloneValue.{alone_value}
use Rattle.alone_run.specs.RunPosition.{RunPosition}
use Rattle.probe_inspect.specs.declared.course.Passed.{Passed}
use Rattle.probe_inspect.specs.declared.course.Course.{Course}
use Rattle.probe_inspect.specs.Course.{IsSeenAt, latches_of, latches_at, values_to}
use Rattle.probe_inspect.specs.Rows.{IsSeenTo}
use Rattle.probe_inspect.proofs.Grouping.{get-push}

-- what is so of each item and its place is so after one more
pub each-push : {X : Type 0} (P : ℕ → X → Type 0) (xs : List X) (x : X) → ((n : ℕ) (y : X) → slice_get xs n ≡ Some y → P n y) → P (length xs) x
    → (n : ℕ) (y : X) → slice_get (xs ++ x ∷ []) n ≡ Some y → P n y
each-push {X} P xs x each last n y is = go (get-push xs x y n is)
  where
    go : (slice_get xs n ≡ Some y) ⊎ ((n ≡ length xs) × (x ≡ y)) → P n y
    go (inl there) = each n y there
    go (inr (at, same)) = subst (λ (z : X). P n z) same (subst (λ k. P k x) (sym at) last)

-- at another task and count that are the same
pub at-place : (P : Task → ℕ → Type 0) (a : RunPosition) (T : Task) (n : ℕ) → a.task ≡ T → a.count ≡ n → P a.task a.count → P T n
at-place P a T n task count p = subst (λ (t : Task). P t n) task (subst (λ k. P a.task k) count p)

pub from-place : (P : Task → ℕ → Type 0) (a : RunPosition) (T : Task) (n : ℕ) → a.task ≡ T → a.count ≡ n → P T n → P a.task a.count
from-place P a T n task count p = subst (λ k. P a.task k) (sym count) (subst (λ (t : Task). P t n) (sym task) p)

pub values-none : (T : Task) (later : ℕ) (latches : ℕ → List Latch) → values_to T later latches 0 ≡ []
unfolding values_to
values-none T later latches = refl

pub values-more : (T : Task) (later n : ℕ) (latches : ℕ → List Latch)
    → values_to T later latches (n + 1) ≡ values_to T later latches n ++ map (alone_value T (n + later)) (latches n)
unfolding values_to
values-more T later n latches = ap (λ k. values_to T later latches k) (add-one n)

-- one instruction more that is seen
pub seen-more : (T : Task) (course : Course) (n : ℕ) (passed : Passed) → slice_get course.steps n ≡ Some passed → IsSeenTo T course n
    → IsSeenAt T n passed → IsSeenTo T course (n + 1)
seen-more T course n passed there before here m other low is = go (cases_lt m n)
  where
    go : (m < n) ⊎ (n ≤ m) → IsSeenAt T m other
    go (inl less) = before m other less is
    go (inr past) =
        let at : n ≡ m = omega (arith, low, past) in
        let same : passed ≡ other = same_Some passed other (sym there ∙ ap (λ k. slice_get course.steps k) at ∙ is) in
        subst (λ (p : Passed). IsSeenAt T m p) same (subst (λ k. IsSeenAt T k passed) at here)

-- the latches of a step that is there
pub latches-there : (course : Course) (n : ℕ) (passed : Passed) → slice_get course.steps n ≡ Some passed → latches_at course n ≡ passed.latches
latches-there course n passed is = ap latches_of is

-- the values of one step more
pub values-step : (T : Task) (later n : ℕ) (latches : ℕ → List Latch) (a : RunPosition) (old new : List ℕ) (ls : List Latch)
    → new ≡ old ++ map (alone_value a.task a.count) ls → old ≡ values_to T later latches n → ls ≡ latches n → a.task ≡ T → a.count ≡ n + later
    → new ≡ values_to T later latches (n + 1)
values-step T later n latches a old new ls is before same task count =
    is ∙ ap (λ (xs : List ℕ). xs ++ map (alone_value a.task a.count) ls) before
    ∙ ap (λ (ks : List Latch). values_to T later latches n ++ map (alone_value a.task a.count) ks) same
    ∙ ap (λ (t : Task). values_to T later latches n ++ map (alone_value t a.count) (latches n)) task
    ∙ ap (λ k. values_to T later latches n ++ map (alone_value T k) (latches n)) count
    ∙ sym (values-more T later n latches)

-- an item that was read from a list that is this one
pub read-of : {X : Type 0} (xs ys : List X) (n : ℕ) (x : X) → xs ≡ ys → n < length xs → x ≡ get_or xs n x → slice_get ys n ≡ Some x
read-of {X} xs ys n x same low is = subst (λ (zs : List X). slice_get zs n ≡ Some x) same (slice_get_read xs (length xs) n x refl low is)
