-- Marks along a run, and how they are found.
use Rattle.std.proofs.Common.{◌≡◌, ℕ, zero, suc, ◌+◌, ◌*◌, ◌-◌, ◌<◌, ◌≤◌, true, false, List, [], ◌∷◌, ◌++◌, length, Option, Some, None, is_none, refl, sym, ap, ◌∙◌, arith, subst, IsSome, ◌⊎◌, inl, inr, ⊎_elim, get_or, is_some, length-append}
use Rattle.std.proofs.lemmas.Bool.{cases_lt, cond_both}
use Rattle.std.specs.Prelude.{slice_get}
use Rattle.std.specs.List.{AllZip}
use Rattle.std.proofs.lemmas.Option.{slice_get_read}
use Rattle.isa_model.specs.declared.ends.End.{End}
use Rattle.isa_model.specs.declared.task.Task.{Task}
use Rattle.isa_model.specs.Alone.{alone_at, count_to, count_of}
use Rattle.isa_model.proofs.AloneLaws.{count-stays}
use Rattle.alone_run.specs.declared.marks.Mark.{Mark}
use Rattle.alone_run.specs.Marks.{IsMarkOf}
use Rattle.alone_run.specs.RunPosition.{RunPosition}
use Rattle.probe_inspect.specs.Reached.{IsAfter}
use Rattle.probe_inspect.specs.Trails.{IsTrailOf}

-- a mark is one of as many instructions as it says
pub marked : (T : Task) (n : ℕ) (m : Mark) → IsMarkOf T n m → IsMarkOf T m.count m
marked T n m h = subst (λ k. IsMarkOf T k m) (sym h.count) h

-- no more instructions are executed than were asked for
pub count-most : (T : Task) (n : ℕ) → count_to T n ≤ n
unfolding count_to
count-most T zero = omega arith
count-most T (suc n) =
    let before = count-most T n in
    cond_both (is_none (alone_at T n).end) (count_to T n + 1) (count_to T n) (λ k. k ≤ suc n) (λ t. omega arith) (λ f. omega arith)

-- nor than to an end
pub count-ended : (T : Task) (n : ℕ) → IsSome (alone_at T n).end → count_of T ≤ n
count-ended T n ended =
    ⊎_elim
    (λ (lt : T.fuel < n). let most = count-most T T.fuel in omega arith)
    (λ (le : n ≤ T.fuel).
    let more : T.fuel ≡ n + (T.fuel - n) = omega arith in
    let same : count_of T ≡ count_to T n = ap (λ k. count_to T k) more ∙ count-stays T n (T.fuel - n) ended in
    let most = count-most T n in
    omega arith)
    (cases_lt T.fuel n)

module _ {X : Type 0} where
  at_push : (xs : List X) (x : X) (i : ℕ) (y : X) → slice_get (xs ++ x ∷ []) i ≡ Some y
      → (slice_get xs i ≡ Some y) ⊎ ((i ≡ length xs) × (x ≡ y))
  at_push [] x zero y is = let e : x ≡ y = cc is in inr (refl, e)
  at_push [] x (suc i) y is = absurd (cc is)
  at_push (z ∷ xs) x zero y is = inl is
  at_push (z ∷ xs) x (suc i) y is = elim (at_push xs x i y is) [ inl before ↦ inl before | inr last ↦ inr (ap suc last.0, last.1) ]

-- a mark more at the end
pub mark-more : (T : Task) (marks : List Mark) (m : Mark) → ((i : ℕ) (k : Mark) → slice_get marks i ≡ Some k → IsMarkOf T (256 * i) k)
    → IsMarkOf T (256 * length marks) m → (i : ℕ) (k : Mark) → slice_get (marks ++ m ∷ []) i ≡ Some k → IsMarkOf T (256 * i) k
mark-more T marks m each here i y is = elim (at_push marks m i y is) [
  | inl before ↦ each i y before
  | inr last ↦ subst (λ (j : ℕ). IsMarkOf T (256 * j) y) (sym last.0) (subst (IsMarkOf T (256 * length marks)) last.1 here)
]

-- what is at one place of two lists that belong together
pub zipped : {A B : Type 0} (R : A → B → Type 0) (xs : List A) (ys : List B) (i : ℕ) (x : A) (y : B) → AllZip R xs ys
    → slice_get xs i ≡ Some x → slice_get ys i ≡ Some y → R x y
zipped R [] [] i x y all at here = absurd (cc at)
zipped R [] (b ∷ ys) i x y all at here = absurd all
zipped R (a ∷ xs) [] i x y all at here = absurd all
zipped R (a ∷ xs) (b ∷ ys) zero x y all at here =
    let same : a ≡ x = cc at in
    let same' : b ≡ y = cc here in
    subst (λ v. R v y) same (subst (R a) same' all.0)
zipped R (a ∷ xs) (b ∷ ys) (suc i) x y all at here = zipped R xs ys i x y all.1 at here

pub zipped-within : {A B : Type 0} (R : A → B → Type 0) (xs : List A) (ys : List B) (i : ℕ) (x : A) → AllZip R xs ys → slice_get xs i ≡ Some x
    → i < length ys
zipped-within R [] [] i x all at = absurd (cc at)
zipped-within R [] (b ∷ ys) i x all at = absurd all
zipped-within R (a ∷ xs) [] i x all at = absurd all
zipped-within R (a ∷ xs) (b ∷ ys) zero x all at = omega arith
zipped-within R (a ∷ xs) (b ∷ ys) (suc i) x all at = let rest = zipped-within R xs ys i x all.1 at in omega arith

-- what was read at a place is there
pub read-at : {A : Type 0} (xs : List A) (i : ℕ) (x : A) → i < length xs → x ≡ get_or xs i x → slice_get xs i ≡ Some x
read-at xs i x low is = slice_get_read xs (length xs) i x refl low is

-- the marks with the one of a run that has come to the next place
pub each-more : (T : Task) (marks new : List Mark) (m : Mark) (i : ℕ) (a : RunPosition) → a.task ≡ T → a.count ≡ 256 * i → length marks ≡ i
    → ((k : ℕ) (y : Mark) → slice_get marks k ≡ Some y → IsMarkOf T (256 * k) y) → IsMarkOf a.task a.count m → new ≡ marks ++ m ∷ []
    → (k : ℕ) (y : Mark) → slice_get new k ≡ Some y → IsMarkOf T (256 * k) y
each-more T marks new m i a task count len each mark more k y is =
    let there : a.count ≡ 256 * length marks = count ∙ ap (λ n. 256 * n) (sym len) in
    let here : IsMarkOf T (256 * length marks) m = subst (λ n. IsMarkOf T n m) there (subst (λ t. IsMarkOf t a.count m) task mark) in
    mark-more T marks m each here k y (ap (λ l. slice_get l k) (sym more) ∙ is)

pub length-more : (marks new : List Mark) (m : Mark) (i : ℕ) → length marks ≡ i → new ≡ marks ++ m ∷ [] → length new ≡ i + 1
length-more marks new m i len more = let pushed = length-append marks (m ∷ []) in let same = ap length more in omega arith

some_if : (o : Option End) → is_some o ≡ true → IsSome o
some_if None h = absurd (cc h)
some_if (Some e) h = refl

none_if : (o : Option End) → is_some o ≡ false → o ≡ None
none_if None h = refl
none_if (Some e) h = absurd (cc h)

-- all marks, where the run has ended
pub trail-ended : (T : Task) (new : List Mark) (i : ℕ) (a b : RunPosition) (o : Option End) → a.task ≡ T → IsAfter a.task (256 * (i + 1)) b
    → o ≡ (alone_at b.task b.count).end → is_some o ≡ true → length new ≡ i + 1
    → ((k : ℕ) (y : Mark) → slice_get new k ≡ Some y → IsMarkOf T (256 * k) y) → IsTrailOf T new
trail-ended T new i a b o task after end ended len each =
    let same : b.task ≡ T = after.task ∙ task in
    let there : alone_at T b.count ≡ alone_at T (256 * (i + 1)) = subst (λ t. alone_at t b.count ≡ alone_at t (256 * (i + 1))) task after.state in
    let is : o ≡ (alone_at T (256 * (i + 1))).end = end ∙ ap (λ t. (alone_at t b.count).end) same ∙ ap (λ s. s.end) there in
    record {
      some = omega arith;
      each = each;
      whole = subst (λ (n : ℕ). count_of T ≤ 256 * n) (sym len) (count-ended T (256 * (i + 1)) (subst IsSome is (some_if o ended)));
    }

-- where it hasn't it is at the next place
pub not-ended : (T : Task) (i : ℕ) (a b : RunPosition) (o : Option End) → a.task ≡ T → IsAfter a.task (256 * (i + 1)) b
    → o ≡ (alone_at b.task b.count).end → is_some o ≡ false → b.count ≡ 256 * (i + 1)
not-ended T i a b o task after end running =
    after.exact (ap (λ t. (alone_at t b.count).end) (sym after.task) ∙ sym end ∙ none_if o running)
