-- No more is out than there are harts.
use Rattle.std.proofs.Common.{◌≡◌, ℕ, zero, suc, ◌+◌, ◌≤◌, ◌<◌, ◌≢◌, Bool, true, false, not, cond, List, [], ◌∷◌, length, filter, get_or, ◌==◌, Option, Some, None, refl, sym, ap, ◌∙◌, subst, arith, ⊎_elim}
use Rattle.std.specs.Prelude.{All}
use Rattle.std.proofs.lemmas.Bool.{eqb-false}
use Rattle.std.proofs.lemmas.Option.{slice_get_cases}
use Rattle.std.proofs.lemmas.List.Elements.{All-head, All-filter, filter_passes}
use Rattle.hart_model.specs.Context.{ContextState}
use Rattle.core_model.specs.declared.loaded.Loaded.{Loaded}
use Rattle.core_model.specs.Board.{OutEntry, out_without}
use Rattle.core_model.specs.Core.{CoreState}
use Rattle.core_model.specs.Soundness.{entries_held}
use Rattle.core_invariant.specs.KernelStates.{KernelParts}
use Rattle.core_invariant.specs.Invariant.{IsCoreKept}
use Rattle.core_model.proofs.Counts.{on_hart}
use Rattle.core_invariant.proofs.Boards.{others_stay}

-- those that pass a test and the others are all
one_of_two : {X : Type 0} (b : Bool) (x : X) (xs ys : List X) → length (cond (not b) (x ∷ xs) xs) + length (cond b (x ∷ ys) ys) ≡ suc (length xs + length ys)
one_of_two true x xs ys = omega arith
one_of_two false x xs ys = omega arith

length_split : {X : Type 0} (q : X → Bool) (xs : List X) → length (filter (λ x. not (q x)) xs) + length (filter q xs) ≡ length xs
length_split q [] = refl
length_split q (x ∷ xs) = one_of_two (q x) x (filter (λ y. not (q y)) xs) (filter q xs) ∙ ap suc (length_split q xs)

not_this : (n : ℕ) (o : OutEntry) → o.hart < suc n → not (on_hart n o) ≡ true → o.hart < n
not_this n o lt other = by_test (o.hart == n) refl other
  where
    by_test : (test : Bool) → (o.hart == n) ≡ test → not test ≡ true → o.hart < n
    by_test true is away = absurd (cc away)
    by_test false is away = let ne = eqb-false o.hart n is in omega (arith, ne)

-- entries on so many harts, on each of them one at most
few_entries : (n : ℕ) (out : List OutEntry) → All (λ (o : OutEntry). o.hart < n) out → ((i : ℕ) → i < n → length (filter (on_hart i) out) ≤ 1)
    → length out ≤ n
few_entries zero [] low each = omega arith
few_entries zero (o ∷ out) low each = let none = All-head (λ (x : OutEntry). x.hart < 0) o out low in absurd (omega arith)
few_entries (suc n) out low each =
    let rest = out_without n out in
    let below = All-filter (λ (o : OutEntry). not (on_hart n o)) (λ (o : OutEntry). o.hart < suc n) out low in
    let others = filter_passes (λ (o : OutEntry). not (on_hart n o)) out in
    let fewer = few_entries n rest (λ j d lt. not_this n (get_or rest j d) (below j d lt) (others j d lt)) (λ i lt.
    let same : i ≢ n = λ e. absurd (omega arith) in
    subst (λ (xs : List OutEntry). length xs ≤ 1) (sym (others_stay i n out same)) (each i (omega arith))) in
    let here = each n (omega arith) in
    let both = length_split (on_hart n) out in
    omega arith

one_held : (hart : ℕ) (held : Option ContextState) → length (entries_held hart held) ≤ 1
one_held hart None = omega arith
one_held hart (Some c) = omega arith

-- No more is out than there are harts.
pub out-fits : (k : KernelParts) (loaded : Loaded) (c : CoreState) → IsCoreKept k loaded c → length c.board.out ≤ loaded.harts
out-fits k loaded c kept = few_entries loaded.harts c.board.out kept.out_exists each
  where
    each : (i : ℕ) → i < loaded.harts → length (filter (on_hart i) c.board.out) ≤ 1
    each i lt =
        let count = kept.hart_count in
        ⊎_elim
        (λ p. subst (λ (xs : List OutEntry). length xs ≤ 1) (sym (kept.out i p.0 p.2)) (one_held i p.0.held))
        (λ p. absurd (omega (arith, p.0)))
        (slice_get_cases c.harts i).1
