-- A text that goes on with a line feed is that of one list of runs.
use Rattle.std.proofs.Common.{◌≡◌, ℕ, suc, ◌+◌, ◌<◌, ◌≤◌, ◌^◌, Bool, true, false, cond, eqb, List, [], ◌∷◌, ◌++◌, length, codes, decimal, append_assoc, refl, sym, ap, ◌∙◌, arith}
use Rattle.std.proofs.lemmas.Bool.{eqb-true}
use Rattle.std.proofs.lemmas.Fmt.{decimal_injective}
use Rattle.std.specs.List.{AllByRecursion}
use Rattle.core_model.specs.declared.event.OrderRun.{OrderRun}
use Rattle.timer_plan.specs.OrderText.{with_hart, runs_of, times_text, runs_text}
use Rattle.report_laws.proofs.Digits.{decimal_high, BeginsBelow, begins_below_more, first_same, rest_same, high_ends_once}

-- ---- the numbers of the runs of an order

pub record IsUpTo (most : ℕ) (run : OrderRun) : Type 0 where
  pub hart : run.hart < 256
  pub times : run.times ≤ most

abbrev pub AreUpTo : ℕ → List OrderRun → Type 0
AreUpTo most runs = AllByRecursion (IsUpTo most) runs

up_to_more : (most : ℕ) (runs : List OrderRun) → AreUpTo most runs → AreUpTo (suc most) runs
up_to_more most [] h = tt
up_to_more most (run ∷ runs) h =
    let low = h.0.times in (record { hart = h.0.hart; times = omega arith }, up_to_more most runs h.1)

joined_up_to : (b : Bool) (most hart : ℕ) (run : OrderRun) (runs : List OrderRun) → hart < 256 → AreUpTo most (run ∷ runs)
    → AreUpTo (suc most) (cond b (record { hart = hart; times = run.times + 1 } ∷ runs) (record { hart = hart; times = 1 } ∷ run ∷ runs))
joined_up_to true most hart run runs small h =
    let low = h.0.times in (record { hart = small; times = omega arith }, up_to_more most runs h.1)
joined_up_to false most hart run runs small h = (record { hart = small; times = omega arith }, up_to_more most (run ∷ runs) h)

with_hart_up_to : (most hart : ℕ) (runs : List OrderRun) → hart < 256 → AreUpTo most runs → AreUpTo (suc most) (with_hart hart runs)
with_hart_up_to most hart [] small h = (record { hart = small; times = omega arith }, tt)
with_hart_up_to most hart (run ∷ runs) small h = joined_up_to (eqb run.hart hart) most hart run runs small h

-- no run of an order comes more often than the order has entries
pub runs_up_to : (order : List ℕ) → AllByRecursion (λ hart. hart < 256) order → AreUpTo (length order) (runs_of order)
runs_up_to [] h = tt
runs_up_to (hart ∷ others) h = with_hart_up_to (length others) hart (runs_of others) h.0 (runs_up_to others h.1)

-- ---- what stands after a number

-- after the runs: the blank of the next one, or what follows them all
after_runs : (runs : List OrderRun) (text : List ℕ) → BeginsBelow 42 text → BeginsBelow 42 (runs_text runs ++ text)
after_runs [] text h = h
after_runs (run ∷ runs) text h = omega arith

-- how often a run comes, and what stands after it
abbrev with_times : Bool → ℕ → List ℕ → List ℕ
with_times b times text = cond b [] (codes "*" ++ decimal times) ++ text

after_hart : (b : Bool) (times : ℕ) (text : List ℕ) → BeginsBelow 42 text → BeginsBelow 48 (with_times b times text)
after_hart true times text h = begins_below_more 42 48 text (omega arith) h
after_hart false times text h = omega arith

no_star : (text after : List ℕ) → BeginsBelow 42 text → text ≡ 42 ∷ after → ⊥
no_star [] after h e = h
no_star (c ∷ text) after h e = omega (arith, first_same c 42 text after e)

times_once : (a b : Bool) (m n : ℕ) (text other : List ℕ) → m < 2 ^ 64 → n < 2 ^ 64 → (a ≡ true → m ≡ 1) → (b ≡ true → n ≡ 1)
    → BeginsBelow 42 text → BeginsBelow 42 other → with_times a m text ≡ with_times b n other → (m ≡ n) × (text ≡ other)
times_once true true m n text other fits fits2 one one2 h k e = (one refl ∙ sym (one2 refl), e)
times_once true false m n text other fits fits2 one one2 h k e = absurd (no_star text (decimal n ++ other) h e)
times_once false true m n text other fits fits2 one one2 h k e = absurd (no_star other (decimal m ++ text) k (sym e))
times_once false false m n text other fits fits2 one one2 h k e =
    let p = high_ends_once (decimal m) (decimal n) text other (decimal_high m) (decimal_high n)
    (begins_below_more 42 48 text (omega arith) h) (begins_below_more 42 48 other (omega arith) k)
    (rest_same 42 42 (decimal m ++ text) (decimal n ++ other) e) in
    (decimal_injective m n fits fits2 p.0, p.1)

-- ---- run by run

run_first : (run : OrderRun) (runs : List OrderRun) (text : List ℕ)
    → runs_text (run ∷ runs) ++ text ≡ 32 ∷ (decimal run.hart ++ (times_text run.times ++ (runs_text runs ++ text)))
run_first run runs text =
    ap (λ l. 32 ∷ l) (append_assoc (decimal run.hart ++ times_text run.times) (runs_text runs) text
    ∙ append_assoc (decimal run.hart) (times_text run.times) (runs_text runs ++ text))

run_same : (a b : OrderRun) → a.hart ≡ b.hart → a.times ≡ b.times → a ≡ b
run_same a b e f = ap (λ h. record { hart = h; times = a.times }) e ∙ ap (λ n. record { hart = b.hart; times = n }) f

-- the first runs of two lists that have the same text
pub record BeginAlike (run other : OrderRun) (text otherwise : List ℕ) : Type 0 where
  pub first : run ≡ other
  pub rest : text ≡ otherwise

first_once : (most most2 : ℕ) (run other : OrderRun) (text text2 : List ℕ) → most < 2 ^ 64 → most2 < 2 ^ 64 → IsUpTo most run → IsUpTo most2 other
    → BeginsBelow 42 text → BeginsBelow 42 text2
    → decimal run.hart ++ (times_text run.times ++ text) ≡ decimal other.hart ++ (times_text other.times ++ text2) → BeginAlike run other text text2
first_once most most2 run other text text2 fits fits2 h k begins begins2 e =
    let low = h.times in
    let low2 = k.times in
    let small = h.hart in
    let small2 = k.hart in
    let p = high_ends_once (decimal run.hart) (decimal other.hart) (times_text run.times ++ text) (times_text other.times ++ text2)
    (decimal_high run.hart) (decimal_high other.hart)
    (after_hart (eqb run.times 1) run.times text begins) (after_hart (eqb other.times 1) other.times text2 begins2) e in
    let q = times_once (eqb run.times 1) (eqb other.times 1) run.times other.times text text2 (omega arith) (omega arith)
    (eqb-true run.times 1) (eqb-true other.times 1) begins begins2 p.1 in
    record { first = run_same run other (decimal_injective run.hart other.hart (omega arith) (omega arith) p.0) q.0; rest = q.1 }

pub runs_once : (most most2 : ℕ) (runs others : List OrderRun) (text text2 : List ℕ) → most < 2 ^ 64 → most2 < 2 ^ 64
    → AreUpTo most runs → AreUpTo most2 others → runs_text runs ++ (10 ∷ text) ≡ runs_text others ++ (10 ∷ text2) → runs ≡ others
runs_once most most2 [] [] text text2 fits fits2 h k e = refl
runs_once most most2 [] (other ∷ others) text text2 fits fits2 h k e =
    absurd (omega (arith, first_same 10 32 _ _ (e ∙ run_first other others (10 ∷ text2))))
runs_once most most2 (run ∷ runs) [] text text2 fits fits2 h k e =
    absurd (omega (arith, first_same 32 10 _ _ (sym (run_first run runs (10 ∷ text)) ∙ e)))
runs_once most most2 (run ∷ runs) (other ∷ others) text text2 fits fits2 h k e =
    let p = first_once most most2 run other (runs_text runs ++ (10 ∷ text)) (runs_text others ++ (10 ∷ text2)) fits fits2 h.0 k.0
    (after_runs runs (10 ∷ text) (omega arith)) (after_runs others (10 ∷ text2) (omega arith))
    (rest_same 32 32 _ _ (sym (run_first run runs (10 ∷ text)) ∙ (e ∙ run_first other others (10 ∷ text2)))) in
    let first : run ≡ other = p.first in
    let rest : runs ≡ others = runs_once most most2 runs others text text2 fits fits2 h.1 k.1 p.rest in cc
