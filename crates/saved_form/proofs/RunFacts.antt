-- The last hart of runs, and how often they come.
use Rattle.std.proofs.Common.{◌≡◌, ℕ, ◌+◌, ◌&&◌, not, nat_le, nat_lt, List, [], ◌∷◌, ◌++◌, Option, Some, refl, sym, ap, ◌∙◌, arith}
use Rattle.std.specs.List.{sum_by}
use Rattle.std.proofs.lemmas.List.Sums.{sum_by-append}
use Rattle.core_model.specs.declared.event.OrderRun.{OrderRun}
use Rattle.saved_form.specs.Fields.{Place, Reader, field, pair, made}
use Rattle.saved_form.specs.Ranges.{last_hart, is_hart_again}
use Rattle.saved_form.specs.Reading.{run_from, run}

abbrev times_of : OrderRun → ℕ
times_of r = r.times

-- a run after runs with this last hart, which come so often
abbrev pub run_after : ℕ → Option ℕ → ℕ → Reader OrderRun
run_after harts last total =
    made run_from
    (pair (field (λ hart. nat_lt hart harts && not (is_hart_again last hart))) (λ hart. field (λ times. nat_le 1 times && nat_le (total + times) 1048576)))

pub same-run : (harts : ℕ) (before : List OrderRun) (last : Option ℕ) (total : ℕ) (p : Place) → last ≡ last_hart before
    → total ≡ sum_by (λ (r : OrderRun). r.times) before → run harts before p ≡ run_after harts last total p
same-run harts before last total p e sum =
    ap (λ l. run_after harts l (sum_by (λ (r : OrderRun). r.times) before) p) (sym e) ∙ ap (λ n. run_after harts last n p) (sym sum)

one-sum : (r : OrderRun) → sum_by times_of (r ∷ []) ≡ r.times
one-sum r = omega arith

pub last-more : (before : List OrderRun) (r : OrderRun) → last_hart (before ++ r ∷ []) ≡ Some r.hart
last-more [] r = refl
last-more (a ∷ []) r = refl
last-more (a ∷ b ∷ others) r = last-more (b ∷ others) r

pub sum-more : (before : List OrderRun) (r : OrderRun) → sum_by (λ (s : OrderRun). s.times) (before ++ r ∷ []) ≡ sum_by (λ (s : OrderRun). s.times) before + r.times
sum-more before r =
    sum_by-append times_of before (r ∷ []) ∙ ap (λ n. sum_by times_of before + n) (one-sum r)
