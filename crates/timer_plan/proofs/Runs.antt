-- Runs of an order, from the front and from the back.
use Rattle.std.proofs.Common.{◌≡◌, ℕ, zero, suc, ◌+◌, ◌-◌, ◌<◌, ◌≤◌, Bool, true, false, cond, eqb, List, [], ◌∷◌, ◌++◌, length, get_or, drop, append_assoc, replicate, refl, sym, ap, ◌∙◌, subst, arith, add-one, eq-eqb}
use Rattle.std.proofs.lemmas.Bool.{eqb-true, eqb-false, ne_eqb}
use Rattle.std.proofs.lemmas.List.{drop_more}
use Rattle.core_model.specs.Events.{order_of}
use Rattle.core_model.specs.declared.event.OrderRun.{OrderRun}
use Rattle.timer_plan.specs.OrderText.{with_hart, runs_of, BeginsOtherwise, IsMaximal, run_text, runs_text}

-- ---- the order of the runs

joined_order : (b : Bool) (h : ℕ) (run : OrderRun) (runs : List OrderRun) → (b ≡ true → run.hart ≡ h)
    → order_of (cond b (record { hart = h; times = run.times + 1 } ∷ runs) (record { hart = h; times = 1 } ∷ run ∷ runs)) ≡ h ∷ order_of (run ∷ runs)
joined_order true h run runs same =
    ap (λ n. replicate n h ++ order_of runs) (add-one run.times) ∙ ap (λ k. h ∷ (replicate run.times k ++ order_of runs)) (sym (same refl))
joined_order false h run runs same = refl

with_hart_order : (h : ℕ) (runs : List OrderRun) → order_of (with_hart h runs) ≡ h ∷ order_of runs
with_hart_order h [] = refl
with_hart_order h (run ∷ runs) = joined_order (eqb run.hart h) h run runs (eqb-true run.hart h)

pub runs_order : (order : List ℕ) → order_of (runs_of order) ≡ order
runs_order [] = refl
runs_order (h ∷ others) = with_hart_order h (runs_of others) ∙ ap (λ l. h ∷ l) (runs_order others)

-- ---- the runs are maximal

joined_maximal : (b : Bool) (h : ℕ) (run : OrderRun) (runs : List OrderRun) → (b ≡ true → run.hart ≡ h) → (b ≡ false → run.hart ≡ h → ⊥)
    → IsMaximal (run ∷ runs) → IsMaximal (cond b (record { hart = h; times = run.times + 1 } ∷ runs) (record { hart = h; times = 1 } ∷ run ∷ runs))
joined_maximal true h run runs same other m = (omega arith, subst (λ k. BeginsOtherwise k runs) (same refl) m.1, m.2)
joined_maximal false h run runs same other m = (omega arith, other refl, m)

with_hart_maximal : (h : ℕ) (runs : List OrderRun) → IsMaximal runs → IsMaximal (with_hart h runs)
with_hart_maximal h [] m = (omega arith, tt, tt)
with_hart_maximal h (run ∷ runs) m = joined_maximal (eqb run.hart h) h run runs (eqb-true run.hart h) (eqb-false run.hart h) m

pub runs_maximal : (order : List ℕ) → IsMaximal (runs_of order)
runs_maximal [] = tt
runs_maximal (h ∷ others) = with_hart_maximal h (runs_of others) (runs_maximal others)

-- ---- a run before others

-- the runs with a run before them, which joins the first one where that is of the same hart
abbrev pub with_run : ℕ → ℕ → List OrderRun → List OrderRun
with_run h t [] = record { hart = h; times = t } ∷ []
with_run h t (run ∷ runs) = cond (eqb run.hart h) (record { hart = h; times = run.times + t } ∷ runs) (record { hart = h; times = t } ∷ run ∷ runs)

pub with_hart-run : (h : ℕ) (runs : List OrderRun) → with_hart h runs ≡ with_run h 1 runs
with_hart-run h [] = refl
with_hart-run h (run ∷ runs) = refl

same_first : (h a b : ℕ) (runs : List OrderRun) → a ≡ b → record { hart = h; times = a } ∷ runs ≡ record { hart = h; times = b } ∷ runs
same_first h a b runs e = ap (λ n. record { hart = h; times = n } ∷ runs) e

-- a run that meets one of its own hart
meets : (h t n : ℕ) (runs : List OrderRun) → with_run h t (record { hart = h; times = n } ∷ runs) ≡ record { hart = h; times = n + t } ∷ runs
meets h t n runs = rw (eq-eqb h h refl)

longer_joined : (b : Bool) (h t : ℕ) (run : OrderRun) (runs : List OrderRun)
    → with_run h t (cond b (record { hart = h; times = run.times + 1 } ∷ runs) (record { hart = h; times = 1 } ∷ run ∷ runs))
    ≡ cond b (record { hart = h; times = run.times + (t + 1) } ∷ runs) (record { hart = h; times = t + 1 } ∷ run ∷ runs)
longer_joined true h t run runs = meets h t (run.times + 1) runs ∙ same_first h _ _ runs (omega arith)
longer_joined false h t run runs = meets h t 1 (run ∷ runs) ∙ same_first h _ _ (run ∷ runs) (omega arith)

-- the same hart comes next
pub with_run-same : (h t : ℕ) (runs : List OrderRun) → with_run h t (with_hart h runs) ≡ with_run h (t + 1) runs
with_run-same h t [] = meets h t 1 [] ∙ same_first h _ _ [] (omega arith)
with_run-same h t (run ∷ runs) = longer_joined (eqb run.hart h) h t run runs

other_joined : (b : Bool) (h t next : ℕ) (run : OrderRun) (runs : List OrderRun) → eqb next h ≡ false
    → with_run h t (cond b (record { hart = next; times = run.times + 1 } ∷ runs) (record { hart = next; times = 1 } ∷ run ∷ runs))
    ≡ record { hart = h; times = t } ∷ cond b (record { hart = next; times = run.times + 1 } ∷ runs) (record { hart = next; times = 1 } ∷ run ∷ runs)
other_joined true h t next run runs e = rw e
other_joined false h t next run runs e = rw e

-- another hart comes next
pub with_run-other : (h t next : ℕ) (runs : List OrderRun) → eqb next h ≡ false → with_run h t (with_hart next runs) ≡ record { hart = h; times = t } ∷ with_hart next runs
with_run-other h t next [] e = rw e
with_run-other h t next (run ∷ runs) e = other_joined (eqb run.hart next) h t next run runs e

-- ---- maximal runs are those of their order

hart_joined : (b : Bool) (h t : ℕ) (run : OrderRun) (runs : List OrderRun)
    → with_hart h (cond b (record { hart = h; times = run.times + t } ∷ runs) (record { hart = h; times = t } ∷ run ∷ runs))
    ≡ cond b (record { hart = h; times = run.times + (t + 1) } ∷ runs) (record { hart = h; times = t + 1 } ∷ run ∷ runs)
hart_joined true h t run runs = meets h 1 (run.times + t) runs ∙ same_first h _ _ runs (omega arith)
hart_joined false h t run runs = meets h 1 t (run ∷ runs)

with_hart-with_run : (h t : ℕ) (runs : List OrderRun) → with_hart h (with_run h t runs) ≡ with_run h (t + 1) runs
with_hart-with_run h t [] = meets h 1 t []
with_hart-with_run h t (run ∷ runs) = hart_joined (eqb run.hart h) h t run runs

runs_of-replicate : (n h : ℕ) (others : List ℕ) → runs_of (replicate (suc n) h ++ others) ≡ with_run h (suc n) (runs_of others)
runs_of-replicate zero h others = with_hart-run h (runs_of others)
runs_of-replicate (suc n) h others =
    ap (λ l. with_hart h l) (runs_of-replicate n h others) ∙ with_hart-with_run h (suc n) (runs_of others)
    ∙ ap (λ k. with_run h k (runs_of others)) (add-one (suc n))

with_run-begins : (h t : ℕ) (runs : List OrderRun) → BeginsOtherwise h runs → with_run h t runs ≡ record { hart = h; times = t } ∷ runs
with_run-begins h t [] other = refl
with_run-begins h t (run ∷ runs) other = rw (ne_eqb run.hart h other)

pub maximal_runs : (runs : List OrderRun) → IsMaximal runs → runs_of (order_of runs) ≡ runs
maximal_runs [] m = refl
maximal_runs (run ∷ runs) m =
    let low : 1 ≤ run.times = m.0 in
    let e : run.times ≡ suc (run.times - 1) = omega arith in
    ap (λ n. runs_of (replicate n run.hart ++ order_of runs)) e ∙ runs_of-replicate (run.times - 1) run.hart (order_of runs)
    ∙ ap (λ n. with_run run.hart n (runs_of (order_of runs))) (sym e) ∙ ap (λ l. with_run run.hart run.times l) (maximal_runs runs m.2)
    ∙ with_run-begins run.hart run.times runs m.1

-- ---- the text of a run that is read, and of the runs of what is left

pub text_same : (done others text : List ℕ) (h t i next h2 t2 : ℕ) → i < length others → next ≡ get_or others i 0 → next ≡ h → h2 ≡ h → t2 ≡ t + 1
    → done ++ runs_text (with_run h t (runs_of (drop i others))) ≡ text → done ++ runs_text (with_run h2 t2 (runs_of (drop (i + 1) others))) ≡ text
text_same done others text h t i next h2 t2 lt is same e f written =
    let after = runs_of (drop (i + 1) others) in
    ap (λ k. done ++ runs_text (with_run k t2 after)) e ∙ ap (λ k. done ++ runs_text (with_run h k after)) f
    ∙ ap (λ l. done ++ runs_text l) (sym (with_run-same h t after))
    ∙ ap (λ k. done ++ runs_text (with_run h t (with_hart k after))) (sym same ∙ is)
    ∙ ap (λ l. done ++ runs_text (with_run h t (runs_of l))) (sym (drop_more others i 0 lt)) ∙ written

pub text_other : (done others text : List ℕ) (h t i next h2 t2 : ℕ) → i < length others → next ≡ get_or others i 0 → (next ≡ h → ⊥) → h2 ≡ next → t2 ≡ 1
    → done ++ runs_text (with_run h t (runs_of (drop i others))) ≡ text
    → (done ++ run_text (record { hart = h; times = t })) ++ runs_text (with_run h2 t2 (runs_of (drop (i + 1) others))) ≡ text
text_other done others text h t i next h2 t2 lt is other e f written =
    let after = runs_of (drop (i + 1) others) in
    let first = run_text (record { hart = h; times = t }) in
    ap (λ k. (done ++ first) ++ runs_text (with_run k t2 after)) e ∙ ap (λ k. (done ++ first) ++ runs_text (with_run next k after)) f
    ∙ ap (λ l. (done ++ first) ++ runs_text l) (sym (with_hart-run next after)) ∙ append_assoc done first (runs_text (with_hart next after))
    ∙ ap (λ l. done ++ runs_text l) (sym (with_run-other h t next after (ne_eqb next h other)))
    ∙ ap (λ k. done ++ runs_text (with_run h t (with_hart k after))) is
    ∙ ap (λ l. done ++ runs_text (with_run h t (runs_of l))) (sym (drop_more others i 0 lt)) ∙ written
