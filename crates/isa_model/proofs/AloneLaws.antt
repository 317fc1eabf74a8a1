-- How the run alone goes on, and that it stays as it is where it ended.
use Rattle.std.proofs.Common.{◌≡◌, ℕ, zero, suc, ◌+◌, ◌-◌, ◌<◌, ◌≤◌, ◌≢◌, eq-eqb, Option, Some, None, is_none, refl, ap, ◌∙◌, add-one, arith, cond, IsSome}
use Rattle.isa_model.specs.declared.ends.End.{End}
use Rattle.isa_model.specs.declared.task.Task.{Task}
use Rattle.isa_model.specs.Alone.{AloneState, alone_at, after_instr, fuel_checked_state, unless_ended, if_fuel_used, count_to}

-- one instruction more
pub alone-next : (T : Task) (n : ℕ) → (alone_at T n).end ≡ None → alone_at T (n + 1) ≡ fuel_checked_state T (n + 1) (after_instr T (alone_at T n)).state
unfolding alone_at
alone-next T n running = ap (λ k. alone_at T k) (add-one n) ∙ ap (λ e. unless_ended T (n + 1) e (alone_at T n)) running

stays : (T : Task) (n : ℕ) (e : Option End) (s : AloneState) → IsSome e → unless_ended T n e s ≡ s
stays T n None s h = cc
stays T n (Some e) s h = refl

-- an ended task stays as it is
pub alone-stays : (T : Task) (n k : ℕ) → IsSome (alone_at T n).end → alone_at T (n + k) ≡ alone_at T n
unfolding alone_at
alone-stays T n zero h = let e : n + 0 ≡ n = omega arith in ap (λ m. alone_at T m) e
alone-stays T n (suc k) h =
    let before = alone-stays T n k h in
    let e : n + suc k ≡ suc (n + k) = omega arith in
    let here : IsSome (alone_at T (n + k)).end = rw before h in
    ap (λ m. alone_at T m) e ∙ stays T (n + k + 1) (alone_at T (n + k)).end (alone_at T (n + k)) here ∙ before

none_yet : (o : Option End) (a b : ℕ) → o ≡ None → cond (is_none o) a b ≡ a
none_yet o a b h = rw h refl

some_now : (o : Option End) (a b : ℕ) → IsSome o → cond (is_none o) a b ≡ b
some_now None a b h = cc
some_now (Some e) a b h = refl

-- while it runs, every instruction counts
pub count-running : (T : Task) (n : ℕ) → ((k : ℕ) → k < n → (alone_at T k).end ≡ None) → count_to T n ≡ n
unfolding count_to
count-running T zero h = refl
count-running T (suc n) h =
    none_yet (alone_at T n).end (count_to T n + 1) (count_to T n) (h n (omega arith))
    ∙ ap (λ m. m + 1) (count-running T n (λ k lt. h k (omega arith))) ∙ add-one n

-- and none after its end
pub count-stays : (T : Task) (n k : ℕ) → IsSome (alone_at T n).end → count_to T (n + k) ≡ count_to T n
unfolding count_to
count-stays T n zero h = let e : n + 0 ≡ n = omega arith in ap (λ m. count_to T m) e
count-stays T n (suc k) h =
    let here : IsSome (alone_at T (n + k)).end = rw (alone-stays T n k h) h in
    let e : n + suc k ≡ suc (n + k) = omega arith in
    ap (λ m. count_to T m) e ∙ some_now (alone_at T (n + k)).end (count_to T (n + k) + 1) (count_to T (n + k)) here ∙ count-stays T n k h

-- the whole run is the run to its end
pub last-is : (T : Task) (n : ℕ) → n ≤ T.fuel → IsSome (alone_at T n).end → alone_at T T.fuel ≡ alone_at T n
last-is T n h e = let k : T.fuel ≡ n + (T.fuel - n) = omega arith in ap (λ m. alone_at T m) k ∙ alone-stays T n (T.fuel - n) e

pub count-is : (T : Task) (n : ℕ) → n ≤ T.fuel → IsSome (alone_at T n).end → ((k : ℕ) → k < n → (alone_at T k).end ≡ None) → count_to T T.fuel ≡ n
count-is T n h e running =
    let k : T.fuel ≡ n + (T.fuel - n) = omega arith in
    ap (λ m. count_to T m) k ∙ count-stays T n (T.fuel - n) e ∙ count-running T n running

fuel_unused : (T : Task) (n : ℕ) (s : AloneState) (e : Option End) → s.end ≡ e → (if_fuel_used T n e s).end ≡ None → n ≢ T.fuel
fuel_unused T n s (Some x) h g = λ _. cc
fuel_unused T n s None h g = λ same. let test = eq-eqb n T.fuel same in cc

-- a run that goes on has fuel left
pub fuel-left : (T : Task) (n : ℕ) (s : AloneState) → (fuel_checked_state T n s).end ≡ None → n ≢ T.fuel
fuel-left T n s g = fuel_unused T n s s.end refl g
