-- How a run alone ends: by its last instruction, which nothing follows, or by used fuel; and the ended case that this makes.
use Rattle.std.proofs.Common.{◌≡◌, ℕ, ◌+◌, ◌-◌, ◌<◌, ◌≤◌, inl, inr, Option, Some, None, IsSome, refl, sym, ap, ◌∙◌, arith}
use Rattle.isa_model.specs.declared.task.Task.{Task}
use Rattle.isa_model.specs.declared.ends.End.{End}
use Rattle.isa_model.specs.declared.ends.End.TheVariants.{OutOfSteps}
use Rattle.isa_model.specs.Alone.{AloneState, alone_at, last_of, count_of, after_instr, if_fuel_used}
use Rattle.isa_model.proofs.AloneLaws.{alone-next, alone-stays, last-is, count-is, fuel-left}
use Rattle.core_model.specs.Soundness.{IsRunning}
use Rattle.core_invariant.proofs.AloneNext.{out-is-used}

-- an end that stands
some-end : (o : Option End) (e : End) → o ≡ Some e → IsSome o
some-end o e is = rw is refl

-- an end that stands stays
ended-stays : (T : Task) (n k : ℕ) (e : End) → k ≤ n → (alone_at T k).end ≡ Some e → alone_at T n ≡ alone_at T k
ended-stays T n k e le is =
    let there : n ≡ k + (n - k) = omega arith in
    ap (λ m. alone_at T m) there ∙ alone-stays T k (n - k) (some-end (alone_at T k).end e is)

-- before an instruction that is executed no end stands
none-by : (T : Task) (n k : ℕ) (o : Option End) → k ≤ n → (alone_at T n).end ≡ None → (alone_at T k).end ≡ o → o ≡ None
none-by T n k None le running is = refl
none-by T n k (Some e) le running is = absurd (cc (ap (λ (s : AloneState). s.end) (ended-stays T n k e le is), running, is))

pub none-before : (T : Task) (n k : ℕ) → k ≤ n → (alone_at T n).end ≡ None → (alone_at T k).end ≡ None
none-before T n k le running = none-by T n k (alone_at T k).end le running refl

-- An instruction that ends the task is its last one.
module _ (T : Task) (n : ℕ) (went_on : (alone_at T n).end ≡ None) (left : n < T.fuel) (end : End)
    (ends : (after_instr T (alone_at T n)).state.end ≡ Some end) where
  next-is : (o : Option End) → (after_instr T (alone_at T n)).state.end ≡ o → o ≡ Some end
      → if_fuel_used T (n + 1) o (after_instr T (alone_at T n)).state ≡ (after_instr T (alone_at T n)).state
  next-is None is some = absurd (cc some)
  next-is (Some e) is some = refl

  pub end-next : alone_at T (n + 1) ≡ (after_instr T (alone_at T n)).state
  end-next = alone-next T n went_on ∙ next-is (after_instr T (alone_at T n)).state.end refl ends

  pub end-is : (alone_at T (n + 1)).end ≡ Some end
  end-is = ap (λ (s : AloneState). s.end) end-next ∙ ends

  pub end-last : last_of T ≡ (after_instr T (alone_at T n)).state
  end-last = let le : n + 1 ≤ T.fuel = omega arith in last-is T (n + 1) le (some-end (alone_at T (n + 1)).end end end-is) ∙ end-next

  pub end-count : count_of T ≡ n + 1
  end-count =
      let le : n + 1 ≤ T.fuel = omega arith in
      count-is T (n + 1) le (some-end (alone_at T (n + 1)).end end end-is) (λ k lt. none-before T n k (omega arith) went_on)

-- A task that has used its fuel, and that no instruction has ended, has ended by this.
module _ (T : Task) (least : 1 ≤ T.fuel) where
  fuel-pred : T.fuel - 1 + 1 ≡ T.fuel
  fuel-pred = omega arith

  still-none : (alone_at T T.fuel).end ≡ None → ⊥
  still-none h =
      let before : (alone_at T (T.fuel - 1)).end ≡ None = none-before T T.fuel (T.fuel - 1) (omega arith) h in
      let next = alone-next T (T.fuel - 1) before in
      let here : alone_at T (T.fuel - 1 + 1) ≡ alone_at T T.fuel = ap (λ m. alone_at T m) fuel-pred in
      fuel-left T (T.fuel - 1 + 1) (after_instr T (alone_at T (T.fuel - 1))).state
      (ap (λ (s : AloneState). s.end) (sym next) ∙ ap (λ (s : AloneState). s.end) here ∙ h) fuel-pred

  pub used-end : IsRunning T T.fuel → (alone_at T T.fuel).end ≡ Some OutOfSteps
  used-end (inl none) = absurd (still-none none)
  used-end (inr out) = out

  -- no end stands before
  used-before : (alone_at T T.fuel).end ≡ Some OutOfSteps → (k : ℕ) → k < T.fuel → (o : Option End) → (alone_at T k).end ≡ o → o ≡ None
  used-before h k lt None is = refl
  used-before h k lt (Some e) is =
      let here = ap (λ (s : AloneState). s.end) (ended-stays T T.fuel k e (omega arith) is) in
      let late : T.fuel ≤ k = out-is-used T k (sym here ∙ h) in
      absurd (omega arith)

  pub used-count : IsRunning T T.fuel → count_of T ≡ T.fuel
  used-count r =
      let h = used-end r in
      count-is T T.fuel (omega arith) (some-end (alone_at T T.fuel).end OutOfSteps h) (λ k lt. used-before h k lt (alone_at T k).end refl)
