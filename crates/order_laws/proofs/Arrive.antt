-- Ways without ticks, one after the other.
use Rattle.std.proofs.Common.{◌≡◌, ℕ, zero, suc, ◌+◌, ◌≤◌, inl, inr, List, subst, arith}
use Rattle.hart_model.specs.HartState.{HartState}
use Rattle.hart_model.specs.StepResult.{StepResult}
use Rattle.hart_model.specs.HartStep.{hart_step}
use Rattle.symbolic_run.proofs.Ways.{holds-same, holds-then}
use Rattle.order_laws.specs.Arrives.{StepsTo, Arrives, IsAfter}

-- nothing happened, and one thing after another
pub after-same : (h : HartState) → IsAfter h h
after-same h = record { holds = holds-same h.held; calm = λ calm. calm }

pub after-then : (a b c : HartState) → IsAfter a b → IsAfter b c → IsAfter a c
after-then a b c first second = record {
  holds = holds-then a.held b.held c.held first.holds second.holds;
  calm = λ calm. second.calm (first.calm calm);
}

-- a step goes on to somewhere else too
pub steps-map : (There Other : HartState → Type 0) (step : StepResult) → ((g : HartState) → There g → Other g) → StepsTo There step
    → StepsTo Other step
steps-map There Other step other to =
    record { after = to.after; probes = to.probes; did = to.did; step_is = to.step_is; there = other to.after to.there }

module _ (code : List ℕ) where
  pub arrives-now : (n : ℕ) (There : HartState → Type 0) (h : HartState) → There h → Arrives code n There h
  arrives-now zero There h there = there
  arrives-now (suc n) There h there = inl there

  pub arrives-map : (n : ℕ) (There Other : HartState → Type 0) (h : HartState) → ((g : HartState) → There g → Other g) → Arrives code n There h
      → Arrives code n Other h
  arrives-map zero There Other h other there = other h there
  arrives-map (suc n) There Other h other (inl there) = inl (other h there)
  arrives-map (suc n) There Other h other (inr to) =
      inr (to.0, steps-map (Arrives code n There) (Arrives code n Other) (hart_step code h) (λ g on. arrives-map n There Other g other on) to.1)

  pub arrives-more : (n m : ℕ) (There : HartState → Type 0) (h : HartState) → n ≤ m → Arrives code n There h → Arrives code m There h
  arrives-more zero m There h le there = arrives-now m There h there
  arrives-more (suc n) zero There h le on = absurd (omega arith)
  arrives-more (suc n) (suc m) There h le (inl there) = inl there
  arrives-more (suc n) (suc m) There h le (inr to) =
      inr (to.0, steps-map (Arrives code n There) (Arrives code m There) (hart_step code h) (λ g on. arrives-more n m There g (omega arith) on) to.1)

  pub arrives-then : (m n : ℕ) (Mid There : HartState → Type 0) (h : HartState) → Arrives code m Mid h
      → ((g : HartState) → Mid g → Arrives code n There g)
      → Arrives code (m + n) There h
  arrives-then zero n Mid There h there further = arrives-more n (zero + n) There h (omega arith) (further h there)
  arrives-then (suc m) n Mid There h (inl there) further = arrives-more n (suc m + n) There h (omega arith) (further h there)
  arrives-then (suc m) n Mid There h (inr to) further =
      let same : suc (m + n) ≡ suc m + n = omega arith in
      let P : ℕ → Type 0 = λ k. Arrives code k There h in
      subst P same (inr (
        to.0,
        steps-map (Arrives code m Mid) (Arrives code (m + n) There) (hart_step code h) (λ g on. arrives-then m n Mid There g on further) to.1,
      ))
