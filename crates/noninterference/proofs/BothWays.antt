-- Ways of two harts one after the other, and ticks on the way.
use Rattle.std.proofs.Common.{◌≡◌, ℕ, zero, suc, ◌+◌, ◌≤◌, ◌⊎◌, inl, inr, Bool, true, false, List, subst, arith}
use Rattle.hart_model.specs.HartState.{HartState, tick_of}
use Rattle.hart_model.specs.StepResult.{StepResult, Steps, Wants, Wedged}
use Rattle.hart_model.specs.HartStep.{hart_step}
use Rattle.core_model.specs.Routines.{ticked_if}
use Rattle.noninterference.specs.AlikeSteps.{GoOnAlike, AreInMachine, LeadBoth}
use Rattle.noninterference.specs.AlikeCores.{AreStepsTogether}

-- steps go on to somewhere else too, where that is so of each two harts that stand there
pub both-go-map : (There Other : HartState → HartState → Type 0) (step to : StepResult) → ((h g : HartState) → There h g → Other h g)
    → GoOnAlike There step to → GoOnAlike Other step to
both-go-map There Other (Steps h ps did) (Steps g qs done) other goes = (goes.0, other h g goes.1)
both-go-map There Other (Steps h ps did) (Wants call early_writes rd next) other goes = absurd goes
both-go-map There Other (Steps h ps did) Wedged other goes = absurd goes
both-go-map There Other (Wants call early_writes rd next) to other goes = absurd goes
both-go-map There Other Wedged to other goes = absurd goes

-- steps that go on alike are steps that go on together
pub go-together-steps : (There : HartState → HartState → Type 0) (step to : StepResult) → GoOnAlike There step to → AreStepsTogether There step to
go-together-steps There (Steps h ps did) (Steps g qs done) goes = goes
go-together-steps There (Steps h ps did) (Wants call early_writes rd next) goes = absurd goes
go-together-steps There (Steps h ps did) Wedged goes = absurd goes
go-together-steps There (Wants call early_writes rd next) to goes = absurd goes
go-together-steps There Wedged to goes = absurd goes

module _ (code : List ℕ) where
  -- two harts that stand there are led there
  pub both-now : (n : ℕ) (There : HartState → HartState → Type 0) (h g : HartState) → There h g → LeadBoth code n There h g
  both-now zero There h g there = there
  both-now (suc n) There h g there = inl there

  -- two harts stand there or take a step on their way
  pub both-first : (n : ℕ) (There : HartState → HartState → Type 0) (h g : HartState) → LeadBoth code n There h g
      → There h g
      ⊎ (AreInMachine h g × ((ticked : Bool)
      → GoOnAlike (λ a b. (m : ℕ) × LeadBoth code m There a b) (hart_step code (ticked_if ticked h)) (hart_step code (ticked_if ticked g))))
  both-first zero There h g there = inl there
  both-first (suc n) There h g (inl there) = inl there
  both-first (suc n) There h g (inr (modes, steps)) =
      inr (
        modes,
        λ ticked.
            both-go-map (LeadBoth code n There) (λ a b. (m : ℕ) × LeadBoth code m There a b)
            (hart_step code (ticked_if ticked h)) (hart_step code (ticked_if ticked g)) (λ a b on. (n, on)) (steps ticked),
      )

  -- a way leads further where each two harts there stand elsewhere too
  pub both-map : (n : ℕ) (There Other : HartState → HartState → Type 0) (h g : HartState) → ((a b : HartState) → There a b → Other a b)
      → LeadBoth code n There h g → LeadBoth code n Other h g
  both-map zero There Other h g other there = other h g there
  both-map (suc n) There Other h g other (inl there) = inl (other h g there)
  both-map (suc n) There Other h g other (inr (modes, steps)) =
      inr (
        modes,
        λ ticked.
            both-go-map (LeadBoth code n There) (LeadBoth code n Other) (hart_step code (ticked_if ticked h)) (hart_step code (ticked_if ticked g))
            (λ a b on. both-map n There Other a b other on) (steps ticked),
      )

  -- more steps than it takes lead there too
  pub both-more : (n m : ℕ) (There : HartState → HartState → Type 0) (h g : HartState) → n ≤ m → LeadBoth code n There h g → LeadBoth code m There h g
  both-more zero m There h g le there = both-now m There h g there
  both-more (suc n) zero There h g le on = absurd (omega arith)
  both-more (suc n) (suc m) There h g le (inl there) = inl there
  both-more (suc n) (suc m) There h g le (inr (modes, steps)) =
      inr (
        modes,
        λ ticked.
            both-go-map (LeadBoth code n There) (LeadBoth code m There) (hart_step code (ticked_if ticked h)) (hart_step code (ticked_if ticked g))
            (λ a b on. both-more n m There a b (omega arith) on) (steps ticked),
      )

  -- two ways, one after the other
  pub both-then : (m n : ℕ) (Mid There : HartState → HartState → Type 0) (h g : HartState) → LeadBoth code m Mid h g
      → ((a b : HartState) → Mid a b → LeadBoth code n There a b) → LeadBoth code (m + n) There h g
  both-then zero n Mid There h g there further = both-more n (zero + n) There h g (omega arith) (further h g there)
  both-then (suc m) n Mid There h g (inl there) further = both-more n (suc m + n) There h g (omega arith) (further h g there)
  both-then (suc m) n Mid There h g (inr (modes, steps)) further =
      let same : suc (m + n) ≡ suc m + n = omega arith in
      let P : ℕ → Type 0 = λ k. LeadBoth code k There h g in
      subst P same (inr (
        modes,
        λ ticked.
            both-go-map (LeadBoth code m Mid) (LeadBoth code (m + n) There) (hart_step code (ticked_if ticked h)) (hart_step code (ticked_if ticked g))
            (λ a b on. both-then m n Mid There a b on further) (steps ticked),
      ))

  -- a tick of both leaves their way as it is
  pub both-tick : (n : ℕ) (There : HartState → HartState → Type 0) (h g : HartState) → ((a b : HartState) → There a b → There (tick_of a) (tick_of b))
      → LeadBoth code n There h g → LeadBoth code n There (tick_of h) (tick_of g)
  both-tick zero There h g kept there = kept h g there
  both-tick (suc n) There h g kept (inl there) = inl (kept h g there)
  both-tick (suc n) There h g kept (inr (modes, steps)) = inr (modes, λ ticked. again ticked (steps true))
    where
      again : (ticked : Bool) → GoOnAlike (LeadBoth code n There) (hart_step code (tick_of h)) (hart_step code (tick_of g))
          → GoOnAlike (LeadBoth code n There) (hart_step code (ticked_if ticked (tick_of h))) (hart_step code (ticked_if ticked (tick_of g)))
      again true goes = goes
      again false goes = goes
