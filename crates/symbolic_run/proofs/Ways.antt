-- Ways of a hart one after the other, and ticks on the way.
use Rattle.std.proofs.Common.{◌≡◌, ℕ, zero, suc, ◌+◌, ◌≤◌, ◌⊎◌, inl, inr, Bool, true, false, List, [], ◌∷◌, Option, Some, None, refl, ap, ◌∙◌, subst, arith}
use Rattle.isa_model.specs.declared.task.Task.{Task}
use Rattle.hart_model.specs.Context.{ContextState}
use Rattle.hart_model.specs.HartState.{HartState, tick_of}
use Rattle.hart_model.specs.HartStep.{hart_step}
use Rattle.hart_model.specs.StepResult.{StepResult}
use Rattle.core_model.specs.Soundness.{AreCsrsSound, IsHartSound, IsUserCase, entries_held}
use Rattle.core_model.specs.Routines.{ticked_if, HoldsSame}
use Rattle.symbolic_run.specs.Ways.{GoesOnTo, Leads}

-- a tick after a tick changes nothing
pub tick-ticked : (ticked : Bool) (h : HartState) → ticked_if ticked (tick_of h) ≡ tick_of h
tick-ticked true h = refl
tick-ticked false h = refl

-- the same is held as before
pub holds-same : (o : Option ContextState) → HoldsSame o o
holds-same None = tt
holds-same (Some c) = record { task_no = refl; slot = refl; count = refl }

-- and what holds the same as the same holds the same
pub holds-then : (a b c : Option ContextState) → HoldsSame a b → HoldsSame b c → HoldsSame a c
holds-then None None None first second = second
holds-then None None (Some e) first second = absurd second
holds-then None (Some d) c first second = absurd first
holds-then (Some a) None c first second = absurd first
holds-then (Some a) (Some b) None first second = absurd second
holds-then (Some a) (Some b) (Some c) first second = record {
  task_no = second.task_no ∙ first.task_no;
  slot = second.slot ∙ first.slot;
  count = second.count ∙ first.count;
}

-- what is out on a hart is as before where it holds the same
pub holds-entries : (number : ℕ) (before after : Option ContextState) → HoldsSame before after → entries_held number after ≡ entries_held number before
holds-entries number None None same = refl
holds-entries number None (Some d) same = absurd same
holds-entries number (Some c) None same = absurd same
holds-entries number (Some c) (Some d) same =
    ap (λ t. record { task_no = t; hart = number; slot = d.slot } ∷ []) same.task_no
    ∙ ap (λ slot. record { task_no = c.body.task_no; hart = number; slot = slot } ∷ []) same.slot

-- a hart's CSRs stay sound when its timer becomes pending, and so do the user case and the hart
pub csrs-tick : (number : ℕ) (h : HartState) → AreCsrsSound number h.csrs → AreCsrsSound number (tick_of h).csrs
csrs-tick number h ok = record { hart = ok.hart; timer = ok.timer; fuel = ok.fuel; mtvec = ok.mtvec; pmpcfg = ok.pmpcfg; mstatus = ok.mstatus }

pub user-tick : (tasks : List Task) (h : HartState) (c : ContextState) → IsUserCase tasks h c → IsUserCase tasks (tick_of h) c
user-tick tasks h c u = record {
  mode = u.mode;
  held = u.held;
  body = u.body;
  no_end = u.no_end;
  pc = u.pc;
  registers = u.registers;
  port_a = u.port_a;
  port_b = u.port_b;
  res = u.res;
  load = u.load;
  store = u.store;
  mul = u.mul;
  scratch = u.scratch;
  bound_registers = u.bound_registers;
  words = u.words;
  saved_pc = u.saved_pc;
  saved_registers = u.saved_registers;
  bounds = u.bounds;
}

pub sound-tick : (tasks : List Task) (number : ℕ) (h : HartState) → IsHartSound tasks number h → IsHartSound tasks number (tick_of h)
sound-tick tasks number h ok = record {
  csrs = csrs-tick number h ok.csrs;
  registers = ok.registers;
  zero = ok.zero;
  truthful = ok.truthful;
  public_alone = ok.public_alone;
  user = λ mode. let found = ok.user mode in (found.0, user-tick tasks h found.0 found.1);
}

-- a step goes on to somewhere else too, where that is so of each hart that stands there
pub goes-map : (tasks : List Task) (h : HartState) (There Other : HartState → Type 0) (step : StepResult) → ((g : HartState) → There g → Other g) →
    GoesOnTo tasks h There step → GoesOnTo tasks h Other step
goes-map tasks h There Other step other goes = record {
  after = goes.after;
  probes = goes.probes;
  did = goes.did;
  step_is = goes.step_is;
  explained = goes.explained;
  holds = goes.holds;
  there = other goes.after goes.there;
}

module _ (tasks : List Task) (code : List ℕ) (number : ℕ) where
  -- a hart that stands there is led there
  pub leads-now : (n : ℕ) (There : HartState → Type 0) (h : HartState) → There h → Leads tasks code number n There h
  leads-now zero There h there = there
  leads-now (suc n) There h there = inl there

  -- a hart stands there or takes a step on its way
  pub leads-first : (n : ℕ) (There : HartState → Type 0) (h : HartState) → Leads tasks code number n There h →
      There h ⊎ (IsHartSound tasks number h × ((ticked : Bool) →
      GoesOnTo tasks h (λ g. (m : ℕ) × Leads tasks code number m There g) (hart_step code (ticked_if ticked h))))
  leads-first zero There h there = inl there
  leads-first (suc n) There h (inl there) = inl there
  leads-first (suc n) There h (inr steps) = inr (
    steps.0,
    λ ticked. goes-map tasks h (Leads tasks code number n There) (λ g. (m : ℕ) × Leads tasks code number m There g)
        (hart_step code (ticked_if ticked h)) (λ g on. (n, on)) (steps.1 ticked),
  )

  -- a way leads further where each hart there stands elsewhere too
  pub leads-map : (n : ℕ) (There Other : HartState → Type 0) (h : HartState) → ((g : HartState) → There g → Other g) →
      Leads tasks code number n There h → Leads tasks code number n Other h
  leads-map zero There Other h other there = other h there
  leads-map (suc n) There Other h other (inl there) = inl (other h there)
  leads-map (suc n) There Other h other (inr steps) = inr (
    steps.0,
    λ ticked. goes-map tasks h (Leads tasks code number n There) (Leads tasks code number n Other) (hart_step code (ticked_if ticked h))
        (λ g on. leads-map n There Other g other on) (steps.1 ticked),
  )

  -- more steps than it takes lead there too
  pub leads-more : (n m : ℕ) (There : HartState → Type 0) (h : HartState) → n ≤ m → Leads tasks code number n There h → Leads tasks code number m There h
  leads-more zero m There h le there = leads-now m There h there
  leads-more (suc n) zero There h le on = absurd (omega arith)
  leads-more (suc n) (suc m) There h le (inl there) = inl there
  leads-more (suc n) (suc m) There h le (inr steps) = inr (
    steps.0,
    λ ticked. goes-map tasks h (Leads tasks code number n There) (Leads tasks code number m There) (hart_step code (ticked_if ticked h))
        (λ g on. leads-more n m There g (omega arith) on) (steps.1 ticked),
  )

  -- two ways, one after the other
  pub leads-then : (m n : ℕ) (Mid There : HartState → Type 0) (h : HartState) → Leads tasks code number m Mid h →
      ((g : HartState) → Mid g → Leads tasks code number n There g) → Leads tasks code number (m + n) There h
  leads-then zero n Mid There h there further = leads-more n (zero + n) There h (omega arith) (further h there)
  leads-then (suc m) n Mid There h (inl there) further = leads-more n (suc m + n) There h (omega arith) (further h there)
  leads-then (suc m) n Mid There h (inr steps) further =
      let same : suc (m + n) ≡ suc m + n = omega arith in
      let P : ℕ → Type 0 = λ k. Leads tasks code number k There h in
      subst P same (inr (
        steps.0,
        λ ticked. goes-map tasks h (Leads tasks code number m Mid) (Leads tasks code number (m + n) There) (hart_step code (ticked_if ticked h))
            (λ g on. leads-then m n Mid There g on further) (steps.1 ticked),
      ))

  -- what holds of each hart there, and before a step where it holds after, holds on the way
  pub leads-back : (There Fact : HartState → Type 0) → ((h : HartState) → There h → Fact h) →
      ((h : HartState) → GoesOnTo tasks h Fact (hart_step code h) → Fact h) → (n : ℕ) (h : HartState) → Leads tasks code number n There h → Fact h
  leads-back There Fact at before zero h there = at h there
  leads-back There Fact at before (suc n) h (inl there) = at h there
  leads-back There Fact at before (suc n) h (inr steps) =
      before h (goes-map tasks h (Leads tasks code number n There) Fact (hart_step code h) (λ g on. leads-back There Fact at before n g on) (steps.1 false))

  -- a tick leaves a way as it is
  pub leads-tick : (n : ℕ) (There : HartState → Type 0) (h : HartState) → ((g : HartState) → There g → There (tick_of g)) →
      Leads tasks code number n There h → Leads tasks code number n There (tick_of h)
  leads-tick zero There h kept there = kept h there
  leads-tick (suc n) There h kept (inl there) = inl (kept h there)
  leads-tick (suc n) There h kept (inr steps) = inr (sound-tick tasks number h steps.0, λ ticked. again ticked (steps.1 true))
    where
      again : (ticked : Bool) → GoesOnTo tasks h (Leads tasks code number n There) (hart_step code (tick_of h)) →
          GoesOnTo tasks (tick_of h) (Leads tasks code number n There) (hart_step code (ticked_if ticked (tick_of h)))
      again ticked goes = record {
        after = goes.after;
        probes = goes.probes;
        did = goes.did;
        step_is = ap (λ g. hart_step code g) (tick-ticked ticked h) ∙ goes.step_is;
        explained = goes.explained;
        holds = goes.holds;
        there = goes.there;
      }
