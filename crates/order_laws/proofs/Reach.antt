-- How many of its own steps a hart makes to its next queue action.
use Rattle.std.proofs.Common.{◌≡◌, ℕ, zero, suc, ◌+◌, inl, inr, Bool, false, List, [], ◌++◌, Option, Some, None, refl, sym, ap, ◌∙◌, subst, arith}
use Rattle.hart_model.specs.declared.calls.Did.{Did}
use Rattle.hart_model.specs.declared.calls.QueueCall.{QueueCall}
use Rattle.hart_model.specs.declared.probe.Probe.{Probe}
use Rattle.hart_model.specs.declared.tag.Mode.TheVariants.{Machine}
use Rattle.hart_model.specs.HartState.{HartState}
use Rattle.hart_model.specs.Writes.{CellWrite}
use Rattle.hart_model.specs.StepResult.{StepResult, Steps, Wants, Wedged}
use Rattle.hart_model.specs.HartStep.{hart_step}
use Rattle.core_model.specs.declared.event.Event.{Event}
use Rattle.core_model.specs.declared.plan.Plan.{Plan}
use Rattle.core_model.specs.Routines.{ticked_if}
use Rattle.core_model.specs.Orders.{HartPace, is_tick_due, events_of_step}
use Rattle.order_laws.specs.OwnSteps.{AtAction, after_own, own_by, own_steps}
use Rattle.order_laws.specs.Arrives.{Arrives, Reaches}

-- A hart that comes to its action by some steps comes to the same by more.
module _ (code : List ℕ) (plan : Plan) (pace : HartPace) (number : ℕ) where
  abbrev Own : ℕ → HartState → Option AtAction
  Own steps h = own_steps code plan pace number steps h

  pub own-longer : (steps : ℕ) (h : HartState) (a : AtAction) → Own steps h ≡ Some a → Own (suc steps) h ≡ Some a
  unfolding own_steps
  own-longer zero h a e = absurd (cc e)
  own-longer (suc steps) h a e =
      let f = ticked_if (is_tick_due plan pace h) h in
      by-step (events_of_step plan pace number (Some h)) f (hart_step code f) e (λ g b own. own-longer steps g b own)
    where
      by-step : (events : List Event) (f : HartState) (step : StepResult) → own_by (Own steps) events f step ≡ Some a
          → ((g : HartState) (b : AtAction) → Own steps g ≡ Some b → Own (suc steps) g ≡ Some b) → own_by (Own (suc steps)) events f step ≡ Some a
      by-step events f (Steps g probes did) e further = by-rest (Own steps g) refl e
        where
          by-rest : (o : Option AtAction) → Own steps g ≡ o → after_own events probes o ≡ Some a
              → after_own events probes (Own (suc steps) g) ≡ Some a
          by-rest None own e = absurd (cc e)
          by-rest (Some b) own e = ap (after_own events probes) (further g b own) ∙ e
      by-step events f (Wants call early_writes rd next) e further = e
      by-step events f Wedged e further = e

  pub own-more : (more steps : ℕ) (h : HartState) (a : AtAction) → Own steps h ≡ Some a → Own (more + steps) h ≡ Some a
  own-more zero steps h a own = let P : ℕ → Type 0 = λ n. Own n h ≡ Some a in let same : steps ≡ 0 + steps = omega arith in subst P same own
  own-more (suc more) steps h a own =
      let P : ℕ → Type 0 = λ n. Own n h ≡ Some a in
      let same : suc (more + steps) ≡ suc more + steps = omega arith in
      subst P same (own-longer (more + steps) h a (own-more more steps h a own))

module _ (code : List ℕ) (plan : Plan) (pace : HartPace) (number : ℕ) (There : QueueCall → HartState → Type 0) where
  abbrev Comes : ℕ → HartState → Type 0
  Comes steps h = Reaches code plan pace number steps There h

  -- one step that goes on, and what comes from there
  after-step : (steps : ℕ) (h g : HartState) (events : List Event) (f : HartState) (probes : List Probe) (did : Did) → (a : AtAction)
      → own_steps code plan pace number steps g ≡ Some a
      → own_by (own_steps code plan pace number steps) events f (Steps g probes did)
      ≡ Some (record { call = a.call; hart = a.hart; probes = probes ++ a.probes; events = events ++ a.events })
  after-step steps h g events f probes did a own = ap (after_own events probes) own

  pub comes-step : (steps : ℕ) (h g : HartState) (probes : List Probe) (did : Did)
      → hart_step code (ticked_if (is_tick_due plan pace h) h) ≡ Steps g probes did → Comes steps g → Comes (suc steps) h
  unfolding own_steps
  comes-step steps h g probes did is comes =
      let events = events_of_step plan pace number (Some h) in
      let f = ticked_if (is_tick_due plan pace h) h in
      record {
        action =
            record {
              call = comes.action.call;
              hart = comes.action.hart;
              probes = probes ++ comes.action.probes;
              events = events ++ comes.action.events;
            };
        own = ap (λ s. own_by (own_steps code plan pace number steps) events f s) is
            ∙ after-step steps h g events f probes did comes.action comes.own;
        there = comes.there;
      }

  -- where the step wants the queue
  pub comes-now : (steps : ℕ) (h : HartState) (call : QueueCall) (early_writes : List CellWrite) (rd next : ℕ) → is_tick_due plan pace h ≡ false
      → hart_step code h ≡ Wants call early_writes rd next → There call h → Comes (suc steps) h
  unfolding own_steps
  comes-now steps h call early_writes rd next calm wants there = record {
    action = record { call = call; hart = h; probes = []; events = events_of_step plan pace number (Some h) };
    own = by-due (is_tick_due plan pace h) calm;
    there = there;
  }
    where
      by-due : (due : Bool) → due ≡ false
          → own_by (own_steps code plan pace number steps) (events_of_step plan pace number (Some h)) (ticked_if due h)
          (hart_step code (ticked_if due h))
          ≡ Some (record { call = call; hart = h; probes = []; events = events_of_step plan pace number (Some h) })
      by-due due e =
          ap (λ b. own_by (own_steps code plan pace number steps) (events_of_step plan pace number (Some h)) (ticked_if b h)
          (hart_step code (ticked_if b h))) e
          ∙ ap (own_by (own_steps code plan pace number steps) (events_of_step plan pace number (Some h)) h) wants

  -- after a step that goes on the rest of the way is left,
  pub comes-then : (steps : ℕ) (h g : HartState) (probes : List Probe) (did : Did)
      → hart_step code (ticked_if (is_tick_due plan pace h) h) ≡ Steps g probes did → Comes (suc steps) h → Comes (suc steps) g
  unfolding own_steps
  comes-then steps h g probes did is comes =
      by-rest (own_steps code plan pace number steps g) refl
      (subst (λ s. own_by (own_steps code plan pace number steps) events f s ≡ Some comes.action) is comes.own)
    where
      events : List Event
      events = events_of_step plan pace number (Some h)

      f : HartState
      f = ticked_if (is_tick_due plan pace h) h

      by-rest : (o : Option AtAction) → own_steps code plan pace number steps g ≡ o → after_own events probes o ≡ Some comes.action
          → Comes (suc steps) g
      by-rest None own e = absurd (cc e)
      by-rest (Some b) own e =
          let same : record { call = b.call; hart = b.hart; probes = probes ++ b.probes; events = events ++ b.events } ≡ comes.action = cc e in
          record {
            action = b;
            own = own-longer code plan pace number steps g b own;
            there = subst (λ (x : AtAction). There x.call x.hart) (sym same) comes.there;
          }

  -- a step that wants the queue is where it leads,
  pub comes-here : (steps : ℕ) (h : HartState) (call : QueueCall) (early_writes : List CellWrite) (rd next : ℕ)
      → hart_step code (ticked_if (is_tick_due plan pace h) h) ≡ Wants call early_writes rd next → Comes (suc steps) h
      → There call (ticked_if (is_tick_due plan pace h) h)
  unfolding own_steps
  comes-here steps h call early_writes rd next is comes =
      let events = events_of_step plan pace number (Some h) in
      let f = ticked_if (is_tick_due plan pace h) h in
      let own = subst (λ s. own_by (own_steps code plan pace number steps) events f s ≡ Some comes.action) is comes.own in
      let same : record { call = call; hart = f; probes = []; events = events } ≡ comes.action = cc own in
      subst (λ (x : AtAction). There x.call x.hart) (sym same) comes.there

  -- and there is no third.
  pub comes-on : (steps : ℕ) (h : HartState) → hart_step code (ticked_if (is_tick_due plan pace h) h) ≡ Wedged → Comes (suc steps) h → ⊥
  unfolding own_steps
  comes-on steps h is comes =
      let own = subst (λ s. own_by (own_steps code plan pace number steps) (events_of_step plan pace number (Some h))
      (ticked_if (is_tick_due plan pace h) h) s ≡ Some comes.action) is comes.own in
      absurd (cc own)

  -- more steps come there too
  pub comes-longer : (more steps : ℕ) (h : HartState) → Comes steps h → Comes (more + steps) h
  comes-longer more steps h comes =
      record { action = comes.action; own = own-more code plan pace number more steps h comes.action comes.own; there = comes.there }

  -- no tick is due in machine mode
  pub not-due : (h : HartState) → h.csrs.mode ≡ Machine → is_tick_due plan pace h ≡ false
  not-due h machine = rw machine refl

  -- along a way without ticks
  pub comes-along : (n steps : ℕ) (Mid : HartState → Type 0) (h : HartState) → Arrives code n Mid h → ((g : HartState) → Mid g → Comes steps g)
      → Comes (n + steps) h
  comes-along zero steps Mid h there further = comes-longer 0 steps h (further h there)
  comes-along (suc n) steps Mid h (inl there) further = comes-longer (suc n) steps h (further h there)
  comes-along (suc n) steps Mid h (inr (machine, to)) further =
      let P : ℕ → Type 0 = λ k. Comes k h in
      let same : suc n + steps ≡ suc (n + steps) = omega arith in
      let F : Bool → StepResult = λ b. hart_step code (ticked_if b h) in
      subst P (sym same)
      (comes-step (n + steps) h to.after to.probes to.did (ap F (not-due h machine) ∙ to.step_is) (comes-along n steps Mid to.after to.there further))
