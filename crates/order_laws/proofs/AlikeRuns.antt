-- Alike bundles stand for one list of events by an order, so that their coarse logs agree publicly.
use Rattle.std.proofs.Common.{◌≡◌, ℕ, zero, suc, ◌<◌, inl, inr, Bool, true, false, if◌then◌else◌, List, [], ◌∷◌, ◌++◌, set, get_or, replicate, slice_get, Option, Some, None, refl, sym, ap, ◌∙◌, subst}
use Rattle.std.specs.Prelude.{◌↔◌}
use Rattle.hart_model.specs.declared.tag.Mode.TheVariants.{Machine}
use Rattle.hart_model.specs.HartState.{HartState}
use Rattle.core_model.specs.declared.action.Action.{Action}
use Rattle.core_model.specs.declared.event.Event.{Event}
use Rattle.core_model.specs.declared.event.Event.TheVariants.{Go, Tick}
use Rattle.core_model.specs.declared.loaded.Loaded.{Loaded}
use Rattle.core_model.specs.declared.plan.Plan.{Plan}
use Rattle.core_model.specs.Core.{CoreState, CoreAndAction, event_result, after_event, core_from, log_of}
use Rattle.core_model.specs.Loaded.{IsLoaded}
use Rattle.core_model.specs.LowEquivalence.{AreAlike, AgreePublicly}
use Rattle.core_model.specs.Orders.{HartPace, CoarseState, StepsToAction, boot_pace, boot_coarse, plan_at, pace_after, count_on, max_steps, is_tick_due, events_of_step, result_of, unless_action, steps_to_action, steps_of_entry, after_steps, after_entry, fine_from, fine_of, IsLegalFrom, IsLegal}
use Rattle.core_invariant.specs.KernelStates.{KernelParts}
use Rattle.core_invariant.specs.Invariant.{IsCoreKept}
use Rattle.core_invariant.specs.OneHart.{EachHart}
use Rattle.core_invariant.proofs.Boot.{boot-kept}
use Rattle.core_invariant.proofs.Composition.{event-kept, events-kept}
use Rattle.core_invariant.proofs.Proved.{kernel-harts}
use Rattle.noninterference.specs.AlikeCores.{BothHarts, LedBoth}
use Rattle.noninterference.proofs.AlikeCores.{AreCoresTogether, event-together, events-together, boot-together}
use Rattle.noninterference.proofs.BothOutcomes.{AreAtStarts}
use Rattle.noninterference.proofs.BothStand.{start-both, alike-logs-agree}
use Rattle.noninterference.proofs.BothStarts.{both-harts}
use Rattle.noninterference.proofs.BothWays.{both-first}
use Rattle.order_laws.specs.Laws.{AlikeBundlesRunAlike}
use Rattle.order_laws.proofs.AsEvents.{result-core}
use Rattle.order_laws.proofs.AlikeActions.{AreActionsSame, alike-due, go-actions, step-events}

-- Harts that are together have a tick due both or neither.
pub led-due : (k : KernelParts) (There : ℕ → HartState → HartState → Type 0) (plan : Plan) (pace : HartPace) (number : ℕ)
    → ((h g : HartState) → There number h g → is_tick_due plan pace h ≡ is_tick_due plan pace g)
    → (h g : HartState) → LedBoth There k number h g → is_tick_due plan pace h ≡ is_tick_due plan pace g
led-due k There plan pace number same h g led =
    elim (both-first k.code.words led.0 (There number) h g led.1) [
      | inl there ↦ same h g there
      | inr goes ↦ machine-due h goes.0.0 ∙ sym (machine-due g goes.0.1)
    ]
  where
    machine-due : (x : HartState) → x.csrs.mode ≡ Machine → is_tick_due plan pace x ≡ false
    machine-due x machine = rw machine refl

-- ONE ENTRY
module _ (Together : ℕ → HartState → HartState → Type 0) (k : KernelParts) (loaded other : Loaded) (one : EachHart loaded.tasks k)
    (two : EachHart other.tasks k)
    (both : BothHarts Together loaded.tasks other.tasks k)
    (due : (plan : Plan) (pace : HartPace) (number : ℕ)
    (h g : HartState) → Together number h g → is_tick_due plan pace h ≡ is_tick_due plan pace g) where
  -- two cores that are together, each kept
  pub record AreTwins (c d : CoreState) : Type 0 where
    pub kept : IsCoreKept k loaded c
    pub kept_too : IsCoreKept k other d
    pub together : AreCoresTogether Together c d

  pub events-twins : (c d : CoreState) (events : List Event) → AreTwins c d
      → AreTwins (core_from k.code.words c events) (core_from k.code.words d events)
  events-twins c d events twins = record {
    kept = events-kept k loaded one c twins.kept events;
    kept_too = events-kept k other two d twins.kept_too events;
    together = events-together Together k loaded other one two both c d twins.kept twins.kept_too twins.together events;
  }

  -- steps of one hart on both: one list of events, one action, one pace after it, and cores that are together
  pub record AreStepsSame (hart : ℕ) (s t : StepsToAction) : Type 0 where
    pub events : s.events ≡ t.events
    pub action : s.action ≡ t.action
    pub pace : (p : HartPace)
        → pace_after p (count_on (slice_get s.core.harts hart)) s.action ≡ pace_after p (count_on (slice_get t.core.harts hart)) t.action
    pub twins : AreTwins s.core t.core

  -- one step, with its tick where one is due
  go-same : (hart : ℕ) (c d : CoreState) → AreTwins c d
      → AreActionsSame hart (event_result k.code.words c (Go hart)) (event_result k.code.words d (Go hart))
  go-same hart c d twins = go-actions Together k loaded other both c d twins.kept twins.kept_too twins.together hart

  tick-twins : (hart : ℕ) (c d : CoreState) → AreTwins c d
      → AreTwins (after_event k.code.words c (Tick hart)) (after_event k.code.words d (Tick hart))
  tick-twins hart c d twins = record {
    kept = event-kept k loaded one c twins.kept (Tick hart);
    kept_too = event-kept k other two d twins.kept_too (Tick hart);
    together = event-together Together k loaded other one two both c d twins.kept twins.kept_too twins.together (Tick hart);
  }

  due-same : (hart : ℕ) (c d : CoreState) → AreTwins c d → (b : Bool)
      → AreActionsSame hart (result_of k.code.words c (if b then Tick hart ∷ Go hart ∷ [] else Go hart ∷ []))
      (result_of k.code.words d (if b then Tick hart ∷ Go hart ∷ [] else Go hart ∷ []))
  unfolding result_of
  due-same hart c d twins true =
      go-same hart (after_event k.code.words c (Tick hart)) (after_event k.code.words d (Tick hart)) (tick-twins hart c d twins)
  due-same hart c d twins false = go-same hart c d twins

  results-same : (hart : ℕ) (c d : CoreState) (plan : Plan) (pace : HartPace) (o : Option HartState) → AreTwins c d
      → AreActionsSame hart (result_of k.code.words c (events_of_step plan pace hart o)) (result_of k.code.words d (events_of_step plan pace hart o))
  results-same hart c d plan pace None twins = due-same hart c d twins false
  results-same hart c d plan pace (Some h) twins = due-same hart c d twins (is_tick_due plan pace h)

  results-twins : (c d : CoreState) (events : List Event) → AreTwins c d
      → AreTwins (result_of k.code.words c events).core (result_of k.code.words d events).core
  results-twins c d events twins =
      subst (λ x. AreTwins x (result_of k.code.words d events).core) (sym (result-core k.code.words c events))
      (subst (λ x. AreTwins (core_from k.code.words c events) x) (sym (result-core k.code.words d events)) (events-twins c d events twins))

  -- and what follows it
  unless-same : (hart : ℕ) (further more : CoreState → StepsToAction) → ((c d : CoreState) → AreTwins c d → AreStepsSame hart (further c) (more d))
      → (events : List Event) (r q : CoreAndAction) → AreTwins r.core q.core → AreActionsSame hart r q → (a b : Option Action) → r.action ≡ a
      → q.action ≡ b
      → AreStepsSame hart (unless_action further events r.core a) (unless_action more events q.core b)
  unless-same hart further more rest events r q twins same None None e f =
      let later = rest r.core q.core twins in
      record { events = ap (λ es. events ++ es) later.events; action = later.action; pace = later.pace; twins = later.twins }
  unless-same hart further more rest events r q twins same None (Some b) e f = absurd (cc (sym e ∙ same.action ∙ f))
  unless-same hart further more rest events r q twins same (Some a) None e f = absurd (cc (sym e ∙ same.action ∙ f))
  unless-same hart further more rest events r q twins same (Some a) (Some b) e f = record {
    events = refl;
    action = sym e ∙ same.action ∙ f;
    pace = λ p. ap (pace_after p (count_on (slice_get r.core.harts hart))) (sym e) ∙ same.pace p
        ∙ ap (pace_after p (count_on (slice_get q.core.harts hart))) f;
    twins = twins;
  }

  pub steps-same : (hart : ℕ) (plan : Plan) (pace : HartPace) (steps : ℕ) (c d : CoreState) → AreTwins c d
      → AreStepsSame hart (steps_to_action k.code.words plan pace hart steps c) (steps_to_action k.code.words plan pace hart steps d)
  unfolding steps_to_action
  steps-same hart plan pace zero c d twins = record { events = refl; action = refl; pace = λ p. refl; twins = twins }
  steps-same hart plan pace (suc steps) c d twins =
      let F : CoreState → StepsToAction = λ x. steps_to_action k.code.words plan pace hart steps x in
      let events = events_of_step plan pace hart (slice_get c.harts hart) in
      let r = result_of k.code.words c events in
      let q = result_of k.code.words d events in
      let same : events ≡ events_of_step plan pace hart (slice_get d.harts hart) =
      step-events Together k loaded other both c d twins.kept twins.kept_too twins.together hart plan pace
      (λ h g there. due plan pace hart h g there) in
      let P : List Event → Type 0 = λ es. AreStepsSame hart (unless_action F events r.core r.action)
      (unless_action F es (result_of k.code.words d es).core (result_of k.code.words d es).action) in
      subst P same
      (unless-same hart F F (λ x y on. steps-same hart plan pace steps x y on) events r q (results-twins c d events twins)
      (results-same hart c d plan pace (slice_get c.harts hart) twins) r.action q.action refl refl)

  -- AN ORDER
  pub record AreCoarseTwins (co at : CoarseState) : Type 0 where
    pub paces : co.paces ≡ at.paces
    pub twins : AreTwins co.core at.core

  module _ (plans : List Plan) where
    entry-same : (co at : CoarseState) → AreCoarseTwins co at → (hart : ℕ)
        → AreStepsSame hart (steps_of_entry k.code.words plans co hart) (steps_of_entry k.code.words plans at hart)
    entry-same co at both_are hart =
        let P : List HartPace → Type 0 = λ paces. AreStepsSame hart (steps_of_entry k.code.words plans co hart)
        (steps_to_action k.code.words (plan_at plans hart) (get_or paces hart boot_pace) hart max_steps at.core) in
        subst P both_are.paces (steps-same hart (plan_at plans hart) (get_or co.paces hart boot_pace) max_steps co.core at.core both_are.twins)

    entry-twins : (co at : CoarseState) → AreCoarseTwins co at → (hart : ℕ)
        → AreCoarseTwins (after_entry k.code.words plans co hart) (after_entry k.code.words plans at hart)
    entry-twins co at both_are hart =
        let s = steps_of_entry k.code.words plans co hart in
        let same = entry-same co at both_are hart in
        record {
          paces =
              ap (λ (ps : List HartPace). set ps hart
              (pace_after (get_or ps hart boot_pace) (count_on (slice_get s.core.harts hart)) s.action)) both_are.paces
              ∙ ap (set at.paces hart) (same.pace (get_or at.paces hart boot_pace));
          twins = same.twins;
        }

    pub fine-same : (order : List ℕ) (co at : CoarseState) → AreCoarseTwins co at
        → fine_from k.code.words plans co order ≡ fine_from k.code.words plans at order
    unfolding fine_from
    fine-same [] co at both_are = refl
    fine-same (hart ∷ order) co at both_are =
        let rest = fine-same order (after_entry k.code.words plans co hart) (after_entry k.code.words plans at hart)
        (entry-twins co at both_are hart) in
        let s = steps_of_entry k.code.words plans co hart in
        let t = steps_of_entry k.code.words plans at hart in
        ap (λ es. es ++ fine_from k.code.words plans (after_steps co hart s) order) (entry-same co at both_are hart).events
        ∙ ap (λ es. t.events ++ es) rest

    pub legal-same : (order : List ℕ) (co at : CoarseState) → AreCoarseTwins co at → IsLegalFrom k.code.words plans co order
        → IsLegalFrom k.code.words plans at order
    unfolding IsLegalFrom
    legal-same [] co at both_are legal = tt
    legal-same (hart ∷ order) co at both_are legal = (
      record {
        exists = subst (λ n. hart < n) both_are.twins.together.count legal.0.exists;
        goes_on = ap (λ (ps : List HartPace). (get_or ps hart boot_pace).has_stopped) (sym both_are.paces) ∙ legal.0.goes_on;
      },
      legal-same order (after_entry k.code.words plans co hart) (after_entry k.code.words plans at hart) (entry-twins co at both_are hart) legal.1,
    )

    pub legal-back : (order : List ℕ) (co at : CoarseState) → AreCoarseTwins co at → IsLegalFrom k.code.words plans at order
        → IsLegalFrom k.code.words plans co order
    unfolding IsLegalFrom
    legal-back [] co at both_are legal = tt
    legal-back (hart ∷ order) co at both_are legal = (
      record {
        exists = subst (λ n. hart < n) (sym both_are.twins.together.count) legal.0.exists;
        goes_on = ap (λ (ps : List HartPace). (get_or ps hart boot_pace).has_stopped) both_are.paces ∙ legal.0.goes_on;
      },
      legal-back order (after_entry k.code.words plans co hart) (after_entry k.code.words plans at hart) (entry-twins co at both_are hart) legal.1,
    )

  -- from boot
  boot-twins : IsLoaded loaded → IsLoaded other → AreAlike loaded other → AreCoarseTwins (boot_coarse loaded k.code) (boot_coarse other k.code)
  boot-twins fits fits_too alike = record {
    paces = ap (λ n. replicate n boot_pace) alike.harts;
    twins = record {
      kept = boot-kept k loaded fits one;
      kept_too = boot-kept k other fits_too two;
      together = boot-together Together k loaded other one two both alike;
    };
  }

  pub order-events : IsLoaded loaded → IsLoaded other → AreAlike loaded other → (order : List ℕ)
      → fine_of loaded k.code order ≡ fine_of other k.code order
  order-events fits fits_too alike order =
      fine-same loaded.plans order (boot_coarse loaded k.code) (boot_coarse other k.code) (boot-twins fits fits_too alike)
      ∙ ap (λ (plans : List Plan). fine_from k.code.words plans (boot_coarse other k.code) order) alike.plans

  pub order-legal : IsLoaded loaded → IsLoaded other → AreAlike loaded other → (order : List ℕ)
      → IsLegal loaded k.code order ↔ IsLegal other k.code order
  order-legal fits fits_too alike order =
      let Legal : List Plan → Type 0 = λ plans. IsLegalFrom k.code.words plans (boot_coarse other k.code) order in
      let twins = boot-twins fits fits_too alike in (
        λ legal. subst Legal alike.plans (legal-same loaded.plans order (boot_coarse loaded k.code) (boot_coarse other k.code) twins legal),
        λ legal. legal-back loaded.plans order (boot_coarse loaded k.code) (boot_coarse other k.code) twins (subst Legal (sym alike.plans) legal),
      )

-- Alike bundles.
pub run-alike : AlikeBundlesRunAlike
run-alike k kernel of_both loaded other fits fits_too alike order =
    let There : ℕ → HartState → HartState → Type 0 = AreAtStarts loaded.tasks other.tasks k in
    let both = both-harts There loaded.tasks other.tasks k (start-both k kernel of_both loaded.tasks other.tasks alike.tasks) in
    let one = kernel-harts k kernel loaded fits in
    let two = kernel-harts k kernel other fits_too in
    let due = λ (plan : Plan) (pace : HartPace) (number : ℕ) (h g : HartState) (led : LedBoth There k number h g).
    led-due k There plan pace number (λ x y there. alike-due plan pace x y there.alike) h g led in
    let events = order-events (LedBoth There k) k loaded other one two both due fits fits_too alike order in
    record {
      events = events;
      legal = order-legal (LedBoth There k) k loaded other one two both due fits fits_too alike order;
      logs = subst (λ es. AgreePublicly (log_of loaded k.code (fine_of loaded k.code order)) (log_of other k.code es)) events
          (alike-logs-agree k kernel of_both loaded other fits fits_too alike (fine_of loaded k.code order));
    }
