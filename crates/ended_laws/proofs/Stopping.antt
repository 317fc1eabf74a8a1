-- How harts of a coarse run come to have found nothing: by an entry that finds nothing, and for good.
use Rattle.std.proofs.Common.{◌≡◌, ◌≢◌, ℕ, ◌<◌, ◌⊎◌, inl, inr, true, false, true≢false, List, [], ◌∷◌, ◌++◌, length, get_or, slice_get, Option, Some, None, refl, sym, ap, ◌∙◌, subst, arith}
use Rattle.std.specs.List.{AllByRecursion}
use Rattle.std.proofs.lemmas.List.{get_or-set_same, get_or-set_other, get_or-replicate}
use Rattle.core_model.specs.declared.action.Action.{Action}
use Rattle.core_model.specs.declared.action.Action.TheVariants as actions
use Rattle.core_model.specs.declared.plan.Plan.{Plan}
use Rattle.core_model.specs.declared.loaded.Loaded.{Loaded}
use Rattle.core_model.specs.Loaded.{IsLoaded}
use Rattle.core_model.specs.Orders.{HartPace, CoarseState, boot_pace, boot_coarse, pace_after, count_on, steps_of_entry, after_entry, IsLegalEntry, IsLegalFrom, IsLegal}
use Rattle.core_invariant.specs.KernelStates.{KernelParts, IsKernel}
use Rattle.order_laws.specs.CoarseInvariant.{IsCoarseKept}
use Rattle.order_laws.specs.CoarseRuns.{coarse_from, coarse_state}
use Rattle.order_laws.proofs.AsEvents.{coarse-append}
use Rattle.order_laws.proofs.LegalOrders.{coarse-kept}
use Rattle.ended_laws.specs.Ending.{HaveAllStopped, FindsNothing, EndsByFindingNothing, StoppedRunsEndEmpty, EmptyTakesStop, LegalOrdersNameHarts}

abbrev IsStopped : CoarseState → ℕ → Type 0
IsStopped co hart = (get_or co.paces hart boot_pace).has_stopped ≡ true

module _ (code : List ℕ) (plans : List Plan) where
  -- the pace that the hart of an entry has after it
  abbrev next_pace : CoarseState → ℕ → Option Action → HartPace
  next_pace co hart action =
      pace_after (get_or co.paces hart boot_pace) (count_on (slice_get (steps_of_entry code plans co hart).core.harts hart)) action

  abbrev action_at : CoarseState → ℕ → Option Action
  action_at co hart = (steps_of_entry code plans co hart).action

  own-pace : (co : CoarseState) (hart : ℕ) → hart < length co.paces
      → get_or (after_entry code plans co hart).paces hart boot_pace ≡ next_pace co hart (action_at co hart)
  own-pace co hart low = get_or-set_same co.paces hart (next_pace co hart (action_at co hart)) boot_pace low

  other-pace : (co : CoarseState) (i hart : ℕ) → hart ≢ i
      → get_or (after_entry code plans co i).paces hart boot_pace ≡ get_or co.paces hart boot_pace
  other-pace co i hart ne = get_or-set_other co.paces i hart (next_pace co i (action_at co i)) boot_pace ne

  -- for good
  stays-stopped : (order : List ℕ) (co : CoarseState) (hart : ℕ) → IsLegalFrom code plans co order → IsStopped co hart
      → IsStopped (coarse_from code plans co order) hart
  unfolding IsLegalFrom coarse_from
  stays-stopped [] co hart legal stopped = stopped
  stays-stopped (i ∷ order) co hart legal stopped =
      let other : hart ≢ i = λ same.
      true≢false (sym stopped ∙ ap (λ n. (get_or co.paces n boot_pace).has_stopped) same ∙ legal.0.goes_on) in
      stays-stopped order (after_entry code plans co i) hart legal.1
      (ap (λ (p : HartPace). p.has_stopped) (other-pace co i hart other) ∙ stopped)

  -- what follows of an order is legal after what came before
  legal-rest : (before rest : List ℕ) (co : CoarseState) → IsLegalFrom code plans co (before ++ rest)
      → IsLegalFrom code plans (coarse_from code plans co before) rest
  unfolding IsLegalFrom coarse_from
  legal-rest [] rest co legal = legal
  legal-rest (hart ∷ before) rest co legal = legal-rest before rest (after_entry code plans co hart) legal.1

  legal-front : (before rest : List ℕ) (co : CoarseState) → IsLegalFrom code plans co (before ++ rest) → IsLegalFrom code plans co before
  unfolding IsLegalFrom
  legal-front [] rest co legal = tt
  legal-front (hart ∷ before) rest co legal = (legal.0, legal-front before rest (after_entry code plans co hart) legal.1)

  first-legal : (hart : ℕ) (rest : List ℕ) (co : CoarseState) → IsLegalFrom code plans co (hart ∷ rest)
      → IsLegalEntry co hart × IsLegalFrom code plans (after_entry code plans co hart) rest
  unfolding IsLegalFrom
  first-legal hart rest co legal = legal

  one-entry : (hart : ℕ) (rest : List ℕ) (co : CoarseState) → coarse_from code plans co (hart ∷ rest)
      ≡ coarse_from code plans (after_entry code plans co hart) rest
  unfolding coarse_from
  one-entry hart rest co = refl

  no-entry : (co : CoarseState) → coarse_from code plans co [] ≡ co
  unfolding coarse_from
  no-entry co = refl

-- by an action alone that finds nothing
by-empty : (p : HartPace) (count : ℕ) (action : Option Action) → p.has_stopped ≡ false → (pace_after p count action).has_stopped ≡ true
    → action ≡ Some actions.Empty
by-empty p count None goes_on stopped = absurd (true≢false (sym stopped ∙ goes_on))
by-empty p count (Some (actions.Took task)) goes_on stopped = absurd (cc stopped)
by-empty p count (Some actions.Empty) goes_on stopped = refl
by-empty p count (Some (actions.GaveReady task)) goes_on stopped = absurd (true≢false (sym stopped ∙ goes_on))
by-empty p count (Some (actions.GaveDone task)) goes_on stopped = absurd (true≢false (sym stopped ∙ goes_on))

-- a list by its last item
abbrev HasLast : List ℕ → Type 0
HasLast xs = (xs ≡ []) ⊎ ((before : List ℕ) × (x : ℕ) × (xs ≡ before ++ x ∷ []))

last-of : (xs : List ℕ) → HasLast xs
last-of [] = inl refl
last-of (x ∷ xs) = elim (last-of xs) [
  | inl none ↦ inr ([], x, ap (λ (ys : List ℕ). x ∷ ys) none)
  | inr some ↦ inr (x ∷ some.0, some.1, ap (λ (ys : List ℕ). x ∷ ys) some.2)
]

module _ (k : KernelParts) (kernel : IsKernel k) (loaded : Loaded) (fits : IsLoaded loaded) where
  abbrev boot : CoarseState
  boot = boot_coarse loaded k.code

  abbrev at : List ℕ → CoarseState
  at order = coarse_state loaded k.code order

  run-kept : (order : List ℕ) → IsLegal loaded k.code order → IsCoarseKept k loaded (at order)
  run-kept order legal = coarse-kept.orders k kernel loaded fits.limits boot (coarse-kept.boots k kernel loaded fits) order legal

  -- AN ENTRY that finds nothing
  module _ (before rest : List ℕ) (hart : ℕ) (legal : IsLegal loaded k.code (before ++ hart ∷ rest)) where
    rest-legal : IsLegalEntry (at before) hart × IsLegalFrom k.code.words loaded.plans (after_entry k.code.words loaded.plans (at before) hart) rest
    rest-legal =
        first-legal k.code.words loaded.plans hart rest (at before) (legal-rest k.code.words loaded.plans before (hart ∷ rest) boot legal)

    before-kept : IsCoarseKept k loaded (at before)
    before-kept = run-kept before (legal-front k.code.words loaded.plans before (hart ∷ rest) boot legal)

    within : hart < length (at before).paces
    within =
        let low = rest-legal.0.exists in
        let count = before-kept.core.hart_count in
        let paces = before-kept.paces in
        omega (arith, low, count, paces)

    parts : at (before ++ hart ∷ rest) ≡ coarse_from k.code.words loaded.plans (after_entry k.code.words loaded.plans (at before) hart) rest
    parts =
        coarse-append k.code.words loaded.plans boot before (hart ∷ rest)
        ∙ one-entry k.code.words loaded.plans hart rest (at before)

    now-stopped : FindsNothing loaded k.code before hart → IsStopped (after_entry k.code.words loaded.plans (at before) hart) hart
    now-stopped finds =
        ap (λ (p : HartPace). p.has_stopped) (own-pace k.code.words loaded.plans (at before) hart within)
        ∙ ap (λ (action : Option Action). (next_pace k.code.words loaded.plans (at before) hart action).has_stopped) finds

    has-stopped : FindsNothing loaded k.code before hart → IsStopped (at (before ++ hart ∷ rest)) hart
    has-stopped finds =
        subst (λ (co : CoarseState). IsStopped co hart) (sym parts)
        (stays-stopped k.code.words loaded.plans rest (after_entry k.code.words loaded.plans (at before) hart) hart rest-legal.1 (now-stopped finds))

  -- THE LAST ENTRY of an order after which all have found nothing
  none-at-boot : HaveAllStopped loaded.harts boot → ⊥
  none-at-boot all =
      let low = fits.limits.harts_low in
      let first : get_or boot.paces 0 boot_pace ≡ boot_pace = get_or-replicate loaded.harts 0 boot_pace boot_pace (omega arith) in
      true≢false (sym (all 0 (omega arith)) ∙ ap (λ (p : HartPace). p.has_stopped) first)

  last-finds : (before : List ℕ) (hart : ℕ) → IsLegal loaded k.code (before ++ hart ∷ []) → HaveAllStopped loaded.harts (at (before ++ hart ∷ []))
      → FindsNothing loaded k.code before hart
  last-finds before hart legal all =
      let low = (rest-legal before [] hart legal).0.exists in
      let count = (before-kept before [] hart legal).core.hart_count in
      let same = parts before [] hart legal ∙ no-entry k.code.words loaded.plans (after_entry k.code.words loaded.plans (at before) hart) in
      let stopped : IsStopped (after_entry k.code.words loaded.plans (at before) hart) hart =
      subst (λ (co : CoarseState). IsStopped co hart) same (all hart (omega (arith, low, count))) in
      by-empty (get_or (at before).paces hart boot_pace)
      (count_on (slice_get (steps_of_entry k.code.words loaded.plans (at before) hart).core.harts hart))
      (action_at k.code.words loaded.plans (at before) hart) (rest-legal before [] hart legal).0.goes_on
      (ap (λ (p : HartPace). p.has_stopped) (sym (own-pace k.code.words loaded.plans (at before) hart (within before [] hart legal))) ∙ stopped)

  ends-empty : (order : List ℕ) → IsLegal loaded k.code order → HaveAllStopped loaded.harts (at order) → EndsByFindingNothing loaded k.code order
  ends-empty order legal all = elim (last-of order) [
    | inl none ↦ absurd (none-at-boot (subst (HaveAllStopped loaded.harts) (no-entry k.code.words loaded.plans boot)
        (subst (λ (o : List ℕ). HaveAllStopped loaded.harts (at o)) none all)))
    | inr some ↦ record {
      before = some.0;
      hart = some.1;
      last = some.2;
      finds = last-finds some.0 some.1 (subst (λ (o : List ℕ). IsLegal loaded k.code o) some.2 legal)
          (subst (λ (o : List ℕ). HaveAllStopped loaded.harts (at o)) some.2 all);
    }
  ]

  -- EACH ENTRY is a number of a hart
  name-harts : (order : List ℕ) (co : CoarseState) → IsCoarseKept k loaded co → IsLegalFrom k.code.words loaded.plans co order
      → AllByRecursion (λ hart. hart < loaded.harts) order
  unfolding IsLegalFrom coarse_from
  name-harts [] co kept legal = tt
  name-harts (hart ∷ order) co kept legal =
      let low = legal.0.exists in
      let count = kept.core.hart_count in
      let next = coarse-kept.orders k kernel loaded fits.limits co kept (hart ∷ []) (legal.0, tt) in
      (omega (arith, low, count), name-harts order (after_entry k.code.words loaded.plans co hart) next legal.1)

-- THE LAWS
pub stopped-empty : StoppedRunsEndEmpty
stopped-empty k kernel loaded fits order legal all = ends-empty k kernel loaded fits order legal all

pub empty-stops : EmptyTakesStop
empty-stops k kernel loaded fits before rest hart legal finds = has-stopped k kernel loaded fits before rest hart legal finds

pub legal-names : LegalOrdersNameHarts
legal-names k kernel loaded fits order legal =
    name-harts k kernel loaded fits order (boot_coarse loaded k.code) (coarse-kept.boots k kernel loaded fits) legal
