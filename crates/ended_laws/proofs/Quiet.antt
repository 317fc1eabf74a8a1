-- What each legal entry of a coarse run keeps, so that all is over where all harts have found nothing.
use Rattle.std.proofs.Common.{◌≡◌, ◌≢◌, ℕ, ◌<◌, ◌⊎◌, inl, inr, true, true≢false, List, [], ◌∷◌, length, filter, get_or, slice_get, Option, Some, None, IsSome, ◌==◌, refl, sym, ap, ◌∙◌, subst, arith}
use Rattle.std.specs.Prelude.{All, find, option_map}
use Rattle.std.proofs.lemmas.Bool.{eq-eqb, cond-true}
use Rattle.std.proofs.lemmas.Option.{slice_get-get_or, get_or_from_slice_get}
use Rattle.std.proofs.lemmas.List.{get_or-replicate}
use Rattle.std.proofs.lemmas.List.Elements.{All-head}
use Rattle.hart_model.specs.Context.{BodyState, ContextState, DoneState}
use Rattle.hart_model.specs.HartState.{HartState, boot_hart}
use Rattle.core_model.specs.declared.home.Home.{Home}
use Rattle.core_model.specs.declared.home.Home.TheVariants.{Waiting, Slot, Hart, Ended}
use Rattle.core_model.specs.declared.loaded.Loaded.{Loaded}
use Rattle.core_model.specs.Board.{BoardState, OutEntry, all_ready}
use Rattle.core_model.specs.Core.{CoreState}
use Rattle.core_model.specs.Homes.{home_or, home_of, ended_home}
use Rattle.core_model.specs.Loaded.{IsLoaded}
use Rattle.core_model.specs.Orders.{HartPace, CoarseState, boot_pace, boot_coarse, plan_at, max_steps, steps_of_entry, after_entry, IsLegalEntry, IsLegalFrom}
use Rattle.core_model.specs.Soundness.{entries_held}
use Rattle.core_model.proofs.Lists.{get-set}
use Rattle.core_model.proofs.Counts.{waits_as, ready_as, out_as, ended_as, on_hart}
use Rattle.core_invariant.specs.KernelStates.{KernelParts, IsKernel}
use Rattle.core_invariant.proofs.Boot.{boot-hart}
use Rattle.core_invariant.proofs.OneHome.{exact-homes}
use Rattle.order_laws.specs.CoarseInvariant.{IsCoarseKept}
use Rattle.order_laws.specs.CoarseRuns.{coarse_from, coarse_state}
use Rattle.order_laws.proofs.AsEvents.{steps-core, coarse-states}
use Rattle.order_laws.proofs.Bound.{entry-lowers}
use Rattle.order_laws.proofs.LegalOrders.{one, turns, boots}
use Rattle.ended_laws.specs.Ending.{AreSlotsUsed, HaveAllStopped, IsOver, StoppedRunsAreOver}
use Rattle.ended_laws.proofs.SlotsUsed.{boot-used, used-events}
use Rattle.ended_laws.proofs.OneEntry.{IsOneChanged, entry-changes}

-- A coarse run that is kept, and in which the slots are used. A hart that has found nothing holds nothing, and where all have, none is ready.
pub record IsQuiet (k : KernelParts) (loaded : Loaded) (co : CoarseState) : Type 0 where
  pub kept : IsCoarseKept k loaded co
  pub used : AreSlotsUsed loaded.slots co.core.board
  pub free : (i : ℕ) (p : HartPace) (h : HartState) → slice_get co.paces i ≡ Some p → slice_get co.core.harts i ≡ Some h → p.has_stopped ≡ true
      → h.held ≡ None
  pub last : HaveAllStopped loaded.harts co → all_ready co.core.board.ready ≡ []

-- nothing is out where nothing is out on each hart
none-out : (harts : ℕ) (out : List OutEntry) → All (λ (o : OutEntry). o.hart < harts) out → ((i : ℕ) → i < harts → filter (on_hart i) out ≡ []) → out ≡ []
none-out harts [] low none = refl
none-out harts (o ∷ os) low none =
    let here : (o.hart == o.hart) ≡ true = eq-eqb o.hart o.hart refl in
    let low_one = All-head (λ (x : OutEntry). x.hart < harts) o os low in
    let first : filter (on_hart o.hart) (o ∷ os) ≡ o ∷ filter (on_hart o.hart) os = cond-true (o.hart == o.hart) _ _ here in
    absurd (cc (sym (none o.hart low_one) ∙ first))

-- a task that has a home has ended where nothing waits, is ready or is out
mapped : (o : Option DoneState) → IsSome (option_map (λ (d : DoneState). Ended) o) → option_map (λ (d : DoneState). Ended) o ≡ Some Ended
mapped None some = absurd (cc some)
mapped (Some d) some = refl

pub home-is-end : (b : BoardState) (t : ℕ) → b.waiting ≡ [] → all_ready b.ready ≡ [] → b.out ≡ [] → home_of b t ≡ ended_home b t
home-is-end b t waiting ready out =
    let L : List BodyState → List ContextState → List OutEntry → Option Home = λ w r o.
    home_or (option_map (λ (body : BodyState). Waiting) (find (waits_as t) w))
    (home_or (option_map (λ (c : ContextState). Slot c.slot) (find (ready_as t) r))
    (home_or (option_map (λ (x : OutEntry). Hart x.hart x.slot) (find (out_as t) o)) (ended_home b t))) in
    ap (λ (w : List BodyState). L w (all_ready b.ready) b.out) waiting
    ∙ ap (λ (r : List ContextState). L [] r b.out) ready
    ∙ ap (λ (o : List OutEntry). L [] [] o) out

ended-all : (b : BoardState) (t : ℕ) → b.waiting ≡ [] → all_ready b.ready ≡ [] → b.out ≡ [] → IsSome (home_of b t) → home_of b t ≡ Some Ended
ended-all b t waiting ready out some =
    let end = home-is-end b t waiting ready out in
    let there : IsSome (ended_home b t) = subst (λ (o : Option Home). IsSome o) end some in
    end ∙ mapped (find (ended_as t) b.ended) there

module _ (k : KernelParts) (kernel : IsKernel k) (loaded : Loaded) (fits : IsLoaded loaded) where
  -- AT BOOT no hart has found nothing.
  boot-quiet : IsQuiet k loaded (boot_coarse loaded k.code)
  boot-quiet = record {
    kept = boots k kernel loaded fits;
    used = boot-used loaded k.code;
    free = λ i p h is_pace is_hart stopped.
        sym (ap (λ (g : HartState). g.held) (boot-hart 0 loaded.harts k.code.take i h is_hart));
    last = λ all.
        (let low = fits.limits.harts_low in
        let first : get_or (boot_coarse loaded k.code).paces 0 boot_pace ≡ boot_pace = get_or-replicate loaded.harts 0 boot_pace boot_pace (omega arith) in
        absurd (true≢false (sym (all 0 (omega arith)) ∙ ap (λ (p : HartPace). p.has_stopped) first)));
  }

  -- A LEGAL ENTRY
  module _ (co : CoarseState) (quiet : IsQuiet k loaded co) (hart : ℕ) (legal : IsLegalEntry co hart) where
    abbrev after : CoarseState
    after = after_entry k.code.words loaded.plans co hart

    changes : IsOneChanged co hart after
    changes = entry-changes k kernel loaded fits.limits co quiet.kept hart legal

    free-after : (i : ℕ) (p : HartPace) (h : HartState) → slice_get after.paces i ≡ Some p → slice_get after.core.harts i ≡ Some h
        → p.has_stopped ≡ true → h.held ≡ None
    free-after i p h is_pace is_hart stopped =
        by-place
        (get-set co.paces hart i changes.pace p (ap (λ (ps : List HartPace). slice_get ps i) (sym changes.paces) ∙ is_pace))
        (get-set co.core.harts hart i changes.state h (ap (λ (hs : List HartState). slice_get hs i) (sym changes.harts) ∙ is_hart))
      where
        by-place : ((i ≡ hart) × (changes.pace ≡ p)) ⊎ ((i ≢ hart) × (slice_get co.paces i ≡ Some p))
            → ((i ≡ hart) × (changes.state ≡ h)) ⊎ ((i ≢ hart) × (slice_get co.core.harts i ≡ Some h)) → h.held ≡ None
        by-place (inl here) (inl same) =
            ap (λ (g : HartState). g.held) (sym same.1) ∙ (changes.stopped (ap (λ (q : HartPace). q.has_stopped) here.1 ∙ stopped)).0
        by-place (inl here) (inr other) = absurd (other.0 here.0)
        by-place (inr other) (inl same) = absurd (other.0 same.0)
        by-place (inr pace) (inr state) = quiet.free i p h pace.1 state.1 stopped

    last-after : HaveAllStopped loaded.harts after → all_ready after.core.board.ready ≡ []
    last-after all =
        let low = legal.exists in
        let count = quiet.kept.core.hart_count in
        let pace : get_or after.paces hart boot_pace ≡ changes.pace = get_or_from_slice_get after.paces hart changes.pace boot_pace changes.here in
        (changes.stopped (ap (λ (q : HartPace). q.has_stopped) (sym pace) ∙ all hart (omega (arith, low, count)))).1

    entry-quiet : IsQuiet k loaded after
    entry-quiet = record {
      kept = (entry-lowers k loaded (one k kernel loaded) fits.limits.plan_each (turns k kernel loaded fits.limits) co quiet.kept hart legal).kept;
      used = subst (λ (c : CoreState). AreSlotsUsed loaded.slots c.board)
          (sym (steps-core k.code.words (plan_at loaded.plans hart) (get_or co.paces hart boot_pace) hart max_steps co.core))
          (used-events k loaded (one k kernel loaded) co.core quiet.kept.core quiet.used (steps_of_entry k.code.words loaded.plans co hart).events);
      free = free-after;
      last = last-after;
    }

  pub order-quiet : (order : List ℕ) (co : CoarseState) → IsQuiet k loaded co → IsLegalFrom k.code.words loaded.plans co order
      → IsQuiet k loaded (coarse_from k.code.words loaded.plans co order)
  unfolding IsLegalFrom coarse_from
  order-quiet [] co quiet legal = quiet
  order-quiet (hart ∷ order) co quiet legal =
      order-quiet order (after_entry k.code.words loaded.plans co hart) (entry-quiet co quiet hart legal.0) legal.1

  -- WHERE ALL HAVE STOPPED
  module _ (co : CoarseState) (quiet : IsQuiet k loaded co) (all : HaveAllStopped loaded.harts co) where
    none-on : (i : ℕ) → i < loaded.harts → filter (on_hart i) co.core.board.out ≡ []
    none-on i low =
        let count = quiet.kept.core.hart_count in
        let paces = quiet.kept.paces in
        let h = get_or co.core.harts i (boot_hart 0 0) in
        let is_hart = slice_get-get_or co.core.harts i (boot_hart 0 0) (omega (arith, low, count)) in
        let is_pace = slice_get-get_or co.paces i boot_pace (omega (arith, low, paces)) in
        quiet.kept.core.out i h is_hart ∙ ap (entries_held i) (quiet.free i (get_or co.paces i boot_pace) h is_pace is_hart (all i low))

    over : IsOver (length loaded.tasks) co.core.board
    over =
        let kept = quiet.kept.core in
        let ready = quiet.last all in
        let out = none-out loaded.harts co.core.board.out kept.out_exists none-on in
        let waiting = none-waits ready out quiet.used in
        record {
          waiting = waiting;
          ready = ready;
          out = out;
          ended = λ t low. ended-all co.core.board t waiting ready out ((exact-homes (length loaded.tasks) co.core.board kept.homes).has t low);
        }
      where
        none-waits : all_ready co.core.board.ready ≡ [] → co.core.board.out ≡ [] → AreSlotsUsed loaded.slots co.core.board → co.core.board.waiting ≡ []
        none-waits ready out (inl none) = none
        none-waits ready out (inr slots) =
            let low = fits.limits.slots_low in
            let no_ready = ap length ready in
            let no_out = ap length out in
            absurd (omega (arith, slots, low, no_ready, no_out))

-- THE LAW
pub stopped-over : StoppedRunsAreOver
stopped-over k kernel loaded fits order legal all =
    let quiet = order-quiet k kernel loaded fits order (boot_coarse loaded k.code) (boot-quiet k kernel loaded fits) legal in
    subst (λ (c : CoreState). IsOver (length loaded.tasks) c.board) (coarse-states loaded k.code order)
    (over k kernel loaded fits (coarse_state loaded k.code order) quiet all)
