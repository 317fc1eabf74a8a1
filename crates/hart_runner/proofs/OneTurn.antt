-- One turn of a hart of a coarse run: its own steps up to its next queue action, what it may do there, and what its action leaves of the core.
use Rattle.std.proofs.Common.{◌≡◌, ℕ, ◌+◌, ◌≤◌, ◌<◌, inl, inr, false, List, [], ◌∷◌, ◌++◌, length, set, get_or, slice_get, Option, Some, None, refl, sym, ap, ◌∙◌, subst, append_assoc, arith}
use Rattle.std.proofs.lemmas.Option.{get_or_from_slice_get, slice_get_within}
use Rattle.std.proofs.lemmas.List.{set-set}
use Rattle.std.proofs.lemmas.List.Elements.{filter-append}
use Rattle.hart_model.specs.declared.calls.QueueCall.{QueueCall}
use Rattle.hart_model.specs.declared.calls.QueueCall.TheVariants.{Take, GiveReady, GiveDone}
use Rattle.hart_model.specs.Context.{ContextState}
use Rattle.hart_model.specs.HartState.{HartState}
use Rattle.hart_model.specs.StepResult.{StepResult, Steps, Wants, Wedged}
use Rattle.hart_model.specs.HartStep.{hart_step}
use Rattle.hart_state.specs.Asked.{AsksTake}
use Rattle.core_model.specs.declared.action.Action.{Action}
use Rattle.core_model.specs.declared.loaded.Loaded.{Loaded}
use Rattle.core_model.specs.Board.{BoardState}
use Rattle.core_model.specs.BoardStep.{BoardStep, board_step_of}
use Rattle.core_model.specs.Core.{CoreState}
use Rattle.core_model.specs.Loaded.{IsLoaded}
use Rattle.core_model.specs.Orders.{HartPace, CoarseState, StepsToAction, boot_pace, boot_coarse, plan_at, held_count, count_on, pace_after, max_steps, steps_of_entry, after_entry, coarse_after, IsLegal}
use Rattle.core_model.proofs.Lists.{some-is}
use Rattle.core_invariant.specs.KernelStates.{KernelParts, IsKernel}
use Rattle.core_invariant.specs.Invariant.{IsCoreKept}
use Rattle.core_invariant.specs.OneHart.{EachHart}
use Rattle.core_invariant.proofs.Actions.{may-take, may-give-ready, may-give-done}
use Rattle.core_invariant.proofs.Items.{get-set_same}
use Rattle.core_invariant.proofs.Proved.{kernel-harts}
use Rattle.ready_queue.specs.declared.kind.Kind.{Kind}
use Rattle.ready_queue.specs.declared.kind.Kind.TheVariants.{Ready, Done}
use Rattle.ready_queue.specs.Gives.{HasNothingOut}
use Rattle.order_laws.specs.CoarseRuns.{coarse_from, coarse_state, entries_by, HartShare, IsShareOf}
use Rattle.order_laws.specs.OwnSteps.{AtAction, own_steps, moved_to, acted, acted_steps}
use Rattle.order_laws.specs.CoarseInvariant.{IsCoarseKept}
use Rattle.order_laws.specs.Laws.{ComesToAction}
use Rattle.order_laws.proofs.Named.{step-named, all-own}
use Rattle.order_laws.proofs.OneEvent.{step-probes-named}
use Rattle.order_laws.proofs.AsEvents.{coarse-states, coarse-append}
use Rattle.order_laws.proofs.OwnSteps.{own-kept}
use Rattle.order_laws.proofs.OwnWay.{IsOwnWay, own-way, named-both}
use Rattle.order_laws.proofs.Entries.{WantsNow, own-wants, GoesOn, share-goes-on, IsTurn, Found, Returned, ItsTurn, its-turn, own-by-plan}
use Rattle.order_laws.proofs.Judged.{legal-more}
use Rattle.order_laws.proofs.LegalOrders.{turns, harts-come}
use Rattle.kernel_core.specs.BoardStep.{IsWanted, GivesKind, MayGive, IsAfterBoardStep}
use Rattle.hart_runner.proofs.LegalRuns.{run-kept}

one-more : (code : List ℕ) (loaded : Loaded) (co : CoarseState) (hart : ℕ)
    → coarse_from code loaded.plans co (hart ∷ []) ≡ after_entry code loaded.plans co hart
unfolding coarse_from
one-more code loaded co hart = refl

module _ (k : KernelParts) (kernel : IsKernel k) (loaded : Loaded) (fits : IsLoaded loaded) (order : List ℕ) (legal : IsLegal loaded k.code order)
    (number : ℕ) (s : HartShare) (is : IsShareOf (coarse_state loaded k.code order) number s) (goes_on : s.pace.has_stopped ≡ false) where
  abbrev one : EachHart loaded.tasks k
  one = kernel-harts k kernel loaded fits

  abbrev co : CoarseState
  co = coarse_state loaded k.code order

  kept : IsCoarseKept k loaded co
  kept = run-kept k kernel loaded fits order legal

  -- It comes to an action.
  pub comes : ComesToAction k.code.words loaded.plans co number s
  comes = harts-come k kernel loaded fits.limits co kept number s is goes_on

  -- WHICH ACTION: a take where it holds nothing, and a give where it holds a context
  abbrev g : GoesOn loaded co number
  g = share-goes-on k loaded fits.limits.plan_each co kept.core kept.paces number s is goes_on

  abbrev its : ItsTurn k loaded (turns k kernel loaded fits.limits) co kept number g
  its = its-turn k loaded (turns k kernel loaded fits.limits) co kept number g

  same-state : g.state ≡ s.hart
  same-state = some-is (sym g.is_hart ∙ is.hart)

  its-own : own_steps k.code.words (plan_at loaded.plans number) s.pace number max_steps s.hart ≡ Some its.action.at
  its-own =
      let P : HartPace → Type 0 = λ p. own_steps k.code.words (plan_at loaded.plans number) p number max_steps s.hart ≡ Some its.action.at in
      let Q : HartState → Type 0 = λ h. own_steps k.code.words (plan_at loaded.plans number) g.pace number max_steps h ≡ Some its.action.at in
      subst P (some-is (sym g.is_pace ∙ is.pace)) (subst Q same-state (own-by-plan k loaded one co kept.core number g its.action))

  module _ (a : AtAction) (own : own_steps k.code.words (plan_at loaded.plans number) s.pace number max_steps s.hart ≡ Some a) where
    its-at : its.action.at ≡ a
    its-at = some-is (sym its-own ∙ own)

    pub takes-call : s.hart.held ≡ None → a.call ≡ Take
    takes-call none = sym (ap (λ (x : AtAction). x.call) its-at) ∙ by-turn its.action.at.call its.action.at.hart its.turn
      where
        here : g.state.held ≡ None
        here = ap (λ (h : HartState). h.held) same-state ∙ none

        by-turn : (call : QueueCall) (h : HartState) → IsTurn k loaded (turns k kernel loaded fits.limits) co kept number g call h → call ≡ Take
        by-turn call h (Found free takes) = takes.call_is
        by-turn call h (Returned holding gives) = let e : None ≡ Some holding.context = sym here ∙ holding.held in absurd (cc e)

    pub gives-call : (c : ContextState) → s.hart.held ≡ Some c → a.call ≡ Take → ⊥
    gives-call c some take = by-turn its.action.at.call its.action.at.hart its.turn (ap (λ (x : AtAction). x.call) its-at ∙ take)
      where
        here : g.state.held ≡ Some c
        here = ap (λ (h : HartState). h.held) same-state ∙ some

        by-turn : (call : QueueCall) (h : HartState) → IsTurn k loaded (turns k kernel loaded fits.limits) co kept number g call h → call ≡ Take → ⊥
        by-turn call h (Found free takes) is_take = elim free [
          | inl empty ↦ (let e : None ≡ Some c = sym empty.held ∙ here in cc e)
          | inr empty ↦ (let e : None ≡ Some c = sym empty.held ∙ here in cc e)
        ]
        by-turn call h (Returned holding gives) is_take = elim gives.pays [
          | inl ready ↦ (let e : Take ≡ GiveReady = sym is_take ∙ ready.0 in cc e)
          | inr done ↦ (let e : Take ≡ GiveDone = sym is_take ∙ done.0 in cc e)
        ]

    wants : WantsNow k.code.words a.call a.hart
    wants = own-wants k.code.words (plan_at loaded.plans number) s.pace number max_steps s.hart a own

    by-call : (P : StepResult → Type 0) (call : QueueCall) → a.call ≡ call → P (Wants call wants.early_writes wants.rd wants.next)
        → P (hart_step k.code.words a.hart)
    by-call P call same holds =
        let Q : QueueCall → Type 0 = λ c. P (Wants c wants.early_writes wants.rd wants.next) in
        subst P (sym wants.wants) (subst Q (sym same) holds)

    pub wanted : IsWanted a.call (hart_step k.code.words a.hart)
    wanted = by-call (IsWanted a.call) a.call refl refl

    pub asks-take : a.call ≡ Take → AsksTake (hart_step k.code.words a.hart)
    asks-take same = by-call AsksTake Take same tt

    pub gives-ready-kind : a.call ≡ GiveReady → GivesKind Ready (hart_step k.code.words a.hart)
    gives-ready-kind same = by-call (GivesKind Ready) GiveReady same tt

    pub gives-done-kind : a.call ≡ GiveDone → GivesKind Done (hart_step k.code.words a.hart)
    gives-done-kind same = by-call (GivesKind Done) GiveDone same tt

    -- WHAT IT MAY DO: the core whose hart has come to its action is kept
    abbrev moved : CoreState
    moved = moved_to co.core number a.hart a.probes

    moved-kept : IsCoreKept k loaded moved
    moved-kept = own-kept k loaded one number (plan_at loaded.plans number) s.pace max_steps co.core s.hart a kept.core is.hart own

    moved-hart : slice_get moved.harts number ≡ Some a.hart
    moved-hart = get-set_same co.core.harts number s.hart a.hart is.hart

    nothing-out-by : (step : StepResult) → hart_step k.code.words a.hart ≡ step → AsksTake step → HasNothingOut co.core.board number
    nothing-out-by (Wants Take early_writes rd next) e asks = (may-take k loaded one moved moved-kept number a.hart moved-hart early_writes rd next e).1
    nothing-out-by (Wants GiveReady early_writes rd next) e asks = absurd asks
    nothing-out-by (Wants GiveDone early_writes rd next) e asks = absurd asks
    nothing-out-by (Steps hart probes did) e asks = absurd asks
    nothing-out-by Wedged e asks = absurd asks

    pub nothing-out : AsksTake (hart_step k.code.words a.hart) → HasNothingOut co.core.board number
    nothing-out asks = nothing-out-by (hart_step k.code.words a.hart) refl asks

    may-give-by : (kind : Kind) (step : StepResult) → hart_step k.code.words a.hart ≡ step → GivesKind kind step
        → MayGive co.core.board number a.hart kind
    may-give-by Ready (Wants GiveReady early_writes rd next) e gives =
        let may = may-give-ready k loaded one moved moved-kept number a.hart moved-hart early_writes rd next e in
        record { context = may.context; held = may.held; is_out = may.is_out; can_be = (may.no_end, may.stands) }
    may-give-by Done (Wants GiveDone early_writes rd next) e gives =
        let may = may-give-done k loaded one moved moved-kept number a.hart moved-hart early_writes rd next e in
        record { context = may.context; held = may.held; is_out = may.is_out; can_be = (may.has_end, may.scrubbed) }
    may-give-by Ready (Wants Take early_writes rd next) e gives = absurd gives
    may-give-by Ready (Wants GiveDone early_writes rd next) e gives = absurd gives
    may-give-by Ready (Steps hart probes did) e gives = absurd gives
    may-give-by Ready Wedged e gives = absurd gives
    may-give-by Done (Wants Take early_writes rd next) e gives = absurd gives
    may-give-by Done (Wants GiveReady early_writes rd next) e gives = absurd gives
    may-give-by Done (Steps hart probes did) e gives = absurd gives
    may-give-by Done Wedged e gives = absurd gives

    pub may-give : (kind : Kind) → GivesKind kind (hart_step k.code.words a.hart) → MayGive co.core.board number a.hart kind
    may-give kind gives = may-give-by kind (hart_step k.code.words a.hart) refl gives

    -- THE ENTRY of the order
    entry : steps_of_entry k.code.words loaded.plans co number ≡ acted_steps k.code.words co.core number a
    entry =
        let P : AtAction → Type 0 = λ x. steps_of_entry k.code.words loaded.plans co number ≡ acted_steps k.code.words co.core number x in
        subst P (some-is (sym comes.own ∙ own)) comes.entry

    pub number-low : number < 8
    number-low =
        let low = slice_get_within co.core.harts number s.hart is.hart in
        let count = kept.core.hart_count in
        let most = fits.limits.harts_high in
        omega (arith, low, count, most)

    pub few : length a.probes + 8 ≤ 30000
    few = let P : AtAction → Type 0 = λ x. length x.probes + 8 ≤ 30000 in subst P (some-is (sym comes.own ∙ own)) comes.few

    abbrev next : CoarseState
    next = coarse_state loaded k.code (order ++ number ∷ [])

    abbrev by_steps : HartPace → StepsToAction → CoarseState
    by_steps p t = record { core = t.core; paces = set co.paces number (pace_after p (count_on (slice_get t.core.harts number)) t.action) }

    next-is : next ≡ by_steps s.pace (acted_steps k.code.words co.core number a)
    next-is =
        let pace_is : get_or co.paces number boot_pace ≡ s.pace = get_or_from_slice_get co.paces number s.pace boot_pace is.pace in
        coarse-append k.code.words loaded.plans (boot_coarse loaded k.code) order (number ∷ [])
        ∙ one-more k.code.words loaded co number
        ∙ ap (λ (p : HartPace). by_steps p (steps_of_entry k.code.words loaded.plans co number)) pace_is
        ∙ ap (by_steps s.pace) entry

    -- The order with this entry is legal.
    pub next-legal : IsLegal loaded k.code (order ++ number ∷ [])
    next-legal =
        let pace_is : get_or co.paces number boot_pace ≡ s.pace = get_or_from_slice_get co.paces number s.pace boot_pace is.pace in
        legal-more None k.code.words loaded.plans (boot_coarse loaded k.code) order number legal
        (record {
          exists = slice_get_within co.core.harts number s.hart is.hart;
          goes_on = ap (λ (p : HartPace). p.has_stopped) pace_is ∙ goes_on;
        })

    -- WHAT THE ACTION LEAVES
    abbrev pub step : BoardStep
    step = board_step_of k.code.words co.core.board number a.hart

    next-board : next.core.board ≡ step.board
    next-board = ap (λ (x : CoarseState). x.core.board) next-is

    harts-then : next.core.harts ≡ set co.core.harts number step.hart
    harts-then = ap (λ (x : CoarseState). x.core.harts) next-is ∙ set-set co.core.harts number a.hart step.hart

    hart-then : slice_get next.core.harts number ≡ Some step.hart
    hart-then = ap (λ (hs : List HartState). slice_get hs number) harts-then ∙ get-set_same co.core.harts number s.hart step.hart is.hart

    log-then : next.core.log ≡ co.core.log ++ (a.probes ++ step.probes)
    log-then = ap (λ (x : CoarseState). x.core.log) next-is ∙ append_assoc co.core.log a.probes step.probes

    way : IsOwnWay loaded.tasks k one (plan_at loaded.plans number) s.pace number a
    way = own-way loaded.tasks k one (plan_at loaded.plans number) s.pace number max_steps s.hart a (kept.core.harts number s.hart is.hart) own

    entries-then : entries_by number next.core.log ≡ s.entries ++ (a.probes ++ step.probes)
    entries-then =
        let sound = (one.is_sound number a.hart way.way).csrs.hart in
        let named = named-both number a.probes step.probes way.named
        (step-probes-named number co.core.board a.hart sound (hart_step k.code.words a.hart) (step-named number k.code.words a.hart sound)) in
        ap (entries_by number) log-then
        ∙ filter-append _ co.core.log (a.probes ++ step.probes)
        ∙ ap (λ front. front ++ entries_by number (a.probes ++ step.probes)) is.entries
        ∙ ap (λ rest. s.entries ++ rest) (all-own number (a.probes ++ step.probes) named)

    pace-then : slice_get next.paces number ≡ Some (pace_after s.pace (held_count step.hart.held) step.action)
    pace-then =
        let r = acted k.code.words co.core number a in
        let at : slice_get r.core.harts number ≡ Some step.hart = ap (λ (x : CoarseState). slice_get x.core.harts number) (sym next-is) ∙ hart-then in
        let pace : pace_after s.pace (count_on (slice_get r.core.harts number)) r.action ≡ pace_after s.pace (held_count step.hart.held) step.action =
        ap (λ (o : Option HartState). pace_after s.pace (count_on o) r.action) at in
        ap (λ (x : CoarseState). slice_get x.paces number) next-is
        ∙ get-set_same co.paces number s.pace _ is.pace
        ∙ ap (λ (p : HartPace). Some p) pace

    -- as code makes it of a board and a hart
    module _ (b : BoardState) (h : HartState) (action : Action) (gone : IsAfterBoardStep step b h (Some action)) where
      pub board-after : b ≡ (coarse_after loaded k.code (order ++ number ∷ [])).board
      board-after = gone.board ∙ sym next-board ∙ ap (λ (c : CoreState). c.board) (coarse-states loaded k.code (order ++ number ∷ []))

      pub action-made : (steps_of_entry k.code.words loaded.plans co number).action ≡ Some action
      action-made = ap (λ (t : StepsToAction). t.action) entry ∙ sym gone.action_is

      abbrev pub share_after : HartShare
      share_after = record {
        hart = h;
        pace = pace_after s.pace (held_count h.held) (Some action);
        entries = s.entries ++ (a.probes ++ step.probes);
      }

      pub share-after : IsShareOf next number share_after
      share-after = record {
        hart = hart-then ∙ ap (λ (x : HartState). Some x) (sym gone.hart);
        pace = pace-then
            ∙ ap (λ (x : HartState). Some (pace_after s.pace (held_count x.held) step.action)) (sym gone.hart)
            ∙ ap (λ (x : Option Action). Some (pace_after s.pace (held_count h.held) x)) (sym gone.action_is);
        entries = entries-then;
      }
