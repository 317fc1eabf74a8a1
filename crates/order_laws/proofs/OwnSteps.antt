-- The steps of an entry of an order are the hart's own.
use Rattle.std.proofs.Common.{◌≡◌, ℕ, zero, suc, Bool, true, false, List, [], ◌∷◌, ◌++◌, slice_get, Option, Some, None, refl, sym, ap, ◌∙◌, subst, append_assoc, append-nil, if◌then◌else◌}
use Rattle.std.proofs.lemmas.List.{set-set}
use Rattle.isa_model.specs.declared.ends.End.{End}
use Rattle.hart_model.specs.declared.calls.QueueCall.{QueueCall}
use Rattle.hart_model.specs.declared.calls.QueueCall.TheVariants.{Take, GiveReady, GiveDone}
use Rattle.hart_model.specs.declared.probe.Probe.{Probe}
use Rattle.hart_model.specs.Context.{ContextState}
use Rattle.hart_model.specs.HartState.{HartState, tick_of}
use Rattle.hart_model.specs.Writes.{CellWrite}
use Rattle.hart_model.specs.StepResult.{StepResult, Steps, Wants, Wedged}
use Rattle.hart_model.specs.HartStep.{hart_step}
use Rattle.core_model.specs.declared.action.Action.{Action}
use Rattle.core_model.specs.declared.event.Event.{Event}
use Rattle.core_model.specs.declared.event.Event.TheVariants.{Go, Tick}
use Rattle.core_model.specs.declared.plan.Plan.{Plan}
use Rattle.core_model.specs.declared.loaded.Loaded.{Loaded}
use Rattle.core_model.specs.Board.{BoardState}
use Rattle.core_model.specs.BoardStep.{board_step_by_give_done, board_step_by_call}
use Rattle.core_model.specs.Core.{CoreState, CoreAndAction, after_go, after_tick, after_step}
use Rattle.core_model.specs.Routines.{ticked_if}
use Rattle.core_model.specs.Orders.{HartPace, StepsToAction, is_tick_due, events_of_step, result_of, then_steps, unless_action, steps_to_action}
use Rattle.core_invariant.proofs.Items.{get-set_same, set-same}
use Rattle.core_invariant.specs.KernelStates.{KernelParts}
use Rattle.core_invariant.specs.Invariant.{IsCoreKept}
use Rattle.core_invariant.specs.OneHart.{EachHart}
use Rattle.core_invariant.proofs.Composition.{event-kept, events-kept}
use Rattle.order_laws.specs.OwnSteps.{AtAction, after_own, own_by, own_steps, moved_to, acted_steps}
use Rattle.order_laws.proofs.AsEvents.{result-core}

core-parts : (c d : CoreState) → c.board ≡ d.board → c.harts ≡ d.harts → c.log ≡ d.log → c ≡ d
core-parts c d board harts log = rw (board, harts, log) refl

-- what an event or two of a hart in a core come to: its step from where the tick left it
module _ (code : List ℕ) (number : ℕ) where
  pub ticked-result : (c : CoreState) (h : HartState) → slice_get c.harts number ≡ Some h → (due : Bool)
      → result_of code c (if due then Tick number ∷ Go number ∷ [] else Go number ∷ [])
      ≡ after_step (moved_to c number (ticked_if due h) []) number (ticked_if due h) (hart_step code (ticked_if due h))
  unfolding result_of
  ticked-result c h is true =
      let ticked : after_tick c number (slice_get c.harts number) ≡ moved_to c number (tick_of h) [] =
      ap (after_tick c number) is ∙ core-parts _ _ refl refl (sym (append-nil c.log)) in
      ap (λ (d : CoreState). after_go code d number (slice_get d.harts number)) ticked
      ∙ ap (after_go code (moved_to c number (tick_of h) []) number) (get-set_same c.harts number h (tick_of h) is)
  ticked-result c h is false =
      let here : c ≡ moved_to c number h [] = core-parts _ _ refl (sym (set-same c.harts number h is)) (sym (append-nil c.log)) in
      ap (after_go code c number) is
      ∙ ap (λ (d : CoreState). after_step d number h (hart_step code h)) here

  -- the core after steps that went on, and then after others
  moved-twice : (c : CoreState) (h g : HartState) (probes more : List Probe)
      → moved_to (moved_to c number h probes) number g more ≡ moved_to c number g (probes ++ more)
  moved-twice c h g probes more = core-parts _ _ refl (set-set c.harts number h g) (append_assoc c.log probes more)

-- Where a hart of a core that is kept wants the queue, it makes an action.
module _ (k : KernelParts) (loaded : Loaded) (one : EachHart loaded.tasks k) (number : ℕ) where
  made-done : (b : BoardState) (h : HartState) (early_writes : List CellWrite) (next : ℕ) (held : ContextState) (end : Option End) (e : End)
      → end ≡ Some e → (a : Action) × ((board_step_by_give_done b number h early_writes next held end).action ≡ Some a)
  made-done b h early_writes next held None e is = absurd (cc is)
  made-done b h early_writes next held (Some end) e is = (_, refl)

  made-ready : (b : BoardState) (h : HartState) (early_writes : List CellWrite) (rd next : ℕ) (held : Option ContextState) (x : ContextState)
      → held ≡ Some x → (a : Action) × ((board_step_by_call b number h GiveReady early_writes rd next held).action ≡ Some a)
  made-ready b h early_writes rd next None x is = absurd (cc is)
  made-ready b h early_writes rd next (Some held) x is = (_, refl)

  made-ended : (b : BoardState) (h : HartState) (early_writes : List CellWrite) (rd next : ℕ) (held : Option ContextState) (x : ContextState) (e : End)
      → held ≡ Some x
      → x.end ≡ Some e → (a : Action) × ((board_step_by_call b number h GiveDone early_writes rd next held).action ≡ Some a)
  made-ended b h early_writes rd next None x e is end = absurd (cc is)
  made-ended b h early_writes rd next (Some held) x e is end =
      let same : held ≡ x = cc is in
      made-done b h early_writes next held held.end e (ap (λ (y : ContextState). y.end) same ∙ end)

  pub made : (c : CoreState) (h : HartState) → IsCoreKept k loaded c → slice_get c.harts number ≡ Some h
      → (call : QueueCall) (early_writes : List CellWrite) (rd next : ℕ)
      → hart_step k.code.words h ≡ Wants call early_writes rd next
      → (a : Action) × ((board_step_by_call c.board number h call early_writes rd next h.held).action ≡ Some a)
  made c h kept is Take early_writes rd next wants = (_, refl)
  made c h kept is GiveReady early_writes rd next wants =
      let gives = one.gives_ready number h early_writes rd next (kept.harts number h is) wants in
      made-ready c.board h early_writes rd next h.held gives.context gives.held
  made c h kept is GiveDone early_writes rd next wants =
      let gives = one.gives_done number h early_writes rd next (kept.harts number h is) wants in
      made-ended c.board h early_writes rd next h.held gives.context gives.given.end gives.held gives.given.has_end

  -- the steps in the core, and those of the hart alone
  module _ (plan : Plan) (pace : HartPace) where
    abbrev Own : ℕ → HartState → Option AtAction
    Own steps h = own_steps k.code.words plan pace number steps h

    abbrev InCore : ℕ → CoreState → StepsToAction
    InCore steps c = steps_to_action k.code.words plan pace number steps c

    made-now : (further : CoreState → StepsToAction) (events : List Event) (d : CoreState) (action : Option Action) (x : Action) → action ≡ Some x
        → unless_action further events d action ≡ record { events = events; core = d; action = action }
    made-now further events d None x is = absurd (cc is)
    made-now further events d (Some action) x is = refl

    -- by what the first step is
    by-step : (steps : ℕ) (c : CoreState) (h : HartState) (events : List Event) (step : StepResult) (a : AtAction)
        → IsCoreKept k loaded (moved_to c number h [])
        → slice_get (moved_to c number h []).harts number ≡ Some h → hart_step k.code.words h ≡ step
        → own_by (Own steps) events h step ≡ Some a
        → IsCoreKept k loaded (after_step (moved_to c number h []) number h step).core
        → ((d : CoreState) (g : HartState) (b : AtAction) → IsCoreKept k loaded d → slice_get d.harts number ≡ Some g → Own steps g ≡ Some b
        → InCore steps d ≡ acted_steps k.code.words d number b)
        → unless_action (InCore steps) events (after_step (moved_to c number h []) number h step).core
        (after_step (moved_to c number h []) number h step).action
        ≡ acted_steps k.code.words c number a
    by-step steps c h events (Steps g probes did) a kept is e own after further = go (Own steps g) refl own
      where
        go : (o : Option AtAction) → Own steps g ≡ o → after_own events probes o ≡ Some a
            → then_steps events (InCore steps (moved_to (moved_to c number h []) number g probes)) ≡ acted_steps k.code.words c number a
        go None f own = absurd (cc own)
        go (Some b) f own =
            let d = moved_to (moved_to c number h []) number g probes in
            let there = get-set_same (moved_to c number h []).harts number h g is in
            let rest = further d g b after there f in
            let same : record { call = b.call; hart = b.hart; probes = probes ++ b.probes; events = events ++ b.events } ≡ a = cc own in
            let P : AtAction → Type 0 = λ x. then_steps events (InCore steps d) ≡ acted_steps k.code.words c number x in
            let core : moved_to d number b.hart b.probes ≡ moved_to c number b.hart (probes ++ b.probes) =
            ap (λ (x : CoreState). moved_to x number b.hart b.probes) (moved-twice k.code.words number c h g [] probes)
            ∙ moved-twice k.code.words number c g b.hart ([] ++ probes) b.probes in
            subst P same (ap (then_steps events) rest
            ∙ ap (λ (x : CoreState). (let r = after_step x number b.hart (hart_step k.code.words b.hart) in
            let s : StepsToAction = record { events = events ++ b.events; core = r.core; action = r.action } in s)) core)
    by-step steps c h events (Wants call early_writes rd next) a kept is e own after further =
        let same : record { call = call; hart = h; probes = []; events = events } ≡ a = cc own in
        let P : AtAction → Type 0 =
        λ x. unless_action (InCore steps) events (after_step (moved_to c number h []) number h (Wants call early_writes rd next)).core
        (after_step (moved_to c number h []) number h (Wants call early_writes rd next)).action ≡ acted_steps k.code.words c number x in
        let m = made (moved_to c number h []) h kept is call early_writes rd next e in
        subst P same (made-now (InCore steps) events _ _ m.0 m.1
        ∙ ap (λ (s : StepResult). (let r = after_step (moved_to c number h []) number h s in
        let t : StepsToAction = record { events = events; core = r.core; action = r.action } in t)) (sym e))
    by-step steps c h events Wedged a kept is e own after further = absurd (cc own)

    ticked-here : (c : CoreState) (h : HartState) → IsCoreKept k loaded c → slice_get c.harts number ≡ Some h → (due : Bool)
        → IsCoreKept k loaded (moved_to c number (ticked_if due h) [])
    ticked-here c h kept is true =
        let same : after_tick c number (slice_get c.harts number) ≡ moved_to c number (tick_of h) [] =
        ap (after_tick c number) is ∙ core-parts _ _ refl refl (sym (append-nil c.log)) in
        let Kept : CoreState → Type 0 = λ d. IsCoreKept k loaded d in
        subst Kept same (event-kept k loaded one c kept (Tick number))
    ticked-here c h kept is false =
        let here : c ≡ moved_to c number h [] = core-parts _ _ refl (sym (set-same c.harts number h is)) (sym (append-nil c.log)) in
        let Kept : CoreState → Type 0 = λ d. IsCoreKept k loaded d in
        subst Kept here kept

    -- The steps of an entry in a core that is kept.
    pub own-in-core : (steps : ℕ) (c : CoreState) (h : HartState) (a : AtAction) → IsCoreKept k loaded c → slice_get c.harts number ≡ Some h
        → Own steps h ≡ Some a → InCore steps c ≡ acted_steps k.code.words c number a
    unfolding own_steps steps_to_action
    own-in-core zero c h a kept is own = absurd (cc own)
    own-in-core (suc steps) c h a kept is own =
        let due = is_tick_due plan pace h in
        let f = ticked_if due h in
        let events = events_of_step plan pace number (Some h) in
        let E : Option HartState → StepsToAction = λ o. (let es = events_of_step plan pace number o in
        let r = result_of k.code.words c es in unless_action (InCore steps) es r.core r.action) in
        let R : CoreAndAction → StepsToAction = λ r. unless_action (InCore steps) events r.core r.action in
        let result = ticked-result k.code.words number c h is due in
        let Kept : CoreState → Type 0 = λ d. IsCoreKept k loaded d in
        let after = subst Kept (sym (result-core k.code.words c events) ∙ ap (λ (r : CoreAndAction). r.core) result)
        (events-kept k loaded one c kept events) in
        ap E is ∙ ap R result
        ∙ by-step steps c f events (hart_step k.code.words f) a (ticked-here c h kept is due) (get-set_same c.harts number h f is) refl own after
        (λ d g b kept_too there found. own-in-core steps d g b kept_too there found)

    -- The core whose hart has come to its action is kept.
    kept-by : (steps : ℕ) (c : CoreState) (h : HartState) (events : List Event) (step : StepResult) (a : AtAction)
        → IsCoreKept k loaded (moved_to c number h [])
        → slice_get (moved_to c number h []).harts number ≡ Some h → own_by (Own steps) events h step ≡ Some a
        → IsCoreKept k loaded (after_step (moved_to c number h []) number h step).core
        → ((d : CoreState) (g : HartState) (b : AtAction) → IsCoreKept k loaded d → slice_get d.harts number ≡ Some g → Own steps g ≡ Some b
        → IsCoreKept k loaded (moved_to d number b.hart b.probes))
        → IsCoreKept k loaded (moved_to c number a.hart a.probes)
    kept-by steps c h events (Steps g probes did) a kept is own after further = go (Own steps g) refl own
      where
        go : (o : Option AtAction) → Own steps g ≡ o → after_own events probes o ≡ Some a → IsCoreKept k loaded (moved_to c number a.hart a.probes)
        go None f own = absurd (cc own)
        go (Some b) f own =
            let d = moved_to (moved_to c number h []) number g probes in
            let there = get-set_same (moved_to c number h []).harts number h g is in
            let same : record { call = b.call; hart = b.hart; probes = probes ++ b.probes; events = events ++ b.events } ≡ a = cc own in
            let P : AtAction → Type 0 = λ x. IsCoreKept k loaded (moved_to c number x.hart x.probes) in
            let Kept : CoreState → Type 0 = λ x. IsCoreKept k loaded x in
            let core : moved_to d number b.hart b.probes ≡ moved_to c number b.hart (probes ++ b.probes) =
            ap (λ (x : CoreState). moved_to x number b.hart b.probes) (moved-twice k.code.words number c h g [] probes)
            ∙ moved-twice k.code.words number c g b.hart ([] ++ probes) b.probes in
            subst P same (subst Kept core (further d g b after there f))
    kept-by steps c h events (Wants call early_writes rd next) a kept is own after further =
        let same : record { call = call; hart = h; probes = []; events = events } ≡ a = cc own in
        let P : AtAction → Type 0 = λ x. IsCoreKept k loaded (moved_to c number x.hart x.probes) in
        subst P same kept
    kept-by steps c h events Wedged a kept is own after further = absurd (cc own)

    pub own-kept : (steps : ℕ) (c : CoreState) (h : HartState) (a : AtAction) → IsCoreKept k loaded c → slice_get c.harts number ≡ Some h
        → Own steps h ≡ Some a → IsCoreKept k loaded (moved_to c number a.hart a.probes)
    unfolding own_steps
    own-kept zero c h a kept is own = absurd (cc own)
    own-kept (suc steps) c h a kept is own =
        let due = is_tick_due plan pace h in
        let f = ticked_if due h in
        let events = events_of_step plan pace number (Some h) in
        let Kept : CoreState → Type 0 = λ d. IsCoreKept k loaded d in
        let result = ticked-result k.code.words number c h is due in
        let after = subst Kept (sym (result-core k.code.words c events) ∙ ap (λ (r : CoreAndAction). r.core) result)
        (events-kept k loaded one c kept events) in
        kept-by steps c f events (hart_step k.code.words f) a (ticked-here c h kept is due) (get-set_same c.harts number h f is) own after
        (λ d g b kept_too there found. own-kept steps d g b kept_too there found)
