-- The steps of a hart up to its queue action, one after the other: what was told so far, and what is left.
use Rattle.std.proofs.Common.{◌≡◌, ℕ, zero, suc, ◌+◌, ◌-◌, ◌≤◌, ◌<◌, Bool, true, false, ◌⊎◌, inl, inr, List, [], ◌++◌, length, drop, get_or, Option, Some, None, refl, sym, ap, ◌∙◌, subst, arith, append-nil, append_assoc, length-append}
use Rattle.std.proofs.Math.Seq.{drop-append_seam}
use Rattle.hart_model.specs.declared.probe.Probe.{Probe}
use Rattle.core_model.specs.declared.action.Action.{Action}
use Rattle.core_model.specs.declared.event.Event.{Event}
use Rattle.core_model.specs.declared.plan.Plan.{Plan}
use Rattle.core_model.specs.Board.{BoardState}
use Rattle.core_model.specs.Core.{CoreState}
use Rattle.core_model.specs.Orders.{HartPace, CoarseState, IsLegalEntry, StepsToAction, boot_pace, plan_at, max_steps, steps_to_action}
use Rattle.kernel_core.specs.History.{CoreValue, core_of}
use Rattle.kernel_core.specs.PacedHistory.{PacedHistory, start_of, coarse_of, next_steps_of, next_entries_of, with_steps, stepped, IsPacedCoreOf, stopped_seat, has_stopped_at}
use Rattle.order_laws.specs.SteppedRuns.{ComesOn, stepped_from}
use Rattle.order_laws.specs.LongLogs.{is_log_above}
use Rattle.order_laws.proofs.OneStep.{one-step, step_events, pace-then}
use Rattle.order_laws.proofs.Stepped.{coarse-stepped, steps-kept, comes-to}
use Rattle.kernel_core.proofs.PacedSteps.{core-told, core-then, log-told, last-step, further-steps, entries-are-steps}
use Rattle.kernel_core.proofs.QuietSteps.{quiet-step, step-below, step-above, step-last, never-above}
use Rattle.kernel_core.proofs.PacedSeats.{item-at, hart-count, legal-entry}

-- before one of the next steps of a hart the log has more than so many entries
abbrev pub is_above : ℕ → PacedHistory → ℕ → ℕ → Bool
is_above most t hart steps = is_log_above most t.history.kernel.code.words (core_of t.history) (next_steps_of t hart steps).events

-- the entries of so many steps and one, where the first makes no action
entries-then : (t : PacedHistory) (hart more : ℕ) → (next_steps_of t hart 1).action ≡ None
    → next_entries_of t hart (suc more) ≡ next_entries_of t hart 1 ++ next_entries_of (stepped t hart) hart more
entries-then t hart more none =
    let log = (core_of t.history).log in
    let first = next_entries_of t hart 1 in
    let rest = next_entries_of (stepped t hart) hart more in
    let whole : (next_steps_of t hart (suc more)).core.log ≡ log ++ (first ++ rest) =
    ap (λ (s : StepsToAction). s.core.log) (further-steps t hart none more)
    ∙ log-told (stepped t hart) hart more
    ∙ ap (λ (x : CoreState). x.log ++ rest) (core-told t hart 1)
    ∙ ap (λ (l : List Probe). l ++ rest) (log-told t hart 1)
    ∙ append_assoc log first rest in
    ap (drop (length log)) whole ∙ drop-append_seam log (first ++ rest)

-- Of so many steps of a hart, this many are left after some of them; what a keeper got until then; and how it is with the room for a log.
pub record Rest (t now : PacedHistory) (hart whole left : ℕ) (Stood Stands : List Probe → Type 0) (room_then room_now : ℕ) : Type 0 where
  pub told : with_steps t hart (next_steps_of t hart whole) ≡ with_steps now hart (next_steps_of now hart left)
  pub action : (next_steps_of t hart whole).action ≡ (next_steps_of now hart left).action
  pub done : List Probe
  pub entries : next_entries_of t hart whole ≡ done ++ next_entries_of now hart left
  pub log : (log : List Probe) → Stood log → Stands (log ++ done)
  pub room : room_now + length done ≡ room_then
  pub length_is : length (core_of now.history).log ≡ length (core_of t.history).log + length done
  pub above : (most : ℕ) → room_then + length (core_of t.history).log ≡ most + 6 → is_above most t hart whole ≡ is_above most now hart left

pub rest-first : (t : PacedHistory) (hart whole : ℕ) (Stood : List Probe → Type 0) (room : ℕ) → Rest t t hart whole whole Stood Stood room room
rest-first t hart whole Stood room = record {
  told = refl;
  action = refl;
  done = [];
  entries = refl;
  log = λ log stood. subst Stood (sym (append-nil log)) stood;
  room = omega arith;
  length_is = omega arith;
  above = λ most fits. refl;
}

module _ (t now : PacedHistory) (hart whole more : ℕ) (Stood Stands : List Probe → Type 0) (room_then room_now : ℕ)
    (rest : Rest t now hart whole (suc more) Stood Stands room_then room_now) where
  abbrev words : List ℕ
  words = now.history.kernel.code.words

  abbrev plan : Plan
  plan = plan_at now.history.loaded.plans hart

  abbrev progress : HartPace
  progress = get_or now.paces hart boot_pace

  abbrev c : CoreState
  c = core_of now.history

  -- where there is room for six entries the log is not above the number, and where there isn't it is
  log-low : (most : ℕ) → room_then + length (core_of t.history).log ≡ most + 6 → 6 ≤ room_now → length c.log ≤ most
  log-low most fits space =
      let room = rest.room in
      let grown = rest.length_is in
      omega (arith, fits, space, room, grown)

  first-events : (next_steps_of now hart 1).events ≡ step_events words plan progress hart c
  first-events = (one-step words plan progress hart c).events

  -- the next step makes no action
  module _ (none : (next_steps_of now hart 1).action ≡ None) (enough : 6 ≤ room_now) (Then : List Probe → Type 0) (room_next : ℕ)
      (log_next : (log : List Probe) → Stands log → Then (log ++ next_entries_of now hart 1))
      (room_is : room_next + length (next_entries_of now hart 1) ≡ room_now) where
    abbrev further : StepsToAction
    further = next_steps_of (stepped now hart) hart more

    above-then : (most : ℕ) → length c.log ≤ most → is_above most now hart (suc more) ≡ is_above most (stepped now hart) hart more
    above-then most low =
        ap (λ (s : StepsToAction). is_log_above most words c s.events) (further-steps now hart none more)
        ∙ ap (λ (es : List Event). is_log_above most words c (es ++ further.events)) first-events
        ∙ step-below words plan progress hart most c further.events low
        ∙ ap (λ (x : CoreState). is_log_above most words x further.events)
        (sym (core-then now hart))

    pub rest-next : Rest t (stepped now hart) hart whole more Stood Then room_then room_next
    rest-next = record {
      told = rest.told ∙ entries-are-steps.further now hart more none;
      action = rest.action ∙ ap (λ (s : StepsToAction). s.action) (further-steps now hart none more);
      done = rest.done ++ next_entries_of now hart 1;
      entries = rest.entries
          ∙ ap (λ (l : List Probe). rest.done ++ l) (entries-then now hart more none)
          ∙ sym (append_assoc rest.done (next_entries_of now hart 1) (next_entries_of (stepped now hart) hart more));
      log = λ log stood.
          subst Then (append_assoc log rest.done (next_entries_of now hart 1)) (log_next (log ++ rest.done) (rest.log log stood));
      room = (
          let both = length-append rest.done (next_entries_of now hart 1) in
          let before = rest.room in
          omega (arith, both, before, room_is));
      length_is = (
          let both = length-append rest.done (next_entries_of now hart 1) in
          let before = rest.length_is in
          let grown = length-append c.log (next_entries_of now hart 1) in
          let log = ap (λ (x : CoreState). length x.log) (core-told now hart 1) ∙ ap length (log-told now hart 1) in
          omega (arith, both, before, grown, log));
      above = λ most fits. rest.above most fits ∙ above-then most (log-low most fits enough);
    }

  -- the next step makes the action
  pub record Came (action : Action) (Then : List Probe → Type 0) (room_next : ℕ) : Type 0 where
    pub told : with_steps t hart (next_steps_of t hart whole) ≡ stepped now hart
    pub action_is : (next_steps_of t hart whole).action ≡ Some action
    pub log : (log : List Probe) → Stood log → Then (log ++ next_entries_of t hart whole)
    pub room : room_next + length (next_entries_of t hart whole) ≡ room_then
    pub above : (most : ℕ) → room_then + length (core_of t.history).log ≡ most + 6 → is_above most t hart whole ≡ false

  module _ (action : Action) (some : (next_steps_of now hart 1).action ≡ Some action) (enough : 6 ≤ room_now) (Then : List Probe → Type 0)
      (room_next : ℕ) (log_next : (log : List Probe) → Stands log → Then (log ++ next_entries_of now hart 1))
      (room_is : room_next + length (next_entries_of now hart 1) ≡ room_now) where
    last : next_steps_of now hart (suc more) ≡ next_steps_of now hart 1
    last = last-step now hart more action some

    entries-last : next_entries_of t hart whole ≡ rest.done ++ next_entries_of now hart 1
    entries-last = rest.entries ∙ ap (λ (s : StepsToAction). rest.done ++ drop (length c.log) s.core.log) last

    pub comes : Came action Then room_next
    comes = record {
      told = rest.told ∙ ap (with_steps now hart) last;
      action_is = rest.action ∙ ap (λ (s : StepsToAction). s.action) last ∙ some;
      log = λ log stood.
          subst Then (append_assoc log rest.done (next_entries_of now hart 1) ∙ ap (λ (l : List Probe). log ++ l) (sym entries-last))
          (log_next (log ++ rest.done) (rest.log log stood));
      room = (
          let both = length-append rest.done (next_entries_of now hart 1) in
          let all = ap length entries-last in
          let before = rest.room in
          omega (arith, both, all, before, room_is));
      above = λ most fits.
          rest.above most fits
          ∙ ap (λ (s : StepsToAction). is_log_above most words c s.events) last
          ∙ ap (is_log_above most words c) first-events
          ∙ step-last words plan progress hart most c (log-low most fits enough);
    }

  -- there is no room for it
  pub no-room : room_now < 6 → (most : ℕ) → room_then + length (core_of t.history).log ≡ most + 6 → is_above most t hart whole ≡ true
  no-room little most fits =
      let room = rest.room in
      let grown = rest.length_is in
      let over : most < length c.log = omega (arith, little, fits, room, grown) in
      rest.above most fits ∙ by-action (next_steps_of now hart 1).action refl most over
    where
      by-action : (o : Option Action) → (next_steps_of now hart 1).action ≡ o → (most : ℕ) → most < length c.log
          → is_above most now hart (suc more) ≡ true
      by-action None none most over =
          ap (λ (s : StepsToAction). is_log_above most words c s.events) (further-steps now hart none more)
          ∙ ap (λ (es : List Event). is_log_above most words c (es ++ (next_steps_of (stepped now hart) hart more).events)) first-events
          ∙ step-above words plan progress hart most c (next_steps_of (stepped now hart) hart more).events over
      by-action (Some action) some most over =
          ap (λ (s : StepsToAction). is_log_above most words c s.events) (last-step now hart more action some)
          ∙ ap (is_log_above most words c) (first-events ∙ sym (append-nil (step_events words plan progress hart c)))
          ∙ step-above words plan progress hart most c [] over

-- with no steps left there is no action
none-left : (t now : PacedHistory) (hart whole : ℕ) (Stood Stands : List Probe → Type 0) (room_then room_now : ℕ)
    → Rest t now hart whole 0 Stood Stands room_then room_now → (next_steps_of t hart whole).action ≡ None
unfolding steps_to_action
none-left t now hart whole Stood Stands room_then room_now rest = rest.action

-- what was told until then, of what was told first
pub record Along {K : Type 0} (t : PacedHistory) (hart whole : ℕ) (c : CoreValue K) (steps : ℕ) (Stood Stands : List Probe → Type 0)
    (room_then room_now : ℕ) : Type 0 where
  pub now : PacedHistory
  pub is : IsPacedCoreOf now c
  pub left : ℕ
  pub count : left + steps ≡ whole
  pub rest : Rest t now hart whole left Stood Stands room_then room_now

-- SO FAR: a core after some steps of a hart, none of which made an action
pub record SoFar {K : Type 0} (hart whole : ℕ) (first c : CoreValue K) (steps : ℕ) (Stood Stands : List Probe → Type 0)
    (room_then room_now : ℕ) : Type 0 where
  pub is_paced : c.is_paced ≡ true
  pub exists : hart < length c.run.harts
  pub goes_on : has_stopped_at c hart ≡ false
  pub order : length c.run.board.lists.order < c.run.actions
  pub actions : c.run.actions ≡ first.run.actions
  pub told : ((steps ≡ 0) × (c ≡ first)) ⊎ ((t : PacedHistory) × IsPacedCoreOf t first)
  pub each : (t : PacedHistory) → IsPacedCoreOf t first → Along t hart whole c steps Stood Stands room_then room_now

pub at-first : {K : Type 0} (hart whole : ℕ) (first : CoreValue K) (Stood : List Probe → Type 0) (room : ℕ) → first.is_paced ≡ true
    → hart < length first.run.harts → has_stopped_at first hart ≡ false → length first.run.board.lists.order < first.run.actions
    → SoFar hart whole first first 0 Stood Stood room room
at-first hart whole first Stood room is_paced exists goes_on order = record {
  is_paced = is_paced;
  exists = exists;
  goes_on = goes_on;
  order = order;
  actions = refl;
  told = inl (refl, refl);
  each = λ t is. record { now = t; is = is; left = whole; count = omega arith; rest = rest-first t hart whole Stood room };
}

-- the next step of the code
pub record NextStep {K : Type 0} (hart : ℕ) (c after : CoreValue K) (action : Option Action) (Stands Then : List Probe → Type 0)
    (room_now room_next : ℕ) : Type 0 where
  pub told : (t : PacedHistory) → IsPacedCoreOf t c → IsPacedCoreOf (stepped t hart) after
  pub action_is : (t : PacedHistory) → IsPacedCoreOf t c → action ≡ (next_steps_of t hart 1).action
  pub actions : after.run.actions ≡ c.run.actions
  pub log : (t : PacedHistory) → IsPacedCoreOf t c → (before : List Probe) → Stands before → Then (before ++ next_entries_of t hart 1)
  pub room : (t : PacedHistory) → IsPacedCoreOf t c → room_next + length (next_entries_of t hart 1) ≡ room_now

-- A STEP THAT MAKES NO ACTION: the hart goes on, and the board is as it was.
module _ {K : Type 0} (t : PacedHistory) (hart : ℕ) (c after : CoreValue K) (is : IsPacedCoreOf t c) (then_is : IsPacedCoreOf (stepped t hart) after)
    (exists : hart < length c.run.harts) (goes_on : has_stopped_at c hart ≡ false) (none : (next_steps_of t hart 1).action ≡ None) where
  exists-then : hart < length after.run.harts
  exists-then =
      let before = hart-count t c is in
      let next = hart-count (stepped t hart) after then_is in
      omega (arith, exists, before, next)

  goes-on-then : has_stopped_at after hart ≡ false
  goes-on-then =
      let low = exists-then in
      let count = then_is.seat_count in
      let h = item-at after.run.harts hart exists-then in
      let s = item-at after.seats hart (omega (arith, low, count)) in
      ap stopped_seat s.1
      ∙ (then_is.seats hart h.0 s.0 h.1 s.1).stopped
      ∙ ap (λ (p : HartPace). p.has_stopped) (pace-then t.history.kernel.code.words t.history.loaded.plans (coarse_of t) hart none)
      ∙ (legal-entry t c is hart exists goes_on).goes_on

  board-then : after.run.board.lists ≡ c.run.board.lists
  board-then =
      let words = t.history.kernel.code.words in
      let plan = plan_at t.history.loaded.plans hart in
      let progress = get_or t.paces hart boot_pace in
      let one = one-step words plan progress hart (core_of t.history) in
      then_is.core.board
      ∙ ap (λ (x : CoreState). x.board) (core-then t hart)
      ∙ (quiet-step words plan progress hart (core_of t.history) (sym one.action ∙ none)).1
      ∙ sym is.core.board

left-more : (left steps whole : ℕ) → left + steps ≡ whole → steps < whole → (m : ℕ) × (left ≡ suc m)
left-more zero steps whole count below = absurd (omega (arith, count, below))
left-more (suc m) steps whole count below = (m, refl)

module _ {K : Type 0} (hart whole : ℕ) (first c : CoreValue K) (steps : ℕ) (Stood Stands : List Probe → Type 0) (room_then room_now : ℕ)
    (so_far : SoFar hart whole first c steps Stood Stands room_then room_now) where
  pub told-first : (t : PacedHistory) × IsPacedCoreOf t c → (t : PacedHistory) × IsPacedCoreOf t first
  told-first now = by-told so_far.told
    where
      by-told : ((steps ≡ 0) × (c ≡ first)) ⊎ ((t : PacedHistory) × IsPacedCoreOf t first) → (t : PacedHistory) × IsPacedCoreOf t first
      by-told (inl start) = let P : CoreValue K → Type 0 = λ v. (t : PacedHistory) × IsPacedCoreOf t v in subst P start.1 now
      by-told (inr told) = told

  -- the loop doesn't come to its end
  pub not-over : steps ≡ whole → 1 ≤ whole
      → ((t : PacedHistory) → IsPacedCoreOf t first → (action : Action) × ((next_steps_of t hart whole).action ≡ Some action)) → ⊥
  not-over over some acts = by-told so_far.told
    where
      by-left : (t : PacedHistory) (along : Along t hart whole c steps Stood Stands room_then room_now) (action : Action)
          → (next_steps_of t hart whole).action ≡ Some action → ⊥
      by-left t along action acts =
          let count = along.count in
          let none : along.left ≡ 0 = omega (arith, count, over) in
          let P : ℕ → Type 0 = λ n. Rest t along.now hart whole n Stood Stands room_then room_now in
          let e : Some action ≡ None = sym acts ∙ none-left t along.now hart whole Stood Stands room_then room_now (subst P none along.rest) in
          cc e

      by-told : ((steps ≡ 0) × (c ≡ first)) ⊎ ((t : PacedHistory) × IsPacedCoreOf t first) → ⊥
      by-told (inl start) = let zero_steps = start.0 in absurd (omega (arith, over, some, zero_steps))
      by-told (inr told) = let a = acts told.0 told.1 in by-left told.0 (so_far.each told.0 told.1) a.0 a.1

  module _ (below : steps < whole) where
    -- what is left is one step, and more
    record Left (t : PacedHistory) : Type 0 where
      now : PacedHistory
      is : IsPacedCoreOf now c
      more : ℕ
      count : suc more + steps ≡ whole
      rest : Rest t now hart whole (suc more) Stood Stands room_then room_now

    left-of : (t : PacedHistory) → IsPacedCoreOf t first → Left t
    left-of t is =
        let along = so_far.each t is in
        let m = left-more along.left steps whole along.count below in
        let P : ℕ → Type 0 = λ n. Rest t along.now hart whole n Stood Stands room_then room_now in
        let C : ℕ → Type 0 = λ n. n + steps ≡ whole in
        record { now = along.now; is = along.is; more = m.0; count = subst C m.1 along.count; rest = subst P m.1 along.rest }

    pub no-room-left : (t : PacedHistory) → IsPacedCoreOf t first → room_now < 6 → (most : ℕ) → room_then + length (core_of t.history).log ≡ most + 6
        → is_above most t hart whole ≡ true
    no-room-left t is little most fits =
        let l = left-of t is in no-room t l.now hart whole l.more Stood Stands room_then room_now l.rest little most fits

    module _ (after : CoreValue K) (action : Option Action) (Then : List Probe → Type 0) (room_next : ℕ)
        (next : NextStep hart c after action Stands Then room_now room_next) (enough : 6 ≤ room_now) where
      pub so-far-next : (t : PacedHistory) × IsPacedCoreOf t c → action ≡ None
          → SoFar hart whole first after (steps + 1) Stood Then room_then room_next
      so-far-next now none =
          let t = now.0 in
          let is = now.1 in
          let then_is = next.told t is in
          let made = sym (next.action_is t is) ∙ none in
          let exists = exists-then t hart c after is then_is so_far.exists so_far.goes_on made in
          let B : BoardState → ℕ → Type 0 = λ b n. length b.order < n in
          record {
            is_paced = then_is.is_paced;
            exists = exists;
            goes_on = goes-on-then t hart c after is then_is so_far.exists so_far.goes_on made;
            order = subst (B after.run.board.lists) (sym next.actions)
                (subst (λ b. B b c.run.actions) (sym (board-then t hart c after is then_is so_far.exists so_far.goes_on made)) so_far.order);
            actions = next.actions ∙ so_far.actions;
            told = inr (told-first now);
            each = λ s first_is.
                (let l = left-of s first_is in
                let count = l.count in
                record {
                  now = stepped l.now hart;
                  is = next.told l.now l.is;
                  left = l.more;
                  count = omega (arith, count);
                  rest = rest-next s l.now hart whole l.more Stood Stands room_then room_now l.rest
                      (sym (next.action_is l.now l.is) ∙ none) enough Then room_next (next.log l.now l.is) (next.room l.now l.is);
                });
          }

      -- all that has come of the steps, where the last one made the action
      pub record Last (t : PacedHistory) (made : Action) : Type 0 where
        pub told : IsPacedCoreOf (with_steps t hart (next_steps_of t hart whole)) after
        pub action_is : (next_steps_of t hart whole).action ≡ Some made
        pub log : (log : List Probe) → Stood log → Then (log ++ next_entries_of t hart whole)
        pub room : room_next + length (next_entries_of t hart whole) ≡ room_then
        pub above : (most : ℕ) → room_then + length (core_of t.history).log ≡ most + 6 → is_above most t hart whole ≡ false

      pub last-of : (t : PacedHistory) → IsPacedCoreOf t first → (made : Action) → action ≡ Some made → Last t made
      last-of t is made some =
          let l = left-of t is in
          let came = comes t l.now hart whole l.more Stood Stands room_then room_now l.rest made (sym (next.action_is l.now l.is) ∙ some)
          enough Then room_next (next.log l.now l.is) (next.room l.now l.is) in
          let P : PacedHistory → Type 0 = λ x. IsPacedCoreOf x after in
          record {
            told = subst P (sym came.told) (next.told l.now l.is);
            action_is = came.action_is;
            log = came.log;
            room = came.room;
            above = came.above;
          }

-- Each hart that has not found nothing comes to its action, by few entries.
pub comes-on : {K : Type 0} (t : PacedHistory) (hart : ℕ) (c : CoreValue K) → IsPacedCoreOf t c → hart < length c.run.harts
    → has_stopped_at c hart ≡ false → ComesOn t.history.kernel.code.words t.history.loaded.plans (coarse_of t) hart
comes-on t hart c is exists goes_on =
    let k = t.history.kernel in
    let loaded = t.history.loaded in
    let L : CoarseState → Type 0 = λ co. IsLegalEntry co hart in
    let C : CoarseState → Type 0 = λ co. ComesOn k.code.words loaded.plans co hart in
    subst C (sym is.steps.is)
    (comes-to k is.core.is_kernel.kernel loaded is.core.within (stepped_from k.code.words loaded.plans (start_of t) is.steps.steps)
    (steps-kept k is.core.is_kernel.kernel loaded is.core.within is.steps.steps (start_of t)
    (coarse-stepped k is.core.is_kernel.kernel loaded is.core.within (start_of t) is.steps.begins) is.steps.legal)
    hart (subst L is.steps.is (legal-entry t c is hart exists goes_on)))

-- Where there is room for 30,000 entries the log is never too long.
pub has-room : (t : PacedHistory) (hart room : ℕ) → 30000 ≤ room
    → ((most : ℕ) → room + length (core_of t.history).log ≡ most + 6 → is_above most t hart max_steps ≡ true) → ⊥
has-room t hart room enough above =
    let length_is = length (core_of t.history).log in
    let most = room - 6 + length_is in
    let fits : room + length_is ≡ most + 6 = omega (arith, enough) in
    let never : is_above most t hart max_steps ≡ false =
    never-above t.history.kernel.code.words (plan_at t.history.loaded.plans hart) (get_or t.paces hart boot_pace) hart most max_steps (core_of t.history)
    (omega (arith, enough, fits)) in
    let both : true ≡ false = sym (above most fits) ∙ never in
    cc both

-- The steps make no more.
pub few-left : (t : PacedHistory) (hart room_then room_next : ℕ)
    → ComesOn t.history.kernel.code.words t.history.loaded.plans (coarse_of t) hart
    → room_next + length (next_entries_of t hart max_steps) ≡ room_then → room_then ≤ room_next + 30000
few-left t hart room_then room_next comes room =
    let few = comes.few in
    let log = ap length (log-told t hart max_steps) in
    let both = length-append (core_of t.history).log (next_entries_of t hart max_steps) in
    omega (arith, few, log, both, room)
