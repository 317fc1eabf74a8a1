-- A core goes along the order of its bundle.
use Rattle.std.proofs.Common.{◌≡◌, ℕ, zero, suc, ◌+◌, ◌-◌, ◌<◌, ◌≤◌, Bool, true, false, not, ◌&&◌, nat_lt, List, [], ◌∷◌, ◌++◌, length, get_or, replicate, Some, refl, sym, ap, ◌∙◌, subst, arith, length-append}
use Rattle.std.proofs.lemmas.Bool.{lt-ltb, le-ltb}
use Rattle.std.proofs.lemmas.List.{append-nil, append_assoc}
use Rattle.hart_model.specs.declared.probe.Probe.{Probe}
use Rattle.core_model.specs.declared.event.OrderRun.{OrderRun}
use Rattle.core_model.specs.declared.loaded.Loaded.{Loaded}
use Rattle.core_model.specs.Loaded.{IsLoaded}
use Rattle.core_model.specs.Events.{order_of, entry_count, CountsAreLengths}
use Rattle.core_model.specs.KernelWords.{kernel_code}
use Rattle.core_model.specs.Core.{CoreState, core_from}
use Rattle.core_model.specs.Orders.{CoarseState, boot_pace, boot_coarse, plan_at, max_steps, steps_to_action, after_entry, fine_from, IsLegalEntry, IsLegalFrom}
use Rattle.core_invariant.specs.KernelStates.{emitted_parts}
use Rattle.order_laws.specs.CoarseRuns.{coarse_from, coarse_state}
use Rattle.order_laws.specs.LongLogs.{is_log_above}
use Rattle.order_laws.specs.Judging.{Done, Illegal, Full, is_legal_entry, end_from}
use Rattle.order_laws.proofs.AsEvents.{coarse-states, coarse-append}
use Rattle.order_laws.proofs.LegalOrders.{boards-tell}
use Rattle.order_laws.proofs.Judged.{legal-test, end-none, end-illegal, end-full, end-passes, legal-more}
use Rattle.kernel_core.specs.History.{CoreValue, core_of}
use Rattle.kernel_core.specs.PacedHistory.{PacedHistory, IsPacedCoreOf, acted, next_steps_of, next_entries_of, is_above_before_action, paced_at_boot, stopped_seat, has_stopped_at}
use Rattle.kernel_core.proofs.PacedSeats.{item-at, hart-count}
use Rattle.kernel_core.proofs.PacedOrders.{orders-grow}
use Rattle.kernel_core.proofs.PacedSteps.{told-is-stepped}
use Rattle.kernel_cli.specs.Scripts.{entries_each}
use Rattle.kernel_cli.specs.Replays.{replay_events, replay_end}
use Rattle.kernel_cli.specs.Playing.{told_order, IsPlayed, StandsAlong}

-- the coarse run of entries of an order
abbrev co_of : Loaded → List ℕ → CoarseState
co_of loaded done = coarse_state loaded kernel_code done

-- one entry more
one_more : (loaded : Loaded) (done : List ℕ) (hart : ℕ) → co_of loaded (done ++ hart ∷ []) ≡ after_entry kernel_code.words loaded.plans (co_of loaded done) hart
unfolding coarse_from
one_more loaded done hart = coarse-append kernel_code.words loaded.plans (boot_coarse loaded kernel_code) done (hart ∷ [])

-- one of several entries alike
one_of : (n hart : ℕ) → 0 < n → replicate n hart ≡ hart ∷ replicate (n - 1) hart
one_of zero hart some = absurd (omega (arith, some))
one_of (suc n) hart some = let e : suc n - 1 ≡ n = omega arith in rw e refl

module _ {K : Type 0} (stands : K → List Probe → Type 0) (room_of : K → ℕ) (most : ℕ) (loaded : Loaded) where
  -- at boot all entries are left
  pub boots : IsLoaded loaded → (keeper : K) (runs : List OrderRun) (c : CoreValue K) → CountsAreLengths → runs ≡ loaded.order
      → IsPacedCoreOf (paced_at_boot loaded emitted_parts) c → c.log.keeper ≡ keeper → stands keeper [] → c.run.actions ≡ entry_count runs
      → room_of keeper ≡ most + entries_each → StandsAlong stands room_of most loaded 0 (order_of runs) c
  unfolding core_from fine_from coarse_from IsLegalFrom
  boots is_loaded keeper runs c counts same core kept nothing actions room =
      let P : List OrderRun → Type 0 = λ rs. StandsAlong stands room_of most loaded 0 (order_of rs) c in
      let Q : K → Type 0 = λ k. stands k [] in
      let e : room_of c.log.keeper ≡ room_of keeper = ap room_of kept in
      subst P (sym same) (record {
        is_loaded = is_loaded;
        done = [];
        all = refl;
        place = refl;
        core = subst (λ (t : PacedHistory). IsPacedCoreOf t c) (sym (orders-grow.none loaded emitted_parts)) core;
        legal = tt;
        keeper = subst Q (sym kept) nothing;
        actions = actions ∙ counts.entries runs ∙ ap (λ (rs : List OrderRun). length (order_of rs)) same;
        room = omega (arith, e, room);
        end = refl;
      })

  module _ (at hart : ℕ) (rest : List ℕ) (c : CoreValue K) (s : StandsAlong stands room_of most loaded at (hart ∷ rest) c) where
    abbrev co : CoarseState
    co = co_of loaded s.done

    abbrev told : PacedHistory
    told = told_order loaded s.done

    core_is : co.core ≡ core_of told.history
    core_is = coarse-states loaded kernel_code s.done

    pub count_is : length c.run.harts ≡ loaded.harts
    count_is = hart-count told c s.core

    count_co : length co.core.harts ≡ length c.run.harts
    count_co = ap (λ (k : CoreState). length k.harts) core_is ∙ sym (ap length s.core.core.harts)

    stopped_is : hart < length c.run.harts → has_stopped_at c hart ≡ (get_or co.paces hart boot_pace).has_stopped
    stopped_is low =
        let seats = s.core.seat_count in
        let h = item-at c.run.harts hart low in
        let seat = item-at c.seats hart (omega (arith, low, seats)) in
        ap stopped_seat seat.1 ∙ (s.core.seats hart h.0 seat.0 h.1 seat.1).stopped

    -- the test of the entry
    pub missing : loaded.harts ≤ hart → is_legal_entry co hart ≡ false
    missing high =
        let count = count_is in
        let same = count_co in
        let test : nat_lt hart (length co.core.harts) ≡ false = le-ltb hart (length co.core.harts) (omega (arith, high, count, same)) in
        ap (λ b. b && not (get_or co.paces hart boot_pace).has_stopped) test

    pub stopped : hart < length c.run.harts → has_stopped_at c hart ≡ true → is_legal_entry co hart ≡ false
    stopped low stop =
        let same = count_co in
        let test : nat_lt hart (length co.core.harts) ≡ true = lt-ltb hart (length co.core.harts) (omega (arith, low, same)) in
        ap (λ b. b && not (get_or co.paces hart boot_pace).has_stopped) test ∙ ap not (sym (stopped_is low) ∙ stop)

    pub legal_now : hart < length c.run.harts → has_stopped_at c hart ≡ false → IsLegalEntry co hart
    legal_now low goes =
        let same = count_co in
        record { exists = omega (arith, low, same); goes_on = sym (stopped_is low) ∙ goes }

    -- fewer actions were made than there are entries
    pub has_actions : length c.run.board.lists.order < c.run.actions
    has_actions =
        let order : (core_of told.history).board.order ≡ s.done =
        boards-tell emitted_parts s.core.core.is_kernel.kernel loaded s.is_loaded s.done s.legal in
        let same : length c.run.board.lists.order ≡ length s.done =
        ap (λ b. length b.order) s.core.core.board ∙ ap length order in
        let all : length s.done + suc (length rest) ≡ length (order_of loaded.order) = sym (length-append s.done (hart ∷ rest)) ∙ ap length s.all in
        let actions = s.actions in
        omega (arith, same, all, actions)

    -- the run ends here
    pub ends_bad : is_legal_entry co hart ≡ false → replay_end (Some most) loaded ≡ Illegal at
    ends_bad test = sym s.end ∙ end-illegal (Some most) kernel_code.words loaded.plans co at hart rest test

    -- whether the log is above on the way to the action, from this core on
    abbrev above_from : CoreState → Bool
    above_from k = is_log_above most kernel_code.words k
        (steps_to_action kernel_code.words (plan_at loaded.plans hart) (get_or co.paces hart boot_pace) hart max_steps k).events

    above_is : (b : Bool) → is_above_before_action most told hart ≡ b → above_from co.core ≡ b
    above_is b e = ap above_from core_is ∙ e

    pub ends_full : IsLegalEntry co hart → is_above_before_action most told hart ≡ true → replay_end (Some most) loaded ≡ Full
    ends_full legal above =
        sym s.end ∙ end-full (Some most) kernel_code.words loaded.plans co at hart rest (legal-test co hart legal) (above_is true above)

    -- what the room of its keeper says of the log
    pub room_is : room_of c.log.keeper + length (core_of told.history).log ≡ most + 6
    room_is = s.room

    pub told_now : IsPacedCoreOf told c
    told_now = s.core

    -- the entry is run
    pub goes_on : (after : CoreValue K) → IsLegalEntry co hart → is_above_before_action most told hart ≡ false
        → IsPacedCoreOf (acted told hart) after
        → ((before : List Probe) → stands c.log.keeper before → stands after.log.keeper (before ++ next_entries_of told hart max_steps))
        → after.run.actions ≡ c.run.actions
        → room_of after.log.keeper + length (next_entries_of told hart max_steps) ≡ room_of c.log.keeper
        → StandsAlong stands room_of most loaded (at + 1) rest after
    goes_on after legal below is keeper actions room =
        let next = s.done ++ hart ∷ [] in
        let grows : acted told hart ≡ told_order loaded next = orders-grow.more loaded emitted_parts s.done hart in
        let core : core_of (acted told hart).history ≡ (next_steps_of told hart max_steps).core = told-is-stepped.core told hart max_steps in
        let log : (core_of (told_order loaded next).history).log ≡ (core_of told.history).log ++ next_entries_of told hart max_steps =
        ap (λ (t : PacedHistory). (core_of t.history).log) (sym grows) ∙ ap (λ (k : CoreState). k.log) core ∙ told-is-stepped.log told hart max_steps in
        let longer : length (core_of (told_order loaded next).history).log ≡ length (core_of told.history).log + length (next_entries_of told hart max_steps) =
        ap length log ∙ length-append (core_of told.history).log (next_entries_of told hart max_steps) in
        let fits = s.room in
        let place = s.place in
        let more : length next ≡ length s.done + 1 = length-append s.done (hart ∷ []) in
        let passes = end-passes (Some most) kernel_code.words loaded.plans co at hart rest (legal-test co hart legal) (above_is false below) in
        record {
          is_loaded = s.is_loaded;
          done = next;
          all = append_assoc s.done (hart ∷ []) rest ∙ s.all;
          place = omega (arith, place, more);
          core = subst (λ (t : PacedHistory). IsPacedCoreOf t after) grows is;
          legal = legal-more (Some most) kernel_code.words loaded.plans (boot_coarse loaded kernel_code) s.done hart s.legal legal;
          keeper = subst (λ (l : List Probe). stands after.log.keeper l) (sym log) (keeper (core_of told.history).log s.keeper);
          actions = actions ∙ s.actions;
          room = omega (arith, longer, fits, room);
          end = ap (λ (k : CoarseState). end_from (Some most) kernel_code.words loaded.plans k (at + 1) rest) (one_more loaded s.done hart)
              ∙ sym passes ∙ s.end;
        }

  -- Of entries that are left in a run, one is next.
  pub one_next : (at n hart : ℕ) (others : List ℕ) (c : CoreValue K) → 0 < n → StandsAlong stands room_of most loaded at (replicate n hart ++ others) c
      → StandsAlong stands room_of most loaded at (hart ∷ (replicate (n - 1) hart ++ others)) c
  one_next at n hart others c some s =
      subst (λ (xs : List ℕ). StandsAlong stands room_of most loaded at (xs ++ others) c) (one_of n hart some) s

  -- no entry is left in the run
  pub run_ends : (at n hart : ℕ) (others : List ℕ) (c : CoreValue K) → n ≡ 0 → StandsAlong stands room_of most loaded at (replicate n hart ++ others) c
      → StandsAlong stands room_of most loaded at others c
  run_ends at n hart others c none s = subst (λ (m : ℕ). StandsAlong stands room_of most loaded at (replicate m hart ++ others) c) none s

  -- the place is one of the order
  pub place_below : (at : ℕ) (left : List ℕ) (c : CoreValue K) → StandsAlong stands room_of most loaded at left c → at + length left ≡ length (order_of loaded.order)
  place_below at left c s =
      let all : length s.done + length left ≡ length (order_of loaded.order) = sym (length-append s.done left) ∙ ap length s.all in
      let place = s.place in
      omega (arith, all, place)

  -- no entry is left
  pub ends_played : (at : ℕ) (runs : List OrderRun) (c : CoreValue K) → length runs < 1 → StandsAlong stands room_of most loaded at (order_of runs) c
      → IsPlayed stands loaded (replay_events loaded) c × (replay_end (Some most) loaded ≡ Done)
  ends_played at [] c none s =
      let all : s.done ≡ order_of loaded.order = sym (append-nil s.done) ∙ s.all in
      let P : List ℕ → Type 0 = λ order. IsPlayed stands loaded (told_order loaded order).history.events c in
      let played : P s.done = record { core = s.core.core; keeper = s.keeper } in
      (subst P all played, sym s.end ∙ end-none (Some most) kernel_code.words loaded.plans (co_of loaded s.done) at)
  ends_played at (run ∷ runs) c none s = absurd (omega (arith, none))

-- what an answer says that is the opposite of a test
pub passes : (answer test : Bool) → answer ≡ not test → answer ≡ true → test ≡ false
passes answer false is e = refl
passes answer true is e = let both : false ≡ true = sym is ∙ e in absurd (cc both)

pub fails : (answer test : Bool) → answer ≡ not test → answer ≡ false → test ≡ true
fails answer true is e = refl
fails answer false is e = let both : true ≡ false = sym is ∙ e in absurd (cc both)
