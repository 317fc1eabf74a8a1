-- A core of one hart goes along an order of this hart alone.
use Rattle.std.proofs.Common.{◌≡◌, ℕ, ◌+◌, ◌^◌, ◌<◌, ◌≤◌, true, false, List, [], ◌∷◌, ◌++◌, length, get_or, refl, sym, ap, ◌∙◌, subst, arith, length-append}
use Rattle.std.specs.List.{AllByRecursion}
use Rattle.hart_model.specs.declared.probe.Probe.{Probe}
use Rattle.core_model.specs.declared.loaded.Loaded.{Loaded}
use Rattle.core_model.specs.Loaded.{IsLoaded}
use Rattle.core_model.specs.Core.{core_from}
use Rattle.core_model.specs.Orders.{CoarseState, boot_pace, boot_coarse, max_steps, fine_from, IsLegalEntry, IsLegal, IsLegalFrom}
use Rattle.core_invariant.specs.KernelStates.{KernelParts}
use Rattle.order_laws.specs.CoarseRuns.{coarse_from, coarse_state}
use Rattle.order_laws.proofs.AsEvents.{coarse-states}
use Rattle.order_laws.proofs.LegalOrders.{boards-tell, legal-orders}
use Rattle.order_laws.proofs.Judged.{legal-more}
use Rattle.std.specs.Prelude.{None, Vec, Result, Ok, Err, IfOk}
use Rattle.std.specs.declared.alloc.Global.{Global}
use Rattle.std.specs.declared.alloc.AllocError.{AllocError}
use Rattle.core_model.specs.KernelWords.{KernelCodeState}
use Rattle.kernel_core.specs.History.{CoreValue, core_of}
use Rattle.kernel_core.specs.PacedHistory.{PacedHistory, IsPacedCoreOf, acted, next_steps_of, next_entries_of, paced_at_boot, ordered, stopped_seat, has_stopped_at}
use Rattle.kernel_core.proofs.PacedSeats.{item-at, hart-count}
use Rattle.kernel_core.proofs.PacedOrders.{orders-grow}
use Rattle.kernel_core.proofs.PacedSteps.{told-is-stepped}
use Rattle.kernel_cli.specs.Drills.{IsDrillOrder, drill_report, IsDrilling, IsDrilled}

alone_more : (order : List ℕ) → AllByRecursion (λ hart. hart ≡ 0) order → AllByRecursion (λ hart. hart ≡ 0) (order ++ 0 ∷ [])
alone_more [] each = (refl, tt)
alone_more (hart ∷ order) each = (each.0, alone_more order each.1)

module _ {K : Type 0} (stands : K → List Probe → Type 0) (room_of : K → ℕ) (kernel : KernelParts) (loaded : Loaded) (one : loaded.harts ≡ 1) where
  pub boots : IsLoaded loaded → (keeper : K) (c : CoreValue K) → IsPacedCoreOf (paced_at_boot loaded kernel) c → c.log.keeper ≡ keeper → stands keeper []
      → c.run.actions ≡ 1048576 → 2 ^ 64 ≤ room_of keeper + 1 → IsDrilling stands room_of kernel loaded [] c
  unfolding core_from fine_from coarse_from IsLegalFrom
  boots is_loaded keeper c core kept nothing actions room =
      let Q : K → Type 0 = λ k. stands k [] in
      let e : room_of c.log.keeper ≡ room_of keeper = ap room_of kept in
      record {
        is_loaded = is_loaded;
        core = subst (λ (t : PacedHistory). IsPacedCoreOf t c) (sym (orders-grow.none loaded kernel)) core;
        legal = tt;
        alone = tt;
        keeper = subst Q (sym kept) nothing;
        actions = actions;
        room = omega (arith, e, room);
      }

  module _ (done : List ℕ) (c : CoreValue K) (s : IsDrilling stands room_of kernel loaded done c) where
    abbrev co : CoarseState
    co = coarse_state loaded kernel.code done

    abbrev told : PacedHistory
    told = ordered loaded kernel done

    core_is : co.core ≡ core_of told.history
    core_is = coarse-states loaded kernel.code done

    pub exists : 0 < length c.run.harts
    exists = let count = hart-count told c s.core in omega (arith, count, one)

    stopped_is : has_stopped_at c 0 ≡ (get_or co.paces 0 boot_pace).has_stopped
    stopped_is =
        let low = exists in
        let seats = s.core.seat_count in
        let h = item-at c.run.harts 0 low in
        let seat = item-at c.seats 0 (omega (arith, low, seats)) in
        ap stopped_seat seat.1 ∙ (s.core.seats 0 h.0 seat.0 h.1 seat.1).stopped

    legal_now : has_stopped_at c 0 ≡ false → IsLegalEntry co 0
    legal_now goes =
        let low = exists in
        let same : length co.core.harts ≡ length c.run.harts = ap length (ap (λ k. k.harts) core_is) ∙ sym (ap length s.core.core.harts) in
        record { exists = omega (arith, low, same); goes_on = sym stopped_is ∙ goes }

    -- one entry more is legal, so it is one of at most so many
    legal_next : has_stopped_at c 0 ≡ false → IsLegal loaded kernel.code (done ++ 0 ∷ [])
    legal_next goes = legal-more None kernel.code.words loaded.plans (boot_coarse loaded kernel.code) done 0 s.legal (legal_now goes)

    pub few : has_stopped_at c 0 ≡ false → length done < 1048576
    few goes =
        let bounded = legal-orders kernel s.core.core.is_kernel.kernel loaded s.is_loaded (done ++ 0 ∷ []) (legal_next goes) in
        let more : length (done ++ 0 ∷ []) ≡ length done + 1 = length-append done (0 ∷ []) in
        let most = s.is_loaded.bound in
        omega (arith, bounded, more, most)

    pub order_is : length c.run.board.lists.order ≡ length done
    order_is =
        let order : (core_of told.history).board.order ≡ done =
        boards-tell kernel s.core.core.is_kernel.kernel loaded s.is_loaded done s.legal in
        ap (λ b. length b.order) s.core.core.board ∙ ap length order

    pub has_actions : has_stopped_at c 0 ≡ false → length c.run.board.lists.order < c.run.actions
    has_actions goes =
        let order = order_is in
        let less = few goes in
        let actions = s.actions in
        omega (arith, order, less, actions)

    pub has_room : has_stopped_at c 0 ≡ false → 30000 ≤ room_of c.log.keeper
    has_room goes =
        let less = few goes in
        let room = s.room in
        omega (arith, less, room)

    pub goes_on : (after : CoreValue K) → has_stopped_at c 0 ≡ false
        → IsPacedCoreOf (acted told 0) after
        → ((before : List Probe) → stands c.log.keeper before → stands after.log.keeper (before ++ next_entries_of told 0 max_steps))
        → after.run.actions ≡ c.run.actions
        → room_of c.log.keeper ≤ room_of after.log.keeper + 30000
        → IsDrilling stands room_of kernel loaded (done ++ 0 ∷ []) after
    goes_on after goes is keeper actions room =
        let next = done ++ 0 ∷ [] in
        let grows : acted told 0 ≡ ordered loaded kernel next = orders-grow.more loaded kernel done 0 in
        let core : core_of (acted told 0).history ≡ (next_steps_of told 0 max_steps).core = told-is-stepped.core told 0 max_steps in
        let log : (core_of (ordered loaded kernel next).history).log ≡ (core_of told.history).log ++ next_entries_of told 0 max_steps =
        ap (λ (t : PacedHistory). (core_of t.history).log) (sym grows) ∙ ap (λ k. k.log) core ∙ told-is-stepped.log told 0 max_steps in
        let fits = s.room in
        let more : length next ≡ length done + 1 = length-append done (0 ∷ []) in
        record {
          is_loaded = s.is_loaded;
          core = subst (λ (t : PacedHistory). IsPacedCoreOf t after) grows is;
          legal = legal_next goes;
          alone = alone_more done s.alone;
          keeper = subst (λ (l : List Probe). stands after.log.keeper l) (sym log) (keeper (core_of told.history).log s.keeper);
          actions = actions ∙ s.actions;
          room = omega (arith, fits, more, room);
        }

    pub ends : has_stopped_at c 0 ≡ true → IsDrilled stands kernel loaded c
    ends stop = record {
      order = done;
      is = record { legal = s.legal; alone = s.alone; stopped = sym stopped_is ∙ stop };
      core = s.core.core;
      keeper = s.keeper;
    }

-- the text of the report of a drill, if there is one
pub drilled_text : (text : Result (Vec ℕ Global) AllocError) (code : KernelCodeState) (loaded : Loaded) (order : List ℕ) → IsDrillOrder code loaded order
    → IfOk text (λ written. written.items ≡ drill_report code loaded order)
    → IfOk text (λ written. (order : List ℕ) × IsDrillOrder code loaded order × (written.items ≡ drill_report code loaded order))
drilled_text (Ok written) code loaded order is e = (order, is, e)
drilled_text (Err error) code loaded order is e = tt
