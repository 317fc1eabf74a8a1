-- A worker's turn: what it may do, and what it has afterwards.
use Rattle.std.proofs.Common.{◌≡◌, ℕ, ◌+◌, ◌*◌, ◌≤◌, ◌==◌, false, List, [], ◌∷◌, ◌++◌, length, slice_get, Some, None, refl, sym, ap, ◌∙◌, subst, append-nil, append_assoc, length-append, arith}
use Rattle.hart_model.specs.declared.calls.QueueCall.TheVariants.{Take, GiveReady, GiveDone}
use Rattle.hart_model.specs.declared.probe.Probe.{Probe}
use Rattle.hart_model.specs.Context.{ContextState}
use Rattle.hart_model.specs.HartState.{HartState}
use Rattle.hart_model.specs.HartStep.{hart_step}
use Rattle.hart_state.specs.Asked.{AsksTake}
use Rattle.core_model.specs.declared.action.Action.{Action}
use Rattle.core_model.specs.declared.action.Action.TheVariants as actions
use Rattle.core_model.specs.declared.plan.Plan.{Plan}
use Rattle.core_model.specs.declared.loaded.Loaded.{Loaded}
use Rattle.core_model.specs.Board.{BoardState, BoardWithSpare, all_ready}
use Rattle.core_model.specs.BoardStep.{BoardStep, board_step_of}
use Rattle.core_model.specs.Core.{CoreState}
use Rattle.core_model.specs.KernelWords.{kernel_code}
use Rattle.core_model.specs.Loaded.{IsLoaded}
use Rattle.core_model.specs.Orders.{HartPace, plan_at, held_count, pace_after, max_steps, coarse_after, IsLegal}
use Rattle.core_model.proofs.Lists.{count-append}
use Rattle.core_invariant.specs.KernelStates.{emitted_parts}
use Rattle.core_invariant.proofs.Proved.{emitted-is-kernel}
use Rattle.probe_log.specs.Counts.{Counts, StandFor, counts_left}
use Rattle.timer_plan.specs.Pace.{PaceState}
use Rattle.ready_queue.specs.declared.kind.Kind.{Kind}
use Rattle.ready_queue.specs.declared.kind.Kind.TheVariants.{Ready, Done}
use Rattle.ready_queue.specs.Gives.{HasNothingOut}
use Rattle.turn_lock.specs.Order.{KnowsOwnEntries}
use Rattle.order_laws.specs.CoarseRuns.{coarse_state, times_in, HartShare, IsShareOf}
use Rattle.order_laws.specs.OwnSteps.{AtAction, own_steps}
use Rattle.order_laws.proofs.AsEvents.{coarse-states}
use Rattle.order_laws.proofs.Shares.{shares-stay}
use Rattle.order_laws.proofs.LegalOrders.{boards-tell}
use Rattle.hart_advance.specs.Pacing.{IsPaceOf, IsUnderKernel}
use Rattle.hart_advance.specs.Advancing.{ReachesAction, CanAdvance}
use Rattle.hart_advance.proofs.CanAdvance.{can-advance}
use Rattle.kernel_core.specs.BoardStep.{drawn_by, GivesKind, MayGive, CanTake, CanGive, IsAfterBoardStep}
use Rattle.kernel_core.proofs.PacedGo.{action-follows}
use Rattle.hart_runner.specs.declared.own_hart.OwnHart.{OwnHart}
use Rattle.hart_runner.specs.declared.receipt.Receipt.{Receipt}
use Rattle.hart_runner.specs.CoreBoards.{IsBoardOf}
use Rattle.hart_runner.specs.Receipts.{FoundNothing, HoldsNothing, EndsFor, IsReceiptOf}
use Rattle.hart_runner.specs.Working.{IsWorkerOf}
use Rattle.hart_runner.specs.Turning.{IsTurning, IsAtAction, IsAtGive}
use Rattle.hart_runner.proofs.LegalRuns.{tally-room, run-kept, order-short, entries-short}
use Rattle.hart_runner.proofs.Actions.{pace-stays, draws-none, give-made, TookOr, Got, Nothing, take-made}
use Rattle.hart_runner.proofs.OneTurn.{comes, takes-call, gives-call, wanted, asks-take, gives-ready-kind, gives-done-kind, nothing-out, may-give, few, number-low, next-legal, step, board-after, action-made, share-after}

-- ENTRIES OF OTHER HARTS leave what a worker has
module _ (loaded : Loaded) (fits : IsLoaded loaded) (number : ℕ) (seen order : List ℕ) (known : KnowsOwnEntries number seen order) where
  abbrev pub rest_of : List ℕ
  rest_of = known.0.0

  pub none-in-rest : times_in number rest_of ≡ 0
  none-in-rest =
      let all = count-append (λ entry. entry == number) seen rest_of in
      let same : times_in number (seen ++ rest_of) ≡ times_in number order = ap (times_in number) known.0.1 in
      let own : times_in number order ≡ times_in number seen = known.1 in
      omega (arith, all, same, own)

  pub share-stays : (s : HartShare) → IsShareOf (coarse_state loaded kernel_code seen) number s → IsShareOf (coarse_state loaded kernel_code order) number s
  share-stays s is =
      let P : List ℕ → Type 0 = λ o. IsShareOf (coarse_state loaded emitted_parts.code o) number s in
      subst P known.0.1 (shares-stay emitted_parts emitted-is-kernel loaded fits seen rest_of number s none-in-rest is)

  module _ (legal : IsLegal loaded kernel_code order) where
    pub turning-stays : (own : OwnHart) → IsTurning loaded number seen own → IsTurning loaded number order own
    turning-stays own t = record {
      is_loaded = t.is_loaded;
      legal = legal;
      share = t.share;
      is_share = share-stays t.share t.is_share;
      goes_on = t.goes_on;
      hart = t.hart;
      counts = t.counts;
      pace = t.pace;
    }

    pub give-stays : (kind : Kind) (own : OwnHart) → IsAtGive loaded number seen kind own → IsAtGive loaded number order kind own
    give-stays kind own t = record {
      at_action = record {
        is_loaded = t.at_action.is_loaded;
        legal = legal;
        share = t.at_action.share;
        is_share = share-stays t.at_action.share t.at_action.is_share;
        goes_on = t.at_action.goes_on;
        at = t.at_action.at;
        comes = t.at_action.comes;
        hart = t.at_action.hart;
        counts = t.at_action.counts;
        pace = t.at_action.pace;
      };
      gives = t.gives;
    }

    pub worker-stays : (h : HartState) (tally : Counts) → IsWorkerOf loaded number seen h tally → IsWorkerOf loaded number order h tally
    worker-stays h tally w =
        record { legal = legal; share = w.share; is_share = share-stays w.share w.is_share; hart = w.hart; counts = w.counts }

  pub receipt-stays : (r : Receipt) → IsReceiptOf loaded seen number r → IsReceiptOf loaded order number r
  receipt-stays r is = record {
    seen = is.seen;
    rest = is.rest ++ rest_of;
    parts = sym known.0.1 ∙ ap (λ xs. xs ++ rest_of) is.parts ∙ append_assoc is.seen is.rest rest_of;
    count = is.count;
    all = (
        let both = count-append (λ entry. entry == number) is.rest rest_of in
        let first = is.all in
        let last = none-in-rest in
        omega (arith, both, first, last));
    cause = is.cause;
  }

module _ (loaded : Loaded) (number : ℕ) (order : List ℕ) where
  abbrev plan : Plan
  plan = plan_at loaded.plans number

  -- the core of the order, in its two forms
  core-is : (coarse_state loaded kernel_code order).core ≡ coarse_after loaded kernel_code order
  core-is = coarse-states loaded kernel_code order

  -- A TURN BEGINS: the hart may advance
  module _ (own : OwnHart) (t : IsTurning loaded number order own) (code : List ℕ) (words : code ≡ kernel_code.words) where
    abbrev pub at_of : AtAction
    at_of = (comes emitted_parts emitted-is-kernel loaded t.is_loaded order t.legal number t.share t.is_share t.goes_on).at

    at-own : own_steps kernel_code.words plan t.share.pace number max_steps t.share.hart ≡ Some at_of
    at-own = (comes emitted_parts emitted-is-kernel loaded t.is_loaded order t.legal number t.share t.is_share t.goes_on).own

    room-now : 30000 ≤ counts_left own.tally
    room-now =
        let short = entries-short emitted_parts emitted-is-kernel loaded t.is_loaded order t.legal number in
        let P : List Probe → Type 0 = λ es. length es ≤ 30000 * 1048576 in
        tally-room own.tally t.share.entries (30000 * 1048576) t.counts (subst P t.is_share.entries short) (omega arith)

    pub may-advance : IsUnderKernel code own.hart × CanAdvance code own.hart own.pace (counts_left own.tally)
    may-advance =
        let can = can-advance emitted_parts emitted-is-kernel loaded t.is_loaded (coarse_state loaded kernel_code order)
        (run-kept emitted_parts emitted-is-kernel loaded t.is_loaded order t.legal) number t.share t.is_share t.goes_on own.pace t.pace
        (counts_left own.tally) room-now in
        let P : List ℕ → HartState → Type 0 = λ c h. IsUnderKernel c h × CanAdvance c h own.pace (counts_left own.tally) in
        subst (λ c. P c own.hart) (sym words) (subst (λ h. P kernel_code.words h) (sym t.hart) can)

    pub reaches : ReachesAction code plan t.share.pace number own.hart own.pace at_of
    reaches =
        let P : List ℕ → HartState → Type 0 = λ c h. ReachesAction c plan t.share.pace number h own.pace at_of in
        let here : ReachesAction kernel_code.words plan t.share.pace number t.share.hart own.pace at_of = record { is_pace = t.pace; own = at-own } in
        subst (λ c. P c own.hart) (sym words) (subst (λ h. P kernel_code.words h) (sym t.hart) here)

    -- and afterwards it is at its action.
    pub at-action : (after : OwnHart) → after.hart ≡ at_of.hart → IsPaceOf plan t.share.pace after.hart after.pace
        → StandFor after.tally (t.share.entries ++ at_of.probes) → IsAtAction loaded number order after
    at-action after hart pace counts = record {
      is_loaded = t.is_loaded;
      legal = t.legal;
      share = t.share;
      is_share = t.is_share;
      goes_on = t.goes_on;
      at = at_of;
      comes = at-own;
      hart = hart;
      counts = counts;
      pace = subst (λ h. IsPaceOf plan t.share.pace h after.pace) hart pace;
    }

    -- It is a give where it held a context, and a take where it held nothing.
    pub holds-so-gives : (c : ContextState) → own.hart.held ≡ Some c → at_of.call ≡ Take → ⊥
    holds-so-gives c held take =
        gives-call emitted_parts emitted-is-kernel loaded t.is_loaded order t.legal number t.share t.is_share t.goes_on at_of at-own c
        (ap (λ (h : HartState). h.held) (sym t.hart) ∙ held) take

    pub none-so-takes : own.hart.held ≡ None → at_of.call ≡ Take
    none-so-takes none =
        takes-call emitted_parts emitted-is-kernel loaded t.is_loaded order t.legal number t.share t.is_share t.goes_on at_of at-own
        (ap (λ (h : HartState). h.held) (sym t.hart) ∙ none)

    pub asks-so : own.hart.held ≡ None → (after : HartState) → after ≡ at_of.hart → AsksTake (hart_step kernel_code.words after)
    asks-so none after same =
        let P : HartState → Type 0 = λ h. AsksTake (hart_step kernel_code.words h) in
        subst P (sym same)
        (asks-take emitted_parts emitted-is-kernel loaded t.is_loaded order t.legal number t.share t.is_share t.goes_on at_of at-own (none-so-takes none))

    pub ready-so : at_of.call ≡ GiveReady → (after : HartState) → after ≡ at_of.hart → GivesKind Ready (hart_step kernel_code.words after)
    ready-so call after same =
        let P : HartState → Type 0 = λ h. GivesKind Ready (hart_step kernel_code.words h) in
        subst P (sym same)
        (gives-ready-kind emitted_parts emitted-is-kernel loaded t.is_loaded order t.legal number t.share t.is_share t.goes_on at_of at-own call)

    pub done-so : at_of.call ≡ GiveDone → (after : HartState) → after ≡ at_of.hart → GivesKind Done (hart_step kernel_code.words after)
    done-so call after same =
        let P : HartState → Type 0 = λ h. GivesKind Done (hart_step kernel_code.words h) in
        subst P (sym same)
        (gives-done-kind emitted_parts emitted-is-kernel loaded t.is_loaded order t.legal number t.share t.is_share t.goes_on at_of at-own call)

  -- AT ITS ACTION, on a board of the order
  module _ (own : OwnHart) (t : IsAtAction loaded number order own) (code : List ℕ) (words : code ≡ kernel_code.words)
      (b : BoardState) (board : b ≡ (coarse_after loaded kernel_code order).board) where
    board-is : (coarse_state loaded kernel_code order).core.board ≡ b
    board-is = ap (λ (c : CoreState). c.board) core-is ∙ sym board

    pub room-at : 6 ≤ counts_left own.tally
    room-at =
        let short = entries-short emitted_parts emitted-is-kernel loaded t.is_loaded order t.legal number in
        let P : List Probe → Type 0 = λ es. length es ≤ 30000 * 1048576 in
        let before = subst P t.is_share.entries short in
        let own_few = few emitted_parts emitted-is-kernel loaded t.is_loaded order t.legal number t.share t.is_share t.goes_on t.at t.comes in
        let both = length-append t.share.entries t.at.probes in
        let room = tally-room own.tally (t.share.entries ++ t.at.probes) (30000 * 1048577) t.counts (omega (arith, before, own_few, both)) (omega arith) in
        omega (arith, room)

    pub can-give : (kind : Kind) → GivesKind kind (hart_step kernel_code.words own.hart) → (spare : ℕ)
        → CanGive code (record { lists = b; spare = spare }) number own.hart kind
    can-give kind gives spare =
        let H : HartState → Type 0 = λ h. GivesKind kind (hart_step kernel_code.words h) in
        let may = may-give emitted_parts emitted-is-kernel loaded t.is_loaded order t.legal number t.share t.is_share t.goes_on t.at t.comes kind
        (subst H t.hart gives) in
        let M : BoardState → HartState → Type 0 = λ x h. MayGive x number h kind in
        let C : List ℕ → Type 0 = λ c. GivesKind kind (hart_step c own.hart) in
        record {
          gives = subst C (sym words) gives;
          may = subst (λ x. M x own.hart) board-is (subst (λ h. M (coarse_state loaded kernel_code order).core.board h) (sym t.hart) may);
        }

    pub can-take : AsksTake (hart_step kernel_code.words own.hart) → (spare : ℕ) → length b.out + 2 ≤ spare
        → CanTake code (record { lists = b; spare = spare }) number own.hart
    can-take asks spare enough =
        let H : HartState → Type 0 = λ h. AsksTake (hart_step kernel_code.words h) in
        let nothing = nothing-out emitted_parts emitted-is-kernel loaded t.is_loaded order t.legal number t.share t.is_share t.goes_on t.at t.comes
        (subst H t.hart asks) in
        let C : List ℕ → Type 0 = λ c. AsksTake (hart_step c own.hart) in
        record {
          is_hart = number-low emitted_parts emitted-is-kernel loaded t.is_loaded order t.legal number t.share t.is_share t.goes_on t.at t.comes;
          asks = subst C (sym words) asks;
          nothing_out = subst (λ (x : BoardState). HasNothingOut x number) board-is nothing;
          spare = enough;
        }

    -- what code made of it, as the definition has it
    abbrev step_of : BoardStep
    step_of = step emitted_parts emitted-is-kernel loaded t.is_loaded order t.legal number t.share t.is_share t.goes_on t.at t.comes

    step-same : board_step_of code b number own.hart ≡ step_of
    step-same =
        ap (λ (c : List ℕ). board_step_of c b number own.hart) words
        ∙ ap (λ (x : BoardState). board_step_of kernel_code.words x number own.hart) (sym board-is)
        ∙ ap (λ (h : HartState). board_step_of kernel_code.words (coarse_state loaded kernel_code order).core.board number h) t.hart

    module _ (after : BoardState) (h : HartState) (action : Action)
        (gone : IsAfterBoardStep (board_step_of code b number own.hart) after h (Some action)) where
      gone-so : IsAfterBoardStep step_of after h (Some action)
      gone-so = subst (λ (x : BoardStep). IsAfterBoardStep x after h (Some action)) step-same gone

      pub board-then : (spare : ℕ) → IsBoardOf loaded (record { lists = after; spare = spare }) (order ++ number ∷ [])
      board-then spare = record {
        legal = next-legal emitted_parts emitted-is-kernel loaded t.is_loaded order t.legal number t.share t.is_share t.goes_on t.at t.comes;
        board = board-after emitted_parts emitted-is-kernel loaded t.is_loaded order t.legal number t.share t.is_share t.goes_on t.at t.comes after h action gone-so;
      }

      abbrev share_then : HartShare
      share_then = record {
        hart = h;
        pace = pace_after t.share.pace (held_count h.held) (Some action);
        entries = t.share.entries ++ (t.at.probes ++ step_of.probes);
      }

      is-share-then : IsShareOf (coarse_state loaded kernel_code (order ++ number ∷ [])) number share_then
      is-share-then =
          share-after emitted_parts emitted-is-kernel loaded t.is_loaded order t.legal number t.share t.is_share t.goes_on t.at t.comes after h action gone-so

      -- the take got a context, or nothing is ready
      pub took-or : AsksTake (hart_step kernel_code.words own.hart) → TookOr (coarse_state loaded kernel_code order).core.board action
      took-or asks =
          let H : HartState → Type 0 = λ x. AsksTake (hart_step kernel_code.words x) in
          take-made (coarse_state loaded kernel_code order).core.board after number t.at.hart h (hart_step kernel_code.words t.at.hart) action
          (subst H t.hart asks) gone-so

      module _ (tally : Counts) (counts : (log : List Probe) → StandFor own.tally log → StandFor tally (log ++ (board_step_of code b number own.hart).probes)) where
        counts-then : StandFor tally share_then.entries
        counts-then =
            let now = counts (t.share.entries ++ t.at.probes) t.counts in
            let same : (t.share.entries ++ t.at.probes) ++ (board_step_of code b number own.hart).probes ≡ share_then.entries =
            append_assoc t.share.entries t.at.probes _
            ∙ ap (λ (x : BoardStep). t.share.entries ++ (t.at.probes ++ x.probes)) step-same in
            subst (λ (log : List Probe). StandFor tally log) same now

        pub worker-then : IsWorkerOf loaded number (order ++ number ∷ []) h tally
        worker-then = record {
          legal = (board-then 0).legal;
          share = share_then;
          is_share = is-share-then;
          hart = refl;
          counts = counts-then;
        }

        turning-then : (pace : PaceState) → pace ≡ drawn_by action own.pace
            → (pace_after t.share.pace (held_count h.held) (Some action)).has_stopped ≡ false
            → IsTurning loaded number (order ++ number ∷ []) (record { hart = h; pace = pace; tally = tally })
        turning-then pace drawn goes_on =
            let follows = action-follows plan t.share.pace t.at.hart h own.pace t.pace (coarse_state loaded kernel_code order).core.board number t.at.call
            (hart_step kernel_code.words t.at.hart) after action
            (wanted emitted_parts emitted-is-kernel loaded t.is_loaded order t.legal number t.share t.is_share t.goes_on t.at t.comes) gone-so in
            record {
              is_loaded = t.is_loaded;
              legal = (board-then 0).legal;
              share = share_then;
              is_share = is-share-then;
              goes_on = goes_on;
              hart = refl;
              counts = counts-then;
              pace = subst (λ (p : PaceState). IsPaceOf plan share_then.pace h p) (sym drawn) follows;
            }

        pub turning-given : (kind : Kind) → GivesKind kind (hart_step kernel_code.words own.hart)
            → IsTurning loaded number (order ++ number ∷ []) (record { hart = h; pace = own.pace; tally = tally })
        turning-given kind gives =
            let H : HartState → Type 0 = λ x. GivesKind kind (hart_step kernel_code.words x) in
            let gave = give-made (coarse_state loaded kernel_code order).core.board after number t.at.hart h kind
            (hart_step kernel_code.words t.at.hart) action (subst H t.hart gives) gone-so in
            turning-then own.pace (sym (draws-none action gave own.pace))
            (ap (λ (p : HartPace). p.has_stopped) (pace-stays action gave t.share.pace (held_count h.held)) ∙ t.goes_on)

        pub turning-taken : AsksTake (hart_step kernel_code.words own.hart) → (action ≡ actions.Empty → ⊥) → (pace : PaceState)
            → pace ≡ drawn_by action own.pace
            → IsTurning loaded number (order ++ number ∷ []) (record { hart = h; pace = pace; tally = tally })
        turning-taken asks some pace drawn = turning-then pace drawn (by-case (took-or asks))
          where
            by-case : TookOr (coarse_state loaded kernel_code order).core.board action
                → (pace_after t.share.pace (held_count h.held) (Some action)).has_stopped ≡ false
            by-case (Got task took) = ap (λ (x : Action). (pace_after t.share.pace (held_count h.held) (Some x)).has_stopped) took
            by-case (Nothing empty none) = absurd (some empty)

      pub found-nothing : AsksTake (hart_step kernel_code.words own.hart) → action ≡ actions.Empty
          → FoundNothing loaded (order ++ number ∷ []) number
      found-nothing asks empty = record {
        before = order;
        last = refl;
        action = action-made emitted_parts emitted-is-kernel loaded t.is_loaded order t.legal number t.share t.is_share t.goes_on t.at t.comes after h action gone-so
            ∙ ap (λ (x : Action). Some x) empty;
        none_ready = ap (λ (c : CoreState). all_ready c.board.ready) (sym core-is) ∙ none-by (took-or asks);
      }
        where
          none-by : TookOr (coarse_state loaded kernel_code order).core.board action → all_ready (coarse_state loaded kernel_code order).core.board.ready ≡ []
          none-by (Got task took) = let e : actions.Empty ≡ actions.Took task = sym empty ∙ took in absurd (cc e)
          none-by (Nothing is none) = none

  -- THE RECEIPT of a worker that has seen just this order
  pub receipt-now : (r : Receipt) → r.order_length ≡ length order → EndsFor loaded order number r.cause → IsReceiptOf loaded order number r
  receipt-now r count cause =
      record { seen = order; rest = []; parts = sym (append-nil order); count = count; all = refl; cause = cause }

  pub holds-nothing : (own : OwnHart) → IsTurning loaded number order own → own.hart.held ≡ None → HoldsNothing loaded order number
  holds-nothing own t none = record {
    state = t.share.hart;
    hart = ap (λ (c : CoreState). slice_get c.harts number) (sym core-is) ∙ t.is_share.hart;
    held = ap (λ (h : HartState). h.held) (sym t.hart) ∙ none;
  }

-- A board tells its order, which is short.
pub board-order : (loaded : Loaded) → IsLoaded loaded → (order : List ℕ) (b : BoardWithSpare) → IsBoardOf loaded b order → b.lists.order ≡ order
board-order loaded fits order b is =
    ap (λ (x : BoardState). x.order) is.board ∙ boards-tell emitted_parts emitted-is-kernel loaded fits order is.legal

pub order-length : (loaded : Loaded) → IsLoaded loaded → (order : List ℕ) → IsLegal loaded kernel_code order → length order ≤ 1048576
order-length loaded fits order legal = order-short emitted_parts emitted-is-kernel loaded fits order legal
