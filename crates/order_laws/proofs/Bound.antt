-- Each entry of a legal order keeps the coarse run and lowers its potential.
use Rattle.std.proofs.Common.{◌≡◌, ℕ, ◌+◌, ◌≤◌, inl, inr, Bool, true, false, List, [], ◌∷◌, length, length-set, set, slice_get, Option, Some, None, refl, sym, ap, ◌∙◌, subst, arith, if◌then◌else◌}
use Rattle.std.specs.Prelude.{All}
use Rattle.std.specs.List.{sum_by}
use Rattle.std.proofs.lemmas.List.{set-set}
use Rattle.std.proofs.lemmas.List.Elements.{All-head}
use Rattle.std.proofs.lemmas.List.Sums.{sum_by-cons}
use Rattle.isa_model.specs.declared.task.Task.{Task}
use Rattle.isa_model.specs.declared.ends.End.{End}
use Rattle.hart_model.specs.declared.calls.QueueCall.{QueueCall}
use Rattle.hart_model.specs.declared.calls.QueueCall.TheVariants.{Take, GiveReady, GiveDone}
use Rattle.hart_model.specs.declared.tag.Cell.{Cell}
use Rattle.hart_model.specs.Context.{BodyState, ContextState, admit_of}
use Rattle.hart_model.specs.HartState.{HartState}
use Rattle.hart_model.specs.StepResult.{StepResult, Wants}
use Rattle.hart_model.specs.Writes.{CellWrite}
use Rattle.hart_model.specs.HartStep.{hart_step, answer_take, answer_give}
use Rattle.core_model.specs.declared.plan.Plan.{Plan}
use Rattle.core_model.specs.declared.loaded.Loaded.{Loaded}
use Rattle.core_model.specs.Board.{BoardState, Front, all_ready, front_of, with_ready, take_from, give_done_of, with_next_admitted}
use Rattle.core_model.specs.BoardStep.{BoardStep, board_step_by_take, board_step_by_give_ready, board_step_by_give_done, board_step_by_call, board_step}
use Rattle.core_model.specs.Core.{CoreState, CoreAndAction, with_board_step, after_step}
use Rattle.core_model.specs.Orders.{HartPace, CoarseState, StepsToAction, pace_after, count_on, after_entry, IsLegalEntry, IsLegalFrom}
use Rattle.core_invariant.proofs.Items.{get-set_same}
use Rattle.core_invariant.specs.KernelStates.{KernelParts}
use Rattle.core_invariant.specs.Invariant.{IsCoreKept, IsWaitingTask}
use Rattle.core_invariant.specs.OneHart.{EachHart}
use Rattle.order_laws.specs.CoarseRuns.{coarse_from}
use Rattle.order_laws.specs.OwnSteps.{AtAction, moved_to, acted, acted_steps}
use Rattle.order_laws.specs.CoarseInvariant.{IsFree, IsHolding, IsBetweenActions, IsCoarseKept}
use Rattle.order_laws.specs.EachTurn.{pace_with, Takes, Gives, EachTurn}
use Rattle.order_laws.specs.Potential.{waiting_potential, ready_potential, held_potential, timer_potential, hart_potential, harts_potential, board_potential, potential_of}
use Rattle.order_laws.proofs.Potentials.{harts-set, taken-pays, take-timer, give-timer}
use Rattle.order_laws.proofs.ReadySums.{sum-ready, sum-front, front-ready}
use Rattle.order_laws.proofs.Shares.{entry-kept}
use Rattle.order_laws.proofs.EachPaced.{AllStand, all-set}
use Rattle.order_laws.proofs.Entries.{WantsNow, GoesOn, entry-goes-on, ItsAction, IsTurn, Found, Returned, ItsTurn, its-turn, by_steps, entry-is, wants}

module _ (k : KernelParts) (loaded : Loaded) where
  -- a coarse run that is kept, with a potential that is lower than this
  pub record IsLower (before : ℕ) (co : CoarseState) : Type 0 where
    pub kept : IsCoarseKept k loaded co
    pub pays : potential_of loaded.plans co + 1 ≤ before

  -- one hart and the board changed: the sum is less where the hart's part and the board's are
  module _ (co : CoarseState) (between : IsCoarseKept k loaded co) (hart : ℕ) (plan : Plan) (pace : HartPace) (h : HartState)
      (is_plan : slice_get loaded.plans hart ≡ Some plan) (is_pace : slice_get co.paces hart ≡ Some pace)
      (is_hart : slice_get co.core.harts hart ≡ Some h) where
    cost-less : (c : CoreState) (q : HartPace) (g : HartState) → c.harts ≡ set co.core.harts hart g
        → hart_potential plan q g + board_potential c.board + 1 ≤ hart_potential plan pace h + board_potential co.core.board
        → potential_of loaded.plans (record { core = c; paces = set co.paces hart q }) + 1 ≤ potential_of loaded.plans co
    cost-less c q g harts less =
        let sum = harts-set loaded.plans co.paces co.core.harts hart plan pace q h g is_plan is_pace is_hart in
        let same : harts_potential loaded.plans (set co.paces hart q) c.harts ≡ harts_potential loaded.plans (set co.paces hart q)
        (set co.core.harts hart g) =
        ap (λ (hs : List HartState). harts_potential loaded.plans (set co.paces hart q) hs) harts in
        sums (harts_potential loaded.plans (set co.paces hart q) c.harts) _ _ _ _ _ _ same sum less
      where
        sums : (all new old rest now board board_then : ℕ) → all ≡ new → new + old ≡ rest + now → now + board + 1 ≤ old + board_then
            → all + board + 1 ≤ rest + board_then
        sums all new old rest now board board_then e f g = omega (arith, e, f, g)

    -- what is kept afterwards
    kept-after : (c : CoreState) (q : HartPace) (g : HartState) → IsCoreKept k loaded c → c.harts ≡ set co.core.harts hart g
        → (q.has_stopped ≡ false → IsBetweenActions loaded.tasks k hart q g)
        → IsCoarseKept k loaded (record { core = c; paces = set co.paces hart q })
    kept-after c q g kept harts here = record {
      core = kept;
      paces = length-set co.paces hart q ∙ between.paces;
      harts = subst (AllStand Stands (set co.paces hart q)) (sym harts)
          (all-set Stands co.paces co.core.harts hart pace q h g is_pace is_hart between.harts here);
    }
      where
        Stands : ℕ → HartPace → HartState → Type 0
        Stands number p x = IsBetweenActions loaded.tasks k number p x

    -- an empty take
    stopped-pays : (g : HartState) → h.held ≡ None → pace.has_stopped ≡ false → g.held ≡ None → timer_potential g ≤ timer_potential h
        → hart_potential plan (record pace { has_stopped = true }) g + board_potential co.core.board + 1
        ≤ hart_potential plan pace h + board_potential co.core.board
    stopped-pays g free goes_on none timer =
        let before : held_potential plan pace h.held ≡ 1 = ap (held_potential plan pace) free ∙ ap (λ (b : Bool). if b then 0 else 1) goes_on in
        let after : held_potential plan (record pace { has_stopped = true }) g.held ≡ 0 =
        ap (held_potential plan (record pace { has_stopped = true })) none in
        omega (arith, before, after, timer)

    -- a take that gets a context
    got-pays : (g : HartState) (f : Front) → h.held ≡ None → pace.has_stopped ≡ false → g.held ≡ Some f.context
        → front_of co.core.board.ready.first co.core.board.ready.second ≡ Some f → timer_potential g ≤ timer_potential h
        → hart_potential plan (pace_with pace f.context) g
        + (sum_by waiting_potential co.core.board.waiting + sum_by ready_potential (all_ready f.left)) + 1
        ≤ hart_potential plan pace h + board_potential co.core.board
    got-pays g f free goes_on some ready timer =
        let before : held_potential plan pace h.held ≡ 1 = ap (held_potential plan pace) free ∙ ap (λ (b : Bool). if b then 0 else 1) goes_on in
        let after : held_potential plan (pace_with pace f.context) g.held ≡ held_potential plan (pace_with pace f.context) (Some f.context) =
        ap (held_potential plan (pace_with pace f.context)) some in
        let pays = taken-pays plan pace f.context in
        let sum = sum-front ready_potential co.core.board.ready f ready in
        omega (arith, before, after, pays, sum, timer)

    -- a give of a ready context
    ready-pays : (g : HartState) (c : ContextState) → pace.has_stopped ≡ false → g.held ≡ None
        → ready_potential c + timer_potential g + 2 ≤ held_potential plan pace h.held + timer_potential h
        → hart_potential plan pace g
        + (sum_by waiting_potential co.core.board.waiting
        + sum_by ready_potential (all_ready (with_ready co.core.board.bands co.core.board.ready c))) + 1
        ≤ hart_potential plan pace h + board_potential co.core.board
    ready-pays g c goes_on none pays =
        let after : held_potential plan pace g.held ≡ 1 = ap (held_potential plan pace) none ∙ ap (λ (b : Bool). if b then 0 else 1) goes_on in
        let sum = sum-ready ready_potential co.core.board.bands co.core.board.ready c in
        omega (arith, after, sum, pays)

    -- a give of an ended one: a waiting task that is admitted costs as much as before
    admitted : (b : BoardState) (slot : ℕ) (words : List Cell) (waiting : List BodyState) → b.waiting ≡ waiting
        → All (IsWaitingTask loaded.tasks) waiting
        → board_potential (with_next_admitted b slot words waiting) ≡ board_potential b
    admitted b slot words [] same fresh = refl
    admitted b slot words (first ∷ rest) same fresh =
        let task = All-head (IsWaitingTask loaded.tasks) first rest fresh in
        let none : first.count ≡ 0 = ap (λ (x : BodyState). x.count) task.0.is_fresh in
        let push = sum-ready ready_potential b.bands b.ready (admit_of first slot words) in
        let cons : sum_by waiting_potential b.waiting ≡ waiting_potential first + sum_by waiting_potential rest =
        ap (sum_by waiting_potential) same ∙ sum_by-cons waiting_potential first rest in
        omega (arith, none, push, cons)

    done-pays : (g : HartState) (c d : ContextState) (end : End) → pace.has_stopped ≡ false → g.held ≡ None → h.held ≡ Some d
        → timer_potential g ≤ timer_potential h
        → hart_potential plan pace g + board_potential (give_done_of co.core.board hart c end) + 1
        ≤ hart_potential plan pace h + board_potential co.core.board
    done-pays g c d end goes_on none some timer =
        let after : held_potential plan pace g.held ≡ 1 = ap (held_potential plan pace) none ∙ ap (λ (b : Bool). if b then 0 else 1) goes_on in
        let before : held_potential plan pace h.held ≡ held_potential plan pace (Some d) = ap (held_potential plan pace) some in
        let same : board_potential (give_done_of co.core.board hart c end) ≡ board_potential co.core.board =
        admitted _ c.slot c.words co.core.board.waiting refl between.core.waiting in
        omega (arith, after, before, same, timer)

    -- The steps of the entry, where they are the hart's own up to an action that it wants.
    module _ (goes_on : pace.has_stopped ≡ false) (a : AtAction) (c : CoreState)
        (same_core : c ≡ moved_to co.core hart a.hart a.probes) (early_writes : List CellWrite) (rd next : ℕ) where
      -- the entry afterwards, by the core and the action that it made
      abbrev Entry : CoreAndAction → CoarseState
      Entry r = record { core = r.core; paces = set co.paces hart (pace_after pace (count_on (slice_get r.core.harts hart)) r.action) }

      -- what the hart's step comes to keeps the core, and then it lowers the potential
      abbrev KeptAfter : BoardStep → Type 0
      KeptAfter s = IsCoreKept k loaded (with_board_step c hart s).core

      abbrev LowerAfter : BoardStep → Type 0
      LowerAfter s = IsLower (potential_of loaded.plans co) (Entry (with_board_step c hart s))

      entry-harts : (g : HartState) → set c.harts hart g ≡ set co.core.harts hart g
      entry-harts g = ap (λ (x : CoreState). set x.harts hart g) same_core ∙ set-set co.core.harts hart a.hart g

      at-hart : (g : HartState) → slice_get (set c.harts hart g) hart ≡ Some g
      at-hart g = ap (λ (hs : List HartState). slice_get hs hart) (entry-harts g) ∙ get-set_same co.core.harts hart h g is_hart

      same-board : c.board ≡ co.core.board
      same-board = ap (λ (x : CoreState). x.board) same_core

      take-paid : (front : Option Front) → front_of c.board.ready.first c.board.ready.second ≡ front → h.held ≡ None
          → timer_potential a.hart ≤ timer_potential h
          → ((f : Front) → front ≡ Some f
          → IsHolding loaded.tasks k hart (pace_with pace f.context) (answer_take early_writes rd next (Some f.context) a.hart).hart)
          → KeptAfter (board_step_by_take a.hart early_writes rd next (take_from c.board hart front)) → LowerAfter (board_step_by_take a.hart early_writes rd next (take_from c.board hart front))
      take-paid None is free timer holds kept =
          let g = (answer_take early_writes rd next None a.hart).hart in
          let r = with_board_step c hart (board_step_by_take a.hart early_writes rd next (take_from c.board hart None)) in
          let q : HartPace = record pace { has_stopped = true } in
          let board : board_potential r.core.board ≡ board_potential co.core.board = ap board_potential same-board in
          let left = take-timer early_writes rd next None a.hart in
          let less = stopped-pays g free goes_on refl (omega (arith, left, timer)) in
          record {
            kept = kept-after r.core q g kept (entry-harts g) (λ e. absurd (cc e));
            pays = cost-less r.core q g (entry-harts g) (omega (arith, board, less));
          }
      take-paid (Some f) is free timer holds kept =
          let g = (answer_take early_writes rd next (Some f.context) a.hart).hart in
          let r = with_board_step c hart (board_step_by_take a.hart early_writes rd next (take_from c.board hart (Some f))) in
          let q : HartPace = pace_with pace f.context in
          let pace_is : pace_after pace (count_on (slice_get r.core.harts hart)) r.action ≡ q =
          ap (λ (o : Option HartState). pace_after pace (count_on o) r.action) (at-hart g) in
          let waiting : sum_by waiting_potential r.core.board.waiting ≡ sum_by waiting_potential co.core.board.waiting =
          ap (λ (b : BoardState). sum_by waiting_potential b.waiting) same-board in
          let left = take-timer early_writes rd next (Some f.context) a.hart in
          let less = got-pays g f free goes_on refl (ap (λ (b : BoardState). front_of b.ready.first b.ready.second) (sym same-board) ∙ is)
          (omega (arith, left, timer)) in
          let P : HartPace → Type 0 = λ p. IsLower (potential_of loaded.plans co) (record { core = r.core; paces = set co.paces hart p }) in
          subst P (sym pace_is) (record {
            kept = kept-after r.core q g kept (entry-harts g) (λ e. inr (holds f refl));
            pays = cost-less r.core q g (entry-harts g) (omega (arith, waiting, less));
          })

      ready-paid : (x : ContextState) → ready_potential x + timer_potential a.hart + 2 ≤ held_potential plan pace h.held + timer_potential h
          → IsFree loaded.tasks k hart (answer_give early_writes next a.hart).hart
          → KeptAfter (board_step_by_give_ready c.board hart a.hart early_writes next x) → LowerAfter (board_step_by_give_ready c.board hart a.hart early_writes next x)
      ready-paid x pays free kept =
          let g = (answer_give early_writes next a.hart).hart in
          let r = with_board_step c hart (board_step_by_give_ready c.board hart a.hart early_writes next x) in
          let waiting : sum_by waiting_potential r.core.board.waiting ≡ sum_by waiting_potential co.core.board.waiting =
          ap (λ (b : BoardState). sum_by waiting_potential b.waiting) same-board in
          let ready : sum_by ready_potential (all_ready r.core.board.ready)
          ≡ sum_by ready_potential (all_ready (with_ready co.core.board.bands co.core.board.ready x)) =
          ap (λ (b : BoardState). sum_by ready_potential (all_ready (with_ready b.bands b.ready x))) same-board in
          let left = give-timer early_writes next a.hart in
          let less = ready-pays g x goes_on refl (omega (arith, left, pays)) in
          record {
            kept = kept-after r.core pace g kept (entry-harts g) (λ e. inl free);
            pays = cost-less r.core pace g (entry-harts g) (omega (arith, waiting, ready, less));
          }

      done-paid : (x d : ContextState) (end : End) → h.held ≡ Some d → timer_potential a.hart ≤ timer_potential h
          → IsFree loaded.tasks k hart (answer_give early_writes next a.hart).hart
          → KeptAfter (board_step_by_give_done c.board hart a.hart early_writes next x (Some end)) → LowerAfter (board_step_by_give_done c.board hart a.hart early_writes next x (Some end))
      done-paid x d end holds timer free kept =
          let g = (answer_give early_writes next a.hart).hart in
          let r = with_board_step c hart (board_step_by_give_done c.board hart a.hart early_writes next x (Some end)) in
          let board : board_potential r.core.board ≡ board_potential (give_done_of co.core.board hart x end) =
          ap (λ (b : BoardState). board_potential (give_done_of b hart x end)) same-board in
          let left = give-timer early_writes next a.hart in
          let less = done-pays g x d end goes_on refl holds (omega (arith, left, timer)) in
          record {
            kept = kept-after r.core pace g kept (entry-harts g) (λ e. inl free);
            pays = cost-less r.core pace g (entry-harts g) (omega (arith, board, less));
          }

      -- the step of the hart where it wants this, by what it holds
      abbrev Stepped : StepResult → BoardStep
      Stepped step = board_step c.board hart a.hart step

      paid-take : hart_step k.code.words a.hart ≡ Wants Take early_writes rd next → h.held ≡ None → Takes loaded.tasks k plan hart pace h Take a.hart
          → KeptAfter (Stepped (Wants Take early_writes rd next))
          → LowerAfter (Stepped (Wants Take early_writes rd next))
      paid-take wants free takes kept =
          take-paid (front_of c.board.ready.first c.board.ready.second) refl free takes.timer
          (λ f is. takes.then_holds early_writes rd next f.context wants
          (front-ready loaded.tasks co.core.board.ready between.core.ready f
          (sym (ap (λ (b : BoardState). front_of b.ready.first b.ready.second) same-board) ∙ is))) kept

      paid-ready : (x : ContextState) → a.hart.held ≡ Some x
          → ready_potential x + timer_potential a.hart + 2 ≤ held_potential plan pace h.held + timer_potential h
          → IsFree loaded.tasks k hart (answer_give early_writes next a.hart).hart
          → KeptAfter (Stepped (Wants GiveReady early_writes rd next))
          → LowerAfter (Stepped (Wants GiveReady early_writes rd next))
      paid-ready x held pays free kept =
          let same : Stepped (Wants GiveReady early_writes rd next) ≡ board_step_by_give_ready c.board hart a.hart early_writes next x =
          ap (board_step_by_call c.board hart a.hart GiveReady early_writes rd next) held in
          subst LowerAfter (sym same) (ready-paid x pays free (subst KeptAfter same kept))

      paid-done : (x d : ContextState) (end : End) → a.hart.held ≡ Some x → x.end ≡ Some end → h.held ≡ Some d
          → timer_potential a.hart ≤ timer_potential h
          → IsFree loaded.tasks k hart (answer_give early_writes next a.hart).hart
          → KeptAfter (Stepped (Wants GiveDone early_writes rd next))
          → LowerAfter (Stepped (Wants GiveDone early_writes rd next))
      paid-done x d end held has_end holds timer free kept =
          let same : Stepped (Wants GiveDone early_writes rd next) ≡ board_step_by_give_done c.board hart a.hart early_writes next x (Some end) =
          ap (board_step_by_call c.board hart a.hart GiveDone early_writes rd next) held
          ∙ ap (board_step_by_give_done c.board hart a.hart early_writes next x) has_end in
          subst LowerAfter (sym same) (done-paid x d end holds timer free (subst KeptAfter same kept))

    -- what the steps of the entry leave
    abbrev ByCore : CoarseState → StepsToAction → CoarseState
    ByCore at steps = record {
      core = steps.core;
      paces = set at.paces hart (pace_after pace (count_on (slice_get steps.core.harts hart)) steps.action);
    }

    found-paid : (goes_on : pace.has_stopped ≡ false) (a : AtAction) → h.held ≡ None → Takes loaded.tasks k plan hart pace h a.call a.hart
        → IsCoreKept k loaded (acted k.code.words co.core hart a).core
        → WantsNow k.code.words a.call a.hart
        → IsLower (potential_of loaded.plans co) (ByCore co (acted_steps k.code.words co.core hart a))
    found-paid goes_on a none takes kept w =
        let at = moved_to co.core hart a.hart a.probes in
        let Q : QueueCall → Type 0 =
        λ call. (hart_step k.code.words a.hart ≡ Wants call w.early_writes w.rd w.next) × Takes loaded.tasks k plan hart pace h call a.hart in
        let both : Q Take = subst Q takes.call_is (w.wants, takes) in
        let Kept : StepResult → Type 0 = λ s. IsCoreKept k loaded (after_step at hart a.hart s).core in
        let P : StepResult → Type 0 = λ s. (let r = after_step at hart a.hart s in
        IsLower (potential_of loaded.plans co)
        (record { core = r.core; paces = set co.paces hart (pace_after pace (count_on (slice_get r.core.harts hart)) r.action) })) in
        subst P (sym both.0) (paid-take goes_on a at refl w.early_writes w.rd w.next both.0 none both.1 (subst Kept both.0 kept))

    gave-paid : (goes_on : pace.has_stopped ≡ false) (a : AtAction) (d : ContextState) → h.held ≡ Some d
        → Gives loaded.tasks k plan hart pace h a.call a.hart
        → IsCoreKept k loaded (acted k.code.words co.core hart a).core
        → WantsNow k.code.words a.call a.hart
        → IsLower (potential_of loaded.plans co) (ByCore co (acted_steps k.code.words co.core hart a))
    gave-paid goes_on a d holds gives kept w =
        let at = moved_to co.core hart a.hart a.probes in
        let free = gives.then_free w.early_writes w.rd w.next w.wants in
        let Kept : StepResult → Type 0 = λ s. IsCoreKept k loaded (after_step at hart a.hart s).core in
        let P : StepResult → Type 0 = λ s. (let r = after_step at hart a.hart s in
        IsLower (potential_of loaded.plans co)
        (record { core = r.core; paces = set co.paces hart (pace_after pace (count_on (slice_get r.core.harts hart)) r.action) })) in
        let W : QueueCall → Type 0 = λ call. hart_step k.code.words a.hart ≡ Wants call w.early_writes w.rd w.next in
        elim gives.pays [
          | inl ready ↦ (let wants = subst W ready.0 w.wants in
              subst P (sym wants) (paid-ready goes_on a at refl w.early_writes w.rd w.next gives.context gives.held ready.1 free (subst Kept wants kept)))
          | inr done ↦ (let wants = subst W done.0 w.wants in
              subst P (sym wants) (paid-done goes_on a at refl w.early_writes w.rd w.next gives.context d done.1.0 gives.held done.1.1 holds done.2 free
              (subst Kept wants kept)))
        ]

-- the hart of a free hart holds nothing
free-holds : (tasks : List Task) (k : KernelParts) (number : ℕ) (h : HartState) → IsFree tasks k number h → h.held ≡ None
free-holds tasks k number h (inl e) = e.held
free-holds tasks k number h (inr e) = e.held

module _ (k : KernelParts) (loaded : Loaded) (one : EachHart loaded.tasks k) (plan_each : length loaded.plans ≡ loaded.harts)
    (turns : (number : ℕ) (plan : Plan) → slice_get loaded.plans number ≡ Some plan → EachTurn loaded.tasks k plan number) where
  -- A legal entry keeps a coarse run, and lowers its potential.
  pub entry-lowers : (co : CoarseState) → IsCoarseKept k loaded co → (hart : ℕ) → IsLegalEntry co hart
      → IsLower k loaded (potential_of loaded.plans co) (after_entry k.code.words loaded.plans co hart)
  entry-lowers co kept hart legal = subst Lower (sym same) (by-turn t.turn)
    where
      g : GoesOn loaded co hart
      g = entry-goes-on k loaded plan_each co kept.core kept.paces hart legal

      t : ItsTurn k loaded turns co kept hart g
      t = its-turn k loaded turns co kept hart g

      a : ItsAction k loaded co hart g
      a = t.action

      Lower : CoarseState → Type 0
      Lower x = IsLower k loaded (potential_of loaded.plans co) x

      same : after_entry k.code.words loaded.plans co hart ≡ by_steps k loaded one co kept.core hart g a (acted_steps k.code.words co.core hart a.at)
      same = entry-is k loaded one co kept.core hart g a

      core_kept : IsCoreKept k loaded (acted k.code.words co.core hart a.at).core
      core_kept = subst (λ (x : CoarseState). IsCoreKept k loaded x.core) same (entry-kept k loaded one co hart kept.core)

      w : WantsNow k.code.words a.at.call a.at.hart
      w = wants k loaded one co kept.core hart g a

      by-turn : IsTurn k loaded turns co kept hart g a.at.call a.at.hart
          → Lower (by_steps k loaded one co kept.core hart g a (acted_steps k.code.words co.core hart a.at))
      by-turn (Found free takes) =
          found-paid k loaded co kept hart g.plan g.pace g.state g.is_plan g.is_pace g.is_hart g.goes_on a.at
          (free-holds loaded.tasks k hart g.state free) takes core_kept w
      by-turn (Returned holding gives) =
          gave-paid k loaded co kept hart g.plan g.pace g.state g.is_plan g.is_pace g.is_hart g.goes_on a.at
          holding.context holding.held gives core_kept w

  -- A legal order has no more entries than the potential at its start.
  pub legal-bound : (order : List ℕ) (co : CoarseState) → IsCoarseKept k loaded co → IsLegalFrom k.code.words loaded.plans co order
      → length order ≤ potential_of loaded.plans co
  unfolding IsLegalFrom
  legal-bound [] co kept legal = omega arith
  legal-bound (hart ∷ order) co kept legal =
      let lower = entry-lowers co kept hart legal.0 in
      let rest = legal-bound order (after_entry k.code.words loaded.plans co hart) lower.kept legal.1 in
      let less = lower.pays in
      omega (arith, rest, less)

  -- Along it the coarse run is kept.
  pub order-keeps : (order : List ℕ) (co : CoarseState) → IsCoarseKept k loaded co → IsLegalFrom k.code.words loaded.plans co order
      → IsCoarseKept k loaded (coarse_from k.code.words loaded.plans co order)
  unfolding IsLegalFrom coarse_from
  order-keeps [] co kept legal = kept
  order-keeps (hart ∷ order) co kept legal =
      order-keeps order (after_entry k.code.words loaded.plans co hart) (entry-lowers co kept hart legal.0).kept legal.1
