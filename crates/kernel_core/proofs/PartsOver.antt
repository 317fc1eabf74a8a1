-- A core that is made of right parts: what it was told, and that its seats are where its harts are in their plans.
use Rattle.std.proofs.Common.{◌≡◌, ℕ, zero, suc, ◌+◌, ◌≤◌, ◌==◌, ◌||◌, true, false, inl, inr, List, [], ◌∷◌, length, get_or, slice_get, Option, Some, None, refl, sym, ap, ◌∙◌, subst, arith}
use Rattle.std.proofs.lemmas.Option.{slice_get_within, get_or_from_slice_get}
use Rattle.hart_model.specs.HartState.{HartState}
use Rattle.core_model.specs.declared.loaded.Loaded.{Loaded}
use Rattle.core_model.specs.declared.plan.Plan.{Plan}
use Rattle.core_model.specs.Board.{BoardState, BoardWithSpare}
use Rattle.core_model.specs.Core.{core_from}
use Rattle.core_model.specs.Loaded.{IsWithinLimits}
use Rattle.core_model.specs.Orders.{HartPace, boot_pace, plan_at}
use Rattle.core_model.proofs.Lists.{some-is}
use Rattle.core_invariant.specs.KernelStates.{KernelParts, emitted_parts}
use Rattle.core_invariant.specs.Invariant.{IsCoreKept}
use Rattle.core_invariant.proofs.Proved.{emitted-is-kernel}
use Rattle.noninterference.proofs.EmittedAlike.{emitted-alike}
use Rattle.order_laws.specs.CoarseInvariant.{IsFree}
use Rattle.order_laws.specs.SteppedRuns.{stepped_from, AreLegalSteps}
use Rattle.probe_log.specs.Counts.{counts_of}
use Rattle.resume_laws.specs.CanRest.{IsAtRest}
use Rattle.resume_laws.specs.Laws.{MayGoOn}
use Rattle.resume_laws.specs.Parts.{core_of_parts, AreRightParts}
use Rattle.resume_laws.proofs.MadeOfParts.{can-rest, parts-may-go-on}
use Rattle.timer_plan.specs.Pace.{PaceState}
use Rattle.kernel_core.specs.History.{CoreValue, IsCoreOf, history_over}
use Rattle.kernel_core.specs.PacedHistory.{IsPacedCoreOf}
use Rattle.kernel_core.specs.Parts.{ArePacesLeft, is_past_take, progress_over, progress_along, seat_over, AreSeatsOver, paced_over}
use Rattle.kernel_core.specs.Running.{IsRunKept, beyond}
use Rattle.kernel_core.specs.Seats.{SeatValue, IsSeatOf}
use Rattle.kernel_core.proofs.PacedSeats.{item-at}

-- ALONG THE THREE LISTS
pub progress-count : (plans : List Plan) (paces : List PaceState) (hs : List HartState) → length paces ≡ length plans → length hs ≡ length plans
    → length (progress_along plans paces hs) ≡ length plans
progress-count [] paces hs count harts = refl
progress-count (plan ∷ plans) [] hs count harts = absurd (omega (arith, count))
progress-count (plan ∷ plans) (pace ∷ paces) [] count harts = absurd (omega (arith, harts))
progress-count (plan ∷ plans) (pace ∷ paces) (h ∷ hs) count harts =
    ap suc (progress-count plans paces hs (omega (arith, count)) (omega (arith, harts)))

progress-at : (plans : List Plan) (paces : List PaceState) (hs : List HartState) (i : ℕ) (plan : Plan) (pace : PaceState) (h : HartState)
    → slice_get plans i ≡ Some plan → slice_get paces i ≡ Some pace → slice_get hs i ≡ Some h
    → slice_get (progress_along plans paces hs) i ≡ Some (progress_over plan pace h)
progress-at [] paces hs i plan pace h p q r = absurd (cc p)
progress-at (a ∷ plans) [] hs i plan pace h p q r = absurd (cc q)
progress-at (a ∷ plans) (b ∷ paces) [] i plan pace h p q r = absurd (cc r)
progress-at (a ∷ plans) (b ∷ paces) (g ∷ hs) zero plan pace h p q r = rw (some-is p, some-is q, some-is r) refl
progress-at (a ∷ plans) (b ∷ paces) (g ∷ hs) (suc i) plan pace h p q r = progress-at plans paces hs i plan pace h p q r

-- a hart that rests, and hasn't found nothing, is free to take
free-by : (loaded : Loaded) (number : ℕ) (h : HartState) → is_past_take h ≡ false → IsAtRest loaded.tasks emitted_parts number h
    → IsFree loaded.tasks emitted_parts number h
free-by loaded number h goes (inl given) = inr given
free-by loaded number h goes (inr (inl takes)) = inl takes
free-by loaded number h goes (inr (inr (inl past))) =
    let is : is_past_take h ≡ true = ap (λ (at : ℕ). at == 0x1328 || at == 0x1454) past.hart.hart.pc in
    let both : true ≡ false = sym is ∙ goes in
    absurd (cc both)
free-by loaded number h goes (inr (inr (inr idle))) =
    let is : is_past_take h ≡ true = ap (λ (at : ℕ). at == 0x1328 || at == 0x1454) idle.hart.pc in
    let both : true ≡ false = sym is ∙ goes in
    absurd (cc both)

module _ (loaded : Loaded) (within : IsWithinLimits loaded) (board : BoardState) (harts : List HartState) (right : AreRightParts loaded board harts) where
  may-go-on : MayGoOn loaded (core_of_parts board harts)
  may-go-on = parts-may-go-on emitted-is-kernel loaded within board harts right

  -- a board and harts that are these, with room for the actions, are a run that is kept
  pub run-over : (k : KernelParts) → k ≡ emitted_parts → (b : BoardWithSpare) (hs : List HartState) (actions : ℕ) → b.lists ≡ board → hs ≡ harts
      → actions + beyond ≤ length b.lists.order + b.spare → IsRunKept loaded (record { board = b; harts = hs; kernel = k; actions = actions })
  run-over k emitted b hs actions lists same room =
      let B : BoardState → Type 0 = λ x. IsCoreKept emitted_parts loaded (record { board = x; harts = hs; log = [] }) in
      let H : List HartState → Type 0 = λ xs. IsCoreKept emitted_parts loaded (record { board = board; harts = xs; log = [] }) in
      let R : KernelParts → Type 0 = λ x. IsRunKept loaded (record { board = b; harts = hs; kernel = x; actions = actions }) in
      subst R (sym emitted) (record {
        within = within;
        is_kernel = emitted-is-kernel;
        kept = subst B (sym lists) (subst H (sym same) may-go-on.kept);
        room = room;
      })

  module _ {K : Type 0} (c : CoreValue K) (kernel : c.run.kernel ≡ emitted_parts) (tasks : c.tasks ≡ length loaded.tasks)
      (lists : c.run.board.lists ≡ board) (states : c.run.harts ≡ harts) (counts : c.log.tally ≡ counts_of []) where
    -- it was told its parts
    pub told-over : IsCoreOf (history_over loaded board harts) c
    unfolding core_from
    told-over = record {
      within = within;
      is_kernel = record { kernel = emitted-is-kernel; alike = emitted-alike };
      start = may-go-on.kept;
      rests = may-go-on.rests;
      bands = right.bands;
      kernel = kernel;
      tasks = tasks;
      board = lists;
      harts = states;
      counts = counts;
    }

    module _ (paces : List PaceState) (left : ArePacesLeft loaded.plans paces) (seats : AreSeatsOver loaded.plans paces harts c.seats)
        (is_paced : c.is_paced ≡ true) where
      abbrev ps : List HartPace
      ps = progress_along loaded.plans paces harts

      -- each hart has its plan, its pace, and its place in both
      record Here (i : ℕ) (h : HartState) : Type 0 where
        plan : Plan
        pace : PaceState
        is_plan : slice_get loaded.plans i ≡ Some plan
        is_pace : slice_get paces i ≡ Some pace
        is_progress : slice_get ps i ≡ Some (progress_over plan pace h)

      here : (i : ℕ) (h : HartState) → slice_get harts i ≡ Some h → Here i h
      here i h at =
          let low = slice_get_within harts i h at in
          let count = right.hart_count in
          let plans = within.plan_each in
          let long = left.count in
          let p = item-at loaded.plans i (omega (arith, low, count, plans)) in
          let q = item-at paces i (omega (arith, low, count, plans, long)) in
          record {
            plan = p.0;
            pace = q.0;
            is_plan = p.1;
            is_pace = q.1;
            is_progress = progress-at loaded.plans paces harts i p.0 q.0 h p.1 q.1 at;
          }

      free : (i : ℕ) (p : HartPace) (h : HartState) → slice_get ps i ≡ Some p → slice_get harts i ≡ Some h → p.has_stopped ≡ false
          → IsFree loaded.tasks emitted_parts i h
      free i p h at is goes =
          let rests = right.harts i h is in
          let same : progress_over (here i h is).plan (here i h is).pace h ≡ p = some-is (sym (here i h is).is_progress ∙ at) in
          free-by loaded i h (ap (λ (x : HartPace). x.has_stopped) same ∙ goes) ((can-rest loaded.tasks i h rests).rests rests.held)

      seat-is : (i : ℕ) (h : HartState) (s : SeatValue) → slice_get c.run.harts i ≡ Some h → slice_get c.seats i ≡ Some s
          → IsSeatOf (plan_at loaded.plans i) (get_or ps i boot_pace) h s
      seat-is i h s at sits =
          let is = ap (λ (hs : List HartState). slice_get hs i) (sym states) ∙ at in
          let x = here i h is in
          let plan : plan_at loaded.plans i ≡ x.plan = get_or_from_slice_get loaded.plans i x.plan _ x.is_plan in
          let progress : get_or ps i boot_pace ≡ progress_over x.plan x.pace h = get_or_from_slice_get ps i _ boot_pace x.is_progress in
          let seat : s ≡ seat_over x.plan x.pace h = seats.each i h x.plan x.pace s is x.is_plan x.is_pace sits in
          let held = (right.harts i h is).held in
          let S : Plan → HartPace → SeatValue → Type 0 = λ p q y. IsSeatOf p q h y in
          let new : S x.plan (progress_over x.plan x.pace h) (seat_over x.plan x.pace h) = record {
            pace = record { ran = 0; drawn = refl; counts = λ k some. absurd (none-held held some) };
            stopped = refl;
          } in
          subst (λ p. S p (get_or ps i boot_pace) s) (sym plan) (subst (λ q. S x.plan q s) (sym progress) (subst (S x.plan (progress_over x.plan x.pace h)) (sym seat) new))
        where
          none-held : {X : Type 0} {o : Option X} {k : X} → o ≡ None → o ≡ Some k → ⊥
          none-held none some = let e = sym none ∙ some in cc e

      pub paced-over : IsPacedCoreOf (paced_over loaded board harts paces) c
      unfolding stepped_from AreLegalSteps core_from
      paced-over = record {
        core = told-over;
        steps = record {
          begins = record {
            core = may-go-on.kept;
            paces = progress-count loaded.plans paces harts left.count (right.hart_count ∙ sym within.plan_each) ∙ within.plan_each;
            harts = λ i p h at is goes. inl (free i p h at is goes);
          };
          steps = [];
          legal = tt;
          is = refl;
        };
        is_paced = is_paced;
        seat_count = seats.count ∙ sym (ap length states);
        seats = seat-is;
      }
