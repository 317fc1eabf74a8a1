-- A core taken apart: nothing is out exactly where no hart holds a context, and then the parts are such as a core may be made of.
use Rattle.std.proofs.Common.{◌≡◌, ℕ, ◌<◌, ◌==◌, cond, List, [], ◌∷◌, filter, slice_get, get_or, Option, option_map, Some, None, IsNone, is_some, ◌↔◌, refl, sym, ap, ◌∙◌, subst, arith, ⊎_elim}
use Rattle.std.specs.Prelude.{All}
use Rattle.std.proofs.lemmas.Bool.{eq-eqb}
use Rattle.std.proofs.lemmas.List.{length-map}
use Rattle.std.proofs.lemmas.List.Elements.{All-head}
use Rattle.std.proofs.lemmas.Option.{slice_get-map, slice_get_within, slice_get_cases, get_or_from_slice_get}
use Rattle.hart_model.specs.Context.{ContextState}
use Rattle.hart_model.specs.HartState.{HartState}
use Rattle.core_model.specs.declared.loaded.Loaded.{Loaded}
use Rattle.core_model.specs.Board.{BoardState, OutEntry, out_entry}
use Rattle.core_model.specs.Core.{CoreState}
use Rattle.core_model.specs.declared.plan.Plan.{Plan}
use Rattle.core_model.specs.Orders.{HartPace, boot_pace, plan_at}
use Rattle.core_model.specs.Soundness.{entries_held}
use Rattle.core_model.proofs.Counts.{on_hart}
use Rattle.core_model.proofs.Lists.{some-is}
use Rattle.core_invariant.specs.KernelStates.{KernelParts, emitted_parts}
use Rattle.core_invariant.specs.Invariant.{IsCoreKept}
use Rattle.core_invariant.proofs.Composition.{kept-sound}
use Rattle.order_laws.proofs.LegalOrders.{one}
use Rattle.resume_laws.specs.CanRest.{CanRest, OfEachHart}
use Rattle.resume_laws.specs.Parts.{AreRightParts}
use Rattle.resume_laws.proofs.BandsStay.{events_have}
use Rattle.resume_laws.proofs.EmittedRests.{emitted-rests}
use Rattle.resume_laws.proofs.Rests.{rest-from}
use Rattle.timer_plan.specs.Pace.{PaceState}
use Rattle.hart_advance.specs.Pacing.{IsPaceOf}
use Rattle.kernel_core.specs.History.{History, CoreValue, IsCoreOf, core_of}
use Rattle.kernel_core.specs.Parts.{IsPaceLeft, ArePacesLeft}
use Rattle.kernel_core.specs.PacedHistory.{PacedHistory, IsPacedCoreOf}
use Rattle.kernel_core.specs.Running.{RunValue, IsRunKept, core_of_run}
use Rattle.kernel_core.specs.Seats.{SeatValue, paces_of}
use Rattle.kernel_core.proofs.HistoryMore.{kept-so}
use Rattle.kernel_core.proofs.PacedSeats.{item-at, hart-count}

-- entries of harts, of which none has one
no-entries : (harts : ℕ) (out : List OutEntry) → All (λ (o : OutEntry). o.hart < harts) out → ((i : ℕ) → i < harts → filter (on_hart i) out ≡ [])
    → out ≡ []
no-entries harts [] low none = refl
no-entries harts (o ∷ out) low none =
    let others = filter (on_hart o.hart) out in
    let passes : cond (o.hart == o.hart) (o ∷ others) others ≡ o ∷ others = ap (λ b. cond b (o ∷ others) others) (eq-eqb o.hart o.hart refl) in
    let gone : o ∷ others ≡ [] = sym passes ∙ none o.hart (All-head (λ (x : OutEntry). x.hart < harts) o out low) in
    absurd (cc gone)

module _ (k : KernelParts) (loaded : Loaded) (c : CoreState) (kept : IsCoreKept k loaded c) where
  -- where nothing is out a hart holds nothing,
  pub held-none : c.board.out ≡ [] → (i : ℕ) (h : HartState) → slice_get c.harts i ≡ Some h → h.held ≡ None
  held-none empty i h is = by-held h.held refl
    where
      by-held : (o : Option ContextState) → h.held ≡ o → h.held ≡ None
      by-held None e = e
      by-held (Some x) e =
          let some : [] ≡ out_entry i x ∷ [] = ap (filter (on_hart i)) (sym empty) ∙ kept.out i h is ∙ ap (entries_held i) e in
          absurd (cc some)

  -- and the other way round
  pub none-out : ((i : ℕ) (h : HartState) → slice_get c.harts i ≡ Some h → h.held ≡ None) → c.board.out ≡ []
  none-out none = no-entries loaded.harts c.board.out kept.out_exists each
    where
      each : (i : ℕ) → i < loaded.harts → filter (on_hart i) c.board.out ≡ []
      each i low =
          let count = kept.hart_count in
          ⊎_elim
          (λ p. kept.out i p.0 p.2 ∙ ap (entries_held i) (none i p.0 p.2))
          (λ p. absurd (omega (arith, p.0)))
          (slice_get_cases c.harts i).1

-- what is none, and what is there
none-is : {X : Type 0} (o : Option X) → IsNone o → o ≡ None
none-is None none = refl
none-is (Some x) none = absurd (cc none)

-- Nothing is out of a run exactly where none of its harts holds a context.
pub nothing-out : (r : RunValue) (loaded : Loaded) → IsRunKept loaded r → (hs : List HartState) → hs ≡ r.harts
    → All (λ (h : HartState). IsNone h.held) hs ↔ (r.board.lists.out ≡ [])
nothing-out r loaded run hs same = (
  λ all. none-out r.kernel loaded (core_of_run r) run.kept (λ i h at.
      let here = ap (λ (xs : List HartState). slice_get xs i) same ∙ at in
      let N : HartState → Type 0 = λ x. IsNone x.held in
      none-is h.held (subst N (get_or_from_slice_get hs i h h here) (all i h (slice_get_within hs i h here)))),
  λ empty i d low.
      (let x = item-at hs i low in
      let N : HartState → Type 0 = λ y. IsNone y.held in
      let none = held-none r.kernel loaded (core_of_run r) run.kept empty i x.0 (ap (λ (xs : List HartState). slice_get xs i) (sym same) ∙ x.1) in
      subst N (sym (get_or_from_slice_get hs i x.0 d x.1)) (ap is_some none)),
)

-- The parts of a core with nothing out are right ones.
pub right-parts : {K : Type 0} (t : History) (c : CoreValue K) → IsCoreOf t c → t.kernel ≡ emitted_parts → c.run.board.lists.out ≡ []
    → AreRightParts t.loaded c.run.board.lists c.run.harts
right-parts t c is emitted empty =
    let core : CoreState = core_of t in
    let each = one t.kernel is.is_kernel.kernel t.loaded in
    let kept = kept-so t is.is_kernel is.start in
    let out : core.board.out ≡ [] = ap (λ (b : BoardState). b.out) (sym is.board) ∙ empty in
    let can = rest-from t.kernel is.is_kernel.kernel t.loaded each t.start is.start is.rests t.events in
    let C : KernelParts → Type 0 = λ k. OfEachHart (CanRest t.loaded.tasks k) core in
    let right : AreRightParts t.loaded core.board core.harts = record {
      board = (kept-sound t.kernel t.loaded each core kept).board;
      counts = λ i d low. (kept.ready i d low).within;
      nothing_out = out;
      bands = events_have t.loaded.bands t.kernel.code.words t.start t.events is.bands;
      hart_count = kept.hart_count;
      harts = λ number h at. emitted-rests t.loaded core (subst C emitted can) number h at (held-none t.kernel t.loaded core kept out number h at);
    } in
    let B : BoardState → Type 0 = λ b. AreRightParts t.loaded b c.run.harts in
    let H : List HartState → Type 0 = λ hs. AreRightParts t.loaded core.board hs in
    subst B (sym is.board) (subst H (sym is.harts) right)

-- a pace that stands for how far a hart is in its plan draws what is left of it
left-by : (plan : Plan) (progress : HartPace) (h : HartState) (pace other : PaceState) → other ≡ pace → IsPaceOf plan progress h other → IsPaceLeft plan pace
left-by plan progress h pace other same is =
    let drawn = sym same ∙ is.drawn in
    record { drawn = progress.takes; left = ap (λ (p : PaceState). p.left) drawn; tail = ap (λ (p : PaceState). p.tail) drawn }

-- Its paces draw what is left of the plans.
pub paces-left : {K : Type 0} (t : PacedHistory) (c : CoreValue K) → IsPacedCoreOf t c → ArePacesLeft t.history.loaded.plans (paces_of c.seats)
paces-left t c is = record {
  count = length-map c.seats (λ (s : SeatValue). s.pace) ∙ is.seat_count ∙ hart-count t c is ∙ sym is.core.within.plan_each;
  each = each;
}
  where
    each : (hart : ℕ) (pace : PaceState) → slice_get (paces_of c.seats) hart ≡ Some pace → IsPaceLeft (plan_at t.history.loaded.plans hart) pace
    each hart pace at =
        let pace_of_seat : SeatValue → PaceState = λ s. s.pace in
        let within = slice_get_within (paces_of c.seats) hart pace at in
        let long = length-map c.seats pace_of_seat in
        let count = is.seat_count in
        let s = item-at c.seats hart (omega (arith, within, long)) in
        let h = item-at c.run.harts hart (omega (arith, within, long, count)) in
        let same : s.0.pace ≡ pace =
        some-is (sym (slice_get-map pace_of_seat c.seats hart ∙ ap (option_map pace_of_seat) s.1) ∙ at) in
        left-by (plan_at t.history.loaded.plans hart) (get_or t.paces hart boot_pace) h.0 pace s.0.pace same (is.seats hart h.0 s.0 h.1 s.1).pace
