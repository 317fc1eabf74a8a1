-- The seats of harts that rest, one after the other.
use Rattle.std.proofs.Common.{◌≡◌, ℕ, zero, suc, ◌+◌, ◌⊎◌, inl, inr, List, [], ◌∷◌, ◌++◌, length, length-append, slice_get, Some, refl, ap, ◌∙◌, sym, arith}
use Rattle.std.proofs.lemmas.Option.{get_or_from_slice_get}
use Rattle.hart_model.specs.HartState.{HartState}
use Rattle.core_model.specs.declared.plan.Plan.{Plan}
use Rattle.core_model.specs.Orders.{plan_at}
use Rattle.core_model.proofs.Lists.{some-is}
use Rattle.timer_plan.specs.Pace.{PaceState}
use Rattle.kernel_core.specs.Parts.{seat_over, AreSeatsOver}
use Rattle.kernel_core.specs.Seats.{SeatValue}

-- the seats of so many of the harts
pub record AreSeatsSoFar (plans : List Plan) (paces : List PaceState) (hs : List HartState) (seats : List SeatValue) (number : ℕ) : Type 0 where
  pub count : length seats ≡ number
  pub each : (hart : ℕ) (h : HartState) (plan : Plan) (pace : PaceState) (s : SeatValue) → slice_get hs hart ≡ Some h → slice_get plans hart ≡ Some plan
      → slice_get paces hart ≡ Some pace → slice_get seats hart ≡ Some s → s ≡ seat_over plan pace h

-- the plan at an index that there is
pub plan-found : (plans : List Plan) (i : ℕ) (plan : Plan) → slice_get plans i ≡ Some plan → plan_at plans i ≡ plan
plan-found plans i plan is = get_or_from_slice_get plans i plan _ is

-- what is found of a list with one item more
push-at : {X : Type 0} (xs : List X) (x : X) (i : ℕ) (y : X) → slice_get (xs ++ x ∷ []) i ≡ Some y
    → (slice_get xs i ≡ Some y) ⊎ ((i ≡ length xs) × (x ≡ y))
push-at [] x zero y at = inr (refl, some-is at)
push-at [] x (suc i) y at = absurd (cc at)
push-at (z ∷ xs) x zero y at = inl at
push-at (z ∷ xs) x (suc i) y at = elim (push-at xs x i y at) [ inl old ↦ inl old | inr new ↦ inr (ap suc new.0, new.1) ]

module _ (plans : List Plan) (paces : List PaceState) (hs : List HartState) where
  pub none-yet : AreSeatsSoFar plans paces hs [] 0
  none-yet = record { count = refl; each = λ hart h plan pace s is is_plan is_pace sits. absurd (cc sits) }

  module _ (seats : List SeatValue) (number : ℕ) (so_far : AreSeatsSoFar plans paces hs seats number) where
    pub seats-are : number ≡ length hs → AreSeatsOver plans paces hs seats
    seats-are all = record { count = so_far.count ∙ all; each = so_far.each }

    module _ (h : HartState) (plan : Plan) (pace : PaceState) (s : SeatValue) (is : slice_get hs number ≡ Some h)
        (is_plan : slice_get plans number ≡ Some plan) (is_pace : slice_get paces number ≡ Some pace) (same : s ≡ seat_over plan pace h) where
      each-then : (hart : ℕ) (g : HartState) (p : Plan) (q : PaceState) (t : SeatValue) → slice_get hs hart ≡ Some g → slice_get plans hart ≡ Some p
          → slice_get paces hart ≡ Some q → slice_get (seats ++ s ∷ []) hart ≡ Some t → t ≡ seat_over p q g
      each-then hart g p q t is_g is_p is_q sits = elim (push-at seats s hart t sits) [
        | inl old ↦ so_far.each hart g p q t is_g is_p is_q old
        | inr new ↦
            (let here = new.0 ∙ so_far.count in
            let g_is : h ≡ g = some-is (sym is ∙ ap (slice_get hs) (sym here) ∙ is_g) in
            let p_is : plan ≡ p = some-is (sym is_plan ∙ ap (slice_get plans) (sym here) ∙ is_p) in
            let q_is : pace ≡ q = some-is (sym is_pace ∙ ap (slice_get paces) (sym here) ∙ is_q) in
            sym new.1 ∙ same ∙ rw (g_is, p_is, q_is) refl)
      ]

      pub one-more-seat : AreSeatsSoFar plans paces hs (seats ++ s ∷ []) (number + 1)
      one-more-seat =
          let long = length-append seats (s ∷ []) in
          let count = so_far.count in
          record { count = omega (arith, long, count); each = each-then }
