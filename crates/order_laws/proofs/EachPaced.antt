-- What holds of each hart that goes on with its pace, where one hart and its pace change.
use Rattle.std.proofs.Common.{◌≡◌, ◌≢◌, ℕ, inl, inr, false, List, set, slice_get, Some, sym, ap, ◌∙◌, subst}
use Rattle.std.proofs.lemmas.Bool.{cases_eq}
use Rattle.hart_model.specs.HartState.{HartState}
use Rattle.core_model.specs.Orders.{HartPace}
use Rattle.core_invariant.proofs.Items.{get-set_same, get-set_other}

get-other : {X : Type 0} (xs : List X) (i j : ℕ) (x y : X) → j ≢ i → slice_get (set xs i x) j ≡ Some y → slice_get xs j ≡ Some y
get-other xs i j x y ne e = sym (get-set_other xs i j x ne) ∙ e

module _ (Stands : ℕ → HartPace → HartState → Type 0) where
  abbrev pub AllStand : List HartPace → List HartState → Type 0
  AllStand paces harts =
      (number : ℕ) (pace : HartPace) (h : HartState) → slice_get paces number ≡ Some pace → slice_get harts number ≡ Some h
      → pace.has_stopped ≡ false → Stands number pace h

  pub all-set : (paces : List HartPace) (harts : List HartState) (hart : ℕ) (pace q : HartPace) (h g : HartState)
      → slice_get paces hart ≡ Some pace → slice_get harts hart ≡ Some h → AllStand paces harts → (q.has_stopped ≡ false → Stands hart q g)
      → AllStand (set paces hart q) (set harts hart g)
  all-set paces harts hart pace q h g is_pace is_hart all here number p x pace_is hart_is goes_on =
      elim (cases_eq number hart) [
        | inl same ↦ at-hart same
        | inr other ↦ all number p x (get-other paces hart number q p other pace_is) (get-other harts hart number g x other hart_is) goes_on
      ]
    where
      at-hart : number ≡ hart → Stands number p x
      at-hart same =
          let at_pace : slice_get (set paces hart q) hart ≡ Some p = ap (slice_get (set paces hart q)) (sym same) ∙ pace_is in
          let at_hart : slice_get (set harts hart g) hart ≡ Some x = ap (slice_get (set harts hart g)) (sym same) ∙ hart_is in
          let is_q : q ≡ p = cc (sym (get-set_same paces hart pace q is_pace) ∙ at_pace) in
          let is_g : g ≡ x = cc (sym (get-set_same harts hart h g is_hart) ∙ at_hart) in
          let P : ℕ → Type 0 = λ n. Stands n p x in
          let Q : HartPace → Type 0 = λ r. Stands hart r x in
          let R : HartState → Type 0 = λ y. Stands hart q y in
          subst P (sym same) (subst Q is_q (subst R is_g (here (ap (λ (r : HartPace). r.has_stopped) is_q ∙ goes_on))))
