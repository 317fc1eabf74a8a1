-- A run of steps of harts under their plans, with one step more.
use Rattle.std.proofs.Common.{◌≡◌, ℕ, List, [], ◌∷◌, ◌++◌, length, refl, ◌∙◌, length-set}
use Rattle.core_model.specs.declared.plan.Plan.{Plan}
use Rattle.core_model.specs.Orders.{CoarseState, IsLegalEntry}
use Rattle.order_laws.specs.SteppedRuns.{after_one, stepped_from, AreLegalSteps}

module _ (code : List ℕ) (plans : List Plan) where
  pub legal-more : (co : CoarseState) (steps : List ℕ) (hart : ℕ) → AreLegalSteps code plans co steps
      → IsLegalEntry (stepped_from code plans co steps) hart → AreLegalSteps code plans co (steps ++ hart ∷ [])
  unfolding stepped_from AreLegalSteps
  legal-more co [] hart legal entry = (entry, tt)
  legal-more co (first ∷ steps) hart legal entry = (legal.0, legal-more (after_one code plans co first) steps hart legal.1 entry)

  pub stepped-more : (co : CoarseState) (steps : List ℕ) (hart : ℕ)
      → stepped_from code plans co (steps ++ hart ∷ []) ≡ after_one code plans (stepped_from code plans co steps) hart
  unfolding stepped_from
  stepped-more co [] hart = refl
  stepped-more co (first ∷ steps) hart = stepped-more (after_one code plans co first) steps hart

  -- as many paces as before
  pub paces-stay : (co : CoarseState) (steps : List ℕ) → length (stepped_from code plans co steps).paces ≡ length co.paces
  unfolding stepped_from
  paces-stay co [] = refl
  paces-stay co (hart ∷ steps) =
      paces-stay (after_one code plans co hart) steps ∙ length-set co.paces hart _
