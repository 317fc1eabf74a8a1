-- Orders of hart 0 alone, and of boards.
use Rattle.std.proofs.Common.{◌≡◌, ℕ, true, true≢false, List, [], ◌∷◌, get_or, refl, sym, ap, ◌∙◌, subst, arith}
use Rattle.std.specs.List.{AllByRecursion}
use Rattle.core_model.specs.declared.plan.Plan.{Plan}
use Rattle.core_model.specs.Orders.{CoarseState, boot_pace, boot_coarse, after_entry, IsLegalFrom}
use Rattle.order_laws.specs.CoarseRuns.{coarse_from, coarse_state}
use Rattle.order_laws.proofs.LegalOrders.{boards-tell}
use Rattle.ended_laws.specs.Ending.{HaveAllStopped}
use Rattle.ended_laws.specs.LoneOrders.{LoneOrdersAreOne, LoneOrdersEndAll, OrdersAreOnBoards}
use Rattle.ended_laws.proofs.Quiet.{stopped-over}

abbrev HasStopped : CoarseState → Type 0
HasStopped co = (get_or co.paces 0 boot_pace).has_stopped ≡ true

module _ (code : List ℕ) (plans : List Plan) where
  -- no entry of hart 0 is legal where it has found nothing
  none-more : {P : Type 0} (hart : ℕ) (order : List ℕ) (co : CoarseState) → IsLegalFrom code plans co (hart ∷ order) → hart ≡ 0 → HasStopped co → P
  unfolding IsLegalFrom
  none-more hart order co legal is stopped =
      absurd (true≢false (sym stopped ∙ ap (λ n. (get_or co.paces n boot_pace).has_stopped) (sym is) ∙ legal.0.goes_on))

  one-from : (o p : List ℕ) (co : CoarseState)
      → IsLegalFrom code plans co o → AllByRecursion (λ hart. hart ≡ 0) o → HasStopped (coarse_from code plans co o)
      → IsLegalFrom code plans co p → AllByRecursion (λ hart. hart ≡ 0) p → HasStopped (coarse_from code plans co p)
      → o ≡ p
  unfolding IsLegalFrom coarse_from
  one-from [] [] co legal alone stopped legal_p alone_p stopped_p = refl
  one-from [] (y ∷ p) co legal alone stopped legal_p alone_p stopped_p = none-more y p co legal_p alone_p.0 stopped
  one-from (x ∷ o) [] co legal alone stopped legal_p alone_p stopped_p = none-more x o co legal alone.0 stopped_p
  one-from (x ∷ o) (y ∷ p) co legal alone stopped legal_p alone_p stopped_p =
      let same : y ≡ x = alone_p.0 ∙ sym alone.0 in
      let L : ℕ → Type 0 = λ n. IsLegalFrom code plans (after_entry code plans co n) p in
      let S : ℕ → Type 0 = λ n. HasStopped (coarse_from code plans (after_entry code plans co n) p) in
      let rest = one-from o p (after_entry code plans co x) legal.1 alone.1 stopped (subst L same legal_p.1) alone_p.1 (subst S same stopped_p) in
      ap (λ (n : ℕ). n ∷ o) (sym same) ∙ ap (λ (ns : List ℕ). y ∷ ns) rest

pub lone-one : LoneOrdersAreOne
lone-one code loaded o p lone other =
    one-from code.words loaded.plans o p (boot_coarse loaded code) lone.legal lone.alone lone.stopped other.legal other.alone other.stopped

pub lone-ends : LoneOrdersEndAll
lone-ends k kernel loaded fits one order lone =
    let all : HaveAllStopped loaded.harts (coarse_state loaded k.code order) = λ hart low.
    (let first : hart ≡ 0 = omega (arith, one, low) in
    ap (λ n. (get_or (coarse_state loaded k.code order).paces n boot_pace).has_stopped) first ∙ lone.stopped) in
    stopped-over k kernel loaded fits order lone.legal all

pub orders-on-boards : OrdersAreOnBoards
orders-on-boards k kernel loaded fits o p legal other same =
    sym (boards-tell k kernel loaded fits o legal) ∙ same ∙ boards-tell k kernel loaded fits p other
