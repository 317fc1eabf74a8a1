-- The report of a run is that of one legal order.
use Rattle.std.proofs.Common.{◌≡◌, ℕ, ◌<◌, ◌≤◌, List, [], ◌∷◌, length, sym, ◌∙◌, subst, arith}
use Rattle.std.specs.List.{AllByRecursion}
use Rattle.isa_model.specs.Limits.{max_harts, max_action_bound}
use Rattle.core_model.specs.declared.loaded.Loaded.{Loaded}
use Rattle.core_model.specs.Loaded.{IsLoaded, action_bound_of}
use Rattle.core_model.specs.Orders.{coarse_after, IsLegal}
use Rattle.core_invariant.specs.KernelStates.{KernelParts, IsKernel}
use Rattle.order_laws.proofs.LegalOrders.{boards-tell, legal-orders}
use Rattle.ended_laws.proofs.Stopping.{legal-names}
use Rattle.kernel_core.specs.Snapshots.{snapshot_of}
use Rattle.report_laws.specs.Laws.{IsOrderOfBytes, RunReportsTellOrders}
use Rattle.report_laws.proofs.OrderOnce.{report_once}

below : (harts : ℕ) → harts < 256 → (order : List ℕ) → AllByRecursion (λ hart. hart < harts) order → AllByRecursion (λ hart. hart < 256) order
below harts few [] all = tt
below harts few (hart ∷ order) all = (let low = all.0 in omega (arith, few, low), below harts few order all.1)

module _ (k : KernelParts) (kernel : IsKernel k) (loaded : Loaded) (fits : IsLoaded loaded) where
  of-bytes : (order : List ℕ) → IsLegal loaded k.code order → IsOrderOfBytes order
  of-bytes order legal =
      let few = fits.limits.harts_high in
      let most : max_harts < 256 = omega arith in
      let bounded = legal-orders k kernel loaded fits order legal in
      let bound : action_bound_of loaded ≤ max_action_bound = fits.bound in
      record {
        harts = below loaded.harts (omega (arith, few, most)) order (legal-names k kernel loaded fits order legal);
        entries = omega (arith, bounded, bound);
      }

  its-order : (order : List ℕ) → IsLegal loaded k.code order → (coarse_after loaded k.code order).board.order ≡ order
  its-order order legal = boards-tell k kernel loaded fits order legal

  told : (order : List ℕ) → IsLegal loaded k.code order → IsOrderOfBytes (coarse_after loaded k.code order).board.order
  told order legal = subst IsOrderOfBytes (sym (its-order order legal)) (of-bytes order legal)

pub run-once : RunReportsTellOrders
run-once k kernel loaded fits o p legal other same =
    let orders = report_once (snapshot_of (length loaded.tasks) (coarse_after loaded k.code o)) (snapshot_of (length loaded.tasks) (coarse_after loaded k.code p))
    (told k kernel loaded fits o legal) (told k kernel loaded fits p other) same in
    sym (its-order k kernel loaded fits o legal) ∙ orders ∙ its-order k kernel loaded fits p other
