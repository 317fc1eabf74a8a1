-- What was told along an order is told entry by entry.
use Rattle.std.proofs.Common.{◌≡◌, ℕ, List, [], ◌∷◌, ◌++◌, refl, sym, ap, ◌∙◌, append-nil, append_assoc}
use Rattle.core_model.specs.declared.event.Event.{Event}
use Rattle.core_model.specs.declared.plan.Plan.{Plan}
use Rattle.core_model.specs.declared.loaded.Loaded.{Loaded}
use Rattle.core_model.specs.Core.{CoreState}
use Rattle.core_model.specs.Orders.{HartPace, CoarseState, StepsToAction, boot_coarse, max_steps, steps_of_entry, after_entry, fine_from}
use Rattle.core_invariant.specs.KernelStates.{KernelParts}
use Rattle.order_laws.specs.CoarseRuns.{coarse_from, coarse_state}
use Rattle.order_laws.specs.SteppedRuns.{next_steps}
use Rattle.order_laws.proofs.AsEvents.{coarse-states, coarse-append}
use Rattle.kernel_core.specs.History.{history_at_boot}
use Rattle.kernel_core.specs.PacedHistory.{PacedHistory, next_steps_of, with_steps, acted, ordered, paced_at_boot}
use Rattle.kernel_core.specs.Laws.{OrdersGrow}

-- the events of an order and a further one
fine-append : (code : List ℕ) (plans : List Plan) (co : CoarseState) (seen rest : List ℕ)
    → fine_from code plans co (seen ++ rest) ≡ fine_from code plans co seen ++ fine_from code plans (coarse_from code plans co seen) rest
unfolding fine_from coarse_from
fine-append code plans co [] rest = refl
fine-append code plans co (hart ∷ seen) rest =
    let steps = steps_of_entry code plans co hart in
    let next = after_entry code plans co hart in
    ap (λ es. steps.events ++ es) (fine-append code plans next seen rest)
    ∙ sym (append_assoc steps.events (fine_from code plans next seen) (fine_from code plans (coarse_from code plans next seen) rest))

one-fine : (code : List ℕ) (plans : List Plan) (co : CoarseState) (hart : ℕ)
    → fine_from code plans co (hart ∷ []) ≡ (steps_of_entry code plans co hart).events
unfolding fine_from
one-fine code plans co hart = append-nil (steps_of_entry code plans co hart).events

one-coarse : (code : List ℕ) (plans : List Plan) (co : CoarseState) (hart : ℕ) → coarse_from code plans co (hart ∷ []) ≡ after_entry code plans co hart
unfolding coarse_from
one-coarse code plans co hart = refl

at-boot : (loaded : Loaded) (kernel : KernelParts) → ordered loaded kernel [] ≡ paced_at_boot loaded kernel
unfolding fine_from coarse_from
at-boot loaded kernel = refl

module _ (loaded : Loaded) (kernel : KernelParts) (order : List ℕ) (hart : ℕ) where
  abbrev code : List ℕ
  code = kernel.code.words

  abbrev co : CoarseState
  co = coarse_state loaded kernel.code order

  abbrev entry : StepsToAction
  entry = steps_of_entry code loaded.plans co hart

  -- the steps that come next are those of the entry
  same-steps : next_steps_of (ordered loaded kernel order) hart max_steps ≡ entry
  same-steps =
      ap (λ (c : CoreState). next_steps code loaded.plans (record { core = c; paces = co.paces }) hart max_steps)
      (sym (coarse-states loaded kernel.code order))

  events-so : fine_from code loaded.plans (boot_coarse loaded kernel.code) (order ++ hart ∷ [])
      ≡ fine_from code loaded.plans (boot_coarse loaded kernel.code) order ++ entry.events
  events-so =
      fine-append code loaded.plans (boot_coarse loaded kernel.code) order (hart ∷ [])
      ∙ ap (λ es. fine_from code loaded.plans (boot_coarse loaded kernel.code) order ++ es) (one-fine code loaded.plans co hart)

  paces-so : (coarse_state loaded kernel.code (order ++ hart ∷ [])).paces ≡ (after_entry code loaded.plans co hart).paces
  paces-so =
      ap (λ (x : CoarseState). x.paces)
      (coarse-append code loaded.plans (boot_coarse loaded kernel.code) order (hart ∷ []) ∙ one-coarse code loaded.plans co hart)

  pub order-grows : acted (ordered loaded kernel order) hart ≡ ordered loaded kernel (order ++ hart ∷ [])
  order-grows =
      let P : List Event → List HartPace → PacedHistory =
      λ es ps. record (paced_at_boot loaded kernel) { history = record (history_at_boot loaded kernel) { events = es }; paces = ps } in
      ap (with_steps (ordered loaded kernel order) hart) same-steps
      ∙ ap (λ es. P es (after_entry code loaded.plans co hart).paces) (sym events-so)
      ∙ ap (λ ps. P (fine_from code loaded.plans (boot_coarse loaded kernel.code) (order ++ hart ∷ [])) ps) (sym paces-so)

pub orders-grow : OrdersGrow
orders-grow = record { none = at-boot; more = order-grows }
