-- The kernel is that of this project.
use Rattle.std.proofs.Common.{◌≡◌, ℕ, List, subst}
use Rattle.core_invariant.specs.KernelStates.{KernelParts}
use Rattle.kernel_cli.specs.Drills.{IsDrillOrder, drill_report}
use Rattle.kernel_cli.proofs.generated.drill_text.Goals as goal

pub returns : goal.returns
returns c =
    let loaded = c.in_ok-loaded.loaded in
    let text = c.in_ok-drill.field-0.items in
    let drilled = subst (λ (k : KernelParts). (order : List ℕ) × IsDrillOrder k.code loaded order × (text ≡ drill_report k.code loaded order))
    c.in_ok-kernel.ensures.kernel c.in_ok-drill.ensures.text in
    record { text = (loaded, c.in_ok-loaded.ensures.loads, drilled.0, drilled.1, drilled.2) }
