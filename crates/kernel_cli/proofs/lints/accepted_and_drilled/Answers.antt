-- The kernel is the one of the two parts.
use Rattle.std.proofs.Common.{◌≡◌, ◌∙◌, ℕ, List, ◌++◌, ap, subst}
use Rattle.core_invariant.specs.KernelStates.{KernelParts}
use Rattle.kernel_cli.specs.Drills.{IsDrillOrder, drill_report}
use Rattle.kernel_cli.specs.Lints.{routine_accepted}
use Rattle.kernel_cli.proofs.lints.accepted_and_drilled.Goals as goal

pub returns : goal.returns
returns c =
    let report = c.in_ok-drill.field-0.items in
    let drilled = subst (λ (k : KernelParts). (order : List ℕ) × IsDrillOrder k.code c.args.loaded.now order × (report ≡ drill_report k.code c.args.loaded.now order))
    c.in_ok-kernel.ensures.kernel c.in_ok-drill.ensures.text in
    record {
      text = (
        drilled.0,
        drilled.1,
        c.in_ok-append.ensures.items ∙ ap (λ (line : List ℕ). line ++ report) c.in_ok-text.ensures.text
            ∙ ap (λ (r : List ℕ). routine_accepted c.args.routine.now ++ r) drilled.2,
      );
    }
