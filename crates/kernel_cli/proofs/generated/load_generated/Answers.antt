-- A generated bundle isn't refused.
use Rattle.std.proofs.Common.{◌≡◌, ◌≢◌, ◌∙◌, Result, Ok, Err, sym, ap, arith}
use Rattle.bundle_text.specs.declared.bundle.Bundle.{Bundle}
use Rattle.core_model.specs.declared.loaded.Loaded.{Loaded}
use Rattle.rv_loader.specs.Loading.{loading_of}
use Rattle.rv_loader.specs.declared.fault.LoadFault.{LoadFault}
use Rattle.rv_loader.specs.declared.fault.LoadFault.TheVariants.{Memory}
use Rattle.kernel_cli.proofs.generated.load_generated.Goals as goal

-- what loads isn't refused
loads_or_not : (answer : Result Loaded LoadFault) (loaded : Loaded) (fault : LoadFault) → answer ≡ Ok loaded → answer ≡ Err fault → ⊥
loads_or_not answer loaded fault loads refused = absurd (cc (sym loads ∙ refused))

pub unreachable-requires : goal.unreachable-requires
unreachable-requires c =
    let loads = c.generated_bundles_load.ensures.law c.args.seed c.args.tasks 1 c.requires.tasks.0 c.requires.tasks.1 (omega arith) (omega arith) in
    let other : c.in-Err-Asm.field-0 ≢ Memory = λ e. absurd (cc (sym c.in-Err-Asm.field-0-is ∙ e)) in
    loads_or_not (loading_of c.in_ok-bundle.bundle 1) loads.0 c.in-Err-Asm.field-0
    (ap (λ (b : Bundle). loading_of b 1) c.in_ok-bundle.ensures.bundle ∙ loads.1) (c.in-Err-Asm.ensures.refused other)

pub unreachable-requires-in-Err-Limit : goal.unreachable-requires-in-Err-Limit
unreachable-requires-in-Err-Limit c =
    let loads = c.generated_bundles_load.ensures.law c.args.seed c.args.tasks 1 c.requires.tasks.0 c.requires.tasks.1 (omega arith) (omega arith) in
    let other : c.in-Err-Limit.field-0 ≢ Memory = λ e. absurd (cc (sym c.in-Err-Limit.field-0-is ∙ e)) in
    loads_or_not (loading_of c.in_ok-bundle.bundle 1) loads.0 c.in-Err-Limit.field-0
    (ap (λ (b : Bundle). loading_of b 1) c.in_ok-bundle.ensures.bundle ∙ loads.1) (c.in-Err-Limit.ensures.refused other)

pub unreachable-requires-in-Err-PlanForMissingHart : goal.unreachable-requires-in-Err-PlanForMissingHart
unreachable-requires-in-Err-PlanForMissingHart c =
    let loads = c.generated_bundles_load.ensures.law c.args.seed c.args.tasks 1 c.requires.tasks.0 c.requires.tasks.1 (omega arith) (omega arith) in
    let other : c.in-Err-PlanForMissingHart.field-0 ≢ Memory = λ e. absurd (cc (sym c.in-Err-PlanForMissingHart.field-0-is ∙ e)) in
    loads_or_not (loading_of c.in_ok-bundle.bundle 1) loads.0 c.in-Err-PlanForMissingHart.field-0
    (ap (λ (b : Bundle). loading_of b 1) c.in_ok-bundle.ensures.bundle ∙ loads.1) (c.in-Err-PlanForMissingHart.ensures.refused other)

pub unreachable-requires-in-Err-TooLong : goal.unreachable-requires-in-Err-TooLong
unreachable-requires-in-Err-TooLong c =
    let loads = c.generated_bundles_load.ensures.law c.args.seed c.args.tasks 1 c.requires.tasks.0 c.requires.tasks.1 (omega arith) (omega arith) in
    let other : c.in-Err-TooLong.field-0 ≢ Memory = λ e. absurd (cc (sym c.in-Err-TooLong.field-0-is ∙ e)) in
    loads_or_not (loading_of c.in_ok-bundle.bundle 1) loads.0 c.in-Err-TooLong.field-0
    (ap (λ (b : Bundle). loading_of b 1) c.in_ok-bundle.ensures.bundle ∙ loads.1) (c.in-Err-TooLong.ensures.refused other)
