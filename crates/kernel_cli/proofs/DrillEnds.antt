-- Orders of hart 0 alone: there is one, and it ends all tasks.
use Rattle.std.proofs.Common.{◌≡◌, ℕ, List, length, Option, Some, None, Ok, Err, refl, ap, ◌∙◌, arith}
use Rattle.core_model.specs.declared.loaded.Loaded.{Loaded}
use Rattle.core_model.specs.KernelWords.{KernelCodeState}
use Rattle.core_model.specs.Orders.{coarse_after}
use Rattle.ended_laws.specs.LoneOrders.{IsLoneOrder}
use Rattle.ended_laws.proofs.OneHart.{lone-one, lone-ends}
use Rattle.hart_runner.proofs.Over.{have-ends}
use Rattle.bundle_text.specs.declared.bundle.Bundle.{Bundle}
use Rattle.masked_gen.specs.Generator.{generated}
use Rattle.rv_loader.specs.declared.fault.LoadFault.{LoadFault}
use Rattle.rv_loader.specs.Coding.{coded_tasks}
use Rattle.rv_loader.specs.Loading.{loaded_of, unless_refused, loading_of_coded, loading_of}
use Rattle.rv_loader.specs.Refusals.{refusal_of}
use Rattle.rv_loader.specs.Valid.{LoadingIsSound}
use Rattle.kernel_cli.specs.Drills.{IsDrillOrder}
use Rattle.kernel_cli.specs.DrillLaws.{DrillOrdersAreOne, DrillsEndAll}
use Rattle.kernel_cli.proofs.SoundCores.{generated_is_loaded}

lone : (code : KernelCodeState) (loaded : Loaded) (order : List ℕ) → IsDrillOrder code loaded order → IsLoneOrder code loaded order
lone code loaded order drill = record { legal = drill.legal; alone = drill.alone; stopped = drill.stopped }

pub drill-one : DrillOrdersAreOne
drill-one code loaded o p drill other = lone-one code loaded o p (lone code loaded o drill) (lone code loaded p other)

-- A bundle loads with as many harts as are asked for.
by-refusal : (harts : ℕ) (made loaded : Loaded) (refusal : Option LoadFault) → made.harts ≡ harts → unless_refused refusal made ≡ Ok loaded
    → loaded.harts ≡ harts
by-refusal harts made loaded (Some fault) asked e = absurd (cc e)
by-refusal harts made loaded None asked e = let same : loaded ≡ made = cc e in ap (λ (l : Loaded). l.harts) same ∙ asked

by-coded : (bundle : Bundle) (harts : ℕ) (loaded : Loaded) (coded : _) → loading_of_coded bundle harts coded ≡ Ok loaded → loaded.harts ≡ harts
by-coded bundle harts loaded (Err fault) e = absurd (cc e)
by-coded bundle harts loaded (Ok tasks) e = by-refusal harts (loaded_of bundle harts tasks) loaded (refusal_of bundle harts tasks) refl e

loads-harts : (bundle : Bundle) (harts : ℕ) (loaded : Loaded) → loading_of bundle harts ≡ Ok loaded → loaded.harts ≡ harts
loads-harts bundle harts loaded e = by-coded bundle harts loaded (coded_tasks bundle.tasks) e

pub drills-end : LoadingIsSound → DrillsEndAll
drills-end law k kernel seed tasks few loaded loads order drill =
    let fits = generated_is_loaded law seed tasks few loaded loads in
    let one = loads-harts (generated seed tasks) 1 loaded loads in
    have-ends (length loaded.tasks) (coarse_after loaded k.code order)
    (lone-ends k kernel loaded fits one order (lone k.code loaded order drill)) 0 (length loaded.tasks) (omega arith)
