-- Sums of what a bundle in range states fit 64 bits.
use Rattle.std.proofs.Common.{◌≡◌, ◌*◌, ◌^◌, ◌<◌, ◌≤◌, List, length, None, map, arith}
use Rattle.std.specs.List.{All, AllByRecursion}
use Rattle.std.proofs.lemmas.List.Elements.{All-from_recursion, All-weaker}
use Rattle.std.proofs.lemmas.List.Sums.{sum_by-le}
use Rattle.core_model.specs.declared.event.EventRun.{EventRun}
use Rattle.core_model.specs.declared.event.OrderRun.{OrderRun}
use Rattle.core_model.specs.Events.{event_count, entry_count}
use Rattle.bundle_text.specs.declared.bundle.Bundle.{Bundle}
use Rattle.bundle_text.specs.declared.bundle.PlanText.{PlanText}
use Rattle.bundle_text.specs.Range.{IsShort, IsEventRunInRange, IsOrderRunInRange, IsTaskInRange, IsInRange}
use Rattle.rv_loader.specs.declared.fault.What.TheVariants.{Quanta}
use Rattle.rv_loader.specs.Refusals.{first_of, quanta_refusal, quanta_listed, fuels_stated}
use Rattle.rv_loader.proofs.FirstOf.{all_none-map, limit_kept}

pub event_count_fits : (runs : List EventRun) → IsShort runs → AllByRecursion IsEventRunInRange runs → event_count runs < 2 ^ 64
event_count_fits runs short range =
    let each : All (λ run. run.times ≤ 1048576) runs = All-weaker IsEventRunInRange _ (λ run h. h.times.high) runs (All-from_recursion IsEventRunInRange runs range) in
    omega (arith, sum_by-le (λ run. run.times) 1048576 runs each)

pub entry_count_fits : (runs : List OrderRun) → IsShort runs → AllByRecursion IsOrderRunInRange runs → entry_count runs < 2 ^ 64
entry_count_fits runs short range =
    let each : All (λ run. run.times ≤ 1048576) runs = All-weaker IsOrderRunInRange _ (λ run h. h.times.high) runs (All-from_recursion IsOrderRunInRange runs range) in
    omega (arith, sum_by-le (λ run. run.times) 1048576 runs each)

-- Plan lines that aren't refused have at most 1,024 quanta each.
pub few_quanta : (lines : List PlanText) → first_of (map quanta_refusal lines) ≡ None → All (λ line. length line.plan.quanta ≤ 1024) lines
few_quanta lines h =
    All-weaker (λ line. quanta_refusal line ≡ None) _ (λ line kept. (limit_kept Quanta (length line.plan.quanta) kept).1) lines
    (All-from_recursion _ lines (all_none-map quanta_refusal lines h))

pub record AreSmall (bundle : Bundle) : Type 0 where
  pub quanta : quanta_listed bundle.plans ≤ 2 ^ 32 * 1024
  pub fuels : fuels_stated bundle.tasks ≤ 2 ^ 32 * 100000
  pub tasks : length bundle.tasks < 2 ^ 32

pub sums_are_small : (bundle : Bundle) → IsInRange bundle → first_of (map quanta_refusal bundle.plans) ≡ None → AreSmall bundle
sums_are_small bundle range h =
    let fuels : All (λ text. text.fuel ≤ 100000) bundle.tasks = All-weaker IsTaskInRange _ (λ text t. t.fuel_high) bundle.tasks (All-from_recursion IsTaskInRange bundle.tasks range.tasks) in
    let tasks = range.tasks_short in
    let plans = range.plans_short in
    record {
      quanta = omega (arith, sum_by-le (λ line. length line.plan.quanta) 1024 bundle.plans (few_quanta bundle.plans h));
      fuels = omega (arith, sum_by-le (λ text. text.fuel) 100000 bundle.tasks fuels);
      tasks = tasks;
    }
