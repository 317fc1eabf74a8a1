-- What each refusal says is so.
use Rattle.std.proofs.Common.{◌≡◌, ℕ, ◌<◌, ◌≤◌, false, nat_lt, nat_le, List, [], ◌∷◌, length, map, Some, refl, subst, arith, tests}
use Rattle.std.specs.List.{Contains}
use Rattle.core_model.specs.Events.{event_count, entry_count}
use Rattle.isa_model.specs.Limits.{max_action_bound}
use Rattle.bundle_text.specs.declared.bundle.Bundle.{Bundle}
use Rattle.bundle_text.specs.declared.bundle.PlanText.{PlanText}
use Rattle.rv_loader.specs.declared.coding.CodedTask.{CodedTask}
use Rattle.rv_loader.specs.declared.fault.LoadFault.{LoadFault}
use Rattle.rv_loader.specs.declared.fault.LoadFault.TheVariants.{Asm, Limit, PlanForMissingHart, TooLong, Memory}
use Rattle.rv_loader.specs.declared.fault.What.{What}
use Rattle.rv_loader.specs.declared.fault.What.TheVariants.{Tasks, Code, Tape, Quanta, Worlds, Events, Order}
use Rattle.rv_loader.specs.Refusals.{first_of, least, most, limit_refusal, task_refusal, tasks_refusal, quanta_refusal, worlds_refusal, world_refusal, events_refusal, order_refusal, limits_refusal, hart_refusal, bound_of, bound_refusal, refusal_of}
use Rattle.rv_loader.specs.Valid.{IsSo}
use Rattle.rv_loader.proofs.FirstOf.{first_says, first_says-map, guard_some, outside}

-- what a refusal says that comes after the assembly
abbrev pub IsSoLater : Bundle → ℕ → LoadFault → Type 0
IsSoLater bundle harts (Asm fault) = ⊥
IsSoLater bundle harts (Limit what got) = IsSo bundle harts (Limit what got)
IsSoLater bundle harts (PlanForMissingHart hart) = IsSo bundle harts (PlanForMissingHart hart)
IsSoLater bundle harts (TooLong bound) = IsSo bundle harts (TooLong bound)
IsSoLater bundle harts Memory = ⊥

limit_is_so : (bundle : Bundle) (harts : ℕ) (what : What) (got : ℕ) (fault : LoadFault) → limit_refusal what got ≡ Some fault → IsSoLater bundle harts fault
limit_is_so bundle harts what got fault h =
    let guarded = guard_some _ (Limit what got) fault h in
    subst (λ (f : LoadFault). IsSoLater bundle harts f) guarded.1 (outside (least what) (most what) got guarded.0)

task_is_so : (bundle : Bundle) (harts : ℕ) (task : CodedTask) (fault : LoadFault) → task_refusal task ≡ Some fault → IsSoLater bundle harts fault
task_is_so bundle harts task fault h =
    first_says (IsSoLater bundle harts) (limit_refusal Code (length task.code) ∷ limit_refusal Tape (length task.tape) ∷ []) fault
    (limit_is_so bundle harts Code (length task.code), (limit_is_so bundle harts Tape (length task.tape), tt)) h

limits_are_so : (bundle : Bundle) (harts : ℕ) (tasks : List CodedTask) (fault : LoadFault) → limits_refusal bundle tasks ≡ Some fault → IsSoLater bundle harts fault
limits_are_so bundle harts tasks fault h =
    let so = limit_is_so bundle harts in
    let P = IsSoLater bundle harts in
    first_says P (
    tasks_refusal tasks
    ∷ first_of (map task_refusal tasks)
    ∷ first_of (map quanta_refusal bundle.plans)
    ∷ worlds_refusal bundle.worlds
    ∷ first_of (map world_refusal bundle.worlds)
    ∷ events_refusal bundle.events
    ∷ order_refusal bundle.order
    ∷ []) fault (
      so Tasks (length tasks),
      (
        λ f. first_says-map P task_refusal tasks f (λ task g within. task_is_so bundle harts task g),
        (
          λ f. first_says-map P quanta_refusal bundle.plans f (λ line g within. so Quanta (length line.plan.quanta) g),
          (
            so Worlds (length bundle.worlds),
            (
              λ f. first_says-map P world_refusal bundle.worlds f (λ world g within. so Tape (length world.tape) g),
              (so Events (event_count bundle.events), (so Order (entry_count bundle.order), tt)),
            ),
          ),
        ),
      ),
    ) h

not_below : (n m : ℕ) → nat_lt n m ≡ false → m ≤ n
not_below n m h = grind (arith, tests)

not_within : (n m : ℕ) → nat_le n m ≡ false → m < n
not_within n m h = grind (arith, tests)

hart_is_so : (bundle : Bundle) (harts : ℕ) (line : PlanText) (fault : LoadFault) → Contains bundle.plans line → hart_refusal harts line ≡ Some fault → IsSoLater bundle harts fault
hart_is_so bundle harts line fault within h =
    let guarded = guard_some _ (PlanForMissingHart line.hart) fault h in
    subst (λ (f : LoadFault). IsSoLater bundle harts f) guarded.1 (not_below line.hart harts guarded.0, (line, within, refl))

bound_is_so : (bundle : Bundle) (harts : ℕ) (fault : LoadFault) → bound_refusal (bound_of bundle harts) ≡ Some fault → IsSoLater bundle harts fault
bound_is_so bundle harts fault h =
    let guarded = guard_some _ (TooLong (bound_of bundle harts)) fault h in
    subst (λ (f : LoadFault). IsSoLater bundle harts f) guarded.1 (refl, not_within (bound_of bundle harts) max_action_bound guarded.0)

pub refusal_is_so : (bundle : Bundle) (harts : ℕ) (tasks : List CodedTask) (fault : LoadFault) → refusal_of bundle harts tasks ≡ Some fault → IsSoLater bundle harts fault
refusal_is_so bundle harts tasks fault h =
    let P = IsSoLater bundle harts in
    first_says P (limits_refusal bundle tasks ∷ first_of (map (hart_refusal harts) bundle.plans) ∷ bound_refusal (bound_of bundle harts) ∷ []) fault (
      limits_are_so bundle harts tasks,
      (λ f. first_says-map P (hart_refusal harts) bundle.plans f (λ line g. hart_is_so bundle harts line g), (bound_is_so bundle harts, tt)),
    ) h
