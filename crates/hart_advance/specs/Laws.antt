-- How a pace goes on at queue actions, and that every hart of a coarse run may advance (this project's own). Each is the contract of a law in
-- `src/laws.rt`.
use Rattle.std.specs.Prelude.{◌≡◌, ℕ, ◌≤◌, false, Option, Some, None}
use Rattle.hart_model.specs.HartState.{HartState}
use Rattle.core_model.specs.declared.action.Action.{Action}
use Rattle.core_model.specs.declared.action.Action.TheVariants.{Took}
use Rattle.core_model.specs.declared.plan.Plan.{Plan}
use Rattle.core_model.specs.declared.loaded.Loaded.{Loaded}
use Rattle.core_model.specs.Loaded.{IsLoaded}
use Rattle.core_model.specs.Orders.{HartPace, CoarseState, boot_pace, plan_at, held_count, pace_after}
use Rattle.core_invariant.specs.KernelStates.{KernelParts, IsKernel}
use Rattle.order_laws.specs.CoarseRuns.{HartShare, IsShareOf}
use Rattle.order_laws.specs.CoarseInvariant.{IsCoarseKept}
use Rattle.timer_plan.specs.Pace.{PaceState, pace_of, after_take}
use Rattle.hart_advance.specs.Pacing.{IsPaceOf, IsUnderKernel}
use Rattle.hart_advance.specs.Advancing.{CanAdvance}

-- The pace of a plan stands for where each hart is before its first take. A take that gives a context draws a quantum; another action, after
-- which the hart holds nothing, leaves the pace.
pub record PacesFollowActions : Type 0 where
  pub boots : (plan : Plan) (h : HartState) → h.held ≡ None → IsPaceOf plan boot_pace h (pace_of plan 0 0)
  pub takes : (plan : Plan) (progress : HartPace) (before after : HartState) (pace : PaceState) (task : ℕ) → IsPaceOf plan progress before pace
      → IsPaceOf plan (pace_after progress (held_count after.held) (Some (Took task))) after (after_take pace)
  pub others : (plan : Plan) (progress : HartPace) (before after : HartState) (pace : PaceState) (action : Option Action)
      → ((task : ℕ) → ¬ (action ≡ Some (Took task))) → after.held ≡ None → IsPaceOf plan progress before pace
      → IsPaceOf plan (pace_after progress (held_count after.held) action) after pace

-- Each hart of a coarse run that is kept may advance, unless it has found nothing, wherever there is room for 30,000 entries.
abbrev pub HartsCanAdvance : Type 0
HartsCanAdvance = (k : KernelParts) → IsKernel k → (loaded : Loaded) → IsLoaded loaded → (co : CoarseState) → IsCoarseKept k loaded co
    → (number : ℕ) (s : HartShare) → IsShareOf co number s → s.pace.has_stopped ≡ false
    → (pace : PaceState) → IsPaceOf (plan_at loaded.plans number) s.pace s.hart pace → (room : ℕ) → 30000 ≤ room
    → IsUnderKernel k.code.words s.hart × CanAdvance k.code.words s.hart pace room
