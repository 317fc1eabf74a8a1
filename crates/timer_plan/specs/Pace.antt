-- The pace of a hart (this project's own). A take of the hart counts where it gives a context.
use Rattle.std.specs.Prelude.{ℕ, List, drop, slice_index_or}
use Rattle.core_model.specs.Plans.{quantum_after}
use Rattle.core_model.specs.declared.plan.Plan.{Plan}

-- The listed quanta that no take has drawn yet, the tail, the quantum of the last take, and how many instructions ran since.
pub record PaceState : Type 0 where
  pub left : List ℕ
  pub tail : ℕ
  pub quantum : ℕ
  pub ran : ℕ

-- the pace of a plan after so many takes, where so many instructions ran since the last
abbrev pub pace_of : Plan → ℕ → ℕ → PaceState
pace_of plan takes ran = record {
  left = drop takes plan.quanta;
  tail = plan.tail;
  quantum = quantum_after plan takes;
  ran = ran;
}

-- the pace after one take more
abbrev pub after_take : PaceState → PaceState
after_take pace = record { left = drop 1 pace.left; tail = pace.tail; quantum = slice_index_or pace.left 0 pace.tail; ran = 0 }
