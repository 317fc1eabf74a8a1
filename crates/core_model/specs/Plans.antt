-- What a plan says (this project's own). A take of a hart counts where it gives a context.
use Rattle.std.specs.Prelude.{ℕ, zero, suc, slice_index_or}
use Rattle.core_model.specs.declared.plan.Plan.{Plan}

-- the quantum that take number k draws, counted from 0: the listed one at k, and the tail once these are used up
abbrev pub quantum_of : Plan → ℕ → ℕ
quantum_of plan k = slice_index_or plan.quanta k plan.tail

-- the quantum of the last of so many takes, and 0 before the first
abbrev pub quantum_after : Plan → ℕ → ℕ
quantum_after plan zero = 0
quantum_after plan (suc k) = quantum_of plan k
