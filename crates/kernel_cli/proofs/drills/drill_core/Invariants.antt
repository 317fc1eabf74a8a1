-- The core was told an order of hart 0 alone.
use Rattle.std.proofs.Common.{ℕ, List, ◌-◌, length}
use Rattle.kernel_cli.specs.Drills.{IsDrilling}
use Rattle.kernel_cli.proofs.drills.drill_core.Given as goal

abbrev pub invariant-loop-core : goal.invariant-loop-core
invariant-loop-core g l = (done : List ℕ) × IsDrilling g.K.Keeper.stands g.K.Keeper.room_of l.fn.kernel l.fn.loaded done l.core

abbrev pub decreases-loop-core : goal.decreases-loop-core
decreases-loop-core g l = 1048576 - length l.core.run.board.lists.order
