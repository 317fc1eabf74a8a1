-- The core was told the order of the bundle but for the entries that are left.
use Rattle.std.proofs.Common.{◌-◌, ◌++◌, length, replicate}
use Rattle.core_model.specs.Events.{order_of}
use Rattle.kernel_cli.specs.Scripts.{entries_each}
use Rattle.kernel_cli.specs.Playing.{StandsAlong}
use Rattle.kernel_cli.proofs.replays.replay_core.Given as goal

abbrev pub invariant-loop-left : goal.invariant-loop-left
invariant-loop-left g l = record {
  stands : StandsAlong g.K.Keeper.stands g.K.Keeper.room_of (g.K.Keeper.room_of l.fn.keeper - entries_each) l.fn.loaded l.at
      (replicate l.left l.first.hart ++ order_of l.others) l.core;
}

abbrev pub decreases-loop-left : goal.decreases-loop-left
decreases-loop-left g l = l.left

abbrev pub invariant-loop-rest : goal.invariant-loop-rest
invariant-loop-rest g l = record {
  stands : StandsAlong g.K.Keeper.stands g.K.Keeper.room_of (g.K.Keeper.room_of l.fn.keeper - entries_each) l.fn.loaded l.at (order_of l.rest) l.core;
}

abbrev pub decreases-loop-rest : goal.decreases-loop-rest
decreases-loop-rest g l = length l.rest
