-- The tasks before this slot are ready in the slots of their numbers, by their bands.
use Rattle.std.proofs.Common.{◌≡◌, take, drop}
use Rattle.core_model.specs.Board.{by_bands, contexts_from}
use Rattle.ready_queue.proofs.board.Board.boot.Given as goal

abbrev pub invariant-loop-slot : goal.invariant-loop-slot
invariant-loop-slot l = record {
  waiting : l.waiting.items ≡ drop l.slot l.fn.bodies.items;
  ready : l.ready ≡ record { lists = by_bands l.fn.bands.items (contexts_from 0 (take l.slot l.fn.bodies.items)); bands = l.fn.bands.items; room = l.fn.slots };
}
