-- The contexts so far are ready, each in the list of its band.
use Rattle.std.proofs.Common.{◌≡◌, ◌++◌, length}
use Rattle.std.specs.Vec.Iter.{into_iter_items, into_iter_len}
use Rattle.core_model.specs.Board.{by_bands}
use Rattle.ready_queue.proofs.ready.Ready.again.Given as goal

abbrev pub invariant-loop-context : goal.invariant-loop-context
invariant-loop-context l = record {
  items : l.yielded ++ into_iter_items l.context-iterator ≡ into_iter_items l.initial.context-iterator;
  left : into_iter_len l.context-iterator ≡ length (into_iter_items l.context-iterator);
  ready : l.ready ≡ record { lists = by_bands l.fn.bands.items l.yielded; bands = l.fn.bands.items; room = l.fn.room };
}
