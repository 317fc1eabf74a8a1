use Rattle.std.proofs.Common.{◌≡◌, ◌++◌, map, length}
use Rattle.std.specs.Vec.Iter.{into_iter_items, into_iter_len}
use Rattle.turn_lock.specs.SeatView.{view_after_joins}
use Rattle.turn_lock.specs.Passes.{pass_seen}
use Rattle.turn_lock.proofs.turns.Turns.close.Given as goal

abbrev pub invariant-loop-pass : goal.invariant-loop-pass
invariant-loop-pass g l =
    (goal.iterator-loop-pass g).can_next l.pass-iterator × (goal.iterator-loop-pass g).is_finite l.pass-iterator
    × (l.yielded ++ into_iter_items l.pass-iterator ≡ into_iter_items l.initial.pass-iterator)
    × (into_iter_len l.pass-iterator ≡ length (into_iter_items l.pass-iterator))
    × (l.first.table_id ≡ l.initial.first.table_id) × (l.first.me.1 ≡ l.initial.first.me.1)
    × (l.first.me.0 ≡ view_after_joins l.initial.first.me.0 (map pass_seen l.yielded))
