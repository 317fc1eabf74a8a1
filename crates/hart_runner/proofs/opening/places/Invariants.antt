-- The places so far, and the passes that are left.
use Rattle.std.proofs.Common.{Some, slice_get, ◌≡◌, ℕ, ◌+◌, ◌≤◌, length, vec_len, vec_capacity}
use Rattle.std.specs.Vec.Iter.{into_iter_items, into_iter_len}
use Rattle.turn_lock.specs.Passes.{IsNewPass}
use Rattle.hart_runner.specs.Places.{AreReadyPlaces}
use Rattle.hart_runner.proofs.opening.places.Given as goal

abbrev pub invariant-loop-pass : goal.invariant-loop-pass
invariant-loop-pass l = record {
  left : l.number + length (into_iter_items l.pass-iterator) ≡ vec_len l.fn.passes;
  whole : into_iter_len l.pass-iterator ≡ length (into_iter_items l.pass-iterator);
  count : vec_len l.places ≡ l.number;
  room : vec_len l.fn.passes ≤ vec_capacity l.places;
  new : (i : ℕ) (p : _) → slice_get (into_iter_items l.pass-iterator) i ≡ Some p → IsNewPass l.lock (l.number + i) p;
  made : AreReadyPlaces l.lock l.places.items;
}
