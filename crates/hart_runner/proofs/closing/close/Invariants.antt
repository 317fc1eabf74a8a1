-- What the workers so far left, and the places that are left.
use Rattle.std.proofs.Common.{Some, slice_get, ◌≡◌, ℕ, ◌+◌, ◌≤◌, length, vec_len, vec_capacity}
use Rattle.std.specs.Vec.Iter.{into_iter_items, into_iter_len}
use Rattle.hart_model.specs.HartState.{HartState}
use Rattle.probe_log.specs.Counts.{Counts}
use Rattle.turn_lock.specs.Passes.{ArePassesInOrder}
use Rattle.hart_runner.specs.declared.receipt.Receipt.{Receipt}
use Rattle.hart_runner.specs.Places.{IsEnded, IsServedPlace}
use Rattle.hart_runner.proofs.closing.close.Given as goal

abbrev pub invariant-loop-place : goal.invariant-loop-place
invariant-loop-place l = record {
  left : vec_len l.harts + length (into_iter_items l.place-iterator) ≡ vec_len l.fn.places;
  whole : into_iter_len l.place-iterator ≡ length (into_iter_items l.place-iterator);
  tallies : vec_len l.tallies ≡ vec_len l.harts;
  passes : vec_len l.passes ≡ vec_len l.harts;
  receipts : vec_len l.receipts ≡ vec_len l.harts;
  hart_room : vec_len l.fn.places ≤ vec_capacity l.harts;
  tally_room : vec_len l.fn.places ≤ vec_capacity l.tallies;
  pass_room : vec_len l.fn.places ≤ vec_capacity l.passes;
  receipt_room : vec_len l.fn.places ≤ vec_capacity l.receipts;
  served : (i : ℕ) (p : _) → slice_get (into_iter_items l.place-iterator) i ≡ Some p → IsServedPlace l.lock (vec_len l.harts + i) p;
  in_order : ArePassesInOrder l.lock l.passes.items;
  each : (i : ℕ) (h : HartState) (t : Counts) (p : _) (r : Receipt) → slice_get l.harts.items i ≡ Some h → slice_get l.tallies.items i ≡ Some t
      → slice_get l.passes.items i ≡ Some p → slice_get l.receipts.items i ≡ Some r
      → IsEnded l.lock i (record { hart = h; tally = t; pass = p; receipt = r });
}
