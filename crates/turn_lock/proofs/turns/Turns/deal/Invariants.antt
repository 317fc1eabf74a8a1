use Rattle.std.proofs.Common.{Some, slice_get, ◌≡◌, ℕ, ◌+◌, ◌≤◌, [], vec_len, vec_capacity}
use Rattle.turn_lock.specs.SeatView.{first_view}
use Rattle.turn_lock.specs.Passes.{lock_frame, IsNewPass}
use Rattle.turn_lock.proofs.turns.Turns.deal.Given as goal

abbrev pub invariant-loop-number : goal.invariant-loop-number
invariant-loop-number g l =
    (l.first.table_id ≡ l.initial.first.table_id) × (l.first.me.1 ≡ []) × (l.first.me.0 ≡ first_view (lock_frame l.self) l._number)
    × (vec_len l.passes + 1 ≡ l._number) × (l.seats ≤ vec_capacity l.passes)
    × ((i : ℕ) (p : _) → slice_get l.passes.items i ≡ Some p → IsNewPass l.self (i + 1) p)
