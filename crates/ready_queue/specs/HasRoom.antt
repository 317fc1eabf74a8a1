-- What a board keeps so that its actions need no memory (this project's own).
use Rattle.std.specs.Prelude.{ℕ, ◌+◌, ◌<◌, ◌≤◌, length, All}
use Rattle.core_model.specs.Board.{BoardState, all_ready}
use Rattle.context_slot.specs.Fresh.{IsFresh}

-- for how many items the lists of a board have memory
pub record Rooms : Type 0 where
  pub ready : ℕ
  pub out : ℕ
  pub ended : ℕ
  pub order : ℕ

-- The ready contexts and what is out hold the slots, and there is memory for either to have them all, for the ready ones in each band.
-- All tasks may end. The order has memory for the give of all that is out. The waiting tasks are at their start, and what is out is out
-- on a hart below 8.
pub record HasRoom (b : BoardState) (rooms : Rooms) : Type 0 where
  pub ready_room : length (all_ready b.ready) + length b.out ≤ rooms.ready
  pub out_room : length (all_ready b.ready) + length b.out ≤ rooms.out
  pub ended_room : length b.waiting + length (all_ready b.ready) + length b.out + length b.ended ≤ rooms.ended
  pub order_room : length b.order + length b.out ≤ rooms.order
  pub fresh : All IsFresh b.waiting
  pub harts : All (λ o. o.hart < 8) b.out
