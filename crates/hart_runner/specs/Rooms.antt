-- Memory that is taken before workers begin (this project's own).
use Rattle.std.specs.Prelude.{◌≡◌, ℕ, ◌≤◌, [], vec_capacity}
use Rattle.hart_runner.specs.declared.opening.Rooms.{Rooms}

-- The lists are empty, and there is memory for so many items in each.
pub record HasRoomFor (count : ℕ) (rooms : Rooms) : Type 0 where
  pub no_harts : rooms.harts.items ≡ []
  pub no_tallies : rooms.tallies.items ≡ []
  pub no_passes : rooms.passes.items ≡ []
  pub no_receipts : rooms.receipts.items ≡ []
  pub harts : count ≤ vec_capacity rooms.harts
  pub tallies : count ≤ vec_capacity rooms.tallies
  pub passes : count ≤ vec_capacity rooms.passes
  pub receipts : count ≤ vec_capacity rooms.receipts
