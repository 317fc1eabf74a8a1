-- The members of groups by the numbers of their changes at one place, and a look at another place (this project's own).
use Rattle.std.specs.Prelude.{◌≡◌, ℕ, ◌<◌, ◌≤◌, Bool, List, All, map, length, get_or, slice_get, Some, count_by}
use Rattle.isa_model.specs.Limits.{max_worlds}
use Rattle.count_tables.specs.Tables.{HaveEquallyOftenBeside}
use Rattle.probe_inspect.specs.declared.groups.Group.{Group}
use Rattle.probe_order.specs.declared.orders.Order.{Order}

-- the numbers of members at a place
abbrev pub numbers_at : List ℕ → List ℕ → List ℕ
numbers_at numbers members = map (λ i. get_or numbers i 0) members

-- An order has the members of a group, and beside each its number.
pub record IsOrderOf (numbers members : List ℕ) (order : Order) : Type 0 where
  pub same : (test : ℕ → Bool) → count_by test order.members ≡ count_by test members
  pub low : All (λ i. i < length numbers) order.members
  pub beside : order.numbers ≡ numbers_at numbers order.members
  pub long : length order.members ≡ length members

pub record AreOrdersOf (groups : List Group) (numbers : List ℕ) (orders : List Order) : Type 0 where
  pub long : length orders ≡ length groups
  pub each : (j : ℕ) (order : Order) (group : Group) → slice_get orders j ≡ Some order → slice_get groups j ≡ Some group
      → IsOrderOf numbers group.members order

-- Orders of as many members as they have numbers, and a number at another place of each.
pub record AreFitting (orders : List Order) (numbers : List ℕ) : Type 0 where
  pub some : 0 < length orders
  pub low : All (λ (order : Order). All (λ i. i < length numbers) order.members) orders
  pub long : All (λ (order : Order). length order.members ≡ length order.numbers) orders
  pub few : All (λ (order : Order). length order.numbers ≤ max_worlds) orders

-- an order has the numbers of the first one, and each number at another place as often beside each of these
abbrev pub LooksLikeFirst : List Order → List ℕ → Order → Type 0
LooksLikeFirst orders numbers order =
    (first : Order) → slice_get orders 0 ≡ Some first
    → (order.numbers ≡ first.numbers)
    × HaveEquallyOftenBeside first.numbers (numbers_at numbers first.members) (numbers_at numbers order.members)

abbrev pub LookAlike : List Order → List ℕ → Type 0
LookAlike orders numbers = All (LooksLikeFirst orders numbers) orders
