-- Orders of entries. An entry is the number of the seat that made it.
use Rattle.std.specs.Prelude.{◌≡◌, ℕ, ◌≤◌, List, length, count_by, ◌==◌, slice_get, Some}
use mathlib.Core.List.{IsPrefix}

-- how many entries of the order the seat with this number made
abbrev pub entries_of : ℕ → List ℕ → ℕ
entries_of number order = count_by (λ entry. entry == number) order

-- what the seat with this number has seen begins the order, and has all the entries that the order has of this seat
abbrev pub KnowsOwnEntries : ℕ → List ℕ → List ℕ → Type 0
KnowsOwnEntries number seen order = IsPrefix seen order × (entries_of number order ≡ entries_of number seen)

-- the order is all that the seats 0, 1 and so on did, which have seen these orders
pub record IsWholeOrder (order : List ℕ) (seens : List (List ℕ)) : Type 0 where
  -- each seat has seen a beginning of the order, with all its own entries
  pub known : (number : ℕ) (seen : List ℕ) → slice_get seens number ≡ Some seen → KnowsOwnEntries number seen order
  -- one of the seats has seen the whole order, so it is the longest that a seat has seen
  pub seen_whole : (number : ℕ) × (slice_get seens number ≡ Some order)
  -- every entry was made by one of the seats
  pub no_other_entries : (number : ℕ) → length seens ≤ number → entries_of number order ≡ 0
