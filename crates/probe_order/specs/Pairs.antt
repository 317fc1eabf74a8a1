-- The first two places of the rows at which the groups differ (this project's own).
use Rattle.std.specs.Prelude.{◌≡◌, ℕ, ◌<◌, List, Option, None, Some}
use Rattle.probe_inspect.specs.declared.groups.Group.{Group}
use Rattle.probe_inspect.specs.declared.rows.Row.{Row}
use Rattle.probe_order.specs.Joint.{AreBothAlikeAt, IsJointDifferenceAt}
use Rattle.probe_order.specs.declared.pairs.Pair.{Pair}

-- at a place together with each one after it and before n all groups are alike
abbrev pub AreAlikeAfter : List Group → List Row → ℕ → ℕ → Type 0
AreAlikeAfter groups rows p n = (q : ℕ) → p < q → q < n → AreBothAlikeAt groups rows p q

-- the first place after p and before n at which they aren't
pub record IsFirstAfter (groups : List Group) (rows : List Row) (p n : ℕ) (pair : Pair) : Type 0 where
  pub first : pair.first ≡ p
  pub after : p < pair.second
  pub low : pair.second < n
  pub nearer : AreAlikeAfter groups rows p pair.second
  pub here : IsJointDifferenceAt groups rows p pair.second pair.difference

abbrev pub IsFoundAfter : List Group → List Row → ℕ → ℕ → Option Pair → Type 0
IsFoundAfter groups rows p n None = AreAlikeAfter groups rows p n
IsFoundAfter groups rows p n (Some pair) = IsFirstAfter groups rows p n pair

-- at each two of the first n places, of which the earlier one is before m
abbrev pub AreAlikePairs : List Group → List Row → ℕ → ℕ → Type 0
AreAlikePairs groups rows m n = (p : ℕ) → p < m → AreAlikeAfter groups rows p n

-- the first two of n places at which they aren't
pub record IsFirstPair (groups : List Group) (rows : List Row) (n : ℕ) (pair : Pair) : Type 0 where
  pub earlier : AreAlikePairs groups rows pair.first n
  pub here : IsFirstAfter groups rows pair.first n pair

abbrev pub IsFoundAmong : List Group → List Row → ℕ → Option Pair → Type 0
IsFoundAmong groups rows n None = AreAlikePairs groups rows n n
IsFoundAmong groups rows n (Some pair) = IsFirstPair groups rows n pair
