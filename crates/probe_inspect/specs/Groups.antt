-- Worlds by their secrets (this project's own).
use Rattle.std.specs.Prelude.{◌≡◌, ◌≢◌, ℕ, zero, suc, ◌+◌, ◌<◌, ◌≤◌, ◌&&◌, Bool, false, List, [], ◌∷◌, ◌++◌, All, length, Option, None, Some, slice_get, count_by, slice_index_or, take, map, ◌==◌, if◌then◌else◌}
use Rattle.core_model.specs.declared.world.World.{World}
use Rattle.core_model.specs.Security.{count_in, IsSecret}
use Rattle.probe_inspect.specs.declared.groups.Group.{Group}

-- whether something is so in the world of a number
abbrev pub passes : (World → Bool) → Option World → Bool
passes is_so None = false
passes is_so (Some world) = is_so world

abbrev pub passes_at : List World → (World → Bool) → ℕ → Bool
passes_at worlds is_so i = passes is_so (slice_get worlds i)

-- A group has the worlds of its secret: whatever may be so in a world is so in as many of its members.
pub record IsGroup (worlds : List World) (group : Group) : Type 0 where
  pub below : All (λ i. i < length worlds) group.members
  pub some : 0 < length group.members
  pub counts : (is_so : World → Bool) → count_in worlds group.secret is_so ≡ count_by (passes_at worlds is_so) group.members

-- the secrets ascend
abbrev pub AreAscending : List Group → Type 0
AreAscending groups = (i j : ℕ) (g h : Group) → i < j → slice_get groups i ≡ Some g → slice_get groups j ≡ Some h → g.secret < h.secret

-- some group has this secret
abbrev pub HasGroup : List Group → ℕ → Type 0
HasGroup groups secret = (j : ℕ) × (g : Group) × (slice_get groups j ≡ Some g) × (g.secret ≡ secret)

-- Groups are the worlds by their secrets: each secret has one, and they ascend.
pub record AreGroups (worlds : List World) (groups : List Group) : Type 0 where
  pub each : All (IsGroup worlds) groups
  pub ascending : AreAscending groups
  pub secrets : (secret : ℕ) → IsSecret worlds secret → HasGroup groups secret

-- the secret of a world with its number
abbrev pub number_of : ℕ → Option World → List (ℕ × ℕ)
number_of i None = []
number_of i (Some world) = (world.secret, i) ∷ []

-- those of the first n worlds
unfoldable pub numbered : List World → ℕ → List (ℕ × ℕ)
numbered worlds zero = []
numbered worlds (suc n) = numbered worlds n ++ number_of n (slice_get worlds n)

-- the members of the first group of a secret
abbrev pub members_of : List Group → ℕ → List ℕ
members_of [] secret = []
members_of (g ∷ gs) secret = if g.secret == secret then g.members else members_of gs secret

-- From a place on a list in order has the members of a secret, and then another secret or nothing.
pub record IsRunFrom (order : List (ℕ × ℕ)) (from secret : ℕ) (members : List ℕ) : Type 0 where
  pub some : 0 < length members
  pub within : from + length members ≤ length order
  pub run : take (from + length members) order ≡ take from order ++ map (λ member. (secret, member)) members
  pub ends : (d : ℕ × ℕ) → from + length members < length order → (slice_index_or order (from + length members) d).0 ≢ secret

-- Groups of the first places of a list in order: each secret has the members that stand there with it.
pub record AreGroupsTo (order : List (ℕ × ℕ)) (from : ℕ) (groups : List Group) : Type 0 where
  pub within : from ≤ length order
  pub counts : (secret : ℕ) (test : ℕ → Bool)
      → count_by (λ p. (p.0 == secret) && test p.1) (take from order) ≡ count_by test (members_of groups secret)
  pub some : All (λ (g : Group). 0 < length g.members) groups
  pub ascending : AreAscending groups
  pub lower : (d : ℕ × ℕ) → from < length order → All (λ (g : Group). g.secret < (slice_index_or order from d).0) groups

-- a group has as many members as the first one
abbrev pub AsManyAs : List Group → Group → Type 0
AsManyAs groups h = (g : Group) → slice_get groups 0 ≡ Some g → length h.members ≡ length g.members

-- the first group that has another number of members than the first one
pub record IsFirstOdd (groups : List Group) (secret : ℕ) : Type 0 where
  pub place : ℕ
  pub group : Group
  pub there : slice_get groups place ≡ Some group
  pub is_secret : group.secret ≡ secret
  pub odd : (g : Group) → slice_get groups 0 ≡ Some g → length group.members ≢ length g.members
  pub before : (i : ℕ) (h : Group) → i < place → slice_get groups i ≡ Some h → AsManyAs groups h
