-- What the rows of all worlds have in one place, group by group (this project's own).
use Rattle.std.specs.Prelude.{◌≡◌, ◌≢◌, ℕ, ◌+◌, ◌<◌, ◌≤◌, List, All, length, map, Option, None, Some, slice_get, slice_index, count_by}
use Rattle.isa_model.specs.declared.latch.Latch.{Latch}
use Rattle.isa_model.specs.Limits.{max_fuel, max_worlds}
use Rattle.core_model.specs.Security.{same_pair}
use Rattle.probing_laws.specs.Verdicts.{IsLess}
use Rattle.probing_laws.specs.declared.verdict.Verdict.{Verdict}
use Rattle.probing_laws.specs.declared.verdict.Verdict.TheVariants.{Secure, Leak}
use Rattle.probe_inspect.specs.Course.{latches_at, places_before}
use Rattle.probe_inspect.specs.Groups.{AsManyAs}
use Rattle.probe_inspect.specs.declared.groups.Group.{Group}
use Rattle.probe_inspect.specs.declared.rows.Row.{Row}
use Rattle.probe_inspect.specs.declared.course.Passed.{Passed}
use Rattle.probe_inspect.specs.declared.course.Course.{Course}
use Rattle.probe_inspect.specs.declared.columns.Difference.{Difference}

-- the change at a place of a row
abbrev pub change_in : ℕ → Option Row → ℕ × ℕ
change_in at None = (0, 0)
change_in at (Some row) = (slice_index row.was at, slice_index row.now at)

-- those of the rows of some numbers
abbrev pub changes_of : List Row → ℕ → List ℕ → List (ℕ × ℕ)
changes_of rows at members = map (λ i. change_in at (slice_get rows i)) members

-- how often a change stands in a list
abbrev pub count_same : List (ℕ × ℕ) → ℕ × ℕ → ℕ
count_same changes change = count_by (λ x. same_pair x change) changes

-- The least change that stands in two lists in different numbers, with these numbers.
pub record IsDifferenceOf (first other : List (ℕ × ℕ)) (secret : ℕ) (d : Difference) : Type 0 where
  pub is_secret : d.secret ≡ secret
  pub count_first : d.count_first ≡ count_same first d.change
  pub count_other : d.count_other ≡ count_same other d.change
  pub differ : d.count_first ≢ d.count_other
  pub lesser : (change : ℕ × ℕ) → IsLess change d.change → count_same other change ≡ count_same first change

-- how many members of a group have a change at a place
abbrev pub often_in : List Row → ℕ → Group → ℕ × ℕ → ℕ
often_in rows at group change = count_same (changes_of rows at group.members) change

-- a group has each change as often as the first one
abbrev pub IsLikeFirst : List Group → List Row → ℕ → Group → Type 0
IsLikeFirst groups rows at h = (g : Group) → slice_get groups 0 ≡ Some g → (change : ℕ × ℕ) → often_in rows at h change ≡ often_in rows at g change

-- the first group that has not, and the least change that it has in another number of members, with these numbers
pub record IsDifferenceAt (groups : List Group) (rows : List Row) (at : ℕ) (d : Difference) : Type 0 where
  pub place : ℕ
  pub group : Group
  pub there : slice_get groups place ≡ Some group
  pub before : (i : ℕ) (h : Group) → i < place → slice_get groups i ≡ Some h → IsLikeFirst groups rows at h
  pub difference : (g : Group) → slice_get groups 0 ≡ Some g
      → IsDifferenceOf (changes_of rows at g.members) (changes_of rows at group.members) group.secret d

-- at a place of the rows all groups are alike
abbrev pub AreAlikeAt : List Group → List Row → ℕ → Type 0
AreAlikeAt groups rows at = All (IsLikeFirst groups rows at) groups

-- what is found at a place
abbrev pub IsFoundAt : List Group → List Row → ℕ → Option Difference → Type 0
IsFoundAt groups rows at None = AreAlikeAt groups rows at
IsFoundAt groups rows at (Some d) = IsDifferenceAt groups rows at d

-- each row is longer than a place
abbrev pub AreLonger : ℕ → List Row → Type 0
AreLonger at rows = All (λ (row : Row). (at < length row.was) × (at < length row.now)) rows

-- Groups of rows: there is one, all are equally large, and each member has a row.
pub record AreGroupsOf (groups : List Group) (rows : List Row) : Type 0 where
  pub some : 0 < length groups
  pub members : All (λ (g : Group). All (λ i. i < length rows) g.members) groups
  pub few : All (λ (g : Group). length g.members ≤ max_worlds) groups
  pub even : All (AsManyAs groups) groups

-- The first difference among the latches of a step, whose values stand in the rows from a place on.
pub record IsFirstOf (groups : List Group) (rows : List Row) (from count : ℕ) (i : ℕ) (d : Difference) : Type 0 where
  pub low : i < count
  pub before : (k : ℕ) → k < i → AreAlikeAt groups rows (from + k)
  pub here : IsDifferenceAt groups rows (from + i) d

abbrev pub IsFoundFrom : List Group → List Row → ℕ → ℕ → Option (ℕ × Difference) → Type 0
IsFoundFrom groups rows from count None = (k : ℕ) → k < count → AreAlikeAt groups rows (from + k)
IsFoundFrom groups rows from count (Some found) = IsFirstOf groups rows from count found.0 found.1

-- A course and rows of its length.
pub record AreRowsAlong (course : Course) (rows : List Row) : Type 0 where
  pub short : length course.steps ≤ max_fuel
  pub slim : (n : ℕ) (passed : Passed) → slice_get course.steps n ≡ Some passed → length passed.latches ≤ 7
  pub wide : All (λ (row : Row). (length row.was ≡ places_before (latches_at course) (length course.steps))
      × (length row.now ≡ places_before (latches_at course) (length course.steps))) rows

-- in the first n steps all groups are alike at each latch
abbrev pub AreAlikeTo : Course → List Group → List Row → ℕ → Type 0
AreAlikeTo course groups rows n = (m i : ℕ) → m < n → i < length (latches_at course m)
    → AreAlikeAt groups rows (places_before (latches_at course) m + i)

-- The first difference along a course.
pub record IsLeakIn (course : Course) (groups : List Group) (rows : List Row) (step : ℕ) (latch : Latch) (a b : ℕ) (change : ℕ × ℕ) (count_a count_b : ℕ) : Type 0 where
  pub low : step < length course.steps
  pub earlier : AreAlikeTo course groups rows step
  pub place : ℕ
  pub is_latch : slice_get (latches_at course step) place ≡ Some latch
  pub first : (g : Group) → slice_get groups 0 ≡ Some g → g.secret ≡ a
  pub found : IsFirstOf groups rows (places_before (latches_at course) step) (length (latches_at course step)) place
      (record { secret = b; change = change; count_first = count_a; count_other = count_b })

-- what is found along a course
abbrev pub IsVerdictIn : Course → List Group → List Row → Verdict → Type 0
IsVerdictIn course groups rows (Secure places) =
    (places ≡ places_before (latches_at course) (length course.steps)) × AreAlikeTo course groups rows (length course.steps)
IsVerdictIn course groups rows (Leak step latch a b change count_a count_b) = IsLeakIn course groups rows step latch a b change count_a count_b
