-- What the rows of all worlds have in two places together, group by group (this project's own).
use Rattle.std.specs.Prelude.{◌≡◌, ◌≢◌, ℕ, ◌<◌, ◌&&◌, Bool, List, All, map, Option, None, Some, slice_get, count_by}
use Rattle.std.specs.Ordering.{ordering_then}
use Rattle.std.specs.declared.cmp.Ordering.{Ordering}
use Rattle.core_model.specs.Security.{same_pair}
use Rattle.probing_laws.specs.VerdictsTwo.{IsLessFour}
use Rattle.probe_inspect.specs.PairOrder.{pair_cmp}
use Rattle.probe_inspect.specs.Columns.{change_in}
use Rattle.probe_inspect.specs.declared.groups.Group.{Group}
use Rattle.probe_inspect.specs.declared.rows.Row.{Row}
use Rattle.probe_order.specs.declared.joint.JointDifference.{JointDifference}

-- the changes at two places of a row
abbrev pub joint_in : ℕ → ℕ → Option Row → (ℕ × ℕ) × (ℕ × ℕ)
joint_in p q row = (change_in p row, change_in q row)

-- those of the rows of some numbers
abbrev pub joints_of : List Row → ℕ → ℕ → List ℕ → List ((ℕ × ℕ) × (ℕ × ℕ))
joints_of rows p q members = map (λ i. joint_in p q (slice_get rows i)) members

abbrev pub same_joint : (ℕ × ℕ) × (ℕ × ℕ) → (ℕ × ℕ) × (ℕ × ℕ) → Bool
same_joint x y = same_pair x.0 y.0 && same_pair x.1 y.1

-- two changes are ordered by the first one, and then by the second one
abbrev pub joint_cmp : (ℕ × ℕ) × (ℕ × ℕ) → (ℕ × ℕ) × (ℕ × ℕ) → Ordering
joint_cmp x y = ordering_then (pair_cmp x.0 y.0) (pair_cmp x.1 y.1)

-- the four values of two changes
abbrev pub values_of : (ℕ × ℕ) × (ℕ × ℕ) → ℕ × ℕ × ℕ × ℕ
values_of joint = (joint.0.0, joint.0.1, joint.1.0, joint.1.1)

-- how often two changes stand together in a list
abbrev pub count_joint : List ((ℕ × ℕ) × (ℕ × ℕ)) → (ℕ × ℕ) × (ℕ × ℕ) → ℕ
count_joint joints joint = count_by (λ x. same_joint x joint) joints

-- The least two changes that stand together in two lists in different numbers, with these numbers.
pub record IsJointDifferenceOf (first other : List ((ℕ × ℕ) × (ℕ × ℕ))) (secret : ℕ) (d : JointDifference) : Type 0 where
  pub is_secret : d.secret ≡ secret
  pub count_first : d.count_first ≡ count_joint first d.joint
  pub count_other : d.count_other ≡ count_joint other d.joint
  pub differ : d.count_first ≢ d.count_other
  pub lesser : (joint : (ℕ × ℕ) × (ℕ × ℕ)) → IsLessFour (values_of joint) (values_of d.joint) → count_joint other joint ≡ count_joint first joint

-- how many members of a group have two changes at two places
abbrev pub joint_often_in : List Row → ℕ → ℕ → Group → (ℕ × ℕ) × (ℕ × ℕ) → ℕ
joint_often_in rows p q group joint = count_joint (joints_of rows p q group.members) joint

-- a group has each two changes as often as the first one
abbrev pub IsBothLikeFirst : List Group → List Row → ℕ → ℕ → Group → Type 0
IsBothLikeFirst groups rows p q h =
    (g : Group) → slice_get groups 0 ≡ Some g → (joint : (ℕ × ℕ) × (ℕ × ℕ)) → joint_often_in rows p q h joint ≡ joint_often_in rows p q g joint

-- the first group that has not, and the least two changes that it has in another number of members, with these numbers
pub record IsJointDifferenceAt (groups : List Group) (rows : List Row) (p q : ℕ) (d : JointDifference) : Type 0 where
  pub place : ℕ
  pub group : Group
  pub there : slice_get groups place ≡ Some group
  pub before : (i : ℕ) (h : Group) → i < place → slice_get groups i ≡ Some h → IsBothLikeFirst groups rows p q h
  pub difference : (g : Group) → slice_get groups 0 ≡ Some g
      → IsJointDifferenceOf (joints_of rows p q g.members) (joints_of rows p q group.members) group.secret d

-- at two places of the rows together all groups are alike
abbrev pub AreBothAlikeAt : List Group → List Row → ℕ → ℕ → Type 0
AreBothAlikeAt groups rows p q = All (IsBothLikeFirst groups rows p q) groups

-- what is found at two places
abbrev pub IsJointFoundAt : List Group → List Row → ℕ → ℕ → Option JointDifference → Type 0
IsJointFoundAt groups rows p q None = AreBothAlikeAt groups rows p q
IsJointFoundAt groups rows p q (Some d) = IsJointDifferenceAt groups rows p q d
