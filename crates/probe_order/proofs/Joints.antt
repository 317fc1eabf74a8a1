-- Two changes at once by their order, and lists of them in another order.
use Rattle.std.proofs.Common.{◌≡◌, ◌⊎◌, inl, inr, ℕ, ◌+◌, ◌<◌, ◌≤◌, ◌==◌, ◌&&◌, Bool, true, cond, List, length, get_or, slice_get, Some, subst, refl, ap, sym, ◌∙◌, arith, eq-eqb, IsPermutation}
use Rattle.std.specs.Ordering.{ordering_then, is_lt, is_eq}
use Rattle.std.specs.declared.cmp.Ordering.{Ordering}
use Rattle.std.specs.declared.cmp.Ordering.TheVariants.{Less, Equal, Greater}
use Rattle.std.proofs.lemmas.Option.{same_Some}
use Rattle.std.proofs.lemmas.Bool.{cases_lt, and_from}
use Rattle.std.proofs.lemmas.List.{length-map}
use Rattle.std.proofs.lemmas.List.Sorted.{sum_by-IsPermutation, length_permutation}
use Rattle.core_model.specs.Security.{same_pair}
use Rattle.count_differences.specs.Differences.{how_often, IsLeastDifference}
use Rattle.probing_laws.specs.VerdictsTwo.{IsLessFour}
use Rattle.probing_laws.proofs.Counts.{count-agree}
use Rattle.probe_inspect.specs.PairOrder.{pair_cmp}
use Rattle.probe_inspect.specs.declared.groups.Group.{Group}
use Rattle.probe_inspect.specs.declared.rows.Row.{Row}
use Rattle.probe_inspect.proofs.Pairs.{then-equal, pair-equal, less-pair}
use Rattle.probe_order.specs.Joint.{joint_in, joints_of, same_joint, joint_cmp, values_of, count_joint, IsJointDifferenceOf, joint_often_in, IsBothLikeFirst}
use Rattle.probe_order.specs.declared.joint.JointDifference.{JointDifference}

-- they tie where they are the same
joint-equal : (x z : (ℕ × ℕ) × (ℕ × ℕ)) → is_eq (joint_cmp x z) ≡ same_joint x z
joint-equal x z =
    then-equal (pair_cmp x.0 z.0) (pair_cmp x.1 z.1)
    ∙ ap (λ (b : Bool). b && is_eq (pair_cmp x.1 z.1)) (pair-equal x.0 z.0)
    ∙ ap (λ (b : Bool). same_pair x.0 z.0 && b) (pair-equal x.1 z.1)

pub joint-often-same : (z : (ℕ × ℕ) × (ℕ × ℕ)) (xs : List ((ℕ × ℕ) × (ℕ × ℕ))) → how_often joint_cmp z xs ≡ count_joint xs z
joint-often-same z xs =
    count-agree (λ (x : (ℕ × ℕ) × (ℕ × ℕ)). is_eq (joint_cmp x z)) (λ (x : (ℕ × ℕ) × (ℕ × ℕ)). same_joint x z) xs
    (λ i d low. joint-equal (get_or xs i d) z)

then-less : (o p : Ordering) → is_lt o ≡ true → is_lt (ordering_then o p) ≡ true
then-less Less p less = refl
then-less Equal p less = absurd (cc less)
then-less Greater p less = absurd (cc less)

then-second : (o p : Ordering) → is_eq o ≡ true → is_lt p ≡ true → is_lt (ordering_then o p) ≡ true
then-second Less p same less = absurd (cc same)
then-second Equal p same less = less
then-second Greater p same less = absurd (cc same)

less-joint : (z w : (ℕ × ℕ) × (ℕ × ℕ)) → IsLessFour (values_of z) (values_of w) → is_lt (joint_cmp z w) ≡ true
less-joint z w (inl low) = then-less (pair_cmp z.0 w.0) (pair_cmp z.1 w.1) (less-pair z.0 w.0 low)
less-joint z w (inr (same, also, low)) =
    then-second (pair_cmp z.0 w.0) (pair_cmp z.1 w.1)
    (pair-equal z.0 w.0 ∙ and_from (z.0.0 == w.0.0) (z.0.1 == w.0.1) (eq-eqb z.0.0 w.0.0 same) (eq-eqb z.0.1 w.0.1 also))
    (less-pair z.1 w.1 low)

-- the least two changes that two lists have together in different numbers
pub joint-difference-is : (first other : List ((ℕ × ℕ) × (ℕ × ℕ))) (d : JointDifference) → IsLeastDifference joint_cmp first other d.joint
    → d.count_first ≡ count_joint first d.joint → d.count_other ≡ count_joint other d.joint → IsJointDifferenceOf first other d.secret d
joint-difference-is first other d is count_first count_other = record {
  is_secret = refl;
  count_first = count_first;
  count_other = count_other;
  differ = λ same. is.differs (joint-often-same d.joint first ∙ sym count_first ∙ same ∙ count_other ∙ sym (joint-often-same d.joint other));
  lesser = λ z less. sym (joint-often-same z other) ∙ sym (is.lesser z (less-joint z d.joint less)) ∙ joint-often-same z first;
}

pub joints-length : (rows : List Row) (p q : ℕ) (members : List ℕ) (xs : List ((ℕ × ℕ) × (ℕ × ℕ))) → IsPermutation (joints_of rows p q members) xs
    → length xs ≡ length members
joints-length rows p q members xs moved =
    length_permutation (joints_of rows p q members) xs moved ∙ length-map members (λ i. joint_in p q (slice_get rows i))

pub joints-count : (joints xs : List ((ℕ × ℕ) × (ℕ × ℕ))) → IsPermutation joints xs → (z : (ℕ × ℕ) × (ℕ × ℕ)) → count_joint xs z ≡ count_joint joints z
joints-count joints xs moved z = sum_by-IsPermutation (λ (x : (ℕ × ℕ) × (ℕ × ℕ)). cond (same_joint x z) 1 0) joints xs moved

-- a difference of lists in another order
pub joints-difference : (first other us vs : List ((ℕ × ℕ) × (ℕ × ℕ))) (secret : ℕ) (d : JointDifference) → IsPermutation first us → IsPermutation other vs
    → IsJointDifferenceOf us vs secret d → IsJointDifferenceOf first other secret d
joints-difference first other us vs secret d one two is = record {
  is_secret = is.is_secret;
  count_first = is.count_first ∙ joints-count first us one d.joint;
  count_other = is.count_other ∙ joints-count other vs two d.joint;
  differ = is.differ;
  lesser = λ z less. sym (joints-count other vs two z) ∙ is.lesser z less ∙ joints-count first us one z;
}

-- the same of lists that are these
pub joints-as : (rows : List Row) (p q : ℕ) (ms members : List ℕ) (xs ys : List ((ℕ × ℕ) × (ℕ × ℕ))) → ms ≡ members → ys ≡ xs
    → IsPermutation (joints_of rows p q ms) xs → IsPermutation (joints_of rows p q members) ys
joints-as rows p q ms members xs ys same is moved =
    subst (λ (zs : List ((ℕ × ℕ) × (ℕ × ℕ))). IsPermutation (joints_of rows p q members) zs) (sym is)
    (subst (λ (ks : List ℕ). IsPermutation (joints_of rows p q ks) xs) same moved)

-- groups that are like the first one up to a place, and the one at it
pub both-more : (groups : List Group) (rows : List Row) (p q j : ℕ) (group g0 : Group) → slice_get groups j ≡ Some group → slice_get groups 0 ≡ Some g0
    → ((i : ℕ) (h : Group) → i < j → slice_get groups i ≡ Some h → IsBothLikeFirst groups rows p q h)
    → ((z : (ℕ × ℕ) × (ℕ × ℕ)) → joint_often_in rows p q group z ≡ joint_often_in rows p q g0 z)
    → (i : ℕ) (h : Group) → i < j + 1 → slice_get groups i ≡ Some h → IsBothLikeFirst groups rows p q h
both-more groups rows p q j group g0 there first before here i h low is g also z = go (cases_lt i j)
  where
    go : (i < j) ⊎ (j ≤ i) → joint_often_in rows p q h z ≡ joint_often_in rows p q g z
    go (inl less) = before i h less is g also z
    go (inr past) =
        let same : j ≡ i = omega (arith, low, past) in
        let one : group ≡ h = same_Some group h (sym there ∙ ap (λ k. slice_get groups k) same ∙ is) in
        let two : g0 ≡ g = same_Some g0 g (sym first ∙ also) in
        ap (λ (k : Group). joint_often_in rows p q k z) (sym one) ∙ here z ∙ ap (λ (k : Group). joint_often_in rows p q k z) two
