-- What is found along the course of all worlds is the verdict on the task.
use Rattle.std.proofs.Common.{◌≡◌, ◌⊎◌, inl, inr, ℕ, zero, suc, ◌+◌, ◌<◌, ◌≤◌, ◌==◌, Bool, true, false, List, [], ◌∷◌, length, get_or, slice_get, Some, All, Ok, refl, ap, sym, ◌∙◌, subst, arith}
use Rattle.std.specs.List.{count_by, list_any}
use Rattle.std.proofs.lemmas.Bool.{cases_lt}
use Rattle.std.proofs.lemmas.Option.{slice_get_within, slice_get-get_or, same_Some}
use Rattle.std.proofs.lemmas.List.Elements.{All-weaker}
use Rattle.std.proofs.lemmas.List.Folds.{Any-from_list_any}
use Rattle.isa_model.specs.declared.latch.Latch.{Latch}
use Rattle.isa_model.specs.declared.task.Task.{Task}
use Rattle.isa_model.specs.LatchOrder.{same_latch, IsLatch, latch_rank}
use Rattle.hart_model.proofs.WhyTells.{same_latch-true}
use Rattle.core_model.specs.declared.world.World.{World}
use Rattle.core_model.specs.Security.{task_in, count_in, IsSecret, changes_so, IsSecureByOne}
use Rattle.core_model.specs.Places.{written_at, is_written}
use Rattle.probing_laws.specs.Verdicts.{IsLeast, IsAdmitted, IsEven, IsEarlier, IsIndependentAt, CountAlike, IsFirstLeak, AllTakeOneCourse}
use Rattle.probing_laws.specs.Certified.{IsCertified}
use Rattle.probing_laws.specs.declared.verdict.Verdict.{Verdict}
use Rattle.probing_laws.specs.declared.verdict.Verdict.TheVariants.{Secure, Leak}
use Rattle.probing_laws.proofs.Transfers.{item-has}
use Rattle.probing_laws.proofs.Independence.{places-decide, unwritten-independent}
use Rattle.probe_inspect.specs.LatchList.{IsInOrderFrom}
use Rattle.probe_inspect.specs.Course.{IsCourseOf, latches_at, places_before}
use Rattle.probe_inspect.specs.Groups.{HasGroup, IsGroup}
use Rattle.probe_inspect.specs.Columns.{often_in, IsLikeFirst, AreAlikeAt, AreAlikeTo, IsLeakIn, IsVerdictIn, AreGroupsOf, AreRowsAlong}
use Rattle.probe_inspect.specs.Certify.{IsWorldsOf, AreEvenGroups, IsFirstCourse, AreAllRows}
use Rattle.probe_inspect.specs.declared.course.Passed.{Passed}
use Rattle.probe_inspect.specs.declared.course.Course.{Course}
use Rattle.probe_inspect.specs.declared.groups.Group.{Group}
use Rattle.probe_inspect.specs.declared.rows.Row.{Row}
use Rattle.probe_inspect.proofs.Grouping.{some-passes, count-filter, count-most}
use Rattle.probe_inspect.proofs.EvenGroups.{some-counted, first-of, group-is, size-is, is-secret, some-group, places-by_secret, least-secret, even-groups}
use Rattle.probe_inspect.proofs.Courses.{some-at, place-of, one-course-all}
use Rattle.probe_inspect.proofs.Cells.{values-length, in-order, latches-past, written-in, place-counts, often-is}

-- Latches in order.
low-bound : (low : ℕ) (ls : List Latch) (j : ℕ) (k : Latch) → IsInOrderFrom low ls → slice_get ls j ≡ Some k → low ≤ latch_rank k
low-bound low [] j k order there = absurd cc
low-bound low (l ∷ ls) zero k order there =
    let same : l ≡ k = same_Some l k there in subst (λ (q : Latch). low ≤ latch_rank q) same order.0
low-bound low (l ∷ ls) (suc j) k order there =
    let here = order.0 in
    let rest = low-bound (latch_rank l) ls j k order.1 there in
    omega (arith, here, rest)

pub order-at : (low : ℕ) (ls : List Latch) (i j : ℕ) (l k : Latch) → IsInOrderFrom low ls → i ≤ j → slice_get ls i ≡ Some l → slice_get ls j ≡ Some k
    → latch_rank l ≤ latch_rank k
order-at low [] i j l k order up one two = absurd cc
order-at low (q ∷ ls) zero zero l k order up one two =
    let same : l ≡ k = same_Some l k (sym one ∙ two) in
    let equal = ap latch_rank same in omega (arith, equal)
order-at low (q ∷ ls) zero (suc j) l k order up one two =
    let same : q ≡ l = same_Some q l one in
    subst (λ (p : Latch). latch_rank p ≤ latch_rank k) same (low-bound (latch_rank q) ls j k order.1 two)
order-at low (q ∷ ls) (suc i) zero l k order up one two = absurd (omega (arith, up))
order-at low (q ∷ ls) (suc i) (suc j) l k order up one two = order-at (latch_rank q) ls i j l k order.1 (omega (arith, up)) one two

any-counted : (p : Latch → Bool) (ls : List Latch) → list_any p ls ≡ true → 0 < count_by p ls
any-counted p ls some =
    let found = Any-from_list_any p ls some in
    some-passes p ls found.0 found.1 found.2 (ap p found.3 ∙ found.4)

module _ (T : Task) (worlds : List World) (ok : IsWorldsOf T worlds) (admitted : IsAdmitted T worlds) (groups : List Group)
    (eg : AreEvenGroups worlds groups) (course : Course) (isf : IsFirstCourse T worlds course) (rows : List Row)
    (all : AreAllRows T worlds course rows) where
  abbrev first : World
  first = (some-at worlds 0 admitted.some).0

  at : slice_get worlds 0 ≡ Some (some-at worlds 0 admitted.some).0
  at = (some-at worlds 0 admitted.some).1

  is : IsCourseOf (task_in T (some-at worlds 0 admitted.some).0) course
  is = isf (some-at worlds 0 admitted.some).0 at

  abbrev steps : ℕ
  steps = length course.steps

  abbrev latches : ℕ → List Latch
  latches = latches_at course

  abbrev place : ℕ → ℕ → ℕ
  place m i = places_before (latches_at course) m + i

  even : IsEven worlds
  even = even-groups worlds groups eg.are eg.even

  one : AllTakeOneCourse T worlds
  one = one-course-all T worlds course first at is all.take

  -- a step with a latch is one of the course
  pub step-low : (m i : ℕ) (l : Latch) → slice_get (latches_at course m) i ≡ Some l → m < length course.steps
  step-low m i l there = go (place-of course m)
    where
      go : ((passed : Passed) × (slice_get course.steps m ≡ Some passed)) ⊎ (length course.steps ≤ m) → m < length course.steps
      go (inl (passed, found)) = slice_get_within course.steps m passed found
      go (inr past) =
          let none : latches_at course m ≡ [] = latches-past T worlds course first at is m past in
          let gone : slice_get {X = Latch} [] i ≡ Some l = ap (λ (ls : List Latch). slice_get ls i) (sym none) ∙ there in
          absurd cc

  often : (g : Group) (j : ℕ) → slice_get groups j ≡ Some g → (m i : ℕ) (l : Latch) → slice_get (latches_at course m) i ≡ Some l → (change : ℕ × ℕ)
      → often_in rows (place m i) g change ≡ count_in worlds g.secret (changes_so T m l change)
  often g j to m i l there change =
      often-is T worlds course rows all m i l (step-low m i l there) there g (group-is worlds groups eg.are j g to) change

  -- Where all groups are alike, the changes of the latch are independent of the secret.
  alike-independent : (m i : ℕ) (l : Latch) → slice_get (latches_at course m) i ≡ Some l → AreAlikeAt groups rows (place m i) → IsIndependentAt T worlds m l
  alike-independent m i l there alike change a b sa sb = go (eg.are.secrets a sa) (eg.are.secrets b sb)
    where
      go : HasGroup groups a → HasGroup groups b → count_in worlds a (changes_so T m l change) ≡ count_in worlds b (changes_so T m l change)
      go (j, g, to, is_a) (k, h, also, is_b) =
          let head = first-of groups j g to in
          let left = item-has (IsLikeFirst groups rows (place m i)) groups j g to alike head.0 head.1 change in
          let right = item-has (IsLikeFirst groups rows (place m i)) groups k h also alike head.0 head.1 change in
          ap (λ s. count_in worlds s (changes_so T m l change)) (sym is_a)
          ∙ sym (often g j to m i l there change) ∙ left ∙ sym right ∙ often h k also m i l there change
          ∙ ap (λ s. count_in worlds s (changes_so T m l change)) is_b

  -- a latch that is written stands among those of the step
  pub written-index : (m : ℕ) (l : Latch) → is_written (task_in T (some-at worlds 0 admitted.some).0) m l ≡ true
      → (i : ℕ) × (slice_get (latches_at course m) i ≡ Some l)
  written-index m l written =
      let test : Latch → Bool = λ k. same_latch k l in
      let V = task_in T (some-at worlds 0 admitted.some).0 in
      let some = any-counted test (written_at V m) written in
      let same = (in-order T worlds course first at is m).same test in
      let found = some-counted test (latches_at course m) (omega (arith, some, same)) in
      (found.0, found.2 ∙ ap (λ (k : Latch). Some k) (same_latch-true found.1 l found.3))

  pub none-writes : (m : ℕ) (l : Latch) → is_written (task_in T (some-at worlds 0 admitted.some).0) m l ≡ false
      → All (λ world. is_written (task_in T world) m l ≡ false) worlds
  none-writes m l none i d low =
      ap (λ (ls : List Latch). list_any (λ k. same_latch k l) ls)
      (written-in T worlds course first at is ok.as_long all.take i (get_or worlds i d) (slice_get-get_or worlds i d low) m)
      ∙ none

  -- A latch at a step whose places are all alike: no world writes it, or its changes are independent.
  looked : (m : ℕ) (l : Latch) → ((i : ℕ) → m < length course.steps → i < length (latches_at course m) → AreAlikeAt groups rows (place m i))
      → All (λ world. is_written (task_in T world) m l ≡ false) worlds ⊎ IsIndependentAt T worlds m l
  looked m l alike = go (is_written (task_in T (some-at worlds 0 admitted.some).0) m l) refl
    where
      go : (b : Bool) → is_written (task_in T (some-at worlds 0 admitted.some).0) m l ≡ b
          → All (λ world. is_written (task_in T world) m l ≡ false) worlds ⊎ IsIndependentAt T worlds m l
      go true written =
          let found = written-index m l written in
          inr (alike-independent m found.0 l found.1
          (alike found.0 (step-low m found.0 l found.1) (slice_get_within (latches_at course m) found.0 l found.1)))
      go false none = inl (none-writes m l none)

  -- so all changes before a step up to which all is alike are independent
  before-independent : (n : ℕ) → AreAlikeTo course groups rows n → (m : ℕ) (l : Latch) → m < n → IsIndependentAt T worlds m l
  before-independent n alike =
      places-decide T worlds even n (λ m l low. looked m l (λ i inside under. alike m i low under))

  secure : AreAlikeTo course groups rows (length course.steps) → IsSecureByOne T worlds
  secure alike = record {
    even = even;
    course = one;
    changes = λ n l change.
        places-decide T worlds even (n + 1) (λ m k low. looked m k (λ i inside under. alike m i inside under)) n l (omega arith) change;
  }

  -- The first difference along the course is the first leak.
  module _ (step : ℕ) (latch : Latch) (a b : ℕ) (change : ℕ × ℕ) (count_a count_b : ℕ)
      (leak : IsLeakIn course groups rows step latch a b change count_a count_b) where
    head : (g : Group) × (slice_get groups 0 ≡ Some g)
    head = first-of groups leak.found.here.place leak.found.here.group leak.found.here.there

    is_a : (first-of groups leak.found.here.place leak.found.here.group leak.found.here.there).0.secret ≡ a
    is_a = leak.first (first-of groups leak.found.here.place leak.found.here.group leak.found.here.there).0
        (first-of groups leak.found.here.place leak.found.here.group leak.found.here.there).1

    same-step : (l : Latch) → latch_rank l < latch_rank latch → IsIndependentAt T worlds step l
    same-step l low = go (is_written (task_in T (some-at worlds 0 admitted.some).0) step l) refl
      where
        go : (t : Bool) → is_written (task_in T (some-at worlds 0 admitted.some).0) step l ≡ t → IsIndependentAt T worlds step l
        go false none = unwritten-independent T worlds even step l (before-independent step leak.earlier) (none-writes step l none)
        go true written = at_index (written-index step l written)
          where
            at_index : (i : ℕ) × (slice_get (latches_at course step) i ≡ Some l) → IsIndependentAt T worlds step l
            at_index (i, there) = by (cases_lt i leak.place)
              where
                by : (i < leak.place) ⊎ (leak.place ≤ i) → IsIndependentAt T worlds step l
                by (inl less) = alike-independent step i l there (leak.found.before i less)
                by (inr past) =
                    let up = order-at 0 (latches_at course step) leak.place i latch l (in-order T worlds course first at is step).order past leak.is_latch there in
                    absurd (omega (arith, up, low))

    earlier : (n : ℕ) (l : Latch) → IsEarlier n l step latch → IsIndependentAt T worlds n l
    earlier n l (inl low) = before-independent step leak.earlier n l low
    earlier n l (inr (same, low)) = subst (λ k. IsIndependentAt T worlds k l) (sym same) (same-step l low)

    difference : let g = (first-of groups leak.found.here.place leak.found.here.group leak.found.here.there) in
        (z : ℕ × ℕ) → count_in worlds a (changes_so T step latch z) ≡ often_in rows (place step leak.place) g.0 z
    difference z =
        let g = first-of groups leak.found.here.place leak.found.here.group leak.found.here.there in
        ap (λ s. count_in worlds s (changes_so T step latch z)) (sym is_a) ∙ sym (often g.0 0 g.1 step leak.place latch leak.is_latch z)

    is_b : b ≡ leak.found.here.group.secret
    is_b =
        let g = first-of groups leak.found.here.place leak.found.here.group leak.found.here.there in
        (leak.found.here.difference g.0 g.1).is_secret

    other : (z : ℕ × ℕ) → count_in worlds b (changes_so T step latch z) ≡ often_in rows (place step leak.place) leak.found.here.group z
    other z =
        ap (λ s. count_in worlds s (changes_so T step latch z)) is_b
        ∙ sym (often leak.found.here.group leak.found.here.place leak.found.here.there step leak.place latch leak.is_latch z)

    between : (c : ℕ) → IsSecret worlds c → c < b → CountAlike T worlds step latch a c
    between c sc low z = go (eg.are.secrets c sc)
      where
        go : HasGroup groups c → count_in worlds c (changes_so T step latch z) ≡ count_in worlds a (changes_so T step latch z)
        go (j, h, there, is_c) =
            let here = leak.found.here in
            let own = is_b in
            let less = places-by_secret worlds groups eg.are j here.place h here.group there here.there (omega (arith, low, is_c, own)) in
            let g = first-of groups here.place here.group here.there in
            ap (λ s. count_in worlds s (changes_so T step latch z)) (sym is_c)
            ∙ sym (often h j there step leak.place latch leak.is_latch z)
            ∙ here.before j h less there g.0 g.1 z ∙ sym (difference z)

    first-leak : IsFirstLeak T worlds step latch a b change count_a count_b
    first-leak =
        let here = leak.found.here in
        let g = first-of groups here.place here.group here.there in
        let d = here.difference g.0 g.1 in record {
          is_latch = item-has IsLatch (latches_at course step) leak.place latch leak.is_latch (in-order T worlds course first at is step).latches;
          earlier = earlier;
          first = subst (IsLeast (IsSecret worlds)) is_a (least-secret worlds groups eg.are g.0 g.1);
          second = subst (IsSecret worlds) (sym is_b) (is-secret worlds groups eg.are here.place here.group here.there);
          between = between;
          lesser = λ z less. other z ∙ d.lesser z less ∙ sym (difference z);
          counts_a = d.count_first ∙ sym (difference change);
          counts_b = d.count_other ∙ sym (other change);
          differ = d.differ;
        }

  -- The verdict.
  pub verdict-is : (v : Verdict) → IsVerdictIn course groups rows v → IsCertified T worlds (Ok v)
  verdict-is (Secure places) found = (
    admitted,
    secure found.1,
    λ i d low. found.0 ∙ place-counts T worlds course first at is ok.as_long all.take i d low,
  )
  verdict-is (Leak step latch a b change count_a count_b) leak =
      (admitted, even, one, first-leak step latch a b change count_a count_b leak)

  -- What the search along the course asks.
  pub groups-of : AreGroupsOf groups rows
  groups-of = record {
    some = some-group worlds groups eg.are admitted.some;
    members = All-weaker (IsGroup worlds) (λ (g : Group). All (λ i. i < length rows) g.members)
        (λ g group. let count = all.each.count in
        All-weaker (λ i. i < length worlds) (λ i. i < length rows) (λ i low. omega (arith, low, count)) g.members group.below)
        groups eg.are.each;
    few = λ j d low.
        let g = get_or groups j d in
        let size = size-is worlds groups eg.are j g (slice_get-get_or groups j d low) in
        let sec : World → Bool = λ (w : World). w.secret == g.secret in
        let own : count_in worlds g.secret (λ w. true) ≡ count_by sec worlds = count-filter sec worlds in
        let most = count-most sec worlds in
        let few = ok.few in
        omega (arith, size, own, most, few);
    even = eg.even;
  }

  pub rows-along : AreRowsAlong course rows
  rows-along = record {
    short = let within = is.within in let limit = ok.valid.fuel_limit in omega (arith, within, limit);
    slim = λ n passed there. (is.steps n passed there).few;
    wide = λ j d low.
        let row = get_or rows j d in
        let there = slice_get-get_or rows j d low in
        let count = all.each.count in
        let w = some-at worlds j (omega (arith, low, count)) in
        let of = all.each.each j row w.0 there w.1 in (
          ap (λ (xs : List ℕ). length xs) of.was ∙ values-length (task_in T w.0) 0 (latches_at course) (length course.steps),
          ap (λ (xs : List ℕ). length xs) of.now ∙ values-length (task_in T w.0) 1 (latches_at course) (length course.steps),
        );
  }
