-- What is found at all pairs of places is the verdict on the task.
use Rattle.std.proofs.Common.{◌≡◌, ◌⊎◌, inl, inr, ℕ, ◌+◌, ◌<◌, ◌≤◌, ◌&&◌, Bool, true, false, List, length, get_or, slice_get, Option, None, Some, refl, ap, sym, ◌∙◌, subst, arith}
use Rattle.std.proofs.lemmas.Bool.{cases_order}
use Rattle.std.proofs.lemmas.Option.{same_Some, slice_get_within}
use Rattle.isa_model.specs.declared.latch.Latch.{Latch}
use Rattle.isa_model.specs.declared.task.Task.{Task}
use Rattle.isa_model.specs.LatchOrder.{IsLatch, is_before, IsStrictTotalOrder}
use Rattle.core_model.specs.declared.world.World.{World}
use Rattle.core_model.specs.Security.{task_in, count_in, IsSecret, same_pair, changes_so, IsSecureByOne, IsSecureByTwo}
use Rattle.core_model.specs.Places.{is_written}
use Rattle.probing_laws.specs.Verdicts.{IsLeast, IsEarlier}
use Rattle.probing_laws.specs.VerdictsTwo.{IsEarlierPlace, both_change_so, AreIndependentAt, CountBothAlike, IsFirstLeakTwo, NoneWrites}
use Rattle.probing_laws.specs.CertifiedTwo.{IsSecureAt}
use Rattle.probing_laws.proofs.Counts.{count-map, count-agree}
use Rattle.probing_laws.proofs.Transfers.{item-has}
use Rattle.probing_laws.proofs.IndependenceTwo.{both-swapped, both-self, earlier-beside, all-both, earlier-both}
use Rattle.probe_inspect.specs.Course.{IsCourseOf, latches_at, places_before}
use Rattle.probe_inspect.specs.Groups.{passes, passes_at, HasGroup}
use Rattle.probe_inspect.specs.Columns.{change_in}
use Rattle.probe_inspect.specs.Certify.{IsWorldsOf, IsSurveyOf}
use Rattle.probe_inspect.specs.declared.certifying.Survey.{Survey}
use Rattle.probe_inspect.specs.declared.course.Passed.{Passed}
use Rattle.probe_inspect.specs.declared.groups.Group.{Group}
use Rattle.probe_inspect.proofs.EvenGroups.{first-of, group-is, is-secret, places-by_secret, least-secret}
use Rattle.probe_inspect.proofs.Courses.{some-at, place-of}
use Rattle.probe_inspect.proofs.Along.{latches-there}
use Rattle.probe_inspect.proofs.Places.{place-low}
use Rattle.probe_inspect.proofs.Cells.{in-order, cell-is, latches-past, place-counts}
use Rattle.probe_inspect.proofs.Judged.{step-low, written-index, none-writes}
use Rattle.probe_order.specs.Places.{place_of, places_in}
use Rattle.probe_order.specs.Joint.{joint_in, same_joint, values_of, joint_often_in, IsBothLikeFirst, AreBothAlikeAt}
use Rattle.probe_order.specs.Pairs.{AreAlikePairs, IsFirstPair}
use Rattle.probe_order.specs.declared.pairs.Pair.{Pair}
use Rattle.probe_order.specs.declared.places.Place.{Place}
use Rattle.probe_order.proofs.PlaceNumbers.{IsAt, in-length, in-few, place-number, place-is, number-earlier, earlier-number}

-- two tests of one world
passes-both : (p q : World → Bool) (o : Option World) → (passes p o && passes q o) ≡ passes (λ w. p w && q w) o
passes-both p q None = refl
passes-both p q (Some w) = refl

module _ (T : Task) (worlds : List World) (ok : IsWorldsOf T worlds) (s : Survey) (is : IsSurveyOf T worlds s) where
  abbrev first : World
  first = (some-at worlds 0 is.admitted.some).0

  at : slice_get worlds 0 ≡ Some (some-at worlds 0 is.admitted.some).0
  at = (some-at worlds 0 is.admitted.some).1

  course-is : IsCourseOf (task_in T (some-at worlds 0 is.admitted.some).0) s.course
  course-is = is.course (some-at worlds 0 is.admitted.some).0 at

  -- a latch of a step, by its place among those of the step
  abbrev IsPlace : ℕ → Latch → Type 0
  IsPlace m l = (i : ℕ) × (slice_get (latches_at s.course m) i ≡ Some l)

  abbrev number : ℕ → ℕ → ℕ
  number m i = places_before (latches_at s.course) m + i

  low-step : (m i : ℕ) (l : Latch) → slice_get (latches_at s.course m) i ≡ Some l → m < length s.course.steps
  low-step m i l there = step-low T worlds ok is.admitted s.groups is.groups s.course is.course s.rows is.rows m i l there

  -- a place is none that a world writes, or one of the course
  each : (m : ℕ) (l : Latch) → NoneWrites T worlds m l ⊎ IsPlace m l
  each m l = go (is_written (task_in T (some-at worlds 0 is.admitted.some).0) m l) refl
    where
      go : (b : Bool) → is_written (task_in T (some-at worlds 0 is.admitted.some).0) m l ≡ b → NoneWrites T worlds m l ⊎ IsPlace m l
      go true written = inr (written-index T worlds ok is.admitted s.groups is.groups s.course is.course s.rows is.rows m l written)
      go false none = inl (none-writes T worlds ok is.admitted s.groups is.groups s.course is.course s.rows is.rows m l none)

  -- What stands in the rows at two places.
  module _ (m i : ℕ) (l : Latch) (there : slice_get (latches_at s.course m) i ≡ Some l)
      (n j : ℕ) (k : Latch) (also : slice_get (latches_at s.course n) j ≡ Some k) where
    abbrev both : (ℕ × ℕ) × (ℕ × ℕ) → World → Bool
    both joint = both_change_so T (m, l) (n, k) (values_of joint)

    cells-are : (r : ℕ) → r < length worlds → (joint : (ℕ × ℕ) × (ℕ × ℕ))
        → same_joint (joint_in (number m i) (number n j) (slice_get s.rows r)) joint ≡ passes_at worlds (both joint) r
    cells-are r under joint =
        ap (λ (b : Bool). b && same_pair (change_in (number n j) (slice_get s.rows r)) joint.1)
        (cell-is T worlds s.course s.rows is.rows m i l (low-step m i l there) there r under joint.0)
        ∙ ap (λ (b : Bool). passes_at worlds (changes_so T m l joint.0) r && b)
        (cell-is T worlds s.course s.rows is.rows n j k (low-step n j k also) also r under joint.1)
        ∙ passes-both (changes_so T m l joint.0) (changes_so T n k joint.1) (slice_get worlds r)

    -- Two changes stand there as often as they come in the worlds of the group's secret.
    joint-often : (g : Group) (h : ℕ) → slice_get s.groups h ≡ Some g → (joint : (ℕ × ℕ) × (ℕ × ℕ))
        → joint_often_in s.rows (number m i) (number n j) g joint ≡ count_in worlds g.secret (both joint)
    joint-often g h to joint =
        let group = group-is worlds s.groups is.groups.are h g to in
        count-map (λ (x : (ℕ × ℕ) × (ℕ × ℕ)). same_joint x joint) (λ r. joint_in (number m i) (number n j) (slice_get s.rows r)) g.members
        ∙ count-agree (λ r. same_joint (joint_in (number m i) (number n j) (slice_get s.rows r)) joint) (passes_at worlds (both joint)) g.members
        (λ v d inside. cells-are (get_or g.members v d) (group.below v d inside) joint)
        ∙ sym (group.counts (both joint))

    -- Where all groups are alike at both, their changes together are independent of the secret.
    alike-both : AreBothAlikeAt s.groups s.rows (number m i) (number n j) → AreIndependentAt T worlds (m, l) (n, k)
    alike-both alike values a b sa sb = go (is.groups.are.secrets a sa) (is.groups.are.secrets b sb)
      where
        go : HasGroup s.groups a → HasGroup s.groups b
            → count_in worlds a (both_change_so T (m, l) (n, k) values) ≡ count_in worlds b (both_change_so T (m, l) (n, k) values)
        go (c, g, to, is_a) (d, h, by, is_b) =
            let joint : (ℕ × ℕ) × (ℕ × ℕ) = ((values.0, values.1), (values.2, values.3)) in
            let head = first-of s.groups c g to in
            let left = item-has (IsBothLikeFirst s.groups s.rows (number m i) (number n j)) s.groups c g to alike head.0 head.1 joint in
            let right = item-has (IsBothLikeFirst s.groups s.rows (number m i) (number n j)) s.groups d h by alike head.0 head.1 joint in
            ap (λ x. count_in worlds x (both_change_so T (m, l) (n, k) values)) (sym is_a)
            ∙ sym (joint-often g c to joint) ∙ left ∙ sym right ∙ joint-often h d by joint
            ∙ ap (λ x. count_in worlds x (both_change_so T (m, l) (n, k) values)) is_b

  -- two places of one number are one
  one-place : (m i : ℕ) (l : Latch) → slice_get (latches_at s.course m) i ≡ Some l → (n j : ℕ) (k : Latch) → slice_get (latches_at s.course n) j ≡ Some k
      → number m i ≡ number n j → place_of m l ≡ place_of n k
  one-place m i l there n j k also same =
      let N = length s.course.steps in
      same_Some (place_of m l) (place_of n k)
      (sym (place-number (latches_at s.course) m i N l (low-step m i l there) there)
      ∙ ap (λ p. slice_get (places_in (latches_at s.course) N) p) same
      ∙ place-number (latches_at s.course) n j N k (low-step n j k also) also)

  -- each step has few places, and so the course
  few-latches : (n : ℕ) → length (latches_at s.course n) ≤ 7
  few-latches n = go (place-of s.course n)
    where
      go : ((passed : Passed) × (slice_get s.course.steps n ≡ Some passed)) ⊎ (length s.course.steps ≤ n) → length (latches_at s.course n) ≤ 7
      go (inl (passed, there)) =
          let few = (course-is.steps n passed there).few in
          let long = ap (λ (ls : List Latch). length ls) (latches-there s.course n passed there) in
          omega (arith, few, long)
      go (inr past) =
          let none = ap (λ (ls : List Latch). length ls) (latches-past T worlds s.course first at course-is n past) in omega (arith, none)

  pub few-places : (places : ℕ) → IsSecureAt T worlds places → places ≤ 700000
  few-places places secure =
      let some = is.admitted.some in
      let one = secure.2 0 first some in
      let all = place-counts T worlds s.course first at course-is ok.as_long is.rows.take 0 first some in
      let low = in-few (latches_at s.course) few-latches (length s.course.steps) in
      let within = course-is.within in
      let fuel = ok.valid.fuel_limit in
      omega (arith, one, all, low, within, fuel)

  module _ (one : IsSecureByOne T worlds) where
    -- the changes at each place come in equally many worlds of two secrets
    alone : (a b : ℕ) → IsSecret worlds a → IsSecret worlds b → (n : ℕ) (l : Latch) (change : ℕ × ℕ)
        → count_in worlds a (changes_so T n l change) ≡ count_in worlds b (changes_so T n l change)
    alone a b sa sb n l change = one.changes n l change a b sa sb

    -- one place beside itself
    self-both : (p : ℕ × Latch) → AreIndependentAt T worlds p p
    self-both p values a b sa sb = both-self T worlds a b (alone a b sa sb) p values

    swapped-both : (p q : ℕ × Latch) → AreIndependentAt T worlds q p → AreIndependentAt T worlds p q
    swapped-both p q both values a b sa sb =
        both-swapped T worlds a b (alone a b sa sb) p q (λ others. both others a b sa sb) values

    -- Two places of the course, the groups alike there in the order of the two.
    pair-both : (m i : ℕ) (l : Latch) → slice_get (latches_at s.course m) i ≡ Some l → (n j : ℕ) (k : Latch) → slice_get (latches_at s.course n) j ≡ Some k
        → (number m i < number n j → AreBothAlikeAt s.groups s.rows (number m i) (number n j))
        → (number n j < number m i → AreBothAlikeAt s.groups s.rows (number n j) (number m i))
        → AreIndependentAt T worlds (m, l) (n, k)
    pair-both m i l there n j k also up down = go (cases_order (number m i) (number n j))
      where
        go : (number m i ≡ number n j) ⊎ ((number m i < number n j) ⊎ (number n j < number m i)) → AreIndependentAt T worlds (m, l) (n, k)
        go (inl same) =
            let at_one : place_of m l ≡ place_of n k = one-place m i l there n j k also same in
            let P : Place → Type 0 = λ q. AreIndependentAt T worlds (m, l) (q.step, q.latch) in
            subst P at_one (self-both (m, l))
        go (inr (inl low)) = alike-both m i l there n j k also (up low)
        go (inr (inr more)) = swapped-both (m, l) (n, k) (alike-both n j k also m i l there (down more))

    abbrev count : ℕ
    count = length (places_in (latches_at s.course) (length s.course.steps))

    number-low : (m i : ℕ) (l : Latch) → slice_get (latches_at s.course m) i ≡ Some l
        → number m i < length (places_in (latches_at s.course) (length s.course.steps))
    number-low m i l there =
        let low = place-low (latches_at s.course) m i (length s.course.steps) (low-step m i l there) (slice_get_within (latches_at s.course m) i l there) in
        let long = in-length (latches_at s.course) (length s.course.steps) in
        omega (arith, low, long)

    -- Where all pairs are alike, the task is secure by two.
    pub secure-two : AreAlikePairs s.groups s.rows (length (places_in (latches_at s.course) (length s.course.steps)))
        (length (places_in (latches_at s.course) (length s.course.steps)))
        → IsSecureByTwo T worlds
    secure-two alike = record {
      by_one = one;
      changes = λ n l change m k other a b sa sb.
          all-both T worlds a b (alone a b sa sb) IsPlace each (λ c x d y x_is y_is values. pairs c x d y x_is y_is values a b sa sb)
          (n, l) (m, k) (change.0, change.1, other.0, other.1);
    }
      where
        pairs : (n : ℕ) (l : Latch) (m : ℕ) (k : Latch) → IsPlace n l → IsPlace m k → AreIndependentAt T worlds (n, l) (m, k)
        pairs n l m k (i, there) (j, also) =
            let one_low = number-low n i l there in
            let two_low = number-low m j k also in
            pair-both n i l there m j k also (λ up. alike (number n i) one_low (number m j) up two_low)
            (λ down. alike (number m j) two_low (number n i) down one_low)

    -- The first difference at two places is the first leak.
    module _ (total : IsStrictTotalOrder is_before) (pair : Pair) (p q : Place) (g : Group)
        (leak : IsFirstPair s.groups s.rows (length (places_in (latches_at s.course) (length s.course.steps))) pair)
        (p_is : slice_get (places_in (latches_at s.course) (length s.course.steps)) pair.first ≡ Some p)
        (q_is : slice_get (places_in (latches_at s.course) (length s.course.steps)) pair.second ≡ Some q)
        (g_is : slice_get s.groups 0 ≡ Some g) where
      one_at : IsAt (latches_at s.course) (length s.course.steps) pair.first p
      one_at = place-is (latches_at s.course) (length s.course.steps) pair.first p p_is

      two_at : IsAt (latches_at s.course) (length s.course.steps) pair.second q
      two_at = place-is (latches_at s.course) (length s.course.steps) pair.second q q_is

      abbrev P : ℕ × Latch
      P = (p.step, p.latch)

      abbrev Q : ℕ × Latch
      Q = (q.step, q.latch)

      abbrev b : ℕ
      b = leak.here.here.group.secret

      -- counts of the two groups
      of-first : (z : (ℕ × ℕ) × (ℕ × ℕ))
          → count_in worlds g.secret (both_change_so T P Q (values_of z)) ≡ joint_often_in s.rows pair.first pair.second g z
      of-first z =
          sym (joint-often p.step one_at.index p.latch one_at.there q.step two_at.index q.latch two_at.there g 0 g_is z)
          ∙ sym (λ i. joint_often_in s.rows (one_at.number i) (two_at.number i) g z)

      of-group : (h : Group) (c : ℕ) → slice_get s.groups c ≡ Some h → (z : (ℕ × ℕ) × (ℕ × ℕ))
          → count_in worlds h.secret (both_change_so T P Q (values_of z)) ≡ joint_often_in s.rows pair.first pair.second h z
      of-group h c to z =
          sym (joint-often p.step one_at.index p.latch one_at.there q.step two_at.index q.latch two_at.there h c to z)
          ∙ sym (λ i. joint_often_in s.rows (one_at.number i) (two_at.number i) h z)

      of-other : (z : (ℕ × ℕ) × (ℕ × ℕ)) → count_in worlds leak.here.here.group.secret (both_change_so T P Q (values_of z))
          ≡ joint_often_in s.rows pair.first pair.second leak.here.here.group z
      of-other = of-group leak.here.here.group leak.here.here.place leak.here.here.there

      is_b : pair.difference.secret ≡ leak.here.here.group.secret
      is_b = (leak.here.here.difference g g_is).is_secret

      count_a : pair.difference.count_first ≡ count_in worlds g.secret (both_change_so T P Q (values_of pair.difference.joint))
      count_a = (leak.here.here.difference g g_is).count_first ∙ sym (of-first pair.difference.joint)

      count_b : pair.difference.count_other ≡ count_in worlds leak.here.here.group.secret (both_change_so T P Q (values_of pair.difference.joint))
      count_b = (leak.here.here.difference g g_is).count_other ∙ sym (of-other pair.difference.joint)

      secret_a : IsLeast (IsSecret worlds) g.secret
      secret_a = least-secret worlds s.groups is.groups.are g g_is

      secret_b : IsSecret worlds leak.here.here.group.secret
      secret_b = is-secret worlds s.groups is.groups.are leak.here.here.place leak.here.here.group leak.here.here.there

      -- they aren't independent there
      leaks : AreIndependentAt T worlds P Q → ⊥
      leaks same =
          (leak.here.here.difference g g_is).differ
          (count_a ∙ same (values_of pair.difference.joint) g.secret leak.here.here.group.secret secret_a.is_so secret_b ∙ sym count_b)

      latch-is : (m i : ℕ) (l : Latch) → slice_get (latches_at s.course m) i ≡ Some l → IsLatch l
      latch-is m i l there = item-has IsLatch (latches_at s.course m) i l there (in-order T worlds s.course first at course-is m).latches

      ordered : IsEarlierPlace P Q
      ordered =
          let low = leak.here.after in
          let one_number = one_at.number in
          let two_number = two_at.number in
          go (earlier-number (latches_at s.course) q.step two_at.index q.latch two_at.there p.step one_at.index p.latch one_at.there total
          (latch-is p.step one_at.index p.latch one_at.there) (latch-is q.step two_at.index q.latch two_at.there)
          (in-order T worlds s.course first at course-is q.step).order (omega (arith, low, one_number, two_number)))
        where
          go : IsEarlier p.step p.latch q.step q.latch ⊎ ((p.step ≡ q.step) × (p.latch ≡ q.latch)) → IsEarlierPlace P Q
          go (inl early) = early
          go (inr (same, also)) =
              let both : (p.step, p.latch) ≡ (q.step, q.latch) = λ i. (same i, also i) in
              absurd (leaks (subst (λ (r : ℕ × Latch). AreIndependentAt T worlds P r) both (self-both P)))

      -- the number of an earlier place
      less-than : (r : Place) (c : ℕ) → IsAt (latches_at s.course) (length s.course.steps) c r → (n i : ℕ) (l : Latch) → slice_get (latches_at s.course n) i ≡ Some l
          → IsEarlierPlace (n, l) (r.step, r.latch) → number n i < c
      less-than r c r_at n i l there early =
          let low = number-earlier (latches_at s.course) r.step r_at.index r.latch r_at.there n i l there
          (in-order T worlds s.course first at course-is r.step).order early in
          let c_is = r_at.number in omega (arith, low, c_is)

      earlier : (r t : ℕ × Latch) → IsEarlierPlace r P → AreIndependentAt T worlds r t
      earlier r t early values a c sa sc =
          earlier-both T worlds a c (alone a c sa sc) IsPlace each P
          (λ n l m k before x y others. pairs n l m k before x y others a c sa sc) r early t values
        where
          pairs : (n : ℕ) (l : Latch) (m : ℕ) (k : Latch) → IsEarlierPlace (n, l) P → IsPlace n l → IsPlace m k → AreIndependentAt T worlds (n, l) (m, k)
          pairs n l m k before (i, there) (j, also) =
              let one_low = number-low n i l there in
              let two_low = number-low m j k also in
              let less = less-than p pair.first one_at n i l there before in
              pair-both n i l there m j k also (λ up. leak.earlier (number n i) less (number m j) up two_low)
              (λ down. leak.earlier (number m j) (omega (arith, less, down)) (number n i) down one_low)

      nearer : (t : ℕ × Latch) → IsEarlierPlace t Q → AreIndependentAt T worlds P t
      nearer t early values a c sa sc =
          both-swapped T worlds a c (alone a c sa sc) P t
          (earlier-beside T worlds a c (alone a c sa sc) IsPlace each P Q (λ n l before x others. pairs n l before x others a c sa sc) t early) values
        where
          pairs : (n : ℕ) (l : Latch) → IsEarlierPlace (n, l) Q → IsPlace n l → AreIndependentAt T worlds (n, l) P
          pairs n l before (i, there) =
              let less = less-than q pair.second two_at n i l there before in
              let high = leak.here.low in
              let after = leak.here.after in
              let p_number = one_at.number in
              let V : ℕ → Type 0 = λ c₂. AreBothAlikeAt s.groups s.rows (number n i) c₂ in
              let W : ℕ → Type 0 = λ c₂. AreBothAlikeAt s.groups s.rows c₂ (number n i) in
              pair-both n i l there p.step one_at.index p.latch one_at.there
              (λ up. subst V one_at.number (leak.earlier (number n i) (omega (arith, up, p_number)) pair.first (omega (arith, up, p_number)) (omega (arith, high, after))))
              (λ down. subst W one_at.number (leak.here.nearer (number n i) (omega (arith, down, p_number)) less))

      between : (c : ℕ) → IsSecret worlds c → c < leak.here.here.group.secret → CountBothAlike T worlds P Q g.secret c
      between c sc low values = go (is.groups.are.secrets c sc)
        where
          go : HasGroup s.groups c → count_in worlds c (both_change_so T P Q values) ≡ count_in worlds g.secret (both_change_so T P Q values)
          go (j, h, there, is_c) =
              let z : (ℕ × ℕ) × (ℕ × ℕ) = ((values.0, values.1), (values.2, values.3)) in
              let here = leak.here.here in
              let less = places-by_secret worlds s.groups is.groups.are j here.place h here.group there here.there (omega (arith, low, is_c)) in
              ap (λ x. count_in worlds x (both_change_so T P Q values)) (sym is_c)
              ∙ of-group h j there z ∙ here.before j h less there g g_is z ∙ sym (of-first z)

      pub first-leak-two : IsFirstLeakTwo T worlds (p.step, p.latch) (q.step, q.latch) g.secret pair.difference.secret (values_of pair.difference.joint)
          pair.difference.count_first pair.difference.count_other
      first-leak-two =
          let L : ℕ → Type 0 = λ x. IsFirstLeakTwo T worlds P Q g.secret x (values_of pair.difference.joint)
          pair.difference.count_first pair.difference.count_other in
          let leak_at : L leak.here.here.group.secret = record {
            are_latches = (latch-is p.step one_at.index p.latch one_at.there, latch-is q.step two_at.index q.latch two_at.there);
            ordered = ordered;
            earlier = earlier;
            nearer = nearer;
            first = secret_a;
            second = secret_b;
            between = between;
            lesser = λ others less.
                of-other ((others.0, others.1), (others.2, others.3))
                ∙ (leak.here.here.difference g g_is).lesser ((others.0, others.1), (others.2, others.3)) less
                ∙ sym (of-first ((others.0, others.1), (others.2, others.3)));
            counts_a = count_a;
            counts_b = count_b;
            differ = (leak.here.here.difference g g_is).differ;
          } in
          subst L (sym is_b) leak_at
