-- What stands in the rows at a place is a change of a latch, and how often it comes.
use Rattle.std.proofs.Common.{◌≡◌, ◌⊎◌, inl, inr, ℕ, zero, suc, ◌+◌, ◌-◌, ◌<◌, ◌≤◌, true, List, [], ◌++◌, map, length, length-append, get_or, slice_get, Option, Some, All, refl, ap, sym, ◌∙◌, subst, arith}
use Rattle.std.specs.List.{count_by}
use Rattle.std.proofs.lemmas.Bool.{cases_lt}
use Rattle.std.proofs.lemmas.List.{length-map, get_or_append_left, get_or-append-add, get_or-map}
use Rattle.std.proofs.lemmas.List.Elements.{All-nil}
use Rattle.std.proofs.lemmas.Option.{slice_get_within, slice_get_past, get_or_from_slice_get, slice_get-get_or}
use Rattle.isa_model.specs.declared.latch.Latch.{Latch}
use Rattle.isa_model.specs.declared.task.Task.{Task}
use Rattle.isa_model.specs.LatchOrder.{IsLatch}
use Rattle.isa_model.specs.AloneValue.{alone_value, alone_change}
use Rattle.core_model.specs.declared.world.World.{World}
use Rattle.core_model.specs.Loaded.{AreAsLong}
use Rattle.core_model.specs.Security.{task_in, count_in, same_pair, changes_so}
use Rattle.core_model.specs.Places.{written_at, places_to, place_count}
use Rattle.probing_laws.proofs.Counts.{count-map, count-agree}
use Rattle.probe_inspect.specs.LatchList.{AreInOrder}
use Rattle.probe_inspect.specs.Course.{IsCourseOf, latches_of, latches_at, places_before, values_to}
use Rattle.probe_inspect.specs.Columns.{change_in, often_in}
use Rattle.probe_inspect.specs.Groups.{passes, passes_at, IsGroup}
use Rattle.probe_inspect.specs.Rows.{IsRowOf}
use Rattle.probe_inspect.specs.Table.{TakeCourse}
use Rattle.probe_inspect.specs.Certify.{AreAllRows}
use Rattle.probe_inspect.specs.declared.course.Passed.{Passed}
use Rattle.probe_inspect.specs.declared.course.Course.{Course}
use Rattle.probe_inspect.specs.declared.groups.Group.{Group}
use Rattle.probe_inspect.specs.declared.rows.Row.{Row}
use Rattle.probe_inspect.proofs.Along.{values-none, latches-there}
use Rattle.probe_inspect.proofs.Places.{places-none, places-suc, place-low}
use Rattle.probe_inspect.proofs.EvenGroups.{count-true}
use Rattle.probe_inspect.proofs.Courses.{place-of, some-at, written-past, written-same, alike-along}

-- The values along some latches, step by step.
module _ (T : Task) (later : ℕ) (latches : ℕ → List Latch) where
  values-suc : (n : ℕ) → values_to T later latches (suc n) ≡ values_to T later latches n ++ map (alone_value T (n + later)) (latches n)
  unfolding values_to
  values-suc n = refl

  pub values-length : (n : ℕ) → length (values_to T later latches n) ≡ places_before latches n
  values-length zero = ap (λ (xs : List ℕ). length xs) (values-none T later latches) ∙ sym (places-none latches)
  values-length (suc n) =
      let long = length-append (values_to T later latches n) (map (alone_value T (n + later)) (latches n)) in
      let own = length-map (latches n) (alone_value T (n + later)) in
      let before = values-length n in
      let more = places-suc latches n in
      let all = ap (λ (xs : List ℕ). length xs) (values-suc n) in
      omega (arith, long, own, before, more, all)

  -- at the place of a latch stands its value
  pub value-at : (m i N : ℕ) (l : Latch) → m < N → slice_get (latches m) i ≡ Some l
      → get_or (values_to T later latches N) (places_before latches m + i) 0 ≡ alone_value T (m + later) l
  value-at m i zero l low there = absurd (omega (arith, low))
  value-at m i (suc N) l low there = go (cases_lt m N) (value-at m i N l)
    where
      inside : i < length (latches m)
      inside = slice_get_within (latches m) i l there

      go : (m < N) ⊎ (N ≤ m)
          → (m < N → slice_get (latches m) i ≡ Some l → get_or (values_to T later latches N) (places_before latches m + i) 0 ≡ alone_value T (m + later) l)
          → get_or (values_to T later latches (suc N)) (places_before latches m + i) 0 ≡ alone_value T (m + later) l
      go (inl less) rest =
          let place = place-low latches m i N less inside in
          let long = values-length N in
          ap (λ (xs : List ℕ). get_or xs (places_before latches m + i) 0) (values-suc N)
          ∙ get_or_append_left (values_to T later latches N) (map (alone_value T (N + later)) (latches N)) 0 (places_before latches m + i) (omega (arith, place, long))
          ∙ rest less there
      go (inr past) rest =
          let same : m ≡ N = omega (arith, low, past) in
          let at : places_before latches m + i ≡ length (values_to T later latches m) + i = ap (λ k. k + i) (sym (values-length m)) in
          let whole : values_to T later latches (suc N) ≡ values_to T later latches m ++ map (alone_value T (m + later)) (latches m) =
          ap (λ k. values_to T later latches (suc k)) (sym same) ∙ values-suc m in
          ap (λ (xs : List ℕ). get_or xs (places_before latches m + i) 0) whole
          ∙ ap (λ k. get_or (values_to T later latches m ++ map (alone_value T (m + later)) (latches m)) k 0) at
          ∙ get_or-append-add (values_to T later latches m) (map (alone_value T (m + later)) (latches m)) i 0
          ∙ get_or-map (alone_value T (m + later)) (latches m) i l 0 inside
          ∙ ap (alone_value T (m + later)) (get_or_from_slice_get (latches m) i l l there)

-- Places past the steps of a course are none.
module _ (T : Task) (worlds : List World) (course : Course) (first : World) (at : slice_get worlds 0 ≡ Some first)
    (is : IsCourseOf (task_in T first) course) where
  abbrev V : Task
  V = task_in T first

  abbrev N : ℕ
  N = length course.steps

  abbrev latches : ℕ → List Latch
  latches = latches_at course

  pub latches-past : (n : ℕ) → length course.steps ≤ n → latches_at course n ≡ []
  latches-past n past = ap latches_of (slice_get_past course.steps n past)

  -- the latches of a step are those that are written, in order
  pub in-order : (n : ℕ) → AreInOrder (latches_at course n) (written_at (task_in T first) n)
  in-order n = go (place-of course n)
    where
      go : ((passed : Passed) × (slice_get course.steps n ≡ Some passed)) ⊎ (length course.steps ≤ n)
          → AreInOrder (latches_at course n) (written_at (task_in T first) n)
      go (inl (passed, there)) =
          subst (λ (ls : List Latch). AreInOrder ls (written_at (task_in T first) n)) (sym (latches-there course n passed there)) (is.steps n passed there).latches
      go (inr past) =
          let none : AreInOrder [] [] = record { same = λ test. refl; order = tt; latches = All-nil IsLatch } in
          subst (λ (ls : List Latch). AreInOrder ls (written_at (task_in T first) n)) (sym (latches-past n past))
          (subst (λ (ks : List Latch). AreInOrder [] ks) (sym (written-past T worlds course first at is n past)) none)

  count-all : (ls : List Latch) → count_by (λ (l : Latch). true) ls ≡ length ls
  count-all ls = count-true (λ (l : Latch). true) ls (λ i d low. refl)

  same-length : (n : ℕ) → length (latches_at course n) ≡ length (written_at (task_in T first) n)
  same-length n =
      sym (count-all (latches_at course n)) ∙ (in-order n).same (λ (l : Latch). true) ∙ count-all (written_at (task_in T first) n)

  places-first : (n : ℕ) → places_to (task_in T first) n ≡ places_before (latches_at course) n
  unfolding places_to
  places-first zero = sym (places-none (latches_at course))
  places-first (suc n) =
      let before = places-first n in
      let here = same-length n in
      let more = places-suc (latches_at course) n in
      omega (arith, before, here, more)

  places-past : (k : ℕ) → places_before (latches_at course) (length course.steps + k) ≡ places_before (latches_at course) (length course.steps)
  places-past zero = let e : length course.steps + 0 ≡ length course.steps = omega arith in ap (places_before (latches_at course)) e
  places-past (suc k) =
      let n : ℕ = length course.steps + k in
      let e : length course.steps + suc k ≡ suc n = omega arith in
      let all = ap (places_before (latches_at course)) e in
      let more = places-suc (latches_at course) n in
      let none = ap (λ (ls : List Latch). length ls) (latches-past n (omega arith)) in
      let before = places-past k in
      omega (arith, all, more, none, before)

  module _ (long : AreAsLong worlds) (take : TakeCourse T worlds course (length worlds)) where
    pub written-in : (i : ℕ) (w : World) → slice_get worlds i ≡ Some w → (n : ℕ) → written_at (task_in T w) n ≡ written_at (task_in T first) n
    written-in i w there n =
        written-same T worlds course first at is (task_in T w) (alike-along T worlds course first at is long take i w there)
        (take i w (slice_get_within worlds i w there) there) n

    places-in : (i : ℕ) (w : World) → slice_get worlds i ≡ Some w → (n : ℕ) → places_to (task_in T w) n ≡ places_to (task_in T first) n
    unfolding places_to
    places-in i w there zero = refl
    places-in i w there (suc n) =
        let before = places-in i w there n in
        let here = ap (λ (ls : List Latch). length ls) (written-in i w there n) in
        omega (arith, before, here)

    -- the places of a course are those of each world
    pub place-counts : All (λ (w : World). places_before (latches_at course) (length course.steps) ≡ place_count (task_in T w)) worlds
    place-counts i d low =
        let w = get_or worlds i d in
        let within = is.within in
        let rest : length course.steps + (T.fuel - length course.steps) ≡ T.fuel = omega (arith, within) in
        sym (places-past (T.fuel - length course.steps)) ∙ ap (places_before (latches_at course)) rest
        ∙ sym (places-first T.fuel) ∙ sym (places-in i w (slice_get-get_or worlds i d low) T.fuel)

-- What stands in the rows at the place of a latch.
module _ (T : Task) (worlds : List World) (course : Course) (rows : List Row) (all : AreAllRows T worlds course rows)
    (m i : ℕ) (l : Latch) (low : m < length course.steps) (there : slice_get (latches_at course m) i ≡ Some l) where
  abbrev place : ℕ
  place = places_before (latches_at course) m + i

  change-is : (row : Row) (w : World) → IsRowOf (task_in T w) course row → change_in place (Some row) ≡ alone_change (task_in T w) m l
  change-is row w of =
      let U = task_in T w in
      let zero_later : m + 0 ≡ m = omega arith in
      let was : get_or row.was place 0 ≡ alone_value U m l =
      ap (λ (xs : List ℕ). get_or xs place 0) of.was ∙ value-at U 0 (latches_at course) m i (length course.steps) l low there
      ∙ ap (λ k. alone_value U k l) zero_later in
      let now : get_or row.now place 0 ≡ alone_value U (m + 1) l =
      ap (λ (xs : List ℕ). get_or xs place 0) of.now ∙ value-at U 1 (latches_at course) m i (length course.steps) l low there in
      λ k. (was k, now k)

  pub cell-is : (j : ℕ) → j < length worlds → (change : ℕ × ℕ)
      → same_pair (change_in place (slice_get rows j)) change ≡ passes_at worlds (changes_so T m l change) j
  cell-is j under change =
      let w = some-at worlds j under in
      let count = all.each.count in
      let r = some-at rows j (omega (arith, under, count)) in
      let of = all.each.each j r.0 w.0 r.1 w.1 in
      ap (λ (o : Option Row). same_pair (change_in place o) change) r.1
      ∙ ap (λ (p : ℕ × ℕ). same_pair p change) (change-is r.0 w.0 of)
      ∙ sym (ap (passes (changes_so T m l change)) w.1)

  -- A change stands there as often as it comes in the worlds of the group's secret.
  pub often-is : (g : Group) → IsGroup worlds g → (change : ℕ × ℕ)
      → often_in rows place g change ≡ count_in worlds g.secret (changes_so T m l change)
  often-is g group change =
      count-map (λ (x : ℕ × ℕ). same_pair x change) (λ j. change_in place (slice_get rows j)) g.members
      ∙ count-agree (λ j. same_pair (change_in place (slice_get rows j)) change) (passes_at worlds (changes_so T m l change)) g.members
      (λ k d inside. cell-is (get_or g.members k d) (group.below k d inside) change)
      ∙ sym (group.counts (changes_so T m l change))
