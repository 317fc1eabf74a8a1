-- Worlds that take a course, and the first that leaves it.
use Rattle.std.proofs.Common.{◌≡◌, ◌⊎◌, inl, inr, ℕ, ◌+◌, ◌<◌, ◌≤◌, List, [], ◌∷◌, ◌++◌, length, length-append, slice_get, Option, Some, None, ap, sym, ◌∙◌, subst, arith}
use Rattle.std.proofs.lemmas.Bool.{cases_lt}
use Rattle.std.proofs.lemmas.Option.{slice_get_within, same_Some}
use Rattle.isa_model.specs.declared.task.Task.{Task}
use Rattle.core_model.specs.declared.world.World.{World}
use Rattle.core_model.specs.Security.{task_in}
use Rattle.probe_inspect.specs.Course.{IsSeenAt, IsEndAt}
use Rattle.probe_inspect.specs.Rows.{IsSeenTo, IsAlong, IsRowOf, LeavesAt}
use Rattle.probe_inspect.specs.Table.{IsAlikeAt, IsFirstParting, TakeCourse, IsPartingTo, AreRowsTo}
use Rattle.probe_inspect.specs.declared.course.Passed.{Passed}
use Rattle.probe_inspect.specs.declared.course.Course.{Course}
use Rattle.probe_inspect.specs.declared.rows.Row.{Row}
use Rattle.probe_inspect.specs.declared.table.Parting.{Parting}
use Rattle.probe_inspect.proofs.Grouping.{get-push}

leaves-within : (T : Task) (course : Course) (step : ℕ) → LeavesAt T course step → step ≤ length course.steps
leaves-within T course step leaves = go leaves.leaves
  where
    go : ((passed : Passed) × (slice_get course.steps step ≡ Some passed) × (IsSeenAt T step passed → ⊥))
        ⊎ ((step ≡ length course.steps) × (IsEndAt T step course.last_pc → ⊥)) → step ≤ length course.steps
    go (inl (passed, there, not)) = let low = slice_get_within course.steps step passed there in omega (arith, low)
    go (inr (at, not)) = omega (arith, at)

seen-less : (T : Task) (course : Course) (m n : ℕ) → m ≤ n → IsSeenTo T course n → IsSeenTo T course m
seen-less T course m n low seen k passed under is = seen k passed (omega (arith, low, under)) is

along-seen : (T : Task) (course : Course) (n : ℕ) → IsAlong T course → IsSeenTo T course n
along-seen T course n along k passed under is = along.seen k passed (slice_get_within course.steps k passed is) is

along-alike : (T : Task) (course : Course) (n : ℕ) → IsAlong T course → IsAlikeAt T course n
along-alike T course n along = record {
  seen = λ passed is. along.seen n passed (slice_get_within course.steps n passed is) is;
  end = λ at. subst (λ k. IsEndAt T k course.last_pc) (sym at) along.end;
}

module _ (T : Task) (worlds : List World) (course : Course) (n : ℕ) (w : World) (there : slice_get worlds n ≡ Some w) where
  -- what is so of each of the first n worlds and of the next one
  each-more : (P : ℕ → World → Type 0) → ((i : ℕ) (u : World) → i < n → slice_get worlds i ≡ Some u → P i u) → P n w
      → (i : ℕ) (u : World) → i < n + 1 → slice_get worlds i ≡ Some u → P i u
  each-more P before here i u low is = go (cases_lt i n)
    where
      go : (i < n) ⊎ (n ≤ i) → P i u
      go (inl less) = before i u less is
      go (inr past) =
          let at : n ≡ i = omega (arith, low, past) in
          let same : w ≡ u = same_Some w u (sym there ∙ ap (λ k. slice_get worlds k) at ∙ is) in
          subst (λ (v : World). P i v) same (subst (λ k. P k w) at here)

  at-world : (u : World) → slice_get worlds n ≡ Some u → (P : World → Type 0) → P w → P u
  at-world u is P here = subst P (same_Some w u (sym there ∙ is)) here

  pub parting-new : (step : ℕ) → LeavesAt (task_in T w) course step → TakeCourse T worlds course n
      → IsFirstParting T worlds course (n + 1) (record { world = n; step = step })
  parting-new step leaves take = record {
    low = omega arith;
    within = leaves-within (task_in T w) course step leaves;
    leaves = λ u is. at-world u is (λ v. LeavesAt (task_in T v) course step) leaves;
    before = each-more (λ i u. IsSeenTo (task_in T u) course step) (λ i u low is. along-seen (task_in T u) course step (take i u low is)) leaves.seen;
    others = λ i u low is. along-alike (task_in T u) course step (take i u low is);
  }

  pub parting-kept : (p : Parting) (step : ℕ) → p.step ≤ step → IsSeenTo (task_in T w) course step → IsFirstParting T worlds course n p
      → IsFirstParting T worlds course (n + 1) p
  parting-kept p step low seen first = let under = first.low in record {
    low = omega (arith, under);
    within = first.within;
    leaves = first.leaves;
    before = each-more (λ i u. IsSeenTo (task_in T u) course p.step) first.before (seen-less (task_in T w) course p.step step low seen);
    others = first.others;
  }

  pub parting-earlier : (p : Parting) (step : ℕ) → step < p.step → LeavesAt (task_in T w) course step → IsFirstParting T worlds course n p
      → IsFirstParting T worlds course (n + 1) (record { world = n; step = step })
  parting-earlier p step low leaves first = let within = first.within in record {
    low = omega arith;
    within = leaves-within (task_in T w) course step leaves;
    leaves = λ u is. at-world u is (λ v. LeavesAt (task_in T v) course step) leaves;
    before = each-more (λ i u. IsSeenTo (task_in T u) course step)
        (λ i u under is. seen-less (task_in T u) course step p.step (omega (arith, low)) (first.before i u under is)) leaves.seen;
    others = λ i u under is. record {
      seen = λ passed at. first.before i u under is step passed low at;
      end = λ at. absurd (omega (arith, low, within, at));
    };
  }

  pub parting-along : IsAlong (task_in T w) course → (o : Option Parting) → IsPartingTo T worlds course n o → IsPartingTo T worlds course (n + 1) o
  parting-along along None take = each-more (λ i u. IsAlong (task_in T u) course) take along
  parting-along along (Some p) first = parting-kept p p.step (omega arith) (along-seen (task_in T w) course p.step along) first

  pub rows-more : (rows : List Row) (row : Row) → IsRowOf (task_in T w) course row → AreRowsTo T worlds course n rows
      → AreRowsTo T worlds course (n + 1) (rows ++ row ∷ [])
  rows-more rows row is before = let long = length-append rows (row ∷ []) in record {
    count = omega (arith, long, before.count);
    each = λ i r u at also. go i r u (get-push rows row r i at) also;
  }
    where
      go : (i : ℕ) (r : Row) (u : World) → (slice_get rows i ≡ Some r) ⊎ ((i ≡ length rows) × (row ≡ r)) → slice_get worlds i ≡ Some u
          → IsRowOf (task_in T u) course r
      go i r u (inl here) also = before.each i r u here also
      go i r u (inr (at, same)) also =
          let place : i ≡ n = at ∙ before.count in
          let one : w ≡ u = same_Some w u (sym there ∙ ap (λ k. slice_get worlds k) (sym place) ∙ also) in
          subst (λ (v : World). IsRowOf (task_in T v) course r) one (subst (λ (q : Row). IsRowOf (task_in T w) course q) same is)
