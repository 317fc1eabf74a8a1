-- Where a task is, by the counts: a board on which each task is in one place has for each task just the home that is read off it.
use Rattle.std.proofs.Common.{◌≡◌, ℕ, zero, suc, ◌≤◌, ◌<◌, Bool, true, false, List, [], ◌∷◌, length, get_or, nat_lt, if◌then◌else◌, Some, None, IsSome, refl, sym, ap, ◌∙◌, subst, arith}
use Rattle.std.specs.Prelude.{Contains, find}
use Rattle.std.specs.List.{count_by}
use Rattle.std.proofs.lemmas.Bool.{eq-eqb, lt-ltb, le-ltb}
use Rattle.hart_model.specs.Context.{BodyState, ContextState, DoneState}
use Rattle.core_model.specs.declared.home.Home.TheVariants.{Waiting, Slot, Hart, Ended}
use Rattle.core_model.specs.Board.{BoardState, OutEntry, all_ready}
use Rattle.core_model.specs.Homes.{home_of}
use Rattle.core_model.specs.Soundness.{home_count}
use Rattle.core_model.proofs.Lists.{bit, count-cons}
use Rattle.core_model.proofs.Counts.{waits_as, ready_as, out_as, ended_as}

module _ {X : Type 0} (p : X → Bool) where
  -- none is found exactly where none is counted
  pub find-none : (xs : List X) → count_by p xs ≡ 0 → find p xs ≡ None
  find-none [] none = refl
  find-none (x ∷ xs) none = by_test (p x) refl (find-none xs)
    where
      by_test : (test : Bool) → p x ≡ test → (count_by p xs ≡ 0 → find p xs ≡ None) → (if test then Some x else find p xs) ≡ None
      by_test true is rest = let one = count-cons p x xs in let here = ap bit is in absurd (omega (arith, here))
      by_test false is rest = let one = count-cons p x xs in let other = ap bit is in rest (omega (arith, other))

  pub find-some : (xs : List X) → 1 ≤ count_by p xs → IsSome (find p xs)
  find-some [] some = absurd (omega arith)
  find-some (x ∷ xs) some = by_test (p x) refl (find-some xs)
    where
      by_test : (test : Bool) → p x ≡ test → (1 ≤ count_by p xs → IsSome (find p xs)) → IsSome (if test then Some x else find p xs)
      by_test true is rest = refl
      by_test false is rest = let one = count-cons p x xs in let other = ap bit is in rest (omega (arith, other))

  -- an item that passes is counted
  counted_at : (xs : List X) (i : ℕ) (x : X) → i < length xs → get_or xs i x ≡ x → p x ≡ true → 1 ≤ count_by p xs
  counted_at [] i x lt e passes = absurd (omega arith)
  counted_at (y ∷ ys) zero x lt e passes = let one = count-cons p y ys in let here = ap bit (ap p e ∙ passes) in omega (arith, here)
  counted_at (y ∷ ys) (suc i) x lt e passes = let one = count-cons p y ys in let rest = counted_at ys i x (omega arith) e passes in omega arith

  pub counted : (xs : List X) (x : X) → Contains xs x → p x ≡ true → 1 ≤ count_by p xs
  counted xs x here passes = counted_at xs here.0 x here.1 here.2 passes

  -- where one is counted at most, an item that passes is the one that is found
  found_at : (xs : List X) (i : ℕ) (x : X) → count_by p xs ≤ 1 → i < length xs → get_or xs i x ≡ x → p x ≡ true → find p xs ≡ Some x
  found_at [] i x once lt e passes = absurd (omega arith)
  found_at (y ∷ ys) zero x once lt e passes =
      let here : p y ≡ true = ap p e ∙ passes in
      ap (λ b. if b then Some y else find p ys) here ∙ ap Some e
  found_at (y ∷ ys) (suc i) x once lt e passes = by_test (p y) refl (λ few. found_at ys i x few (omega arith) e passes)
    where
      by_test : (test : Bool) → p y ≡ test → (count_by p ys ≤ 1 → find p ys ≡ Some x) → (if test then Some y else find p ys) ≡ Some x
      by_test true is rest =
          let one = count-cons p y ys in
          let here = ap bit is in
          let more = counted_at ys i x (omega arith) e passes in
          absurd (omega (arith, here))
      by_test false is rest = let one = count-cons p y ys in rest (omega arith)

  pub found : (xs : List X) (x : X) → count_by p xs ≤ 1 → Contains xs x → p x ≡ true → find p xs ≡ Some x
  found xs x once here passes = found_at xs here.0 x once here.1 here.2 passes

-- Each task is in one place of a board of so many tasks.
abbrev pub HasOneHomeEach : ℕ → BoardState → Type 0
HasOneHomeEach tasks b = (task_no : ℕ) → home_count b task_no ≡ (if nat_lt task_no tasks then 1 else 0)

module _ (tasks : ℕ) (b : BoardState) (homes : HasOneHomeEach tasks b) where
  pub one_home : (t : ℕ) → t < tasks → home_count b t ≡ 1
  one_home t lt = homes t ∙ ap bit (lt-ltb t tasks lt)

  no_homes : (t : ℕ) → tasks ≤ t → home_count b t ≡ 0
  no_homes t le = homes t ∙ ap bit (le-ltb t tasks le)

  at_most_one : (t : ℕ) → home_count b t ≤ 1
  at_most_one t = subst (λ n. n ≤ 1) (sym (homes t)) (small (nat_lt t tasks))
    where
      small : (test : Bool) → bit test ≤ 1
      small true = omega arith
      small false = omega arith

  -- A task that there isn't has no home.
  pub no-home : (t : ℕ) → tasks ≤ t → home_of b t ≡ None
  no-home t le =
      let none = no_homes t le in
      rw (
        find-none (waits_as t) b.waiting (omega arith),
        find-none (ready_as t) (all_ready b.ready) (omega arith),
        find-none (out_as t) b.out (omega arith),
        find-none (ended_as t) b.ended (omega arith),
      ) refl

  -- A task in one of the lists has the home that this list says: so no other list has it, and this one has it once.
  pub waiting-home : (body : BodyState) → Contains b.waiting body → home_of b body.task_no ≡ Some Waiting
  waiting-home body here =
      let t = body.task_no in
      let once = at_most_one t in
      let is = found (waits_as t) b.waiting body (omega arith) here (eq-eqb t t refl) in
      rw is refl

  pub ready-home : (c : ContextState) → Contains (all_ready b.ready) c → home_of b c.body.task_no ≡ Some (Slot c.slot)
  ready-home c here =
      let t = c.body.task_no in
      let once = at_most_one t in
      let more = counted (ready_as t) (all_ready b.ready) c here (eq-eqb t t refl) in
      let is = found (ready_as t) (all_ready b.ready) c (omega arith) here (eq-eqb t t refl) in
      rw (find-none (waits_as t) b.waiting (omega arith), is) refl

  pub out-home : (o : OutEntry) → Contains b.out o → home_of b o.task_no ≡ Some (Hart o.hart o.slot)
  out-home o here =
      let t = o.task_no in
      let once = at_most_one t in
      let more = counted (out_as t) b.out o here (eq-eqb t t refl) in
      let is = found (out_as t) b.out o (omega arith) here (eq-eqb t t refl) in
      rw (find-none (waits_as t) b.waiting (omega arith), find-none (ready_as t) (all_ready b.ready) (omega arith), is) refl

  pub ended-home : (d : DoneState) → Contains b.ended d → home_of b d.task_no ≡ Some Ended
  ended-home d here =
      let t = d.task_no in
      let once = at_most_one t in
      let more = counted (ended_as t) b.ended d here (eq-eqb t t refl) in
      let is = found (ended_as t) b.ended d (omega arith) here (eq-eqb t t refl) in
      rw (find-none (waits_as t) b.waiting (omega arith), find-none (ready_as t) (all_ready b.ready) (omega arith), find-none (out_as t) b.out (omega arith), is) refl
