-- Each task of a core that is kept has exactly one home, and no other task has one.
use Rattle.std.proofs.Common.{◌≡◌, ℕ, ◌≤◌, ◌<◌, Bool, true, false, List, [], ◌∷◌, if◌then◌else◌, Option, Some, None, IsSome, refl, subst, arith, ⊎_elim}
use Rattle.std.specs.Prelude.{Contains, find, option_map}
use Rattle.std.specs.List.{count_by}
use Rattle.std.proofs.lemmas.Bool.{eqb-true, cases_lt}
use Rattle.std.proofs.lemmas.List.Elements.{Contains-append_right}
use Rattle.hart_model.specs.Context.{BodyState, ContextState, DoneState}
use Rattle.core_model.specs.declared.home.Home.{Home}
use Rattle.core_model.specs.declared.home.Home.TheVariants.{Waiting, Slot, Hart, Ended}
use Rattle.core_model.specs.Board.{BoardState, OutEntry, all_ready}
use Rattle.core_model.specs.Homes.{home_or, home_of}
use Rattle.core_invariant.specs.Homes.{IsHomeOf, HasExactHomes}
use Rattle.core_model.proofs.Counts.{waits_as, ready_as, out_as, ended_as}
use Rattle.core_invariant.proofs.Homes.{HasOneHomeEach, one_home, no-home, find-some, waiting-home, ready-home, out-home, ended-home}

-- what is found is in the list and passes
found_tells : {X : Type 0} (p : X → Bool) (xs : List X) (x : X) → find p xs ≡ Some x → Contains xs x × (p x ≡ true)
found_tells p [] x e = absurd (cc e)
found_tells {X} p (y ∷ ys) x e = by_test (p y) refl e (found_tells p ys x)
  where
    by_test : (test : Bool) → p y ≡ test → (if test then Some y else find p ys) ≡ Some x → (find p ys ≡ Some x → Contains ys x × (p x ≡ true))
        → Contains (y ∷ ys) x × (p x ≡ true)
    by_test true is same rest =
        let here : y ≡ x = cc same in
        ((0, omega arith, here), subst (λ z. p z ≡ true) here is)
    by_test false is same rest = let later = rest same in (Contains-append_right (y ∷ []) ys x later.0, later.1)

module _ (b : BoardState) (t : ℕ) where
  -- a home that is read off the lists says where the task is
  told : (home : Home) (w : Option BodyState) (r : Option ContextState) (o : Option OutEntry) (e : Option DoneState)
      → find (waits_as t) b.waiting ≡ w → find (ready_as t) (all_ready b.ready) ≡ r → find (out_as t) b.out ≡ o → find (ended_as t) b.ended ≡ e
      → home_or (option_map (λ body. Waiting) w) (home_or (option_map (λ c. Slot c.slot) r)
      (home_or (option_map (λ x. Hart x.hart x.slot) o) (option_map (λ d. Ended) e))) ≡ Some home
      → IsHomeOf b t home
  told home (Some body) r o e w_is r_is o_is e_is same =
      let tells = found_tells (waits_as t) b.waiting body w_is in
      let this : Waiting ≡ home = cc same in
      subst (IsHomeOf b t) this (body, tells.0, eqb-true body.task_no t tells.1)
  told home None (Some c) o e w_is r_is o_is e_is same =
      let tells = found_tells (ready_as t) (all_ready b.ready) c r_is in
      let this : Slot c.slot ≡ home = cc same in
      subst (IsHomeOf b t) this (c, tells.0, eqb-true c.body.task_no t tells.1, refl)
  told home None None (Some x) e w_is r_is o_is e_is same =
      let tells = found_tells (out_as t) b.out x o_is in
      let this : Hart x.hart x.slot ≡ home = cc same in
      subst (IsHomeOf b t) this (x, tells.0, eqb-true x.task_no t tells.1, refl, refl)
  told home None None None (Some d) w_is r_is o_is e_is same =
      let tells = found_tells (ended_as t) b.ended d e_is in
      let this : Ended ≡ home = cc same in
      subst (IsHomeOf b t) this (d, tells.0, eqb-true d.task_no t tells.1)
  told home None None None None w_is r_is o_is e_is same = absurd (cc same)

  pub home-told : (home : Home) → home_of b t ≡ Some home → IsHomeOf b t home
  home-told home is =
      told home (find (waits_as t) b.waiting) (find (ready_as t) (all_ready b.ready)) (find (out_as t) b.out) (find (ended_as t) b.ended) refl refl refl refl is

-- some home where one of the lists has the task
map_is_some : {X Y : Type 0} (f : X → Y) (o : Option X) → IsSome o → IsSome (option_map f o)
map_is_some f None some = absurd (cc some)
map_is_some f (Some x) some = refl

first_is_some : (a b : Option Home) → IsSome a → IsSome (home_or a b)
first_is_some None b some = absurd (cc some)
first_is_some (Some home) b some = refl

second_is_some : (a b : Option Home) → IsSome b → IsSome (home_or a b)
second_is_some None b some = some
second_is_some (Some home) b some = refl

module _ (tasks : ℕ) (b : BoardState) (homes : HasOneHomeEach tasks b) where
  -- A task has the home that it is at, and no other.
  pub home-is : (t : ℕ) (home : Home) → IsHomeOf b t home → home_of b t ≡ Some home
  home-is t Waiting at = subst (λ n. home_of b n ≡ Some Waiting) at.2 (waiting-home tasks b homes at.0 at.1)
  home-is t (Slot slot) at =
      subst (λ n. home_of b n ≡ Some (Slot slot)) at.2 (subst (λ s. home_of b at.0.body.task_no ≡ Some (Slot s)) at.3 (ready-home tasks b homes at.0 at.1))
  home-is t (Hart hart slot) at =
      subst (λ n. home_of b n ≡ Some (Hart hart slot)) at.2
      (subst (λ n. home_of b at.0.task_no ≡ Some (Hart n slot)) at.3
      (subst (λ s. home_of b at.0.task_no ≡ Some (Hart at.0.hart s)) at.4 (out-home tasks b homes at.0 at.1)))
  home-is t Ended at = subst (λ n. home_of b n ≡ Some Ended) at.2 (ended-home tasks b homes at.0 at.1)

  -- Every task has a home.
  pub has-home : (t : ℕ) → t < tasks → IsSome (home_of b t)
  has-home t lt =
      let w = option_map (λ (body : BodyState). Waiting) (find (waits_as t) b.waiting) in
      let r = option_map (λ (c : ContextState). Slot c.slot) (find (ready_as t) (all_ready b.ready)) in
      let o = option_map (λ (x : OutEntry). Hart x.hart x.slot) (find (out_as t) b.out) in
      let e = option_map (λ (d : DoneState). Ended) (find (ended_as t) b.ended) in
      let one = one_home tasks b homes t lt in
      ⊎_elim
      (λ (some : 0 < count_by (waits_as t) b.waiting). first_is_some w (home_or r (home_or o e))
      (map_is_some _ _ (find-some (waits_as t) b.waiting (omega arith))))
      (λ (none : count_by (waits_as t) b.waiting ≤ 0). second_is_some w (home_or r (home_or o e)) (⊎_elim
      (λ (some : 0 < count_by (ready_as t) (all_ready b.ready)). first_is_some r (home_or o e) (map_is_some _ _ (find-some (ready_as t) (all_ready b.ready) (omega arith))))
      (λ (also : count_by (ready_as t) (all_ready b.ready) ≤ 0). second_is_some r (home_or o e) (⊎_elim
      (λ (some : 0 < count_by (out_as t) b.out). first_is_some o e (map_is_some _ _ (find-some (out_as t) b.out (omega arith))))
      (λ (too : count_by (out_as t) b.out ≤ 0). second_is_some o e (map_is_some _ _ (find-some (ended_as t) b.ended (omega arith))))
      (cases_lt 0 (count_by (out_as t) b.out))))
      (cases_lt 0 (count_by (ready_as t) (all_ready b.ready)))))
      (cases_lt 0 (count_by (waits_as t) b.waiting))

  pub exact-homes : HasExactHomes tasks b
  exact-homes = record {
    has = has-home;
    none = no-home tasks b homes;
    told = λ t home is. home-told b t home is;
    is_home = home-is;
  }
