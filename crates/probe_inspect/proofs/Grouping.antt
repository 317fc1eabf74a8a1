-- Groups of a list in order, one run after the other, and what they are of worlds.
use Rattle.std.proofs.Common.{◌≡◌, ◌≢◌, ◌⊎◌, inl, inr, ℕ, zero, suc, ◌+◌, ◌<◌, ◌≤◌, ◌==◌, ◌&&◌, leb, Bool, true, false, cond, List, [], ◌∷◌, ◌++◌, map, take, filter, length, get_or, slice_get, Option, Some, None, All, refl, ap, sym, ◌∙◌, subst, arith, eq-eqb, IsPermutation, if◌then◌else◌, add-one}
use Rattle.std.specs.List.{count_by}
use Rattle.std.specs.List.Sorted.{IsNonDecreasingBy}
use Rattle.std.proofs.lemmas.Bool.{cases_eq, ne_eqb, lt-leb, leb-false}
use Rattle.std.proofs.lemmas.List.{take_all}
use Rattle.std.proofs.lemmas.List.Elements.{All-nil, All-cons, All-head, All-tail, All-push, All-append, All-weaker, filter_more}
use Rattle.std.proofs.lemmas.List.Sorted.{sum_by-IsPermutation}
use Rattle.std.proofs.lemmas.Option.{slice_get_within, slice_get-get_or, same_Some, get_or_from_slice_get}
use Rattle.core_model.specs.declared.world.World.{World}
use Rattle.core_model.specs.Security.{worlds_of, count_in, IsSecret}
use Rattle.core_model.proofs.Lists.{bit, count-cons, count-append, count-push}
use Rattle.probing_laws.proofs.Counts.{count-map, count-agree}
use Rattle.probe_inspect.specs.declared.groups.Group.{Group}
use Rattle.probe_inspect.specs.Groups.{passes, passes_at, IsGroup, AreAscending, HasGroup, AreGroups, numbered, number_of, members_of, IsRunFrom, AreGroupsTo}
use Rattle.probe_inspect.proofs.Numbered.{numbered-none, numbered-more}

-- an item of a longer list
pub get-push : {X : Type 0} (xs : List X) (y z : X) (i : ℕ) → slice_get (xs ++ y ∷ []) i ≡ Some z → (slice_get xs i ≡ Some z) ⊎ ((i ≡ length xs) × (y ≡ z))
get-push [] y z zero is = inr (refl, same_Some y z is)
get-push [] y z (suc i) is = absurd cc
get-push (x ∷ xs) y z zero is = inl is
get-push (x ∷ xs) y z (suc i) is = go (get-push xs y z i is)
  where
    go : (slice_get xs i ≡ Some z) ⊎ ((i ≡ length xs) × (y ≡ z)) → (slice_get xs i ≡ Some z) ⊎ ((suc i ≡ suc (length xs)) × (y ≡ z))
    go (inl there) = inl there
    go (inr (at, same)) = inr (ap suc at, same)

-- none passes a test that fails
pub count-false : {X : Type 0} (xs : List X) → count_by (λ (x : X). false) xs ≡ 0
count-false [] = refl
count-false {X} (x ∷ xs) = let one = count-cons (λ (y : X). false) x xs in let rest = count-false xs in omega (arith, one, rest)

-- where none passes, each fails
pub each-fails : {X : Type 0} (p : X → Bool) (xs : List X) → count_by p xs ≡ 0 → All (λ x. p x ≡ false) xs
each-fails p [] none = All-nil (λ x. p x ≡ false)
each-fails {X} p (x ∷ xs) none =
    let one = count-cons p x xs in
    let rest : count_by p xs ≡ 0 = omega (arith, one, none) in
    let here : bit (p x) ≡ 0 = omega (arith, one, none) in
    All-cons (λ (y : X). p y ≡ false) x xs (fails (p x) here) (each-fails p xs rest)
  where
    fails : (b : Bool) → bit b ≡ 0 → b ≡ false
    fails true is = absurd (omega (arith, is))
    fails false is = refl

-- one that passes is counted
pub some-passes : {X : Type 0} (p : X → Bool) (xs : List X) (i : ℕ) (d : X) → i < length xs → p (get_or xs i d) ≡ true → 0 < count_by p xs
some-passes p [] i d low is = absurd (omega (arith, low))
some-passes p (x ∷ xs) zero d low is =
    let one = count-cons p x xs in
    let here : bit (p x) ≡ 1 = ap bit is in
    omega (arith, one, here)
some-passes p (x ∷ xs) (suc i) d low is =
    let one = count-cons p x xs in
    let rest = some-passes p xs i d (omega (arith, low)) is in
    omega (arith, one, rest)

-- Members of the first group of a secret.
has : (g h : Group) (gs : List Group) (secret : ℕ) (b : Bool) → (g.secret == secret) ≡ b
    → members_of (g ∷ gs) secret ≡ (if b then g.members else members_of gs secret)
has g h gs secret b is = ap (λ (t : Bool). if t then g.members else members_of gs secret) is

members-here : (g : Group) (gs : List Group) → members_of (g ∷ gs) g.secret ≡ g.members
members-here g gs = has g g gs g.secret true (eq-eqb g.secret g.secret refl)

members-later : (g : Group) (gs : List Group) (secret : ℕ) → (g.secret ≡ secret → ⊥) → members_of (g ∷ gs) secret ≡ members_of gs secret
members-later g gs secret other = has g g gs secret false (ne_eqb g.secret secret other)

members-none : (gs : List Group) (secret : ℕ) → All (λ (g : Group). g.secret < secret) gs → members_of gs secret ≡ []
members-none [] secret low = refl
members-none (g ∷ gs) secret low =
    let P : Group → Type 0 = λ h. h.secret < secret in
    let here : g.secret < secret = All-head P g gs low in
    members-later g gs secret (λ is. absurd (omega (arith, here, is))) ∙ members-none gs secret (All-tail P g gs low)

members-push : (gs : List Group) (x : Group) → All (λ (g : Group). g.secret < x.secret) gs → members_of (gs ++ x ∷ []) x.secret ≡ x.members
members-push [] x low = members-here x []
members-push (g ∷ gs) x low =
    let P : Group → Type 0 = λ h. h.secret < x.secret in
    let here : g.secret < x.secret = All-head P g gs low in
    members-later g (gs ++ x ∷ []) x.secret (λ is. absurd (omega (arith, here, is))) ∙ members-push gs x (All-tail P g gs low)

members-other : (gs : List Group) (x : Group) (secret : ℕ) → (x.secret ≡ secret → ⊥) → members_of (gs ++ x ∷ []) secret ≡ members_of gs secret
members-other [] x secret other = members-later x [] secret other
members-other (g ∷ gs) x secret other =
    ap (λ (ms : List ℕ). if g.secret == secret then g.members else ms) (members-other gs x secret other)

ascending-tail : (g : Group) (gs : List Group) → AreAscending (g ∷ gs) → AreAscending gs
ascending-tail g gs up i j h k low one two = up (suc i) (suc j) h k (omega (arith, low)) one two

pub members-at : (gs : List Group) → AreAscending gs → (i : ℕ) (g : Group) → slice_get gs i ≡ Some g → members_of gs g.secret ≡ g.members
members-at [] up i g is = absurd cc
members-at (h ∷ gs) up zero g is =
    let same : h ≡ g = same_Some h g is in
    subst (λ (k : Group). members_of (h ∷ gs) k.secret ≡ k.members) same (members-here h gs)
members-at (h ∷ gs) up (suc i) g is =
    let low : h.secret < g.secret = up 0 (suc i) h g (omega arith) refl is in
    members-later h gs g.secret (λ same. absurd (omega (arith, low, same))) ∙ members-at gs (ascending-tail h gs up) i g is

has-later : (g : Group) (gs : List Group) (secret : ℕ) → HasGroup gs secret → HasGroup (g ∷ gs) secret
has-later g gs secret (j, h, at, is) = (suc j, h, at, is)

pub has-group : (gs : List Group) (secret : ℕ) → 0 < length (members_of gs secret) → HasGroup gs secret
has-group [] secret some = absurd (omega (arith, some))
has-group (g ∷ gs) secret some = go (cases_eq g.secret secret) (has-group gs secret)
  where
    go : (g.secret ≡ secret) ⊎ (g.secret ≡ secret → ⊥) → (0 < length (members_of gs secret) → HasGroup gs secret) → HasGroup (g ∷ gs) secret
    go (inl is) rest = (0, g, refl, is)
    go (inr other) rest =
        has-later g gs secret (rest (subst (λ (ms : List ℕ). 0 < length ms) (members-later g gs secret other) some))

-- Before the first place there are no groups.
pub groups-none : (order : List (ℕ × ℕ)) → AreGroupsTo order 0 []
groups-none order = record {
  within = omega arith;
  counts = λ secret test. refl;
  some = All-nil (λ (g : Group). 0 < length g.members);
  ascending = λ i j g h low one two. absurd cc;
  lower = λ d low. All-nil (λ (g : Group). g.secret < (get_or order 0 d).0);
}

-- the test of a secret and its members
abbrev picks : ℕ → (ℕ → Bool) → ℕ × ℕ → Bool
picks secret test p = (p.0 == secret) && test p.1

count-run : (of secret : ℕ) (test : ℕ → Bool) (members : List ℕ) (b : Bool) → (of == secret) ≡ b
    → count_by (picks secret test) (map (λ (m : ℕ). (of, m)) members) ≡ count_by (λ (m : ℕ). b && test m) members
count-run of secret test members b is =
    count-map (picks secret test) (λ (m : ℕ). (of, m)) members ∙ ap (λ (t : Bool). count_by (λ (m : ℕ). t && test m) members) is

-- One run more.
module _ (order : List (ℕ × ℕ)) (sorted : IsNonDecreasingBy (λ (p : ℕ × ℕ). p.0) order) (from : ℕ) (groups : List Group) (x : Group)
    (low : from < length order) (before : AreGroupsTo order from groups) (first : (d : ℕ × ℕ) → (get_or order from d).0 ≡ x.secret)
    (run : IsRunFrom order from x.secret x.members) where
  abbrev members : List ℕ
  members = x.members

  abbrev next : ℕ
  next = from + length members

  lower-x : All (λ (g : Group). g.secret < x.secret) groups
  lower-x =
      subst (λ (s : ℕ). All (λ (g : Group). g.secret < s) groups) (first (0, 0)) (before.lower (0, 0) low)

  counts-more : (secret : ℕ) (test : ℕ → Bool)
      → count_by (picks secret test) (take next order) ≡ count_by test (members_of (groups ++ x ∷ []) secret)
  counts-more secret test = go (cases_eq x.secret secret)
    where
      pairs : List (ℕ × ℕ)
      pairs = map (λ (m : ℕ). (x.secret, m)) members

      parts : count_by (picks secret test) (take next order)
          ≡ count_by (picks secret test) (take from order) + count_by (picks secret test) (map (λ (m : ℕ). (x.secret, m)) members)
      parts = ap (count_by (picks secret test)) run.run ∙ count-append (picks secret test) (take from order) (map (λ (m : ℕ). (x.secret, m)) members)

      earlier : count_by (picks secret test) (take from order) ≡ count_by test (members_of groups secret)
      earlier = before.counts secret test

      go : (x.secret ≡ secret) ⊎ (x.secret ≡ secret → ⊥)
          → count_by (picks secret test) (take next order) ≡ count_by test (members_of (groups ++ x ∷ []) secret)
      go (inl is) =
          let none : count_by test (members_of groups secret) ≡ 0 =
          ap (λ (s : ℕ). count_by test (members_of groups s)) (sym is) ∙ ap (count_by test) (members-none groups x.secret lower-x) in
          let here = count-run x.secret secret test members true (eq-eqb x.secret secret is) in
          let all : members_of (groups ++ x ∷ []) secret ≡ members =
          ap (λ (s : ℕ). members_of (groups ++ x ∷ []) s) (sym is) ∙ members-push groups x lower-x in
          let whole = ap (count_by test) all in
          omega (arith, parts, earlier, none, here, whole)
      go (inr other) =
          let here = count-run x.secret secret test members false (ne_eqb x.secret secret other) in
          let none : count_by (λ (m : ℕ). false) members ≡ 0 = count-false members in
          let whole = ap (count_by test) (members-other groups x secret other) in
          omega (arith, parts, earlier, here, none, whole)

  ascending-more : AreAscending (groups ++ x ∷ [])
  ascending-more i j g h up one two = go (get-push groups x g i one) (get-push groups x h j two)
    where
      P : Group → Type 0
      P k = k.secret < x.secret

      go : (slice_get groups i ≡ Some g) ⊎ ((i ≡ length groups) × (x ≡ g)) → (slice_get groups j ≡ Some h) ⊎ ((j ≡ length groups) × (x ≡ h))
          → g.secret < h.secret
      go (inl here) (inl there) = before.ascending i j g h up here there
      go (inr (at, is)) (inl there) = let low = slice_get_within groups j h there in absurd (omega (arith, up, at, low))
      go (inr (at, is)) (inr (to, also)) = absurd (omega (arith, up, at, to))
      go (inl here) (inr (to, also)) =
          let below : g.secret < x.secret =
          subst (λ (k : Group). k.secret < x.secret) (get_or_from_slice_get groups i g g here) (lower-x i g (slice_get_within groups i g here)) in
          subst (λ (k : Group). g.secret < k.secret) also below

  lower-more : (d : ℕ × ℕ) → next < length order → All (λ (g : Group). g.secret < (get_or order next d).0) (groups ++ x ∷ [])
  lower-more d high =
      let up : (get_or order from d).0 ≤ (get_or order next d).0 = sorted from next d (omega arith) high in
      let at = first d in
      let other : (get_or order next d).0 ≢ x.secret = run.ends d high in
      let here : x.secret < (get_or order next d).0 = less (cases_eq x.secret (get_or order next d).0) up at other in
      All-push (λ (g : Group). g.secret < (get_or order next d).0) groups x
      (All-weaker (λ (g : Group). g.secret < x.secret) (λ (g : Group). g.secret < (get_or order next d).0) (λ g under. omega (arith, under, here)) groups lower-x)
      here
    where
      less : (x.secret ≡ (get_or order next d).0) ⊎ (x.secret ≡ (get_or order next d).0 → ⊥) → (get_or order from d).0 ≤ (get_or order next d).0
          → (get_or order from d).0 ≡ x.secret → (get_or order next d).0 ≢ x.secret → x.secret < (get_or order next d).0
      less (inl same) up at other = absurd (other (sym same))
      less (inr apart) up at other = omega (arith, up, at, apart)

  pub groups-more : AreGroupsTo order next (groups ++ x ∷ [])
  groups-more = record {
    within = run.within;
    counts = counts-more;
    some = All-push (λ (g : Group). 0 < length g.members) groups x before.some run.some;
    ascending = ascending-more;
    lower = lower-more;
  }

-- a place of a list has an item
is-there : {X : Type 0} (xs : List X) (i : ℕ) → i < length xs → slice_get xs i ≡ None → ⊥
is-there [] i under is = absurd (omega (arith, under))
is-there (x ∷ xs) zero under is = absurd cc
is-there (x ∷ xs) (suc i) under is = is-there xs i (omega (arith, under)) is

-- those that pass are counted
pub count-filter : {X : Type 0} (p : X → Bool) (xs : List X) → count_by (λ (x : X). true) (filter p xs) ≡ count_by p xs
count-filter p [] = refl
count-filter {X} p (x ∷ xs) = go (p x) refl (count-filter p xs)
  where
    go : (b : Bool) → p x ≡ b → count_by (λ (y : X). true) (filter p xs) ≡ count_by p xs
        → count_by (λ (y : X). true) (cond b (x ∷ filter p xs) (filter p xs)) ≡ count_by p (x ∷ xs)
    go true is rest =
        let one = count-cons (λ (y : X). true) x (filter p xs) in
        let two = count-cons p x xs in
        let three : bit (p x) ≡ 1 = ap bit is in
        omega (arith, one, two, three, rest)
    go false is rest =
        let two = count-cons p x xs in
        let three : bit (p x) ≡ 0 = ap bit is in
        omega (arith, two, three, rest)

bit-most : (b : Bool) → bit b ≤ 1
bit-most true = omega arith
bit-most false = omega arith

pub count-most : {X : Type 0} (p : X → Bool) (xs : List X) → count_by p xs ≤ length xs
count-most p [] = omega arith
count-most p (x ∷ xs) =
    let one = count-cons p x xs in
    let rest = count-most p xs in
    let bound = bit-most (p x) in
    omega (arith, one, rest, bound)

-- What is so in the worlds of a secret, counted over the numbered worlds.
module _ (worlds : List World) (secret : ℕ) (is_so : World → Bool) where
  abbrev test : ℕ × ℕ → Bool
  test = picks secret (passes_at worlds is_so)

  one-world : (w : World) (i : ℕ) (b : Bool) → (w.secret == secret) ≡ b → slice_get worlds i ≡ Some w
      → bit (test (w.secret, i)) ≡ count_by is_so (cond b (w ∷ []) [])
  one-world w i true is at =
      let one = count-cons is_so w [] in
      let same : bit (test (w.secret, i)) ≡ bit (is_so w) =
      ap (λ (t : Bool). bit (t && passes_at worlds is_so i)) is ∙ ap (λ (o : Option World). bit (passes is_so o)) at in
      omega (arith, one, same)
  one-world w i false is at = ap (λ (t : Bool). bit (t && passes_at worlds is_so i)) is

  count-numbered : (n : ℕ) → n ≤ length worlds → count_by test (numbered worlds n) ≡ count_by is_so (worlds_of secret (take n worlds))
  count-numbered zero low = ap (count_by test) (numbered-none worlds)
  count-numbered (suc n) low = go (slice_get worlds n) refl (count-numbered n (omega (arith, low)))
    where
      go : (o : Option World) → slice_get worlds n ≡ o
          → count_by test (numbered worlds n) ≡ count_by is_so (worlds_of secret (take n worlds))
          → count_by test (numbered worlds (suc n)) ≡ count_by is_so (worlds_of secret (take (suc n) worlds))
      go None none before = absurd (is-there worlds n (omega (arith, low)) none)
      go (Some w) at before =
          let under : n < length worlds = omega (arith, low) in
          let here : get_or worlds n w ≡ w = get_or_from_slice_get worlds n w w at in
          let sec : World → Bool = λ (v : World). v.secret == secret in
          let left : count_by test (numbered worlds (suc n)) ≡ count_by test (numbered worlds n) + bit (test (w.secret, n)) =
          ap (λ k. count_by test (numbered worlds k)) (sym (add-one n))
          ∙ ap (count_by test) (numbered-more worlds n w under (sym here)) ∙ count-push test (numbered worlds n) (w.secret, n) in
          let right : count_by is_so (worlds_of secret (take (suc n) worlds))
          ≡ count_by is_so (worlds_of secret (take n worlds)) + count_by is_so (cond (w.secret == secret) (w ∷ []) []) =
          ap (λ k. count_by is_so (worlds_of secret (take k worlds))) (sym (add-one n))
          ∙ ap (count_by is_so) (filter_more sec worlds n w under)
          ∙ ap (λ (v : World). count_by is_so (filter sec (take n worlds) ++ cond (sec v) (v ∷ []) [])) here
          ∙ count-append is_so (filter sec (take n worlds)) (cond (w.secret == secret) (w ∷ []) []) in
          let one = one-world w n (w.secret == secret) refl at in
          left ∙ ap (λ (k : ℕ). k + bit (test (w.secret, n))) before ∙ ap (λ (k : ℕ). count_by is_so (worlds_of secret (take n worlds)) + k) one ∙ sym right

  pub count-all-numbered : count_by test (numbered worlds (length worlds)) ≡ count_in worlds secret is_so
  count-all-numbered =
      count-numbered (length worlds) (omega arith)
      ∙ ap (λ (ws : List World). count_by is_so (worlds_of secret ws)) (take_all (length worlds) worlds (omega arith))

-- each number is one of a world
numbers-low : (worlds : List World) (n : ℕ) → n ≤ length worlds → All (λ (p : ℕ × ℕ). p.1 < length worlds) (numbered worlds n)
unfolding numbered
numbers-low worlds zero low = All-nil (λ (p : ℕ × ℕ). p.1 < length worlds)
numbers-low worlds (suc n) low =
    let P : ℕ × ℕ → Type 0 = λ p. p.1 < length worlds in
    All-append P (numbered worlds n) (number_of n (slice_get worlds n)) (numbers-low worlds n (omega (arith, low))) (one (slice_get worlds n))
  where
    one : (o : Option World) → All (λ (p : ℕ × ℕ). p.1 < length worlds) (number_of n o)
    one None = All-nil (λ (p : ℕ × ℕ). p.1 < length worlds)
    one (Some w) =
        All-cons (λ (p : ℕ × ℕ). p.1 < length worlds) (w.secret, n) [] (omega (arith, low)) (All-nil (λ (p : ℕ × ℕ). p.1 < length worlds))

-- The groups of all places of a list of numbered worlds in order are the worlds by their secrets.
module _ (worlds : List World) (order : List (ℕ × ℕ)) (moved : IsPermutation (numbered worlds (length worlds)) order)
    (groups : List Group) (to : AreGroupsTo order (length order) groups) where
  counts-all : (secret : ℕ) (test : ℕ → Bool) → count_by (picks secret test) (numbered worlds (length worlds)) ≡ count_by test (members_of groups secret)
  counts-all secret test =
      let p = picks secret test in
      sym (sum_by-IsPermutation (λ (q : ℕ × ℕ). cond (p q) 1 0) (numbered worlds (length worlds)) order moved)
      ∙ ap (count_by p) (sym (take_all (length order) order (omega arith))) ∙ to.counts secret test

  counts-of : (secret : ℕ) (is_so : World → Bool) → count_in worlds secret is_so ≡ count_by (passes_at worlds is_so) (members_of groups secret)
  counts-of secret is_so = sym (count-all-numbered worlds secret is_so) ∙ counts-all secret (passes_at worlds is_so)

  low-all : (secret : ℕ) → All (λ i. i < length worlds) (members_of groups secret)
  low-all secret =
      let W = length worlds in
      let past : ℕ → Bool = λ i. leb W i in
      let none : count_by (picks secret past) (numbered worlds W) ≡ 0 =
      count-agree (picks secret past) (λ (p : ℕ × ℕ). false) (numbered worlds W)
      (All-weaker (λ (p : ℕ × ℕ). p.1 < W) (λ (p : ℕ × ℕ). picks secret past p ≡ false)
      (λ p under. and_false (p.0 == secret) (leb W p.1) (lt-leb W p.1 under)) (numbered worlds W) (numbers-low worlds W (omega arith)))
      ∙ count-false (numbered worlds W) in
      All-weaker (λ i. past i ≡ false) (λ i. i < W) (λ i fails. leb-false W i fails) (members_of groups secret)
      (each-fails past (members_of groups secret) (sym (counts-all secret past) ∙ none))
    where
      and_false : (a b : Bool) → b ≡ false → (a && b) ≡ false
      and_false true b is = is
      and_false false b is = refl

  group-at : (k : ℕ) (g : Group) → slice_get groups k ≡ Some g → IsGroup worlds g
  group-at k g at =
      let same = members-at groups to.ascending k g at in
      record {
        below = subst (λ (ms : List ℕ). All (λ i. i < length worlds) ms) same (low-all g.secret);
        some = subst (λ (h : Group). 0 < length h.members) (get_or_from_slice_get groups k g g at) (to.some k g (slice_get_within groups k g at));
        counts = λ is_so. counts-of g.secret is_so ∙ ap (count_by (passes_at worlds is_so)) same;
      }

  secret-has : (secret : ℕ) → IsSecret worlds secret → HasGroup groups secret
  secret-has secret (k, w, low, at, is) =
      let sec : World → Bool = λ (v : World). v.secret == secret in
      let every : World → Bool = λ v. true in
      let some : 0 < count_by sec worlds = some-passes sec worlds k w low (ap sec at ∙ eq-eqb w.secret secret is) in
      let all : count_in worlds secret every ≡ count_by sec worlds = count-filter sec worlds in
      let here = counts-of secret every in
      let most = count-most (passes_at worlds every) (members_of groups secret) in
      has-group groups secret (omega (arith, some, all, here, most))

  pub are-groups : AreGroups worlds groups
  are-groups = record {
    each = λ k d low. group-at k (get_or groups k d) (slice_get-get_or groups k d low);
    ascending = to.ascending;
    secrets = secret-has;
  }
