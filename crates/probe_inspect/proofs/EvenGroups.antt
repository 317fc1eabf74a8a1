-- Groups that are equally large, and the first that isn't.
use Rattle.std.proofs.Common.{◌≡◌, ◌≢◌, ◌⊎◌, inl, inr, ℕ, zero, suc, ◌<◌, ◌≤◌, ◌==◌, eqb-true, Bool, true, false, List, [], ◌∷◌, length, get_or, slice_get, Option, Some, None, All, refl, ap, sym, ◌∙◌, subst, arith}
use Rattle.std.specs.List.{count_by}
use Rattle.std.proofs.lemmas.Bool.{cases_order}
use Rattle.std.proofs.lemmas.Option.{slice_get_within, same_Some}
use Rattle.std.proofs.lemmas.List.Elements.{All-head, All-tail, All-weaker}
use Rattle.core_model.specs.declared.world.World.{World}
use Rattle.core_model.specs.Security.{count_in, IsSecret}
use Rattle.core_model.proofs.Lists.{bit, count-cons}
use Rattle.probing_laws.specs.Verdicts.{IsLeast, IsEven, IsUneven, group_size}
use Rattle.probing_laws.proofs.Transfers.{item-has}
use Rattle.probe_inspect.specs.declared.groups.Group.{Group}
use Rattle.probe_inspect.specs.Groups.{passes, passes_at, IsGroup, HasGroup, AreGroups, AsManyAs, IsFirstOdd}
use Rattle.probe_inspect.proofs.Grouping.{count-filter}

-- where each passes, all are counted
pub count-true : {X : Type 0} (p : X → Bool) (xs : List X) → All (λ x. p x ≡ true) xs → count_by p xs ≡ length xs
count-true p [] all = refl
count-true {X} p (x ∷ xs) all =
    let one = count-cons p x xs in
    let here : bit (p x) ≡ 1 = ap bit (All-head (λ (y : X). p y ≡ true) x xs all) in
    let rest = count-true p xs (All-tail (λ (y : X). p y ≡ true) x xs all) in
    omega (arith, one, here, rest)

-- one that is counted passes
pub some-counted : {X : Type 0} (p : X → Bool) (xs : List X) → 0 < count_by p xs → (i : ℕ) × (x : X) × (slice_get xs i ≡ Some x) × (p x ≡ true)
some-counted p [] some = absurd (omega (arith, some))
some-counted {X} p (x ∷ xs) some = go (p x) refl (some-counted p xs)
  where
    go : (b : Bool) → p x ≡ b → (0 < count_by p xs → (i : ℕ) × (y : X) × (slice_get xs i ≡ Some y) × (p y ≡ true))
        → (i : ℕ) × (y : X) × (slice_get (x ∷ xs) i ≡ Some y) × (p y ≡ true)
    go true is rest = (0, x, refl, is)
    go false is rest =
        let one = count-cons p x xs in
        let none : bit (p x) ≡ 0 = ap bit is in
        let found = rest (omega (arith, one, none, some)) in
        (suc found.0, found.1, found.2, found.3)

pub first-of : {X : Type 0} (xs : List X) (j : ℕ) (x : X) → slice_get xs j ≡ Some x → (y : X) × (slice_get xs 0 ≡ Some y)
first-of [] j x is = absurd cc
first-of (y ∷ ys) j x is = (y, refl)

passes-every : (worlds : List World) (i : ℕ) → i < length worlds → passes_at worlds (λ (w : World). true) i ≡ true
passes-every worlds i low = go (slice_get worlds i) refl
  where
    missing : (ws : List World) (k : ℕ) → k < length ws → slice_get ws k ≡ None → ⊥
    missing [] k under none = absurd (omega (arith, under))
    missing (w ∷ ws) zero under none = absurd cc
    missing (w ∷ ws) (suc k) under none = missing ws k (omega (arith, under)) none

    go : (o : Option World) → slice_get worlds i ≡ o → passes (λ (w : World). true) o ≡ true
    go None none = absurd (missing worlds i low none)
    go (Some w) is = refl

module _ (worlds : List World) (groups : List Group) (are : AreGroups worlds groups) where
  pub group-is : (j : ℕ) (g : Group) → slice_get groups j ≡ Some g → IsGroup worlds g
  group-is j g there = item-has (IsGroup worlds) groups j g there are.each

  abbrev every : World → Bool
  every w = true

  pub size-is : (j : ℕ) (g : Group) → slice_get groups j ≡ Some g → group_size worlds g.secret ≡ length g.members
  size-is j g there =
      let is = group-is j g there in
      is.counts every
      ∙ count-true (passes_at worlds every) g.members
      (All-weaker (λ i. i < length worlds) (λ i. passes_at worlds every i ≡ true) (λ i low. passes-every worlds i low) g.members is.below)

  pub is-secret : (j : ℕ) (g : Group) → slice_get groups j ≡ Some g → IsSecret worlds g.secret
  is-secret j g there =
      let sec : World → Bool = λ (w : World). w.secret == g.secret in
      let is = group-is j g there in
      let size = size-is j g there in
      let all : count_in worlds g.secret every ≡ count_by sec worlds = count-filter sec worlds in
      let found = some-counted sec worlds (omega (arith, size, all, is.some)) in
      let w = found.1 in
      (found.0, w, slice_get_within worlds found.0 w found.2, from_get worlds found.0 w found.2, eqb-true w.secret g.secret found.3)
    where
      from_get : (ws : List World) (i : ℕ) (w : World) → slice_get ws i ≡ Some w → get_or ws i w ≡ w
      from_get [] i w is = absurd cc
      from_get (v ∷ ws) zero w is = same_Some v w is
      from_get (v ∷ ws) (suc i) w is = from_get ws i w is

  pub some-group : 0 < length worlds → 0 < length groups
  some-group low = go worlds low are.secrets
    where
      go : (ws : List World) → 0 < length ws → ((secret : ℕ) → IsSecret ws secret → HasGroup groups secret) → 0 < length groups
      go [] none secrets = absurd (omega (arith, none))
      go (w ∷ rest) some secrets =
          let found = secrets w.secret (0, w, some, refl, refl) in
          let inside = slice_get_within groups found.0 found.1 found.2 in omega (arith, inside)

  -- groups of lesser numbers have lesser secrets
  pub places-by_secret : (i j : ℕ) (g h : Group) → slice_get groups i ≡ Some g → slice_get groups j ≡ Some h → g.secret < h.secret → i < j
  places-by_secret i j g h one two low = go (cases_order i j)
    where
      go : (i ≡ j) ⊎ ((i < j) ⊎ (j < i)) → i < j
      go (inl same) =
          let is : g ≡ h = same_Some g h (sym one ∙ ap (λ k. slice_get groups k) same ∙ two) in
          let equal = ap (λ (k : Group). k.secret) is in absurd (omega (arith, low, equal))
      go (inr (inl less)) = less
      go (inr (inr more)) = let up = are.ascending j i h g more two one in absurd (omega (arith, low, up))

  pub least-secret : (g : Group) → slice_get groups 0 ≡ Some g → IsLeast (IsSecret worlds) g.secret
  least-secret g first = record { is_so = is-secret 0 g first; least = λ m is. go m (are.secrets m is) }
    where
      go : (m : ℕ) → HasGroup groups m → g.secret ≤ m
      go m (zero, h, there, is) =
          let same : g ≡ h = same_Some g h (sym first ∙ there) in
          let equal = ap (λ (k : Group). k.secret) same in omega (arith, equal, is)
      go m (suc j, h, there, is) = let up = are.ascending 0 (suc j) g h (omega arith) first there in omega (arith, up, is)

  pub even-groups : All (AsManyAs groups) groups → IsEven worlds
  even-groups even a b one two = go (are.secrets a one) (are.secrets b two)
    where
      go : HasGroup groups a → HasGroup groups b → group_size worlds a ≡ group_size worlds b
      go (i, g, at, is) (j, h, to, also) =
          let first = first-of groups i g at in
          let left = item-has (AsManyAs groups) groups i g at even first.0 first.1 in
          let right = item-has (AsManyAs groups) groups j h to even first.0 first.1 in
          ap (group_size worlds) (sym is) ∙ size-is i g at ∙ left ∙ sym right ∙ sym (size-is j h to) ∙ ap (group_size worlds) also

  pub uneven-groups : (g : Group) (secret : ℕ) → slice_get groups 0 ≡ Some g → IsFirstOdd groups secret → IsUneven worlds g.secret secret
  uneven-groups g secret first odd = record {
    first = least-secret g first;
    second = record {
      is_so = (
        subst (IsSecret worlds) odd.is_secret (is-secret odd.place odd.group odd.there),
        λ same. odd.odd g first (sym (size-is odd.place odd.group odd.there) ∙ ap (group_size worlds) odd.is_secret ∙ same ∙ size-is 0 g first),
      );
      least = λ m found. go m (are.secrets m found.0) found.1;
    };
  }
    where
      go : (m : ℕ) → HasGroup groups m → group_size worlds m ≢ group_size worlds g.secret → secret ≤ m
      go m (j, h, there, is) differ = at (cases_order j odd.place)
        where
          at : (j ≡ odd.place) ⊎ ((j < odd.place) ⊎ (odd.place < j)) → secret ≤ m
          at (inl same) =
              let one : h ≡ odd.group = same_Some h odd.group (sym there ∙ ap (λ k. slice_get groups k) same ∙ odd.there) in
              let equal = ap (λ (k : Group). k.secret) one in
              let own = odd.is_secret in omega (arith, equal, own, is)
          at (inr (inl less)) =
              absurd (differ (ap (group_size worlds) (sym is) ∙ size-is j h there ∙ odd.before j h less there g first ∙ sym (size-is 0 g first)))
          at (inr (inr more)) =
              let up = are.ascending odd.place j odd.group h more odd.there there in
              let own = odd.is_secret in omega (arith, up, own, is)
