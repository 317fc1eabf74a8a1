-- The first refusal of a list.
use Rattle.std.proofs.Common.{◌≡◌, ℕ, ◌+◌, ◌<◌, ◌≤◌, ◌⊎◌, ◌&&◌, Bool, true, false, cond, nat_le, List, [], ◌∷◌, length, drop, get_or, map, Option, Some, None, refl, ap, ◌∙◌, sym, arith, tests}
use Rattle.std.specs.Option.{option_or}
use Rattle.std.specs.List.{AllByRecursion, Contains}
use Rattle.std.proofs.lemmas.List.{at_drop_more, at_drop_all}
use Rattle.std.proofs.lemmas.List.Elements.{Contains-append_right}
use Rattle.rv_loader.specs.declared.fault.LoadFault.{LoadFault}
use Rattle.rv_loader.specs.declared.fault.LoadFault.TheVariants.{Limit}
use Rattle.rv_loader.specs.declared.fault.What.{What}
use Rattle.rv_loader.specs.Refusals.{first_of, least, most, limit_refusal}

-- as a loop tries them

first_of-drop : {X : Type 0} (refusal : X → Option LoadFault) (xs : List X) (i : ℕ) (x : X) → i < length xs → x ≡ get_or xs i x
    → first_of (map refusal (drop i xs)) ≡ option_or (refusal x) (first_of (map refusal (drop (i + 1) xs)))
first_of-drop refusal xs i x lt read =
    at_drop_more (λ l. first_of (map refusal l)) xs i x lt ∙ ap (λ y. option_or (refusal y) (first_of (map refusal (drop (i + 1) xs)))) (sym read)

-- one that isn't refused
pub first_of_more : {X : Type 0} (refusal : X → Option LoadFault) (xs : List X) (i : ℕ) (x : X) → i < length xs → x ≡ get_or xs i x → refusal x ≡ None
    → first_of (map refusal (drop i xs)) ≡ first_of (map refusal (drop (i + 1) xs))
first_of_more refusal xs i x lt read h = first_of-drop refusal xs i x lt read ∙ ap (λ o. option_or o (first_of (map refusal (drop (i + 1) xs)))) h

-- the first that is refused
pub first_of_stops : {X : Type 0} (refusal : X → Option LoadFault) (xs : List X) (i : ℕ) (x : X) (fault : LoadFault) → i < length xs → x ≡ get_or xs i x
    → refusal x ≡ Some fault → first_of (map refusal (drop i xs)) ≡ Some fault
first_of_stops refusal xs i x fault lt read h = first_of-drop refusal xs i x lt read ∙ ap (λ o. option_or o (first_of (map refusal (drop (i + 1) xs)))) h

-- none is refused
pub first_of_end : {X : Type 0} (refusal : X → Option LoadFault) (xs : List X) (i : ℕ) → length xs ≤ i → first_of (map refusal (drop i xs)) ≡ None
first_of_end refusal xs i le = at_drop_all (λ l. first_of (map refusal l)) xs i le

-- what it says of all

or_none : (o p : Option LoadFault) → option_or o p ≡ None → (o ≡ None) × (p ≡ None)
or_none None p h = (refl, h)
or_none (Some fault) p h = absurd (let contra : ⊥ = cc in contra)

-- Where there is no first refusal, there is none.
pub all_none : (tries : List (Option LoadFault)) → first_of tries ≡ None → AllByRecursion (λ tried. tried ≡ None) tries
all_none [] h = tt
all_none (tried ∷ tries) h = let both = or_none tried (first_of tries) h in (both.0, all_none tries both.1)

pub none_of : (tries : List (Option LoadFault)) → AllByRecursion (λ tried. tried ≡ None) tries → first_of tries ≡ None
none_of [] h = refl
none_of (tried ∷ tries) h = ap (λ o. option_or o (first_of tries)) h.0 ∙ none_of tries h.1

pub all_none-map : {X : Type 0} (refusal : X → Option LoadFault) (xs : List X) → first_of (map refusal xs) ≡ None → AllByRecursion (λ x. refusal x ≡ None) xs
all_none-map refusal [] h = tt
all_none-map refusal (x ∷ xs) h = let both = or_none (refusal x) (first_of (map refusal xs)) h in (both.0, all_none-map refusal xs both.1)

pub none_of-map : {X : Type 0} (refusal : X → Option LoadFault) (xs : List X) → AllByRecursion (λ x. refusal x ≡ None) xs → first_of (map refusal xs) ≡ None
none_of-map refusal [] h = refl
none_of-map refusal (x ∷ xs) h = ap (λ o. option_or o (first_of (map refusal xs))) h.0 ∙ none_of-map refusal xs h.1

or_some : (P : LoadFault → Type 0) (o p : Option LoadFault) (fault : LoadFault) → ((f : LoadFault) → o ≡ Some f → P f) → (p ≡ Some fault → P fault)
    → option_or o p ≡ Some fault → P fault
or_some P None p fault first later h = later h
or_some P (Some f) p fault first later h = first fault h

-- What each refusal says holds of the first.
pub first_says : (P : LoadFault → Type 0) (tries : List (Option LoadFault)) (fault : LoadFault) → AllByRecursion (λ tried. (f : LoadFault) → tried ≡ Some f → P f) tries
    → first_of tries ≡ Some fault → P fault
first_says P [] fault each h = absurd (let contra : ⊥ = cc in contra)
first_says P (tried ∷ tries) fault each h = or_some P tried (first_of tries) fault each.0 (first_says P tries fault each.1) h

-- The first refusal of a list is that of one of its items.
pub first_says-map : {X : Type 0} (P : LoadFault → Type 0) (refusal : X → Option LoadFault) (xs : List X) (fault : LoadFault)
    → ((x : X) (f : LoadFault) → Contains xs x → refusal x ≡ Some f → P f) → first_of (map refusal xs) ≡ Some fault → P fault
first_says-map P refusal [] fault each h = absurd (let contra : ⊥ = cc in contra)
first_says-map P refusal (x ∷ xs) fault each h =
    or_some P (refusal x) (first_of (map refusal xs)) fault (λ f e. each x f (0, omega arith, refl) e)
    (first_says-map P refusal xs fault (λ y f within e. each y f (Contains-append_right (x ∷ []) xs y within) e)) h

-- a number and its range

pub guard_none : (b : Bool) (fault : LoadFault) → cond b None (Some fault) ≡ None → b ≡ true
guard_none true fault h = refl
guard_none false fault h = absurd (let contra : ⊥ = cc in contra)

pub guard_some : (b : Bool) (fault f : LoadFault) → cond b None (Some fault) ≡ Some f → (b ≡ false) × (fault ≡ f)
guard_some true fault f h = absurd (let contra : ⊥ = cc in contra)
guard_some false fault f h = (refl, cc)

inside : (low high got : ℕ) → (nat_le low got && nat_le got high) ≡ true → (low ≤ got) × (got ≤ high)
inside low high got h = (grind (arith, tests), grind (arith, tests))

pub outside : (low high got : ℕ) → (nat_le low got && nat_le got high) ≡ false → (got < low) ⊎ (high < got)
outside low high got h = grind (arith, tests)

pub limit_kept : (what : What) (got : ℕ) → limit_refusal what got ≡ None → (least what ≤ got) × (got ≤ most what)
limit_kept what got h = inside (least what) (most what) got (guard_none _ (Limit what got) h)
