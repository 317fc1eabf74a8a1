-- The worlds with their numbers, and a list in the order of the first parts.
use Rattle.std.proofs.Common.{◌≡◌, ℕ, ◌+◌, ◌<◌, ◌≤◌, false, true, List, [], ◌∷◌, ◌++◌, length, get_or, Option, refl, ap, sym, ◌∙◌, add-one, arith, true≢false, IsSorted, ◌⊎◌, inl, inr}
use Rattle.std.specs.List.Sorted.{IsNonDecreasingBy}
use Rattle.std.specs.Ordering.{is_lt}
use Rattle.std.proofs.lemmas.Bool.{cases_lt, lt-ltb}
use Rattle.std.proofs.lemmas.Option.{slice_get_read}
use Rattle.std.proofs.lemmas.List.Sorted.{IsNonDecreasingBy-from_all_adjacent}
use Rattle.core_model.specs.declared.world.World.{World}
use Rattle.probe_inspect.specs.PairOrder.{pair_cmp}
use Rattle.probe_inspect.specs.Groups.{numbered, number_of}

pub numbered-none : (worlds : List World) → numbered worlds 0 ≡ []
unfolding numbered
numbered-none worlds = refl

pub numbered-more : (worlds : List World) (i : ℕ) (w : World) → i < length worlds → w ≡ get_or worlds i w
    → numbered worlds (i + 1) ≡ numbered worlds i ++ (w.secret, i) ∷ []
unfolding numbered
numbered-more worlds i w low is =
    ap (λ n. numbered worlds n) (add-one i)
    ∙ ap (λ (o : Option World). numbered worlds i ++ number_of i o) (slice_get_read worlds (length worlds) i w refl low is)

less_first : (x y : ℕ × ℕ) → x.0 < y.0 → is_lt (pair_cmp x y) ≡ true
less_first x y low = rw (lt-ltb x.0 y.0 low) refl

not_less : (x y : ℕ × ℕ) → is_lt (pair_cmp x y) ≡ false → y.0 ≤ x.0
not_less x y not = go (cases_lt x.0 y.0)
  where
    go : (x.0 < y.0) ⊎ (y.0 ≤ x.0) → y.0 ≤ x.0
    go (inl low) = absurd (true≢false (sym (less_first x y low) ∙ not))
    go (inr up) = up

-- pairs in order have their first parts in order
pub firsts-sorted : (xs : List (ℕ × ℕ)) → IsSorted pair_cmp xs → IsNonDecreasingBy (λ (p : ℕ × ℕ). p.0) xs
firsts-sorted xs sorted =
    IsNonDecreasingBy-from_all_adjacent (λ (p : ℕ × ℕ). p.0) xs
    (λ k d high. not_less (get_or xs (k + 1) d) (get_or xs k d) (sorted k d (omega arith) high))
