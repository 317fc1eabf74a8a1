-- Labels with their places, as the map holds them and as contracts see them.
use Rattle.std.proofs.Common.{◌≡◌, ℕ, Bool, true, false, ◌||◌, List, [], ◌∷◌, map, Vec, Option, Some, None, is_some, if◌then◌else◌, true≢false, refl, ap, ◌∙◌}
use Rattle.std.specs.declared.alloc.Global.{Global}
use Rattle.std.specs.Map.{lookup}
use Rattle.std.specs.List.{list_any}
use Rattle.std.specs.Str.{bytes_eq}
use Rattle.rv_asm.specs.Listing.{is_among}
use Rattle.rv_asm.specs.Places.{names}

-- labels as contracts see them
abbrev pub seen : List (Vec ℕ Global × ℕ) → List (List ℕ × ℕ)
seen es = map (λ e. (e.0.items, e.1)) es

-- what a look-up finds
pub lookup-seen : (test : List ℕ → Bool) (es : List (Vec ℕ Global × ℕ)) → lookup (λ k. test k.items) es ≡ lookup test (seen es)
lookup-seen test [] = refl
lookup-seen test (e ∷ es) = ap (λ found. if test e.0.items then Some e.1 else found) (lookup-seen test es)

-- whether a look-up at one entry more finds something
is_some-if : (b : Bool) (place : ℕ) (found : Option ℕ) (rest : Bool) → is_some found ≡ rest → is_some (if b then Some place else found) ≡ (b || rest)
is_some-if true place found rest same = refl
is_some-if false place found rest same = same

-- a look-up finds something where one of the names passes
pub is_some-lookup : (test : List ℕ → Bool) (ps : List (List ℕ × ℕ)) → is_some (lookup test ps) ≡ list_any test (names ps)
is_some-lookup test [] = refl
is_some-lookup test (p ∷ ps) = is_some-if (test p.0) p.1 (lookup test ps) (list_any test (names ps)) (is_some-lookup test ps)

none_from_test : (found : Option ℕ) → is_some found ≡ false → found ≡ None
none_from_test None nothing = refl
none_from_test (Some place) nothing = absurd (true≢false nothing)

-- a label is among the names where a look-up in the map finds it
pub is_among-seen : (label : List ℕ) (es : List (Vec ℕ Global × ℕ)) → is_some (lookup (λ k. bytes_eq label k.items) es) ≡ is_among (names (seen es)) label
is_among-seen label es = ap is_some (lookup-seen (bytes_eq label) es) ∙ is_some-lookup (bytes_eq label) (seen es)

-- where it isn't, the look-up finds nothing
pub lookup-new : (label : List ℕ) (es : List (Vec ℕ Global × ℕ)) → is_among (names (seen es)) label ≡ false → lookup (λ k. bytes_eq label k.items) es ≡ None
lookup-new label es new = none_from_test _ (is_among-seen label es ∙ new)
