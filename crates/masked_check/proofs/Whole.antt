-- What some terms show together, as forms.
use Rattle.std.proofs.Common.{◌≡◌, ℕ, List, [], ◌∷◌, map, refl, sym}
use Rattle.std.specs.Int.Bits.{xor_zero_r}
use Rattle.tape_terms.specs.declared.term.Term.{Term}
use Rattle.tape_terms.specs.Values.{value_of}
use Rattle.masked_worlds.specs.declared.role.Role.{Role}
use Rattle.masked_check.specs.Shown.{IsShown, determined}
use Rattle.masked_check.specs.Forms.{seen}

pub seen-ones : (terms : List Term) (t atoms : List ℕ) → seen terms (map (λ (a : ℕ). a ∷ []) atoms) t ≡ map (λ (a : ℕ). value_of terms t a) atoms
seen-ones terms t [] = refl
seen-ones terms t (a ∷ atoms) =
    let first = xor_zero_r (value_of terms t a) in let rest = seen-ones terms t atoms in
    λ i. first i ∷ rest i

pub ones-shown : (roles : List Role) (terms : List Term) (atoms : List ℕ) → IsShown roles (seen terms (map (λ (a : ℕ). a ∷ []) atoms))
    → IsShown roles (λ (t : List ℕ). map (λ (a : ℕ). value_of terms t a) atoms)
ones-shown roles terms atoms shown = determined (seen terms (map (λ (a : ℕ). a ∷ []) atoms)) (λ vs. vs) (λ t. sym (seen-ones terms t atoms)) shown
