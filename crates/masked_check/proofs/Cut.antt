-- A form that a pivot's word is added to is cut.
use Rattle.std.proofs.Common.{◌≡◌, ℕ, ◌<◌, List, [], ◌∷◌, length, get_or, set, refl, ap, sym, ◌∙◌, arith}
use Rattle.std.specs.Prelude.{bit_xor}
use Rattle.std.specs.Int.Bits.{xor_zero_r}
use Rattle.std.proofs.lemmas.List.{map-set, set-set, set-get_or, get_or-set_same, length-map}
use Rattle.tape_terms.specs.declared.term.Term.{Term}
use Rattle.tape_terms.specs.Values.{values, value_of}
use Rattle.tape_terms.proofs.WordLaws.{values-are_words}
use Rattle.masked_worlds.specs.declared.role.Role.{Role}
use Rattle.masked_worlds.specs.declared.pivot.Pivot.{Pivot}
use Rattle.masked_worlds.specs.Changes.{IsPivot, IsApartFrom}
use Rattle.masked_check.specs.Shown.{seen_word, determined, cut}
use Rattle.masked_check.specs.Forms.{form_value, value_on, seen, Leads}
use Rattle.masked_check.proofs.Exclusive.{xor-twice, form-low}
use Rattle.masked_check.proofs.Steps.{seen_at}

-- the first value is put at a place among the others
put_at : ℕ → List ℕ → List ℕ
put_at i [] = []
put_at i (v ∷ vs) = set vs i v

pub cut-leads : (roles : List Role) (terms : List Term) (forms : List (List ℕ)) (i m : ℕ) (rest : List ℕ) (pivot : Pivot) → i < length forms
    → IsPivot roles pivot → ((t : List ℕ) → value_of terms t m ≡ seen_word pivot t)
    → ((vs : List ℕ) → form_value vs rest ≡ bit_xor (get_or vs m 0) (form_value vs (get_or forms i [])))
    → IsApartFrom pivot (λ t. value_on terms t rest) → IsApartFrom pivot (seen terms (set forms i []))
    → Leads roles terms forms (set forms i (m ∷ []))
unfolding put_at
cut-leads roles terms forms i m rest pivot low is word parts rest_apart others_apart shown =
    determined (λ t. bit_xor (seen_word pivot t) (value_on terms t rest) ∷ seen terms (set forms i []) t) (put_at i) back
    (cut pivot is (λ t. value_on terms t rest) (λ t. form-low (values terms t) rest (λ k. values-are_words terms t k)) rest_apart
    (seen terms (set forms i [])) others_apart (λ t. refl)
    (determined (seen terms (set forms i (m ∷ []))) (λ vs. get_or vs i 0 ∷ set vs i 0) forth shown))
  where
    back : (t : List ℕ) → seen terms forms t ≡ set (seen terms (set forms i []) t) i (bit_xor (seen_word pivot t) (value_on terms t rest))
    back t =
        let g = value_on terms t in
        let vs = seen terms forms t in
        let others : seen terms (set forms i []) t ≡ set vs i 0 = map-set g forms i [] in
        let sum : bit_xor (seen_word pivot t) (g rest) ≡ g (get_or forms i []) =
        (λ k. bit_xor (sym (word t) k) (parts (values terms t) k)) ∙ xor-twice (value_of terms t m) (g (get_or forms i [])) in
        sym (set-get_or vs i 0)
        ∙ ap (set vs i) (seen_at terms forms t i low ∙ sym sum)
        ∙ sym (set-set vs i 0 (bit_xor (seen_word pivot t) (g rest)))
        ∙ ap (λ (ws : List ℕ). set ws i (bit_xor (seen_word pivot t) (g rest))) (sym others)

    forth : (t : List ℕ) → (seen_word pivot t ∷ seen terms (set forms i []) t) ≡ (get_or (seen terms (set forms i (m ∷ [])) t) i 0 ∷ set (seen terms (set forms i (m ∷ [])) t) i 0)
    forth t =
        let g = value_on terms t in
        let vs = seen terms forms t in
        let new : seen terms (set forms i (m ∷ [])) t ≡ set vs i (g (m ∷ [])) = map-set g forms i (m ∷ []) in
        let others : seen terms (set forms i []) t ≡ set vs i 0 = map-set g forms i [] in
        let long : length vs ≡ length forms = length-map forms g in
        let first : get_or (seen terms (set forms i (m ∷ [])) t) i 0 ≡ seen_word pivot t =
        ap (λ (ws : List ℕ). get_or ws i 0) new ∙ get_or-set_same vs i (g (m ∷ [])) 0 (omega arith) ∙ xor_zero_r (value_of terms t m) ∙ word t in
        let second : set (seen terms (set forms i (m ∷ [])) t) i 0 ≡ seen terms (set forms i []) t =
        ap (λ (ws : List ℕ). set ws i 0) new ∙ set-set vs i (g (m ∷ [])) 0 ∙ sym others in
        λ k. sym first k ∷ sym second k
