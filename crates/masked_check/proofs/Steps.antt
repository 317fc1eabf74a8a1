-- The steps that leave what is seen determined.
use Rattle.std.proofs.Common.{◌≡◌, ◌≢◌, ℕ, ◌<◌, List, [], ◌∷◌, ◌++◌, map, length, get_or, set, take, ap, sym, ◌∙◌, arith}
use Rattle.std.specs.Prelude.{bit_xor}
use Rattle.std.specs.Int.Bits.{xor_zero_r}
use Rattle.std.proofs.lemmas.List.{map-set, set-set, set-get_or, get_or-map, get_or-set_same, get_or-set_other, length-map, map-append, take_at}
use Rattle.isa_model.specs.Arithmetic.{alu_of}
use Rattle.isa_model.specs.declared.instr.Alu.{Alu}
use Rattle.tape_terms.specs.declared.term.Term.{Term}
use Rattle.tape_terms.specs.Values.{values, value_of}
use Rattle.masked_worlds.specs.declared.role.Role.{Role}
use Rattle.masked_check.specs.Shown.{determined}
use Rattle.masked_check.specs.Forms.{form_value, value_on, seen, Leads}
use Rattle.masked_check.proofs.Exclusive.{xor-twice}

-- forms that show the same
pub same-leads : (roles : List Role) (terms : List Term) (old new : List (List ℕ)) → ((t : List ℕ) → seen terms new t ≡ seen terms old t) → Leads roles terms old new
same-leads roles terms old new same shown = determined (seen terms new) (λ vs. vs) (λ t. sym (same t)) shown

-- what a form shows, among what all show
pub seen_at : (terms : List Term) (forms : List (List ℕ)) (t : List ℕ) (i : ℕ) → i < length forms → get_or (seen terms forms t) i 0 ≡ value_on terms t (get_or forms i [])
seen_at terms forms t i low = get_or-map (value_on terms t) forms i [] 0 low

-- A form is exchanged for one that determines it, with the others.
pub set-leads : (roles : List Role) (terms : List Term) (forms : List (List ℕ)) (i : ℕ) (form : List ℕ) (from : List ℕ → ℕ) → i < length forms
    → ((t : List ℕ) → value_on terms t (get_or forms i []) ≡ from (set (seen terms forms t) i (value_on terms t form)))
    → Leads roles terms forms (set forms i form)
set-leads roles terms forms i form from low is shown =
    determined (seen terms (set forms i form)) (λ vs. set vs i (from vs)) whole shown
  where
    whole : (t : List ℕ) → seen terms forms t ≡ set (seen terms (set forms i form) t) i (from (seen terms (set forms i form) t))
    whole t =
        let g = value_on terms t in
        let new : seen terms (set forms i form) t ≡ set (seen terms forms t) i (g form) = map-set g forms i form in
        let back : set (seen terms forms t) i (g (get_or forms i [])) ≡ seen terms forms t =
        ap (set (seen terms forms t) i) (sym (seen_at terms forms t i low)) ∙ set-get_or (seen terms forms t) i 0 in
        sym back
        ∙ ap (set (seen terms forms t) i) (is t)
        ∙ sym (set-set (seen terms forms t) i (g form) (from (set (seen terms forms t) i (g form))))
        ∙ (λ k. set (sym new k) i (from (sym new k)))

-- One form is added to another.
pub add-leads : (roles : List Role) (terms : List Term) (forms : List (List ℕ)) (to other : ℕ) (form : List ℕ) → to < length forms → other < length forms → other ≢ to
    → ((vs : List ℕ) → form_value vs form ≡ bit_xor (form_value vs (get_or forms other [])) (form_value vs (get_or forms to [])))
    → Leads roles terms forms (set forms to form)
add-leads roles terms forms to other form low there apart is =
    set-leads roles terms forms to form (λ vs. bit_xor (get_or vs other 0) (get_or vs to 0)) low (λ t.
    let g = value_on terms t in
    let vs = seen terms forms t in
    let a : get_or (set vs to (g form)) other 0 ≡ g (get_or forms other []) = get_or-set_other vs to other (g form) 0 apart ∙ seen_at terms forms t other there in
    let long : length vs ≡ length forms = length-map forms g in
    let b : get_or (set vs to (g form)) to 0 ≡ g form = get_or-set_same vs to (g form) 0 (omega arith) in
    sym (xor-twice (g (get_or forms other [])) (g (get_or forms to [])))
    ∙ ap (bit_xor (g (get_or forms other []))) (sym (is (values terms t)))
    ∙ (λ k. bit_xor (sym a k) (sym b k)))

-- The operands of a term, which are forms of their own, take its place in a form.
pub put-leads : (roles : List Role) (terms : List Term) (forms : List (List ℕ)) (i j k m a b : ℕ) (op : Alu) (form : List ℕ)
    → i < length forms → j < length forms → k < length forms → j ≢ i → k ≢ i
    → get_or forms j [] ≡ a ∷ [] → get_or forms k [] ≡ b ∷ []
    → ((t : List ℕ) → value_of terms t m ≡ alu_of op (value_of terms t a) (value_of terms t b))
    → ((vs : List ℕ) → form_value vs form ≡ bit_xor (get_or vs m 0) (form_value vs (get_or forms i [])))
    → Leads roles terms forms (set forms i form)
put-leads roles terms forms i j k m a b op form low low_j low_k other_j other_k at_j at_k unfolds is =
    set-leads roles terms forms i form (λ vs. bit_xor (alu_of op (get_or vs j 0) (get_or vs k 0)) (get_or vs i 0)) low (λ t.
    let g = value_on terms t in
    let vs = seen terms forms t in
    let first : get_or (set vs i (g form)) j 0 ≡ value_of terms t a =
    get_or-set_other vs i j (g form) 0 other_j ∙ seen_at terms forms t j low_j ∙ ap g at_j ∙ xor_zero_r (value_of terms t a) in
    let second : get_or (set vs i (g form)) k 0 ≡ value_of terms t b =
    get_or-set_other vs i k (g form) 0 other_k ∙ seen_at terms forms t k low_k ∙ ap g at_k ∙ xor_zero_r (value_of terms t b) in
    let long : length vs ≡ length forms = length-map forms g in
    let here : get_or (set vs i (g form)) i 0 ≡ g form = get_or-set_same vs i (g form) 0 (omega arith) in
    sym (xor-twice (value_of terms t m) (g (get_or forms i [])))
    ∙ ap (bit_xor (value_of terms t m)) (sym (is (values terms t)))
    ∙ (λ n. bit_xor (unfolds t n) (g form))
    ∙ (λ n. bit_xor (alu_of op (sym first n) (sym second n)) (sym here n)))

-- A form is added at the end.
pub more-leads : (roles : List Role) (terms : List Term) (forms : List (List ℕ)) (form : List ℕ) → Leads roles terms forms (forms ++ form ∷ [])
more-leads roles terms forms form shown =
    determined (seen terms (forms ++ form ∷ [])) (take (length forms)) (λ t.
    let g = value_on terms t in
    sym (ap (take (length forms)) (map-append g forms (form ∷ [])) ∙ take_at (map g forms) (map g (form ∷ [])) (length forms) (length-map forms g))) shown
