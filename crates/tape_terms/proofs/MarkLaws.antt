-- A term that doesn't read a place denotes the same on tapes that differ only there.
use Rattle.std.proofs.Common.{◌≡◌, ℕ, zero, suc, ◌<◌, ◌≤◌, ◌==◌, ◌≢◌, Bool, true, false, ◌||◌, List, [], ◌∷◌, ◌++◌, length, get_or, set, refl, ap, sym, ◌∙◌, arith, eq-eqb}
use Rattle.std.proofs.lemmas.List.{get_or_append_left, get_or_at, get_or-set_other}
use Rattle.isa_model.specs.Bits.{low_word}
use Rattle.tape_terms.specs.declared.term.Term.{Term}
use Rattle.tape_terms.specs.declared.term.Term.TheVariants.{Constant, Word, Of}
use Rattle.tape_terms.specs.Values.{value_in, each_from}
use Rattle.tape_terms.specs.Marks.{mark_in, UnreadIsApart}
use Rattle.tape_terms.proofs.EachLaws.{length-one_more}

-- two lists of values are one wherever there is no mark
record Agree (bs : List Bool) (vs ws : List ℕ) : Type 0 where
  first : length vs ≡ length bs
  second : length ws ≡ length bs
  same : (i : ℕ) → get_or bs i false ≡ false → get_or vs i 0 ≡ get_or ws i 0

other_place : (at place : ℕ) → (at == place) ≡ false → at ≢ place
other_place at place is equal = let yes = eq-eqb at place equal in cc

both_false : (a b : Bool) → (a || b) ≡ false → (a ≡ false) × (b ≡ false)
both_false false false is = (refl, refl)
both_false false true is = cc
both_false true b is = cc

in_agree : (place x : ℕ) (t : List ℕ) (bs : List Bool) (vs ws : List ℕ) → Agree bs vs ws → (term : Term) → mark_in place bs term ≡ false
    → value_in (set t place x) vs term ≡ value_in t ws term
in_agree place x t bs vs ws agree (Constant word) unread = refl
in_agree place x t bs vs ws agree (Word at) unread = ap low_word (get_or-set_other t place at x 0 (other_place at place unread))
in_agree place x t bs vs ws agree (Of op a b) unread =
    let parts = both_false (get_or bs a false) (get_or bs b false) unread in
    let first = agree.same a parts.0 in let second = agree.same b parts.1 in cc

get_past : {X : Type 0} (xs : List X) (d : X) (i : ℕ) → length xs ≤ i → get_or xs i d ≡ d
get_past [] d i past = refl
get_past (x ∷ xs) d zero past = absurd (omega arith)
get_past (x ∷ xs) d (suc i) past = get_past xs d i (omega arith)

data Where (n i : ℕ) : Type 0 where
  old : i < n → Where n i
  here : i ≡ n → Where n i
  past : n < i → Where n i

where_is : (n i : ℕ) → Where n i
where_is zero zero = here refl
where_is zero (suc i) = past (omega arith)
where_is (suc n) zero = old (omega arith)
where_is (suc n) (suc i) = elim (where_is n i) [ old low ↦ old (omega arith) | here is ↦ here (omega arith) | past high ↦ past (omega arith) ]

agree-more : (bs : List Bool) (vs ws : List ℕ) (b : Bool) (v w : ℕ) → Agree bs vs ws → (b ≡ false → v ≡ w)
    → Agree (bs ++ b ∷ []) (vs ++ v ∷ []) (ws ++ w ∷ [])
agree-more bs vs ws b v w agree new =
    let lb = length-one_more bs b in let lv = length-one_more vs v in let lw = length-one_more ws w in
    let first = agree.first in let second = agree.second in
    record {
      first = omega arith;
      second = omega arith;
      same = λ i unread. at i unread (where_is (length bs) i);
    }
  where
    at : (i : ℕ) → get_or (bs ++ b ∷ []) i false ≡ false → Where (length bs) i → get_or (vs ++ v ∷ []) i 0 ≡ get_or (ws ++ w ∷ []) i 0
    at i unread (old low) =
        let first = agree.first in let second = agree.second in
        get_or_append_left vs (v ∷ []) 0 i (omega arith)
        ∙ agree.same i (sym (get_or_append_left bs (b ∷ []) false i low) ∙ unread)
        ∙ sym (get_or_append_left ws (w ∷ []) 0 i (omega arith))
    at i unread (here is) =
        let first = agree.first in let second = agree.second in
        get_or_at vs v [] 0 i (omega arith)
        ∙ new (sym (get_or_at bs b [] false i (sym is)) ∙ unread)
        ∙ sym (get_or_at ws w [] 0 i (omega arith))
    at i unread (past high) =
        let first = agree.first in let second = agree.second in
        let lv = length-one_more vs v in let lw = length-one_more ws w in
        get_past (vs ++ v ∷ []) 0 i (omega arith) ∙ sym (get_past (ws ++ w ∷ []) 0 i (omega arith))

agree-from : (place x : ℕ) (t : List ℕ) (bs : List Bool) (vs ws : List ℕ) (terms : List Term) → Agree bs vs ws
    → Agree (each_from (mark_in place) bs terms) (each_from (value_in (set t place x)) vs terms) (each_from (value_in t) ws terms)
unfolding each_from
agree-from place x t bs vs ws [] agree = agree
agree-from place x t bs vs ws (term ∷ terms) agree =
    agree-from place x t (bs ++ mark_in place bs term ∷ []) (vs ++ value_in (set t place x) vs term ∷ []) (ws ++ value_in t ws term ∷ []) terms
    (agree-more bs vs ws (mark_in place bs term) (value_in (set t place x) vs term) (value_in t ws term) agree (in_agree place x t bs vs ws agree term))

pub unread-is_apart : UnreadIsApart
unread-is_apart terms place i unread t x =
    (agree-from place x t [] [] [] terms (record { first = refl; second = refl; same = λ k none. refl })).same i unread
