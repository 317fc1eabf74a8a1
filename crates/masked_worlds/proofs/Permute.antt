-- A change that can be taken back permutes the tapes.
use Rattle.std.proofs.Common.{◌≡◌, ℕ, Bool, true, false, List, map, get_or, refl, ap, sym, ◌∙◌, subst, true≢false}
use Rattle.std.specs.List.{count_by}
use Rattle.core_model.proofs.Lists.{bit}
use Rattle.probing_laws.proofs.Counts.{equally-often, count-map, count-agree}
use Rattle.masked_worlds.specs.declared.role.Role.{Role}
use Rattle.masked_worlds.specs.Tapes.{tapes, is_tape, same_words}
use Rattle.masked_worlds.specs.Changes.{IsChange, ChangesPermute}
use Rattle.masked_worlds.proofs.Tapes.{words-equal, one-test, none-passes, tape-often, all-tapes}

module _ (roles : List Role) (words : List ℕ) where
  -- two tests that agree at each tape
  pub tapes-agree : (p q : List ℕ → Bool) → ((t : List ℕ) → is_tape roles words t ≡ true → p t ≡ q t)
      → count_by p (tapes roles words) ≡ count_by q (tapes roles words)
  tapes-agree p q agree =
      count-agree p q (tapes roles words) (λ i d low. agree (get_or (tapes roles words) i d) (all-tapes roles words i d low))

  module _ (change back : List ℕ → List ℕ) (is : IsChange roles words change back) where
    -- as many changed tapes are this one as tapes are what it is changed back to
    counted_from : (z : List ℕ) (b : Bool) → is_tape roles words z ≡ b
        → count_by (λ t. same_words (change t) z) (tapes roles words) ≡ bit b
    counted_from z true good =
        tapes-agree (λ t. same_words (change t) z) (λ t. same_words t (back z)) turned
        ∙ tape-often roles words (back z) ∙ ap bit (is.keeps_back z good)
      where
        turned : (t : List ℕ) → is_tape roles words t ≡ true → same_words (change t) z ≡ same_words t (back z)
        turned t one =
            one-test (same_words (change t) z) (same_words t (back z))
            (λ same. subst (λ (u : List ℕ). same_words t u ≡ true)
            (sym (is.undone t one) ∙ ap back (words-equal.only (change t) z same)) (words-equal.self t))
            (λ same. subst (λ (u : List ℕ). same_words u z ≡ true)
            (sym (ap change (words-equal.only t (back z) same) ∙ is.redone z good)) (words-equal.self z))
    counted_from z false bad =
        tapes-agree (λ t. same_words (change t) z) (λ t. false)
        (λ t one. one-test (same_words (change t) z) false
        (λ same. absurd (true≢false (sym (is.keeps t one) ∙ ap (is_tape roles words) (words-equal.only (change t) z same) ∙ bad)))
        (λ no. absurd (true≢false (sym no))))
        ∙ none-passes (tapes roles words)

    pub permuted : (is_so : List ℕ → Bool) → count_by is_so (tapes roles words) ≡ count_by (λ t. is_so (change t)) (tapes roles words)
    permuted is_so =
        equally-often same_words words-equal is_so (tapes roles words) (map change (tapes roles words)) alike
        ∙ count-map is_so change (tapes roles words)
      where
        alike : (z : List ℕ) → count_by (λ t. same_words t z) (tapes roles words) ≡ count_by (λ t. same_words t z) (map change (tapes roles words))
        alike z =
            tape-often roles words z ∙ sym (counted_from z (is_tape roles words z) refl)
            ∙ sym (count-map (λ (t : List ℕ). same_words t z) change (tapes roles words))

pub changes-permute : ChangesPermute
changes-permute roles words change back is is_so = permuted roles words change back is is_so
