-- Words of which one is the first that breaks a rule: as the outcome of all of them, and as what the words before it leave and what it
-- does then.
use Rattle.std.proofs.Common.{◌≡◌, ℕ, suc, ◌+◌, List, [], ◌∷◌, take, refl, sym, ap, ◌∙◌, arith}
use Rattle.isa_model.specs.InstrTable.{instr_of}
use Rattle.routine_laws.specs.Contents.{Contents}
use Rattle.routine_laws.specs.Rules.{Rule, WordOutcome, Leaves, Breaks, Fails, after_word, then_outcome, outcome_of}
use Rattle.scrub_rules.specs.Broken.{IsWordBroken}

-- the first word breaks it
module _ (start : ℕ) (c : Contents) (word : ℕ) (words : List ℕ) (at : ℕ) (rule : Rule) where
  broken-first : start ≡ at → after_word c (instr_of word) ≡ Breaks rule → IsWordBroken start c (word ∷ words) at rule
  unfolding outcome_of
  broken-first same breaks = record {
    index = 0;
    place = sym same ∙ omega arith;
    there = omega arith;
    left = c;
    leaves = refl;
    breaks = breaks;
  }

  -- a later one does
  broken-later : (d : Contents) → after_word c (instr_of word) ≡ Leaves d → IsWordBroken (start + 1) d words at rule
      → IsWordBroken start c (word ∷ words) at rule
  unfolding outcome_of
  broken-later d leaves more = record {
    index = suc more.index;
    place = omega (arith, more.place);
    there = omega (arith, more.there);
    left = more.left;
    leaves = ap (λ o. then_outcome start o (λ k. outcome_of (start + 1) k (take more.index words))) leaves ∙ more.leaves;
    breaks = more.breaks;
  }

  by-first : ((d : Contents) → outcome_of (start + 1) d words ≡ Fails at rule → IsWordBroken (start + 1) d words at rule)
      → (outcome : WordOutcome) → after_word c (instr_of word) ≡ outcome
      → then_outcome start outcome (λ d. outcome_of (start + 1) d words) ≡ Fails at rule → IsWordBroken start c (word ∷ words) at rule
  by-first again (Breaks other) w fails =
      let same : other ≡ rule = cc fails in
      broken-first (cc fails) (w ∙ ap Breaks same)
  by-first again (Leaves d) w fails = broken-later d w (again d fails)

pub fails_at : (start : ℕ) (c : Contents) (words : List ℕ) (at : ℕ) (rule : Rule) → outcome_of start c words ≡ Fails at rule
    → IsWordBroken start c words at rule
unfolding outcome_of
fails_at start c [] at rule fails = absurd (cc fails)
fails_at start c (word ∷ words) at rule fails =
    by-first start c word words at rule (λ d. fails_at (start + 1) d words at rule) (after_word c (instr_of word)) refl fails
