-- Words of which one is the first that breaks a rule fail with it.
use Rattle.std.proofs.Common.{◌≡◌, ℕ, zero, suc, ◌+◌, ◌<◌, List, [], ◌∷◌, length, take, get_or, sym, ap, ◌∙◌, arith}
use Rattle.isa_model.specs.InstrTable.{instr_of}
use Rattle.routine_laws.specs.Contents.{Contents}
use Rattle.routine_laws.specs.Rules.{Rule, WordOutcome, Leaves, Breaks, Ends, Fails, after_word, then_outcome, outcome_of}
use Rattle.scrub_rules.specs.Broken.{IsWordBroken}

-- a later word, by what the first one leaves
module _ (start : ℕ) (left : Contents) (words : List ℕ) (index : ℕ) (rule : Rule)
    (again : (d : Contents) → outcome_of (start + 1) d (take index words) ≡ Ends left → outcome_of (start + 1) d words ≡ Fails (start + 1 + index) rule)
  where
    by-first : (o : WordOutcome) → then_outcome start o (λ d. outcome_of (start + 1) d (take index words)) ≡ Ends left
        → then_outcome start o (λ d. outcome_of (start + 1) d words) ≡ Fails (start + suc index) rule
    by-first (Breaks other) e = absurd (cc e)
    by-first (Leaves d) e =
        let same : start + 1 + index ≡ start + suc index = omega arith in
        again d e ∙ ap (λ n. Fails n rule) same

-- the first word
first-fails : (start : ℕ) (c left : Contents) (word : ℕ) (words : List ℕ) (rule : Rule) → c ≡ left
    → after_word left (instr_of word) ≡ Breaks rule → outcome_of start c (word ∷ words) ≡ Fails (start + 0) rule
unfolding outcome_of
first-fails start c left word words rule same breaks =
    let there : after_word c (instr_of word) ≡ Breaks rule = ap (λ (k : Contents). after_word k (instr_of word)) same ∙ breaks in
    let at : start ≡ start + 0 = omega arith in
    ap (λ o. then_outcome start o (λ d. outcome_of (start + 1) d words)) there ∙ ap (λ n. Fails n rule) at

broken-fails : (index start : ℕ) (c left : Contents) (words : List ℕ) (rule : Rule) → index < length words
    → outcome_of start c (take index words) ≡ Ends left → after_word left (instr_of (get_or words index 0)) ≡ Breaks rule
    → outcome_of start c words ≡ Fails (start + index) rule
unfolding outcome_of
broken-fails index start c left [] rule there leaves breaks = absurd (omega (arith, there))
broken-fails zero start c left (word ∷ words) rule there leaves breaks = first-fails start c left word words rule (cc leaves) breaks
broken-fails (suc index) start c left (word ∷ words) rule there leaves breaks =
    by-first start left words index rule
    (λ d e. broken-fails index (start + 1) d left words rule (omega (arith, there)) e breaks) (after_word c (instr_of word)) leaves

pub fails_of : (start : ℕ) (c : Contents) (words : List ℕ) (at : ℕ) (rule : Rule) → IsWordBroken start c words at rule
    → outcome_of start c words ≡ Fails at rule
fails_of start c words at rule b =
    broken-fails b.index start c b.left words rule b.there b.leaves b.breaks ∙ ap (λ n. Fails n rule) (sym b.place)
