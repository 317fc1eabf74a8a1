-- Two accepted parts with EBREAK between them are accepted.
use Rattle.std.proofs.Common.{◌≡◌, ℕ, zero, suc, ◌+◌, ◌-◌, ◌<◌, ◌⊎◌, inl, inr, List, [], ◌∷◌, ◌++◌, length, get_or, sym, ap, subst, ◌∙◌, arith}
use Rattle.std.proofs.Math.Seq.{get_or-append_seam, take-append_seam, drop-append-add}
use Rattle.std.proofs.lemmas.List.{get_or_append_left, get_or-append-add}
use Rattle.isa_model.specs.InstrTable.{instr_of}
use Rattle.routine_laws.specs.Contents.{Contents}
use Rattle.routine_laws.specs.Rules.{Form, WordOutcome, Leaves, Breaks, Ends, Fails, after_word, then_outcome, outcome_of}
use Rattle.routine_laws.specs.Accepted.{at_save, at_restore, IsSaveAccepted, IsRestoreAccepted}
use Rattle.scrub_rules.specs.Division.{break_word, IsBreak}
use Rattle.scrub_rules.specs.Broken.{IsAccepted}
use Rattle.scrub_rules.proofs.Exact.{order}

-- Words that break no rule have no EBREAK.
later : (start : ℕ) (d : Contents) (words : List ℕ) → ((k : Contents) → outcome_of (start + 1) k words ≡ Ends d → ⊥) → (o : WordOutcome)
    → then_outcome start o (λ k. outcome_of (start + 1) k words) ≡ Ends d → ⊥
later start d words again (Breaks rule) e = absurd (cc e)
later start d words again (Leaves k) e = again k e

no-break : (start : ℕ) (c d : Contents) (words : List ℕ) (i : ℕ) → outcome_of start c words ≡ Ends d → get_or words i 0 ≡ break_word → ⊥
unfolding outcome_of
no-break start c d [] i e is = absurd (omega (arith, is))
no-break start c d (word ∷ words) zero e is =
    let there : after_word c (instr_of word) ≡ Breaks Form = ap (λ (n : ℕ). after_word c (instr_of n)) is in
    let fails : Fails start Form ≡ Ends d = sym (ap (λ (o : WordOutcome). then_outcome start o (λ k. outcome_of (start + 1) k words)) there) ∙ e in
    absurd (cc fails)
no-break start c d (word ∷ words) (suc i) e is =
    later start d words (λ k f. no-break (start + 1) k d words i f is) (after_word c (instr_of word)) e

module _ (save restore : List ℕ) (s : IsSaveAccepted save) (r : IsRestoreAccepted (length save + 1) restore) where
  after-break : (i : ℕ) → length save < i → IsBreak (save ++ break_word ∷ restore) i → ⊥
  after-break i low is =
      let k = i - length save - 1 in
      let place : length save + suc k ≡ i = omega (arith, low) in
      let there : get_or restore k 0 ≡ break_word =
      sym (get_or-append-add save (break_word ∷ restore) (suc k) 0)
      ∙ (ap (λ (n : ℕ). get_or (save ++ break_word ∷ restore) n 0) place ∙ is) in
      no-break (length save + 1) at_restore r.left restore k r.leaves there

  only-there : (i : ℕ) → IsBreak (save ++ break_word ∷ restore) i → (i ≡ length save) ⊎ ((i < length save) ⊎ (length save < i)) → i ≡ length save
  only-there i is (inl same) = same
  only-there i is (inr (inl low)) =
      absurd (no-break 0 at_save s.left save i s.leaves (sym (get_or_append_left save (break_word ∷ restore) 0 i low) ∙ is))
  only-there i is (inr (inr high)) = absurd (after-break i high is)

  pub joined : IsAccepted (save ++ break_word ∷ restore) (length save)
  joined = record {
    division = record {
      here = get_or-append_seam save break_word restore 0;
      alone = λ i is. only-there i is (order i (length save));
    };
    save = subst (λ (ws : List ℕ). IsSaveAccepted ws) (sym (take-append_seam save (break_word ∷ restore))) s;
    restore = subst (λ (ws : List ℕ). IsRestoreAccepted (length save + 1) ws) (sym (drop-append-add save (break_word ∷ restore) 1)) r;
  }
