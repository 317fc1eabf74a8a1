-- Words of which none breaks a rule are followed over abstract cells.
use Rattle.std.proofs.Common.{◌≡◌, ℕ, ◌+◌, List, [], ◌∷◌, Option, Some, None, refl, ap, subst, ◌∙◌}
use Rattle.isa_model.specs.declared.instr.Instr.{Instr}
use Rattle.isa_model.specs.InstrTable.{instr_of}
use Rattle.symbolic_run.specs.AbstractCell.{AbstractState}
use Rattle.symbolic_run.specs.AbstractRun as run
use Rattle.core_invariant.proofs.KernelCells.{reached}
use Rattle.routine_laws.specs.Contents.{Contents}
use Rattle.routine_laws.specs.Rules.{WordOutcome, Leaves, Breaks, Ends, after_word, then_outcome, outcome_of}
use Rattle.routine_laws.proofs.Fits.{FitState}
use Rattle.routine_laws.proofs.WriteFits.{StaysBeside, stays-same, stays-then}
use Rattle.routine_laws.proofs.Forms.{GoesOn, instr-goes-on}

-- Words that are followed, and after them the state is as the contents say.
pub record IsFollowedRun (words : List ℕ) (a : AbstractState) (d : Contents) : Type 0 where
  pub cells_left : AbstractState
  pub run_is : run.run_of reached words a ≡ Some cells_left
  pub fit : FitState d cells_left
  pub stays : StaysBeside a cells_left

-- one word more
followed-first : (word : ℕ) (words : List ℕ) (c e d : Contents) (a : AbstractState) (instr : Instr) (is : instr_of word ≡ Some instr)
    (f : FitState c a) (first : GoesOn c a f instr e) → IsFollowedRun words first.left.cells_left d → IsFollowedRun (word ∷ words) a d
followed-first word words c e d a instr is f first more =
    let there : run.after_word reached word a ≡ Some first.left.cells_left =
    ap (λ o. run.after_instr reached a o) is ∙ ap (λ o. run.after_effect a o) first.effect ∙ first.left.are in
    record {
      cells_left = more.cells_left;
      run_is = ap (λ o. run.run_from reached words o) there ∙ more.run_is;
      fit = more.fit;
      stays = stays-then a first.left.cells_left more.cells_left first.left.stays more.stays;
    }

-- by the first instruction, and by what the first word leaves
module _ (at : ℕ) (word : ℕ) (words : List ℕ) (c d : Contents) (a : AbstractState) (f : FitState c a)
    (again : (k : Contents) (b : AbstractState) → FitState k b → outcome_of (at + 1) k words ≡ Ends d → IsFollowedRun words b d) where
  by-instr : (k : Contents) (o : Option Instr) → instr_of word ≡ o → after_word c o ≡ Leaves k → outcome_of (at + 1) k words ≡ Ends d
      → IsFollowedRun (word ∷ words) a d
  by-instr k None is w more = absurd (cc w)
  by-instr k (Some instr) is w more =
      let first = instr-goes-on c a f k instr w in
      followed-first word words c k d a instr is f first (again k first.left.cells_left first.left.fit more)

  by-outcome : (outcome : WordOutcome) → after_word c (instr_of word) ≡ outcome
      → then_outcome at outcome (λ k. outcome_of (at + 1) k words) ≡ Ends d → IsFollowedRun (word ∷ words) a d
  by-outcome (Breaks rule) w more = absurd (cc more)
  by-outcome (Leaves k) w more = by-instr k (instr_of word) refl w more

-- Words that break no rule are followed.
pub followed-run : (at : ℕ) (words : List ℕ) (c d : Contents) (a : AbstractState) → FitState c a → outcome_of at c words ≡ Ends d
    → IsFollowedRun words a d
unfolding outcome_of
followed-run at [] c d a f e =
    let same : c ≡ d = cc e in
    record { cells_left = a; run_is = refl; fit = subst (λ (k : Contents). FitState k a) same f; stays = stays-same a }
followed-run at (word ∷ words) c d a f e =
    by-outcome at word words c d a f (λ k b g more. followed-run (at + 1) words k d b g more) (after_word c (instr_of word)) refl e
