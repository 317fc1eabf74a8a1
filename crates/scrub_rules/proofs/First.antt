-- The first rule that is broken, by what the checker finds.
use Rattle.std.proofs.Common.{◌≡◌, ℕ, ◌+◌, inl, inr, List, length, refl}
use Rattle.routine_laws.specs.Contents.{Contents}
use Rattle.routine_laws.specs.Rules.{Rule as WordRule, Ends, Fails, outcome_of}
use Rattle.routine_laws.specs.Accepted.{at_save, at_restore, IsSavedEnd, IsRestoredEnd}
use Rattle.scrub_rules.specs.declared.rule.Rule.{Rule}
use Rattle.scrub_rules.specs.declared.rule.Rule.TheVariants.{Divide, Length, Form, Base, NotZero, Meets, Slot, Left, Restored, Memory}
use Rattle.scrub_rules.specs.Division.{save_part, restore_part}
use Rattle.scrub_rules.specs.Broken.{IsAccepted, AreShortParts, IsFormBroken, IsSaveEndBroken, IsRestoreEndBroken, IsEndBroken, IsFirstBroken}
use Rattle.scrub_rules.proofs.BrokenWords.{fails_at}

-- a word of the save part, and one of the restore part
pub save_word_broken : (words : List ℕ) (place at : ℕ) (rule : WordRule) → AreShortParts words place
    → outcome_of 0 at_save (save_part words place) ≡ Fails at rule → IsFormBroken words at rule
save_word_broken words place at rule short fails = record {
  place = place;
  short = short;
  broken = inl (fails_at 0 at_save (save_part words place) at rule fails);
}

pub restore_word_broken : (words : List ℕ) (place at : ℕ) (rule : WordRule) (left : Contents) → AreShortParts words place
    → outcome_of 0 at_save (save_part words place) ≡ Ends left
    → outcome_of (place + 1) at_restore (restore_part words place) ≡ Fails at rule → IsFormBroken words at rule
restore_word_broken words place at rule left short leaves fails = record {
  place = place;
  short = short;
  broken = inr (record { left = left; leaves = leaves }, fails_at (place + 1) at_restore (restore_part words place) at rule fails);
}

-- a rule at an end
module _ (words : List ℕ) (place : ℕ) (c d : Contents) (short : AreShortParts words place)
    (saved : outcome_of 0 at_save (save_part words place) ≡ Ends c)
    (restored : outcome_of (place + 1) at_restore (restore_part words place) ≡ Ends d) where
  at-save-end : (rule : Rule) → IsSaveEndBroken c rule → IsEndBroken words place rule
  at-save-end rule broken = record {
    place = place;
    short = short;
    saved = record { left = c; leaves = saved };
    restored = record { left = d; leaves = restored };
    broken = inl (refl, broken);
  }

  at-restore-end : (rule : Rule) → IsSavedEnd c → IsRestoreEndBroken d rule → IsEndBroken words (length words) rule
  at-restore-end rule end broken = record {
    place = place;
    short = short;
    saved = record { left = c; leaves = saved };
    restored = record { left = d; leaves = restored };
    broken = inr (refl, end, broken);
  }

  pub save_end_broken : (rule : Rule) → IsSaveEndBroken c rule → IsFirstBroken words place rule
  save_end_broken Divide broken = absurd broken
  save_end_broken Length broken = absurd broken
  save_end_broken Form broken = absurd broken
  save_end_broken Base broken = absurd broken
  save_end_broken NotZero broken = absurd broken
  save_end_broken Meets broken = absurd broken
  save_end_broken Slot broken = at-save-end Slot broken
  save_end_broken Left broken = at-save-end Left broken
  save_end_broken Restored broken = absurd broken
  save_end_broken Memory broken = absurd broken

  pub restore_end_broken : (rule : Rule) → IsSavedEnd c → IsRestoreEndBroken d rule → IsFirstBroken words (length words) rule
  restore_end_broken Divide end broken = absurd broken
  restore_end_broken Length end broken = absurd broken
  restore_end_broken Form end broken = absurd broken
  restore_end_broken Base end broken = absurd broken
  restore_end_broken NotZero end broken = absurd broken
  restore_end_broken Meets end broken = absurd broken
  restore_end_broken Slot end broken = at-restore-end Slot end broken
  restore_end_broken Left end broken = at-restore-end Left end broken
  restore_end_broken Restored end broken = at-restore-end Restored end broken
  restore_end_broken Memory end broken = absurd broken

  pub all_accepted : IsSavedEnd c → IsRestoredEnd d → IsAccepted words place
  all_accepted saved_end restored_end = record {
    division = short.division;
    save = record { few = short.save; left = c; leaves = saved; end = saved_end };
    restore = record { few = short.restore; left = d; leaves = restored; end = restored_end };
  }

pub save_end_not_memory : (c : Contents) (rule : Rule) → IsSaveEndBroken c rule → rule ≡ Memory → ⊥
save_end_not_memory c Memory broken is = broken
save_end_not_memory c Slot broken is = cc is
save_end_not_memory c Left broken is = cc is
save_end_not_memory c rule broken is = absurd (cc is)

pub restore_end_not_memory : (c : Contents) (rule : Rule) → IsRestoreEndBroken c rule → rule ≡ Memory → ⊥
restore_end_not_memory c Memory broken is = broken
restore_end_not_memory c rule broken is = absurd (cc is)
