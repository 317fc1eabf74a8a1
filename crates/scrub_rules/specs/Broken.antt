-- Which words are accepted as a routine of one's own, and which rule is the first that other words break, with its place (this project's
-- own). Places are counted from 0 over all words.
use Rattle.std.specs.Prelude.{◌≡◌, ℕ, ◌+◌, ◌<◌, ◌≤◌, ◌⊎◌, false, List, length, take, slice_index}
use Rattle.isa_model.specs.InstrTable.{instr_of}
use Rattle.core_model.specs.Routines.{part_limit}
use Rattle.routine_laws.specs.declared.content.Content.TheVariants.{SlotAddress, TaskReg}
use Rattle.routine_laws.specs.Contents.{Contents, is_tagged, register}
use Rattle.routine_laws.specs.Rules.{Rule as WordRule, Form as FormRule, Base as BaseRule, NotZero as NotZeroRule, Meets as MeetsRule, Breaks, Ends, after_word, outcome_of}
use Rattle.routine_laws.specs.Accepted.{at_save, at_restore, AreWordsSaved, AreLatchesUntagged, IsSavedEnd, IsSaveAccepted, IsRestoreAccepted}
use Rattle.scrub_rules.specs.declared.rule.Rule.{Rule}
use Rattle.scrub_rules.specs.declared.rule.Rule.TheVariants.{Divide, Length, Form, Base, NotZero, Meets, Slot, Left, Restored, Memory}
use Rattle.scrub_rules.specs.Division.{HasNoBreak, IsDivision, IsSecondBreak, save_part, restore_part}

-- The words are accepted, divided at this place: one EBREAK, and before and after it a part that breaks no rule.
pub record IsAccepted (words : List ℕ) (at : ℕ) : Type 0 where
  pub division : IsDivision words at
  pub save : IsSaveAccepted (save_part words at)
  pub restore : IsRestoreAccepted (at + 1) (restore_part words at)

-- the two parts of accepted words
pub record AreAcceptedParts (words save restore : List ℕ) : Type 0 where
  pub at : ℕ
  pub accepted : IsAccepted words at
  pub save_is : save ≡ save_part words at
  pub restore_is : restore ≡ restore_part words at

-- Divide: there is no EBREAK, which is told at the end of the words; or this is the second one.
abbrev pub IsDivideBroken : List ℕ → ℕ → Type 0
IsDivideBroken words at = (HasNoBreak words × (at ≡ length words)) ⊎ IsSecondBreak words at

-- Length: a part is longer than a part may be, and this is the place of its first word too many; the save part comes first.
abbrev pub IsSaveLong : List ℕ → ℕ → ℕ → Type 0
IsSaveLong words division at = (part_limit < length (save_part words division)) × (at ≡ part_limit)

abbrev pub IsRestoreLong : List ℕ → ℕ → ℕ → Type 0
IsRestoreLong words division at =
    (length (save_part words division) ≤ part_limit) × (part_limit < length (restore_part words division)) × (at ≡ division + 1 + part_limit)

pub record IsLengthBroken (words : List ℕ) (at : ℕ) : Type 0 where
  pub place : ℕ
  pub division : IsDivision words place
  pub long : IsSaveLong words place at ⊎ IsRestoreLong words place at

-- words with one EBREAK, at a place, and two parts that are short enough
pub record AreShortParts (words : List ℕ) (at : ℕ) : Type 0 where
  pub division : IsDivision words at
  pub save : length (save_part words at) ≤ part_limit
  pub restore : length (restore_part words at) ≤ part_limit

-- In a part whose first word has the place `start`, the words before this place break no rule, and the word there breaks this one after
-- them.
pub record IsWordBroken (start : ℕ) (before : Contents) (part : List ℕ) (at : ℕ) (rule : WordRule) : Type 0 where
  pub index : ℕ
  pub place : at ≡ start + index
  pub there : index < length part
  pub left : Contents
  pub leaves : outcome_of start before (take index part) ≡ Ends left
  pub breaks : after_word left (instr_of (slice_index part index)) ≡ Breaks rule

-- what the words of a part leave that break no rule
pub record IsFollowed (start : ℕ) (before : Contents) (part : List ℕ) : Type 0 where
  pub left : Contents
  pub leaves : outcome_of start before part ≡ Ends left

-- Form, Base, NotZero and Meets: of all words of both parts this is the first that breaks one of them, and it breaks this one.
abbrev pub IsSaveWordBroken : List ℕ → ℕ → ℕ → WordRule → Type 0
IsSaveWordBroken words division at rule = IsWordBroken 0 at_save (save_part words division) at rule

abbrev pub IsRestoreWordBroken : List ℕ → ℕ → ℕ → WordRule → Type 0
IsRestoreWordBroken words division at rule =
    IsFollowed 0 at_save (save_part words division) × IsWordBroken (division + 1) at_restore (restore_part words division) at rule

pub record IsFormBroken (words : List ℕ) (at : ℕ) (rule : WordRule) : Type 0 where
  pub place : ℕ
  pub short : AreShortParts words place
  pub broken : IsSaveWordBroken words place at rule ⊎ IsRestoreWordBroken words place at rule

-- no register is tagged, no other latch is, and x5 and mscratch have the slot's address
pub record IsCleared (c : Contents) : Type 0 where
  pub registers : (i : ℕ) → 1 ≤ i → i < 32 → is_tagged (register c i) ≡ false
  pub latches : AreLatchesUntagged c
  pub x5 : register c 5 ≡ SlotAddress
  pub scratch : c.scr ≡ SlotAddress

-- the registers are the task's
abbrev pub AreRegistersRestored : Contents → Type 0
AreRegistersRestored c = (i : ℕ) → 1 ≤ i → i < 32 → register c i ≡ TaskReg i

-- no latch other than a register is tagged, and mscratch has the slot's address
pub record AreOthersCleared (c : Contents) : Type 0 where
  pub latches : AreLatchesUntagged c
  pub scratch : c.scr ≡ SlotAddress

-- which rule is the first that is broken at the end of a save part: Slot, Left;
abbrev pub IsSaveEndBroken : Contents → Rule → Type 0
IsSaveEndBroken c Slot = AreWordsSaved c → ⊥
IsSaveEndBroken c Left = AreWordsSaved c × (IsCleared c → ⊥)
IsSaveEndBroken c rule = ⊥

-- and at the end of a restore part: Restored, Left, Slot.
abbrev pub IsRestoreEndBroken : Contents → Rule → Type 0
IsRestoreEndBroken c Restored = AreRegistersRestored c → ⊥
IsRestoreEndBroken c Left = AreRegistersRestored c × (AreOthersCleared c → ⊥)
IsRestoreEndBroken c Slot = AreRegistersRestored c × AreOthersCleared c × (AreWordsSaved c → ⊥)
IsRestoreEndBroken c rule = ⊥

-- Slot, Left and Restored: no word breaks a rule; the save part's end is told at the EBREAK, and the restore part's at the end of the words.
pub record IsEndBroken (words : List ℕ) (at : ℕ) (rule : Rule) : Type 0 where
  pub place : ℕ
  pub short : AreShortParts words place
  pub saved : IsFollowed 0 at_save (save_part words place)
  pub restored : IsFollowed (place + 1) at_restore (restore_part words place)
  pub broken : ((at ≡ place) × IsSaveEndBroken saved.left rule)
      ⊎ ((at ≡ length words) × IsSavedEnd saved.left × IsRestoreEndBroken restored.left rule)

-- At this place this rule is the first that is broken. The order: Divide and Length of the whole, then the rules of words, word by word,
-- then those at the two ends. Memory is no rule of words.
abbrev pub IsFirstBroken : List ℕ → ℕ → Rule → Type 0
IsFirstBroken words at Divide = IsDivideBroken words at
IsFirstBroken words at Length = IsLengthBroken words at
IsFirstBroken words at Form = IsFormBroken words at FormRule
IsFirstBroken words at Base = IsFormBroken words at BaseRule
IsFirstBroken words at NotZero = IsFormBroken words at NotZeroRule
IsFirstBroken words at Meets = IsFormBroken words at MeetsRule
IsFirstBroken words at Slot = IsEndBroken words at Slot
IsFirstBroken words at Left = IsEndBroken words at Left
IsFirstBroken words at Restored = IsEndBroken words at Restored
IsFirstBroken words at Memory = ⊥
