-- Which words are accepted as a save part and as a restore part (this project's own): what is known where such a part begins, and what
-- has to hold at its end.
use Rattle.std.specs.Prelude.{◌≡◌, ℕ, ◌≤◌, ◌<◌, false, List, [], ◌∷◌, ◌++◌, length, map, replicate}
use Rattle.hart_model.specs.declared.place.Place.{Place}
use Rattle.hart_model.specs.declared.place.Place.TheVariants as places
use Rattle.core_model.specs.KernelText.{registers}
use Rattle.core_model.specs.Routines.{IsOtherLatch, part_limit}
use Rattle.routine_laws.specs.declared.content.Content.TheVariants.{Zero, SlotAddress, Public, TaskReg, OldSlotWord, Unknown}
use Rattle.routine_laws.specs.Contents.{Contents, is_tagged, content_at, register}
use Rattle.routine_laws.specs.Rules.{Ends, outcome_of}

-- Where a save part begins: the registers are the task's, the slot has its old words, and mscratch has the slot's address. Of all else
-- but the word that is always 0 nothing is known.
abbrev pub at_save : Contents
at_save = record {
  regs = Unknown ∷ map TaskReg registers;
  port_a = Unknown;
  port_b = Unknown;
  res = Unknown;
  load = Unknown;
  store = Unknown;
  scr = SlotAddress;
  mul = Unknown;
  zero = Zero;
  slot = Unknown ∷ map OldSlotWord registers ++ replicate 4 Unknown;
  data_words = [];
}

-- Where a restore part begins: the slot's words are the task's registers, x5 and mscratch have the slot's address, and all else is public.
abbrev pub at_restore : Contents
at_restore = record {
  regs = replicate 5 Public ++ SlotAddress ∷ replicate 26 Public;
  port_a = Public;
  port_b = Public;
  res = Public;
  load = Public;
  store = Public;
  scr = SlotAddress;
  mul = Public;
  zero = Zero;
  slot = Public ∷ map TaskReg registers ++ replicate 4 Public;
  data_words = [];
}

-- the words 1 to 31 of the slot are the task's registers
abbrev pub AreWordsSaved : Contents → Type 0
AreWordsSaved c = (i : ℕ) → 1 ≤ i → i < 32 → content_at c (places.SlotWord i) ≡ TaskReg i

-- no latch other than a register is tagged
abbrev pub AreLatchesUntagged : Contents → Type 0
AreLatchesUntagged c = (p : Place) → IsOtherLatch p → is_tagged (content_at c p) ≡ false

-- At the end of a save part: the registers are saved, no latch is tagged, and x5 and mscratch have the slot's address.
pub record IsSavedEnd (c : Contents) : Type 0 where
  pub saved : AreWordsSaved c
  pub registers : (i : ℕ) → 1 ≤ i → i < 32 → is_tagged (register c i) ≡ false
  pub latches : AreLatchesUntagged c
  pub x5 : register c 5 ≡ SlotAddress
  pub scratch : c.scr ≡ SlotAddress

-- At the end of a restore part: the registers are the task's and still saved, no other latch is tagged, and mscratch has the slot's
-- address.
pub record IsRestoredEnd (c : Contents) : Type 0 where
  pub registers : (i : ℕ) → 1 ≤ i → i < 32 → register c i ≡ TaskReg i
  pub latches : AreLatchesUntagged c
  pub scratch : c.scr ≡ SlotAddress
  pub saved : AreWordsSaved c

-- Words that break no rule of a save part; and of a restore part, the first one having a place among the words of both.
pub record IsSaveAccepted (words : List ℕ) : Type 0 where
  pub few : length words ≤ part_limit
  pub left : Contents
  pub leaves : outcome_of 0 at_save words ≡ Ends left
  pub end : IsSavedEnd left

pub record IsRestoreAccepted (at : ℕ) (words : List ℕ) : Type 0 where
  pub few : length words ≤ part_limit
  pub left : Contents
  pub leaves : outcome_of at at_restore words ≡ Ends left
  pub end : IsRestoredEnd left
