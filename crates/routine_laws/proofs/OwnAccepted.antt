-- The kernel's own parts break no rule: the checker goes over their words.
use Rattle.std.proofs.Common.{◌≡◌, ℕ, zero, suc, ◌+◌, ◌≤◌, ◌<◌, Bool, true, false, not, List, [], ◌∷◌, ◌++◌, length, map, get_or, drop, replicate, refl, ap, ◌∙◌, arith}
use Rattle.std.specs.List.{list_all}
use Rattle.std.proofs.lemmas.Bool.{not-true}
use Rattle.std.proofs.lemmas.List.Elements.{All-get_or}
use Rattle.std.proofs.lemmas.List.Sums.{AllPass-from_list_all}
use Rattle.hart_model.specs.declared.place.Place.TheVariants.{Reg, SlotWord, DataWord}
use Rattle.core_model.specs.KernelText.{numbers_from, registers}
use Rattle.core_invariant.specs.KernelStates.{own_save, own_restore}
use Rattle.routine_laws.specs.declared.content.Content.{Content}
use Rattle.routine_laws.specs.declared.content.Content.TheVariants.{Unknown, Public, TaskReg}
use Rattle.routine_laws.specs.Contents.{Contents, is_tagged, register}
use Rattle.routine_laws.specs.Rules.{Outcome, Ends, Fails, outcome_of}
use Rattle.routine_laws.specs.Accepted.{at_save, at_restore, AreLatchesUntagged, IsSavedEnd, IsRestoredEnd, IsSaveAccepted, IsRestoreAccepted}

-- what words leave
abbrev left_of : Outcome → Contents
left_of (Ends c) = c
left_of (Fails at rule) = at_save

abbrev saved_left : Contents
saved_left = left_of (outcome_of 0 at_save own_save)

abbrev restored_left : ℕ → Contents
restored_left at = left_of (outcome_of at at_restore own_restore)

-- an item of numbered contents
numbered-item : (content : ℕ → Content) (first more : ℕ) (rest : List Content) (k : ℕ) → k < more
    → get_or (map content (numbers_from first more) ++ rest) k Unknown ≡ content (first + k)
numbered-item content first zero rest k low = absurd (omega (arith, low))
numbered-item content first (suc more) rest zero low = ap content (omega arith)
numbered-item content first (suc more) rest (suc k) low =
    let same : first + 1 + k ≡ first + suc k = omega arith in
    numbered-item content (first + 1) more rest k (omega (arith, low)) ∙ ap content same

task-reg : (head : Content) (rest : List Content) (i : ℕ) → 1 ≤ i → i < 32 → get_or (head ∷ map TaskReg registers ++ rest) i Unknown ≡ TaskReg i
task-reg head rest zero low high = absurd (omega (arith, low))
task-reg head rest (suc k) low high =
    let same : 1 + k ≡ suc k = omega arith in
    numbered-item TaskReg 1 31 rest k (omega (arith, high)) ∙ ap TaskReg same

-- an item of untagged ones
abbrev is_untagged : Content → Bool
is_untagged k = not (is_tagged k)

untagged-item : (ks : List Content) (i : ℕ) → list_all is_untagged ks ≡ true → i < length ks → is_tagged (get_or ks i Unknown) ≡ false
untagged-item ks i all low =
    not-true (is_tagged (get_or ks i Unknown)) (All-get_or (λ k. is_untagged k ≡ true) ks i Unknown low (AllPass-from_list_all is_untagged ks all))

-- the save part
save-leaves : outcome_of 0 at_save own_save ≡ Ends saved_left
unfolding outcome_of
save-leaves = refl

save-slot : saved_left.slot ≡ Unknown ∷ map TaskReg registers ++ replicate 4 Unknown
unfolding outcome_of
save-slot = refl

save-regs : list_all is_untagged (drop 1 saved_left.regs) ≡ true
unfolding outcome_of
save-regs = refl

save-count : length (drop 1 saved_left.regs) ≡ 31
unfolding outcome_of
save-count = refl

save-registers : (i : ℕ) → 1 ≤ i → i < 32 → is_tagged (register saved_left i) ≡ false
unfolding outcome_of
save-registers zero low high = absurd (omega (arith, low))
save-registers (suc i) low high = untagged-item (drop 1 saved_left.regs) i save-regs (omega (arith, save-count, high))

save-latches : AreLatchesUntagged saved_left
unfolding outcome_of
save-latches (Reg i) is = absurd is
save-latches (SlotWord i) is = absurd is
save-latches (DataWord i) is = absurd is
save-latches p is = refl

save-end : IsSavedEnd saved_left
unfolding outcome_of
save-end = record {
  saved = λ i low high. ap (λ ks. get_or ks i Unknown) save-slot ∙ task-reg Unknown (replicate 4 Unknown) i low high;
  registers = save-registers;
  latches = save-latches;
  x5 = refl;
  scratch = refl;
}

pub save-accepted : IsSaveAccepted own_save
save-accepted = record { few = omega arith; left = saved_left; leaves = save-leaves; end = save-end }

-- the restore part
module _ (at : ℕ) where
  restore-leaves : outcome_of at at_restore own_restore ≡ Ends (restored_left at)
  unfolding outcome_of
  restore-leaves = refl

  restore-regs : (restored_left at).regs ≡ Public ∷ map TaskReg registers ++ []
  unfolding outcome_of
  restore-regs = refl

  restore-slot : (restored_left at).slot ≡ Public ∷ map TaskReg registers ++ replicate 4 Public
  unfolding outcome_of
  restore-slot = refl

  restore-register : (i : ℕ) → 1 ≤ i → i < 32 → register (restored_left at) i ≡ TaskReg i
  restore-register zero low high = absurd (omega (arith, low))
  restore-register (suc i) low high = ap (λ ks. get_or ks (suc i) Unknown) restore-regs ∙ task-reg Public [] (suc i) low high

  restore-latches : AreLatchesUntagged (restored_left at)
  unfolding outcome_of
  restore-latches (Reg i) is = absurd is
  restore-latches (SlotWord i) is = absurd is
  restore-latches (DataWord i) is = absurd is
  restore-latches p is = refl

  restore-end : IsRestoredEnd (restored_left at)
  unfolding outcome_of
  restore-end = record {
    registers = restore-register;
    latches = restore-latches;
    scratch = refl;
    saved = λ i low high. ap (λ ks. get_or ks i Unknown) restore-slot ∙ task-reg Public (replicate 4 Public) i low high;
  }

  pub restore-accepted : IsRestoreAccepted at own_restore
  restore-accepted = record { few = omega arith; left = restored_left at; leaves = restore-leaves; end = restore-end }
