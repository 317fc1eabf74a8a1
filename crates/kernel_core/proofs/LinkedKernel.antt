-- A kernel that is linked from words that save and words that restore is a kernel.
use Rattle.std.proofs.Common.{◌≡◌, ℕ, ◌+◌, ◌*◌, ◌≤◌, pos, ◌-ℤ◌, List, [], ◌∷◌, ◌++◌, length, map, drop, Option, Some, slice_get, refl, sym, ap, subst, ◌∙◌, arith, append_assoc, length-append}
use Rattle.std.specs.Prelude.{slice_range}
use Rattle.std.proofs.lemmas.Int.{ints}
use Rattle.isa_model.specs.declared.instr.Instr.{Instr}
use Rattle.isa_model.specs.declared.instr.Instr.TheVariants.{Jal, Branch, Mret}
use Rattle.isa_model.specs.declared.instr.Cmp.TheVariants.{Beq}
use Rattle.isa_model.specs.Encoding.{IsInstr}
use Rattle.isa_model.specs.InstrTable.{instr_of}
use Rattle.isa_model.proofs.TableLaws.{instr_of-word_of}
use Rattle.hart_model.specs.MachineStep.{kernel_address}
use Rattle.core_model.specs.KernelText.{x0, x5}
use Rattle.core_model.specs.KernelWords.{kernel_words, linked_words}
use Rattle.core_model.specs.Routines.{Saves, Restores, SavesValues, SavesExplained, SavesAlike, RestoresValues, RestoresExplained, RestoresAlike, part_limit, before_restore_limit}
use Rattle.symbolic_run.specs.SymbolicPath.{StandAt, HasInstrAt}
use Rattle.symbolic_run.proofs.Stand.{AreWordsOf, stand-at}
use Rattle.switch_emit.specs.Linked.{branch_over, middle_words, last_words}
use Rattle.switch_emit.proofs.LinkedWords.{linked_words-is, take-is}
use Rattle.core_invariant.specs.KernelStates.{IsLinked, IsKernel, IsAlikeKernel, linked_parts, middle_instrs, middle_len, middle_at, restore_at, mret_at, idle_at}
use Rattle.kernel_core.specs.Kernels.{IsWholeKernel}

-- the branch to the idle loop, over a restore part of so many words
module _ (count : ℕ) (few : count ≤ part_limit) where
  over-is : pos (4 * (count + 13)) ≡ pos (4 * (middle_len + count + 1)) -ℤ pos (4 * 101)
  over-is = omega (arith, ints)

  branch-in_range : IsInstr (Branch Beq x5 x0 (pos (4 * (count + 13))))
  branch-in_range = (omega arith, omega arith, omega (arith, few), omega arith)

  branch-is : instr_of (branch_over count) ≡ Some (Branch Beq x5 x0 (pos (4 * (middle_len + count + 1)) -ℤ pos (4 * 101)))
  branch-is =
      instr_of-word_of (Branch Beq x5 x0 (pos (4 * (count + 13)))) branch-in_range ∙ ap (λ over. Some (Branch Beq x5 x0 over)) over-is

  -- the words between the parts are those of the middle's instructions
  middle-words : (rest : List ℕ) → AreWordsOf (middle_words count ++ rest) (middle_instrs (middle_len + count + 1))
  middle-words rest =
      ap (λ (branch : Option Instr). map instr_of (slice_range kernel_words 101 202) ++ branch ∷ map instr_of (slice_range kernel_words 203 214)) branch-is

-- what stands after some words
drop-front : (front rest : List ℕ) → drop (length front) (front ++ rest) ≡ rest
drop-front [] rest = refl
drop-front (word ∷ front) rest = drop-front front rest

-- where instructions stand after some words
stand-after : (front rest : List ℕ) (instrs : List Instr) → length front ≤ 1000 → length instrs ≤ 1000 → AreWordsOf rest instrs
    → StandAt (front ++ rest) (kernel_address + 4 * length front) instrs
stand-after front rest instrs low few are =
    let P : List ℕ → Type 0 = λ words. AreWordsOf words instrs in
    stand-at (front ++ rest) (length front) instrs low few (subst P (sym (drop-front front rest)) are)

last-words : AreWordsOf last_words (Mret ∷ Jal x0 (pos 0) ∷ [])
last-words = refl

module _ (save restore : List ℕ) (save_few : length save ≤ part_limit) (restore_few : length restore ≤ part_limit) where
  -- the kernel's words, in groups: what follows the save part, what stands before the restore part, and what stands before the last two
  from-save : linked_words save restore ≡ save ++ (middle_words (length restore) ++ (restore ++ last_words))
  from-save =
      linked_words-is save restore ∙ append_assoc (save ++ middle_words (length restore)) restore last_words
      ∙ append_assoc save (middle_words (length restore)) (restore ++ last_words)

  to-restore : linked_words save restore ≡ (save ++ middle_words (length restore)) ++ (restore ++ last_words)
  to-restore = linked_words-is save restore ∙ append_assoc (save ++ middle_words (length restore)) restore last_words

  to-last : linked_words save restore ≡ ((save ++ middle_words (length restore)) ++ restore) ++ last_words
  to-last = linked_words-is save restore

  -- how many words stand before
  before-restore : length (save ++ middle_words (length restore)) ≡ length save + middle_len
  before-restore = length-append save (middle_words (length restore))

  before-last : length ((save ++ middle_words (length restore)) ++ restore) ≡ length save + middle_len + length restore
  before-last = length-append (save ++ middle_words (length restore)) restore ∙ ap (λ n. n + length restore) before-restore

  restore-at : kernel_address + 4 * length (save ++ middle_words (length restore)) ≡ restore_at (linked_parts save restore)
  restore-at = omega (arith, before-restore)

  few-before : length (save ++ middle_words (length restore)) ≤ before_restore_limit
  few-before = omega (arith, before-restore, save_few)

  -- where the instructions between the parts and after them stand
  middle-stands : StandAt (linked_words save restore) (middle_at (linked_parts save restore)) (middle_instrs (middle_len + length restore + 1))
  middle-stands =
      let P : List ℕ → Type 0 = λ words. StandAt words (middle_at (linked_parts save restore)) (middle_instrs (middle_len + length restore + 1)) in
      subst P (sym from-save)
      (stand-after save (middle_words (length restore) ++ (restore ++ last_words)) (middle_instrs (middle_len + length restore + 1)) (omega (arith, save_few)) (omega arith)
      (middle-words (length restore) restore_few (restore ++ last_words)))

  last-stand : StandAt (((save ++ middle_words (length restore)) ++ restore) ++ last_words)
      (kernel_address + 4 * length ((save ++ middle_words (length restore)) ++ restore)) (Mret ∷ Jal x0 (pos 0) ∷ [])
  last-stand =
      stand-after ((save ++ middle_words (length restore)) ++ restore) last_words (Mret ∷ Jal x0 (pos 0) ∷ [])
      (omega (arith, before-last, save_few, restore_few)) (omega arith) last-words

  -- one of the last two instructions, by its index
  last-at : (i : ℕ) (instr : Instr) (at : ℕ) → slice_get (Mret ∷ Jal x0 (pos 0) ∷ []) i ≡ Some instr
      → kernel_address + 4 * (length save + middle_len + length restore) + 4 * i ≡ at → HasInstrAt (linked_words save restore) at instr
  last-at i instr at is same =
      let P : List ℕ → Type 0 = λ words. HasInstrAt words at instr in
      let Q : ℕ → Type 0 = λ address. HasInstrAt (((save ++ middle_words (length restore)) ++ restore) ++ last_words) address instr in
      let address : kernel_address + 4 * length ((save ++ middle_words (length restore)) ++ restore) + 4 * i ≡ at = omega (arith, before-last, same) in
      subst P (sym to-last) (subst Q address (last-stand.each i instr is))

  pub linked-is-linked : IsLinked (linked_parts save restore)
  linked-is-linked = record {
    save_limit = save_few;
    restore_limit = restore_few;
    take = (
        let is = take-is save restore in
        omega (arith, is));
    middle = middle-stands;
    mret = last-at 0 Mret (mret_at (linked_parts save restore)) refl (omega arith);
    idle = last-at 1 (Jal 0 (pos 0)) (idle_at (linked_parts save restore)) refl (omega arith);
  }

  -- what holds of a restore part wherever it stands holds of it in the kernel
  restore-in : (P : List ℕ → ℕ → Type 0)
      → P ((save ++ middle_words (length restore)) ++ (restore ++ last_words)) (kernel_address + 4 * length (save ++ middle_words (length restore)))
      → P (linked_words save restore) (restore_at (linked_parts save restore))
  restore-in P there =
      subst (λ (words : List ℕ). P words (restore_at (linked_parts save restore))) (sym to-restore)
      (subst (λ (at : ℕ). P ((save ++ middle_words (length restore)) ++ (restore ++ last_words)) at) restore-at there)

  save-in : (P : List ℕ → Type 0) → P (save ++ (middle_words (length restore) ++ (restore ++ last_words))) → P (linked_words save restore)
  save-in P there = subst P (sym from-save) there

  pub linked-kernel : Saves save → Restores restore → IsKernel (linked_parts save restore)
  linked-kernel saves restores = record {
    linked = linked-is-linked;
    saves_values = save-in (λ words. SavesValues words (length save)) (saves.values (middle_words (length restore) ++ (restore ++ last_words)));
    saves_explained = save-in (λ words. SavesExplained words (length save)) (saves.explained (middle_words (length restore) ++ (restore ++ last_words)));
    restores_values = (
        restore-in (λ words at. RestoresValues words at (length restore)) (restores.values (save ++ middle_words (length restore)) last_words few-before));
    restores_explained = (
        restore-in (λ words at. RestoresExplained words at (length restore)) (restores.explained (save ++ middle_words (length restore)) last_words few-before));
  }

  pub linked-alike : Saves save → Restores restore → IsAlikeKernel (linked_parts save restore)
  linked-alike saves restores = record {
    saves = save-in (λ words. SavesAlike words (length save)) (saves.alike (middle_words (length restore) ++ (restore ++ last_words)));
    restores = (
        restore-in (λ words at. RestoresAlike words at (length restore)) (restores.alike (save ++ middle_words (length restore)) last_words few-before));
  }

  -- Both facts of the linked kernel.
  pub linked-whole : Saves save → Restores restore → IsWholeKernel (linked_parts save restore)
  linked-whole saves restores = record { kernel = linked-kernel saves restores; alike = linked-alike saves restores }
