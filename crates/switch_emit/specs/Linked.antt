-- What a kernel with other parts has in common with the kernel.
use Rattle.std.specs.Prelude.{ℕ, ◌+◌, ◌*◌, pos, List, [], ◌∷◌, ◌++◌, slice_range}
use Rattle.isa_model.specs.declared.instr.Instr.TheVariants.{Branch}
use Rattle.isa_model.specs.declared.instr.Cmp.TheVariants.{Beq}
use Rattle.isa_model.specs.Encoding.{word_of}
use Rattle.core_model.specs.KernelText.{x0, x5}
use Rattle.core_model.specs.KernelWords.{kernel_words}

-- the branch to the idle loop, over the 12 words that follow it before the restore part, a restore part of so many words, and the return
abbrev pub branch_over : ℕ → ℕ
branch_over count = word_of (Branch Beq x5 x0 (pos (4 * (count + 13))))

-- what stands between the parts, where the restore part has so many words: the kernel's words but for this branch
abbrev pub middle_words : ℕ → List ℕ
middle_words count = slice_range kernel_words 101 202 ++ branch_over count ∷ [] ++ slice_range kernel_words 203 214

-- what stands after the restore part: the kernel's last two words
abbrev pub last_words : List ℕ
last_words = slice_range kernel_words 276 278
