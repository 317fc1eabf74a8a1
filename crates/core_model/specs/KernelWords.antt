-- The words of the kernel's code: each line's word, with labels as the addresses of the words that they stand before (this project's
-- own).
use Rattle.std.specs.Prelude.{ℕ, ◌+◌, ◌*◌, Bool, true, false, ℤ, pos, ◌-ℤ◌, List, [], ◌∷◌, ◌++◌, map, if◌then◌else◌}
use Rattle.isa_model.specs.declared.instr.Instr.TheVariants.{Jal, Branch}
use Rattle.isa_model.specs.Encoding.{word_of}
use Rattle.hart_model.specs.MachineStep.{kernel_address}
use Rattle.core_model.specs.KernelText.{Label, Entry, Interrupt, Timer, Service, DoYield, DoExit, DoOut, OutFull, DoIn, TapeEnd, Finish, Ready, Take, Idle, Line, At, Does, Branches, Jumps, Word, save_lines, middle_lines, restore_lines, last_lines, kernel_lines, naive_lines}

abbrev pub same_label : Label → Label → Bool
same_label Entry Entry = true
same_label Interrupt Interrupt = true
same_label Timer Timer = true
same_label Service Service = true
same_label DoYield DoYield = true
same_label DoExit DoExit = true
same_label DoOut DoOut = true
same_label OutFull OutFull = true
same_label DoIn DoIn = true
same_label TapeEnd TapeEnd = true
same_label Finish Finish = true
same_label Ready Ready = true
same_label Take Take = true
same_label Idle Idle = true
same_label _ _ = false

-- how many words stand before a label, in a text that has it
abbrev pub words_before : Label → List Line → ℕ
words_before label [] = 0
words_before label (At other ∷ lines) = if same_label label other then 0 else words_before label lines
words_before label (line ∷ lines) = 1 + words_before label lines

-- the distance in bytes from a word to a label, each by how many words stand before it
abbrev pub distance : List Line → ℕ → Label → ℤ
distance text at label = pos (4 * words_before label text) -ℤ pos (4 * at)

-- the words of lines of a text, which begin after `at` words of it
abbrev pub words_from : List Line → ℕ → List Line → List ℕ
words_from text at [] = []
words_from text at (At label ∷ lines) = words_from text at lines
words_from text at (Does instr ∷ lines) = word_of instr ∷ words_from text (at + 1) lines
words_from text at (Branches op rs1 rs2 label ∷ lines) = word_of (Branch op rs1 rs2 (distance text at label)) ∷ words_from text (at + 1) lines
words_from text at (Jumps rd label ∷ lines) = word_of (Jal rd (distance text at label)) ∷ words_from text (at + 1) lines
words_from text at (Word word ∷ lines) = word ∷ words_from text (at + 1) lines

abbrev pub words_of : List Line → List ℕ
words_of text = words_from text 0 text

-- the address of a label of a text that stands where the kernel's code does
abbrev pub address_of : Label → List Line → ℕ
address_of label text = kernel_address + 4 * words_before label text

-- a kernel's words, and the addresses at which a trap enters, a hart boots and an empty take ends
pub record KernelCodeState : Type 0 where
  pub words : List ℕ
  pub entry : ℕ
  pub take : ℕ
  pub idle : ℕ

abbrev pub code_of : List Line → KernelCodeState
code_of text = record { words = words_of text; entry = kernel_address; take = address_of Take text; idle = address_of Idle text }

-- the kernel's text with other words for its save part and its restore part
abbrev pub linked_lines : List ℕ → List ℕ → List Line
linked_lines save restore = map Word save ++ middle_lines ++ map Word restore ++ last_lines

abbrev pub linked_words : List ℕ → List ℕ → List ℕ
linked_words save restore = words_of (linked_lines save restore)

abbrev pub linked_code : List ℕ → List ℕ → KernelCodeState
linked_code save restore = code_of (linked_lines save restore)

-- the kernel's own parts, in which no line names a label
abbrev pub save_words : List ℕ
save_words = words_of save_lines

abbrev pub restore_words : List ℕ
restore_words = words_of restore_lines

-- the words of the kernel, and those of the one for demonstration
abbrev pub kernel_words : List ℕ
kernel_words = words_of kernel_lines

abbrev pub kernel_code : KernelCodeState
kernel_code = code_of kernel_lines

abbrev pub naive_code : KernelCodeState
naive_code = code_of naive_lines
