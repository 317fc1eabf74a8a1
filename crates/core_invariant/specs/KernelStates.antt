-- The parts of a kernel's code, where they stand, and what they have to do (this project's own).
use Rattle.std.specs.Prelude.{◌≡◌, ℕ, ◌+◌, ◌*◌, ◌≤◌, ℤ, pos, ◌-ℤ◌, List, [], ◌∷◌, length, if◌then◌else◌}
use Rattle.isa_model.specs.declared.instr.Instr.{Instr}
use Rattle.isa_model.specs.declared.instr.Instr.TheVariants.{Jal, Branch, Fence, Mret}
use Rattle.hart_model.specs.MachineStep.{kernel_address}
use Rattle.core_model.specs.KernelText.{Label, Idle, Line, At, Does, Branches, Jumps, Word, save_lines, middle_lines, restore_lines}
use Rattle.core_model.specs.KernelWords.{KernelCodeState, same_label, distance, kernel_code, linked_code, save_words, restore_words}
use Rattle.core_model.specs.Routines.{SavesValues, SavesExplained, SavesAlike, RestoresValues, RestoresExplained, RestoresAlike, part_limit}
use Rattle.symbolic_run.specs.SymbolicPath.{StandAt, HasInstrAt}

-- the distance to a label of a text, or to the idle loop, which stands so many words after the text's start
abbrev pub distance_to : List Line → ℕ → ℕ → Label → ℤ
distance_to text idle at label = if same_label label Idle then pos (4 * idle) -ℤ pos (4 * at) else distance text at label

-- the instructions of lines of a text, which begin after `at` words of it
abbrev pub instrs_from : List Line → ℕ → ℕ → List Line → List Instr
instrs_from text idle at [] = []
instrs_from text idle at (At label ∷ lines) = instrs_from text idle at lines
instrs_from text idle at (Does instr ∷ lines) = instr ∷ instrs_from text idle (at + 1) lines
instrs_from text idle at (Branches op rs1 rs2 label ∷ lines) = Branch op rs1 rs2 (distance_to text idle at label) ∷ instrs_from text idle (at + 1) lines
instrs_from text idle at (Jumps rd label ∷ lines) = Jal rd (distance_to text idle at label) ∷ instrs_from text idle (at + 1) lines
instrs_from text idle at (Word word ∷ lines) = Fence 0 ∷ instrs_from text idle (at + 1) lines

-- the kernel's own save part and restore part, and what stands between them, with the idle loop so many words after its start
abbrev pub save_instrs : List Instr
save_instrs = instrs_from save_lines 0 0 save_lines

abbrev pub middle_instrs : ℕ → List Instr
middle_instrs idle = instrs_from middle_lines idle 0 middle_lines

abbrev pub restore_instrs : List Instr
restore_instrs = instrs_from restore_lines 0 0 restore_lines

-- how many words the middle has, and which of them are the gives, the jump after the give of an ended task, and the take
abbrev pub middle_len : ℕ
middle_len = 113

abbrev pub give_done_index : ℕ
give_done_index = 97

abbrev pub give_ready_index : ℕ
give_ready_index = 99

abbrev pub take_index : ℕ
take_index = 100

-- a kernel's code, and how many words its save part and its restore part have
pub record KernelParts : Type 0 where
  pub code : KernelCodeState
  pub save : ℕ
  pub restore : ℕ

-- the words of the kernel's own save part and restore part
abbrev pub own_save : List ℕ
own_save = save_words

abbrev pub own_restore : List ℕ
own_restore = restore_words

-- the kernel of this project
abbrev pub emitted_parts : KernelParts
emitted_parts = record { code = kernel_code; save = 101; restore = 62 }

-- a kernel with other words for its parts
abbrev pub linked_parts : List ℕ → List ℕ → KernelParts
linked_parts save restore = record { code = linked_code save restore; save = length save; restore = length restore }

-- the addresses of the middle, the restore part, the return to the task and the idle loop
abbrev pub middle_at : KernelParts → ℕ
middle_at k = kernel_address + 4 * k.save

abbrev pub restore_at : KernelParts → ℕ
restore_at k = middle_at k + 4 * middle_len

abbrev pub mret_at : KernelParts → ℕ
mret_at k = restore_at k + 4 * k.restore

abbrev pub idle_at : KernelParts → ℕ
idle_at k = mret_at k + 4

-- Where the words of a code stand that its parts don't choose.
pub record IsLinked (k : KernelParts) : Type 0 where
  pub save_limit : k.save ≤ part_limit
  pub restore_limit : k.restore ≤ part_limit
  pub take : k.code.take ≡ middle_at k + 4 * take_index
  pub middle : StandAt k.code.words (middle_at k) (middle_instrs (middle_len + k.restore + 1))
  pub mret : HasInstrAt k.code.words (mret_at k) Mret
  pub idle : HasInstrAt k.code.words (idle_at k) (Jal 0 (pos 0))

-- A kernel of which all that follows is proved: its first words save, and those from its restore part on restore.
pub record IsKernel (k : KernelParts) : Type 0 where
  pub linked : IsLinked k
  pub saves_values : SavesValues k.code.words k.save
  pub saves_explained : SavesExplained k.code.words k.save
  pub restores_values : RestoresValues k.code.words (restore_at k) k.restore
  pub restores_explained : RestoresExplained k.code.words (restore_at k) k.restore

-- And what its parts have to do on two harts that are alike.
pub record IsAlikeKernel (k : KernelParts) : Type 0 where
  pub saves : SavesAlike k.code.words k.save
  pub restores : RestoresAlike k.code.words (restore_at k) k.restore
