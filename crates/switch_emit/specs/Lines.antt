-- What the code's labels and lines stand for: those of the kernel's text.
use Rattle.std.specs.Prelude.{◌≡◌, ◌+◌, ◌<◌, List, ◌∷◌}
use Rattle.isa_model.specs.Encoding.{IsInstr}
use Rattle.core_model.specs.KernelText as text
use Rattle.core_model.specs.KernelWords.{words_before}
use Rattle.switch_emit.specs.declared.label.Label.{Label}
use Rattle.switch_emit.specs.declared.label.Label.TheVariants.{Entry, Interrupt, Timer, Service, DoYield, DoExit, DoOut, OutFull, DoIn, TapeEnd, Finish, Ready, Take, Idle}
use Rattle.switch_emit.specs.declared.line.Item.{Item}
use Rattle.switch_emit.specs.declared.line.Item.TheVariants.{At, Does, Branches, Jumps, Word}

-- the label of the definition
abbrev pub label_of : Label → text.Label
label_of Entry = text.Entry
label_of Interrupt = text.Interrupt
label_of Timer = text.Timer
label_of Service = text.Service
label_of DoYield = text.DoYield
label_of DoExit = text.DoExit
label_of DoOut = text.DoOut
label_of OutFull = text.OutFull
label_of DoIn = text.DoIn
label_of TapeEnd = text.TapeEnd
label_of Finish = text.Finish
label_of Ready = text.Ready
label_of Take = text.Take
label_of Idle = text.Idle

-- the line of the definition
abbrev pub line_of : Item → text.Line
line_of (At label) = text.At (label_of label)
line_of (Does instr) = text.Does instr
line_of (Branches op rs1 rs2 to) = text.Branches op rs1 rs2 (label_of to)
line_of (Jumps rd to) = text.Jumps rd (label_of to)
line_of (Word word) = text.Word word

-- each number is in the range of its field
abbrev pub IsEncodable : Item → Type 0
IsEncodable (At label) = Unit {0}
IsEncodable (Does instr) = IsInstr instr
IsEncodable (Branches op rs1 rs2 to) = (rs1 < 32) × (rs2 < 32)
IsEncodable (Jumps rd to) = rd < 32
IsEncodable (Word word) = Unit {0}

-- a line that isn't a label has one word
abbrev pub HasWord : text.Line → Type 0
HasWord line = (label : text.Label) (lines : List text.Line) → words_before label (line ∷ lines) ≡ 1 + words_before label lines
