-- The lines that refuse an input.
use Rattle.std.specs.Prelude.{ℕ, List, [], ◌++◌, codes, decimal}
use Rattle.bundle_text.specs.declared.bundle.BundleFault.{BundleFault}
use Rattle.bundle_text.specs.declared.bundle.BundleKind.{BundleKind}
use Rattle.bundle_text.specs.declared.bundle.BundleKind.TheVariants as bundle
use Rattle.asm_line.specs.declared.line.AsmKind.{AsmKind}
use Rattle.asm_line.specs.declared.line.AsmKind.TheVariants as asm
use Rattle.rv_asm.specs.declared.fault.AsmFault.{AsmFault}
use Rattle.rv_loader.specs.declared.fault.What.{What}
use Rattle.rv_loader.specs.declared.fault.What.TheVariants as what
use Rattle.rv_loader.specs.declared.fault.LoadFault.{LoadFault}
use Rattle.rv_loader.specs.declared.fault.LoadFault.TheVariants as load

-- The refusals by want of memory write nothing.

abbrev pub bundle_kind_text : BundleKind → List ℕ
bundle_kind_text bundle.NotText = codes "not text"
bundle_kind_text bundle.UnknownWord = codes "unknown word"
bundle_kind_text bundle.Misplaced = codes "misplaced"
bundle_kind_text bundle.Operands = codes "operands"
bundle_kind_text bundle.BadNumber = codes "bad number"
bundle_kind_text bundle.OutOfRange = codes "out of range"
bundle_kind_text bundle.Repeated = codes "repeated"
bundle_kind_text bundle.Missing = codes "missing"
bundle_kind_text bundle.Memory = []

-- a line that isn't of the form of a bundle
abbrev pub bundle_refusal : BundleFault → List ℕ
bundle_refusal fault = codes "line " ++ (decimal fault.line ++ (codes ": " ++ (bundle_kind_text fault.kind ++ codes "\n")))

abbrev pub asm_kind_text : AsmKind → List ℕ
asm_kind_text asm.DuplicateLabel = codes "duplicate label"
asm_kind_text asm.UnknownWord = codes "unknown word"
asm_kind_text asm.Operands = codes "operands"
asm_kind_text asm.BadRegister = codes "bad register"
asm_kind_text asm.BadNumber = codes "bad number"
asm_kind_text asm.OutOfRange = codes "out of range"
asm_kind_text asm.TooManyWords = codes "too many words"
asm_kind_text asm.UnknownLabel = codes "unknown label"
asm_kind_text asm.Memory = []

-- a line of code that doesn't assemble
abbrev pub asm_refusal : AsmFault → List ℕ
asm_refusal fault = codes "line " ++ (decimal fault.line ++ (codes ": asm " ++ (asm_kind_text fault.kind ++ codes "\n")))

-- what is counted
abbrev pub what_text : What → List ℕ
what_text what.Tasks = codes "tasks"
what_text what.Code = codes "code"
what_text what.Tape = codes "tape"
what_text what.Quanta = codes "quanta"
what_text what.Worlds = codes "worlds"
what_text what.Events = codes "events"
what_text what.Order = codes "order"

-- a bundle that can't be loaded
abbrev pub load_refusal : LoadFault → List ℕ
load_refusal (load.Asm fault) = asm_refusal fault
load_refusal (load.Limit counted got) = codes "limit " ++ (what_text counted ++ (codes " " ++ (decimal got ++ codes "\n")))
load_refusal (load.PlanForMissingHart hart) = codes "plan for missing hart " ++ (decimal hart ++ codes "\n")
load_refusal (load.TooLong bound) = codes "too long " ++ (decimal bound ++ codes "\n")
load_refusal load.Memory = []

-- an entry of the order, at this place from 0, that isn't legal
abbrev pub order_refusal : ℕ → List ℕ
order_refusal at = codes "order " ++ (decimal at ++ codes ": bad\n")
