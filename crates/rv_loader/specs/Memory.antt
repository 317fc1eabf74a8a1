-- Want of memory while code is assembled (this project's own). It is no fault of the code.
use Rattle.std.specs.Prelude.{◌≡◌, ◌≢◌, ⊤, Result, Err}
use Rattle.asm_line.specs.declared.line.AsmKind.{AsmKind}
use Rattle.asm_line.specs.declared.line.AsmKind.TheVariants as kinds
use Rattle.rv_asm.specs.declared.fault.AsmFault.{AsmFault}
use Rattle.rv_loader.specs.declared.fault.LoadFault.{LoadFault}
use Rattle.rv_loader.specs.declared.fault.LoadFault.TheVariants.{Asm, Memory}

abbrev pub fault_of_kind : AsmKind → AsmFault → LoadFault
fault_of_kind kinds.Memory refused = Memory
fault_of_kind kind refused = Asm refused

-- a fault of the assembler as one of the loader
abbrev pub fault_of : AsmFault → LoadFault
fault_of refused = fault_of_kind refused.kind refused

-- A fault of the code is another than want of memory.
abbrev pub IsNoMemoryOfCode : LoadFault → Type 0
IsNoMemoryOfCode (Asm refused) = refused.kind ≢ kinds.Memory
IsNoMemoryOfCode fault = ⊤

-- The assembler's answer has this fault, or memory ran out.
abbrev pub IsRefusalOf : {A : Type 0} → Result A AsmFault → LoadFault → Type 0
IsRefusalOf answer (Asm refused) = (answer ≡ Err refused) × (refused.kind ≢ kinds.Memory)
IsRefusalOf answer Memory = ⊤
IsRefusalOf answer fault = ⊥
