-- Want of memory as a fault.
use Rattle.asm_line.specs.declared.line.AsmKind.TheVariants.{Memory}
use Rattle.rv_asm.specs.declared.fault.AsmFault.{AsmFault}

-- at no line
abbrev pub memory_fault : AsmFault
memory_fault = record { line = 0; kind = Memory }
