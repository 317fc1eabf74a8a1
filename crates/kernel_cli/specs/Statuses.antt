-- What is said of statuses.
use Rattle.std.specs.Prelude.{ℕ, ⊤}
use Rattle.kernel_cli.specs.declared.status.Status.{Status}
use Rattle.kernel_cli.specs.declared.status.Status.TheVariants.{Fine, Verdict, BadWords, BadInput, ReadFault, WriteFault, Memory, LogFull}

-- the number that the program ends with
abbrev pub number_of : Status → ℕ
number_of Fine = 0
number_of Verdict = 1
number_of BadWords = 2
number_of BadInput = 3
number_of ReadFault = 4
number_of WriteFault = 5
number_of Memory = 6
number_of LogFull = 7

-- The statuses that words may have that are no command: to refuse them takes no reading and no memory.
abbrev pub IsRefusal : Status → Type 0
IsRefusal BadWords = ⊤
IsRefusal WriteFault = ⊤
IsRefusal _ = ⊥
