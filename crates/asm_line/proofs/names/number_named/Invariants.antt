-- No entry so far has the name.
use Rattle.std.proofs.Common.{◌≡◌, drop, map}
use Rattle.asm_line.specs.Names.{number_named}
use Rattle.asm_line.specs.Named.{entry_of}
use Rattle.asm_line.proofs.names.number_named.Given as goal

abbrev pub invariant-loop-entry : goal.invariant-loop-entry
invariant-loop-entry l = number_named (map entry_of l.entries) l.text ≡ number_named (map entry_of (drop l.entry-index l.entries)) l.text
