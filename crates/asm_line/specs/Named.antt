-- The entries of tables of names, as code holds them.
use Rattle.std.specs.Prelude.{ℕ, List}
use Rattle.asm_line.specs.declared.names.Named.{Named}

abbrev pub entry_of : Named → List ℕ × ℕ
entry_of n = (n.name.now, n.number)
