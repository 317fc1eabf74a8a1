-- Four words or more are no command.
use Rattle.std.proofs.Common.{string_bytes}
use Rattle.kernel_cli.proofs.CommandWords.{many_words}
use Rattle.kernel_cli.proofs.command.read_words.Goals as goal

pub returns-in_default-2 : goal.returns-in_default-2
returns-in_default-2 c = record { command = many_words string_bytes c.args.words.now c.in_default.len_at_least }
