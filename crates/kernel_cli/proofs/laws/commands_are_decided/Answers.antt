-- One way by the word, the other by its letters.
use Rattle.kernel_cli.proofs.CommandWords.{decided_spelled, spelled_decided}
use Rattle.kernel_cli.proofs.laws.commands_are_decided.Goals as goal

pub returns : goal.returns
returns c = record { decided = λ words command. (decided_spelled words command, spelled_decided words command) }
