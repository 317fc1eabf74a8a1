-- A command that words spell asks for counts in their ranges.
use Rattle.std.proofs.Common.{◌∙◌, map, string_bytes, sym, subst}
use Rattle.kernel_cli.specs.Works.{HasCounts}
use Rattle.kernel_cli.proofs.CommandWords.{spelled_counts}
use Rattle.kernel_cli.proofs.work.read_work.Goals as goal

pub returns-in-Some-clause-counts : goal.returns-in-Some-clause-counts
returns-in-Some-clause-counts c =
    let words = map string_bytes c.args.words.now in
    let spells = (c.commands_are_decided.ensures.decided words c.in-Some.command).0 (sym c.read_words.ensures.command ∙ c.in-Some.is) in
    subst HasCounts (sym c.work_of.ensures.work) (spelled_counts words c.in-Some.command spells)
