use Rattle.switch_emit.proofs.LinkedWords.{linked_words-is, take-is, idle-is}
use Rattle.switch_emit.proofs.laws.parts_move_idle_alone.Goals as goal

pub returns-clause-words : goal.returns-clause-words
returns-clause-words c = linked_words-is

pub returns-clause-take : goal.returns-clause-take
returns-clause-take c = take-is

pub returns-clause-idle : goal.returns-clause-idle
returns-clause-idle c = idle-is
