use Rattle.isa_model.proofs.TableLaws.{word_bound, instr_of-word_of}
use Rattle.isa_model.proofs.encoding_laws.every_instr_has_one_word.Goals as goal

pub returns-clause-bound : goal.returns-clause-bound
returns-clause-bound c = word_bound

pub returns-clause-back : goal.returns-clause-back
returns-clause-back c = instr_of-word_of
