-- By the law that the table has every instruction for its word.
use Rattle.isa_model.proofs.TableLaws.{instr_of-word_of}
use Rattle.rv_decode.proofs.encoding.encode.Goals as goal

pub returns-clause-back : goal.returns-clause-back
returns-clause-back c = rw c.by_format.ensures.word (instr_of-word_of c.args.instr c.requires.instruction)
