-- By the law that the table is the encoding relation.
use Rattle.isa_model.proofs.TableLaws.{instr_of-valid, word_of-instr_of}
use Rattle.rv_decode.proofs.decoding.decode.Goals as goal

pub returns-clause-valid : goal.returns-clause-valid
returns-clause-valid c = rw c.by_opcode.ensures.table (instr_of-valid c.args.word c.ranges.word.fits)

pub returns-clause-back : goal.returns-clause-back
returns-clause-back c = rw c.by_opcode.ensures.table (word_of-instr_of c.args.word c.ranges.word.fits)
