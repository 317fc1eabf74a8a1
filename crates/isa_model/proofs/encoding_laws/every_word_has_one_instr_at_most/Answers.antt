use Rattle.isa_model.proofs.TableLaws.{same_instr}
use Rattle.isa_model.proofs.encoding_laws.every_word_has_one_instr_at_most.Goals as goal

pub returns : goal.returns
returns c = record { law = same_instr }
