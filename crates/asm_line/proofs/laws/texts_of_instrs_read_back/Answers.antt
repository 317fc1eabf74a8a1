-- One form of instruction after another.
use Rattle.asm_line.proofs.Forms.{reads_instr}
use Rattle.asm_line.proofs.laws.texts_of_instrs_read_back.Goals as goal

pub returns : goal.returns
returns c = record { reads = reads_instr }
