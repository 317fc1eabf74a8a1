-- Printed lines, each of which is read as its word.
use Rattle.std.proofs.Common.{ap, ◌∙◌, take_all}
use Rattle.rv_asm.specs.Assembly.{assembly}
use Rattle.rv_asm.specs.Disassembly.{listing_of}
use Rattle.rv_asm.proofs.Ended.{lines-listing}
use Rattle.rv_asm.proofs.OnePerLine.{all_words, lines_assemble}
use Rattle.rv_asm.proofs.disassembling.disassemble.Goals as goal

pub returns-clause-one_line_each : goal.returns-clause-one_line_each
returns-clause-one_line_each c =
    let words = c.args.words.now in
    let written = c.loop-word.invariant ∙ ap listing_of (take_all c.loop-word.word-index words c.loop-word-test.false) in
    lines-listing words (all_words words c.type_inv.words) c.loop-word.text.items written

pub returns-clause-assembles : goal.returns-clause-assembles
returns-clause-assembles c = λ few first_line.
    let words = c.args.words.now in
    let each = all_words words c.type_inv.words in
    let written = c.loop-word.invariant ∙ ap listing_of (take_all c.loop-word.word-index words c.loop-word-test.false) in
    ap (λ ls. assembly ls first_line) (lines-listing words each c.loop-word.text.items written) ∙ lines_assemble words each few first_line
