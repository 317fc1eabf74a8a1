-- The first word and the texts after it.
use Rattle.std.proofs.Common.{◌≡◌, ◌∙◌, ap, sym, cond, eqb, false, length, Some, Ok, Result, arith, option_copied}
use Rattle.std.proofs.lemmas.Result.{IfOk-weaker}
use Rattle.asm_line.specs.declared.pieces.Separator.TheVariants.{Blank}
use Rattle.asm_line.specs.declared.line.AsmKind.{AsmKind}
use Rattle.asm_line.specs.declared.line.Item.{Item}
use Rattle.asm_line.specs.declared.line.Item.TheVariants.{Empty}
use Rattle.asm_line.specs.Pieces.{before, after, trim, operands_of, texts_after}
use Rattle.asm_line.specs.Table.{mnemonic_of}
use Rattle.asm_line.specs.LineForm.{item_of, item_of_word}
use Rattle.asm_line.proofs.reading.item_of.Goals as goal

pub returns : goal.returns
returns c =
    let text = c.args.text.now in
    let some : eqb (length text) 0 ≡ false = grind arith in
    let word : Some c.in-Some.word ≡ mnemonic_of (before Blank text) = c.in-Some.ensures.value ∙ ap mnemonic_of c.cut.ensures.front in
    let texts : texts_after (option_copied c.operands_text.result) ≡ operands_of (trim (after Blank text)) =
    c.operands_text.ensures.texts ∙ ap (λ t. operands_of (trim t)) c.cut.ensures.back in
    let whole : item_of_word (Some c.in-Some.word) (texts_after (option_copied c.operands_text.result)) ≡ item_of text =
    ap (λ m. item_of_word m (texts_after (option_copied c.operands_text.result))) word
    ∙ ap (λ ts. item_of_word (mnemonic_of (before Blank text)) ts) texts
    ∙ sym (ap (λ b. let r : Result Item AsmKind = cond b (Ok Empty) (item_of_word (mnemonic_of (before Blank text)) (operands_of (trim (after Blank text)))) in r) some) in
    record { value = IfOk-weaker c.item_of_word.result _ _ (λ item h. h ∙ whole) c.item_of_word.ensures.value }
