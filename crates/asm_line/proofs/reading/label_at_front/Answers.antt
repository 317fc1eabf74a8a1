-- By the pieces that colons part.
use Rattle.std.proofs.Common.{◌≡◌, ◌∷◌, ◌∙◌, ap, sym, true, false}
use Rattle.asm_line.specs.declared.pieces.Separator.TheVariants.{Colon}
use Rattle.asm_line.specs.Pieces.{pieces, trim_start}
use Rattle.asm_line.specs.Names.{is_name}
use Rattle.asm_line.specs.LineForm.{parts_of, with_label}
use Rattle.asm_line.proofs.Colons.{parts_of-label, parts_of-rest}
use Rattle.asm_line.proofs.reading.label_at_front.Goals as goal

pub returns-then-is_name-clause-some : goal.returns-then-is_name-clause-some
returns-then-is_name-clause-some c =
    let text = c.args.text.now in
    let piece = c.cut.result.0.now in
    let rest = c.in_ok-rest.rest.now in
    let e : pieces Colon text ≡ piece ∷ pieces Colon rest = rw c.in_ok-rest.was at c.cut.ensures.pieces in
    let h : is_name (trim_start piece) ≡ true = ap is_name (sym c.trim_start-label.ensures.value) ∙ sym c.is_name.ensures.value ∙ c.if-is_name.true in
    parts_of-label text piece rest e h ∙ ap (λ l. with_label l (parts_of (pieces Colon rest))) (sym c.trim_start-label.ensures.value)

pub returns-else-is_name-clause-none : goal.returns-else-is_name-clause-none
returns-else-is_name-clause-none c =
    let text = c.args.text.now in
    let piece = c.cut.result.0.now in
    let rest = c.in_ok-rest.rest.now in
    let e : pieces Colon text ≡ piece ∷ pieces Colon rest = rw c.in_ok-rest.was at c.cut.ensures.pieces in
    let h : is_name (trim_start piece) ≡ false = ap is_name (sym c.trim_start-label.ensures.value) ∙ sym c.is_name.ensures.value ∙ c.if-is_name.false in
    parts_of-rest text piece rest e h
