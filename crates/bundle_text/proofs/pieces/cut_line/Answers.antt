-- A line that has an end, and the lines of what follows it.
use Rattle.std.proofs.Common.{◌∷◌, sym, ap, ◌∙◌}
use Rattle.bundle_text.specs.Pieces.{lines}
use Rattle.bundle_text.proofs.Splits.{lines-cut}
use Rattle.bundle_text.proofs.pieces.cut_line.Goals as goal

pub returns-in-Some-clause-lines : goal.returns-in-Some-clause-lines
returns-in-Some-clause-lines c =
    let cut = c.cut_at_line_end in
    let rest = c.in-Some.rest.now in
    let pieces = rw c.in-Some.is at cut.ensures.pieces in
    lines-cut c.args.bytes.now cut.result.0.now rest pieces ∙ ap (λ l. l ∷ lines rest) (sym c.without_cr.ensures.value)
