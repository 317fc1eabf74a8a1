-- Cut at the first byte that parts.
use Rattle.std.proofs.Common.{◌≡◌, arith, true, get_or}
use Rattle.std.proofs.lemmas.List.{take_rest}
use Rattle.bundle_text.specs.Pieces.{is_line_end}
use Rattle.bundle_text.proofs.Cut.{cut_some, cut_none}
use Rattle.bundle_text.proofs.pieces.cut_at_line_end.Goals as goal

pub returns-then-b-eq-LINE_END-clause-pieces : goal.returns-then-b-eq-LINE_END-clause-pieces
returns-then-b-eq-LINE_END-clause-pieces c =
    let parts : is_line_end (get_or c.args.bytes.now c.loop-at.at 0) ≡ true = grind arith in
    rw take_rest (cut_some is_line_end c.args.bytes.now c.loop-at.at (omega arith) parts c.loop-at.invariant)

pub returns-clause-pieces : goal.returns-clause-pieces
returns-clause-pieces c = cut_none is_line_end c.args.bytes.now (λ k lt. c.loop-at.invariant k (omega arith))
