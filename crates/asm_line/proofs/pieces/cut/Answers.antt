-- Cut at the first separator.
use Rattle.std.proofs.Common.{◌≡◌, ◌+◌, length, take, drop, get_or, true, sym, ◌∙◌, ap, arith}
use Rattle.std.proofs.lemmas.List.{take_rest, take_all, drop_all}
use Rattle.asm_line.specs.Pieces.{is_separator}
use Rattle.asm_line.proofs.Cut.{split_some, split_none, place_some, place_none, any_none}
use Rattle.asm_line.proofs.pieces.cut.Goals as goal

pub returns-then-is_separator-clause-pieces : goal.returns-then-is_separator-clause-pieces
returns-then-is_separator-clause-pieces c =
    let hit : is_separator c.args.separator (get_or c.args.text.now c.loop-at.at 0) ≡ true = sym c.is_separator.ensures.value ∙ c.if-is_separator.true in
    rw take_rest (split_some (is_separator c.args.separator) c.args.text.now c.loop-at.at (omega arith) hit c.loop-at.invariant)

pub returns-then-is_separator-clause-front : goal.returns-then-is_separator-clause-front
returns-then-is_separator-clause-front c =
    let hit : is_separator c.args.separator (get_or c.args.text.now c.loop-at.at 0) ≡ true = sym c.is_separator.ensures.value ∙ c.if-is_separator.true in
    let place = place_some (is_separator c.args.separator) c.args.text.now c.loop-at.at (omega arith) hit c.loop-at.invariant in
    sym (ap (λ n. take n c.args.text.now) place)

pub returns-then-is_separator-clause-back : goal.returns-then-is_separator-clause-back
returns-then-is_separator-clause-back c =
    let hit : is_separator c.args.separator (get_or c.args.text.now c.loop-at.at 0) ≡ true = sym c.is_separator.ensures.value ∙ c.if-is_separator.true in
    let place = place_some (is_separator c.args.separator) c.args.text.now c.loop-at.at (omega arith) hit c.loop-at.invariant in
    rw take_rest (sym (ap (λ n. drop (n + 1) c.args.text.now) place))

pub returns-clause-pieces : goal.returns-clause-pieces
returns-clause-pieces c = split_none (is_separator c.args.separator) c.args.text.now (λ k lt. c.loop-at.invariant k (omega arith))

pub returns-clause-found : goal.returns-clause-found
returns-clause-found c = sym (any_none (is_separator c.args.separator) c.args.text.now (λ k lt. c.loop-at.invariant k (omega arith)))

pub returns-clause-front : goal.returns-clause-front
returns-clause-front c =
    let text = c.args.text.now in
    let place = place_none (is_separator c.args.separator) text (λ k lt. c.loop-at.invariant k (omega arith)) in
    sym (ap (λ n. take n text) place ∙ take_all (length text) text (omega arith))

pub returns-clause-back : goal.returns-clause-back
returns-clause-back c =
    let text = c.args.text.now in
    let place = place_none (is_separator c.args.separator) text (λ k lt. c.loop-at.invariant k (omega arith)) in
    sym (ap (λ n. drop (n + 1) text) place ∙ drop_all (length text + 1) text (omega arith))
