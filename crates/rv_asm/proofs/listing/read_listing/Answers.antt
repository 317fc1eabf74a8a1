-- One line more.
use Rattle.std.proofs.Common.{◌≡◌, ◌+◌, ap, ◌∙◌}
use Rattle.rv_asm.proofs.Reading.{after_line_at, next_placed}
use Rattle.asm_line.specs.LineForm.{line_of}
use Rattle.rv_asm.proofs.listing.read_listing.Goals as goal

pub loop-index-preserved : goal.loop-index-preserved
loop-index-preserved c =
    let text = c.index-lines-index.result in
    let bytes = c.as_slice.ensures.value in
    let p = c.in_ok-placed.placed in
    let number = c.args.first_line + c.loop-index.index in
    let place = c.loop-index.place in
    let read : p ≡ next_placed number place text = c.in_ok-placed.ensures.line ∙ ap (λ t. record { number = number; place = place; line = line_of t }) bytes in
    let put_place = ap (λ n. place + n) c.word_count-place.ensures.value in
    after_line_at c.args.lines.now c.args.first_line c.loop-index.listing c.push.new.self c.loop-index.places c.read_placed.new.places c.loop-index.index place (place + c.word_count-place.result) text p
    c.loop-index-test.true c.index-lines-index.is c.loop-index.invariant read c.in_ok-placed.ensures.accepted c.in_ok-push.ensures.ok c.in_ok-placed.ensures.added put_place
