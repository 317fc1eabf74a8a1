-- The lines are read and linked, or the first fault of the two is given on.
use Rattle.std.proofs.Common.{◌∙◌}
use Rattle.std.proofs.lemmas.Result.{err_from_is_err_and}
use Rattle.rv_asm.specs.Listing.{texts}
use Rattle.rv_asm.proofs.Whole.{IsRead, assembles, refused_linking, memory_reading, memory_linking}
use Rattle.rv_asm.proofs.FewWords.{few_words}
use Rattle.rv_asm.proofs.assembling.assemble.Goals as goal

pub returns-in_err-listing-clause-memory : goal.returns-in_err-listing-clause-memory
returns-in_err-listing-clause-memory c =
    let p = err_from_is_err_and c.from_residual.result c.from_residual.ensures.1 in
    rw (p.1, p.2) (memory_reading (texts c.args.lines.now) c.args.first_line c.in_err-listing.field-0.0 c.in_err-listing.ensures.refused)

pub returns-in_err-words-clause-refused : goal.returns-in_err-words-clause-refused
returns-in_err-words-clause-refused c =
    let p = err_from_is_err_and c.from_residual-in_err-words.result c.from_residual-in_err-words.ensures.1 in
    let source = texts c.args.lines.now in
    let by = c.in_ok-listing.ensures in
    let read : IsRead source c.args.first_line c.in_ok-listing.listing c.in_ok-listing.places = record { lines = by.lines; places = by.places; accepted = by.accepted } in
    rw (p.1, p.2) (refused_linking source c.args.first_line c.in_ok-listing.listing c.as_slice.result.now c.in_ok-listing.places c.in_err-words.field-0.0 read c.as_slice.ensures.lines c.in_err-words.ensures.refused)

pub returns-in_err-words-clause-memory : goal.returns-in_err-words-clause-memory
returns-in_err-words-clause-memory c =
    let p = err_from_is_err_and c.from_residual-in_err-words.result c.from_residual-in_err-words.ensures.1 in
    let source = texts c.args.lines.now in
    let by = c.in_ok-listing.ensures in
    let read : IsRead source c.args.first_line c.in_ok-listing.listing c.in_ok-listing.places = record { lines = by.lines; places = by.places; accepted = by.accepted } in
    rw (p.1, p.2) (memory_linking source c.args.first_line c.in_ok-listing.listing c.as_slice.result.now c.in_ok-listing.places c.in_err-words.field-0.0 read c.as_slice.ensures.lines c.in_err-words.ensures.refused)

-- what is given
whole : goal.returns-clause-assembled
whole c =
    let source = texts c.args.lines.now in
    let by = c.in_ok-listing.ensures in
    let read : IsRead source c.args.first_line c.in_ok-listing.listing c.in_ok-listing.places = record { lines = by.lines; places = by.places; accepted = by.accepted } in
    assembles source c.args.first_line c.in_ok-listing.listing c.as_slice.result.now c.in_ok-listing.places c.in_ok-words.words c.new.result c.new-2.result
    read c.as_slice.ensures.lines c.in_ok-words.ensures.words (c.new.ensures.words ∙ c.in_ok-words-2.ensures.words) (c.new-2.ensures.words ∙ c.in_ok-lines.ensures.lines)

pub returns-clause-assembled : goal.returns-clause-assembled
returns-clause-assembled = whole

pub returns-clause-few : goal.returns-clause-few
returns-clause-few c = (few_words (texts c.args.lines.now) c.args.first_line (record { words = c.new.result; lines = c.new-2.result }) (whole c)).0

pub returns-clause-line_each : goal.returns-clause-line_each
returns-clause-line_each c = (few_words (texts c.args.lines.now) c.args.first_line (record { words = c.new.result; lines = c.new-2.result }) (whole c)).1
