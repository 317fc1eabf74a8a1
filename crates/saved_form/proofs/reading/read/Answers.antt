-- What is read is spelled so, and is in range.
use Rattle.std.proofs.Common.{◌≡◌, ◌<◌, ℕ, List, get_or, Result, Ok, Err, IfOk, sym, subst}
use Rattle.std.specs.Prelude.{All}
use Rattle.std.proofs.lemmas.List.{get_or_default}
use Rattle.std.proofs.Math.Facts.{Fits-lt-pow}
use Rattle.saved_form.specs.declared.numbers.ReadError.{ReadError}
use Rattle.saved_form.specs.Saved.{SavedBoard}
use Rattle.saved_form.specs.Spelling.{spelling}
use Rattle.saved_form.specs.Reading.{read_saved}
use Rattle.saved_form.specs.InRange.{IsInRange}
use Rattle.saved_form.specs.Answer.{Answers}
use Rattle.saved_form.proofs.OneSpelling.{one-spelling}
use Rattle.saved_form.proofs.reading.read.Goals as goal

spelled-so : (bytes : List ℕ) (r : Result SavedBoard ReadError) → All (λ byte. byte < 256) bytes → Answers r (read_saved bytes)
    → IfOk r (λ board. (bytes ≡ spelling board) × IsInRange board)
spelled-so bytes (Ok board) all is = one-spelling.read_is_spelled bytes board all is
spelled-so bytes (Err error) all is = tt

pub returns-clause-spelled : goal.returns-clause-spelled
returns-clause-spelled c =
    let bytes = c.args.bytes.now in
    let fits : All (λ byte. byte < 256) bytes = λ k d low. let same : get_or bytes k d ≡ get_or bytes k 0 = get_or_default bytes k d 0 low in
    let low : get_or bytes k 0 < 256 = Fits-lt-pow (c.type_inv.bytes k) in subst (λ n. n < 256) (sym same) low in
    spelled-so bytes c.whole_board.result fits c.whole_board.ensures.exact
