-- The change of one member more.
use Rattle.std.proofs.Common.{◌≡◌, ◌<◌, ℕ, List, [], ◌∷◌, ◌++◌, take, length, get_or, slice_get, Some, refl, sym, ap, ◌∙◌}
use Rattle.std.proofs.lemmas.List.{map_more}
use Rattle.std.proofs.lemmas.Option.{slice_get_read}
use Rattle.probe_inspect.specs.Columns.{change_in, changes_of}
use Rattle.probe_inspect.specs.declared.rows.Row.{Row}
use Rattle.probe_inspect.proofs.columns.gather.Goals as goal

pub loop-member-preserved : goal.loop-member-preserved
loop-member-preserved c =
    let rows = c.args.rows.now in
    let at = c.args.at in
    let i = c.loop-member.member-index in
    let members = c.args.members.now in
    let low : i < length members = c.loop-member-test.true in
    let row : Row = c.index-rows-member.result in
    let m : ℕ = get_or members i 0 in
    let under : m < length rows = c.requires.members i 0 low in
    let there : slice_get rows m ≡ Some row = slice_get_read rows (length rows) m row refl under c.index-rows-member.is in
    let a = c.as_slice.result.now in
    let b = c.as_slice-in-loop-member.result.now in
    let was : get_or a at 0 ≡ get_or row.was at 0 = ap (λ (xs : List ℕ). get_or xs at 0) c.as_slice.ensures.words in
    let now : get_or b at 0 ≡ get_or row.now at 0 = ap (λ (xs : List ℕ). get_or xs at 0) c.as_slice-in-loop-member.ensures.words in
    let pair : (get_or a at 0, get_or b at 0) ≡ change_in at (slice_get rows m) =
    (λ k. (was k, now k)) ∙ sym (ap (change_in at) there) in
    let more = map_more (λ k. change_in at (slice_get rows k)) members i 0 low in
    c.in_ok-push.ensures.items
    ∙ ap (λ (xs : List (ℕ × ℕ)). xs ++ (get_or a at 0, get_or b at 0) ∷ []) c.loop-member.invariant
    ∙ ap (λ (p : ℕ × ℕ). changes_of rows at (take i members) ++ p ∷ []) pair ∙ sym more
