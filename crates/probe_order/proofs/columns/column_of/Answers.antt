-- The number of one row more.
use Rattle.std.proofs.Common.{◌+◌, ℕ, List, [], ◌∷◌, length, length-append, Some, refl, ap, sym, subst, arith}
use Rattle.std.proofs.lemmas.Option.{slice_get_within, slice_get_read}
use Rattle.probe_inspect.specs.Columns.{change_in}
use Rattle.probe_inspect.specs.declared.rows.Row.{Row}
use Rattle.probe_order.specs.Numbers.{IsNumberIn, IsColumnOf}
use Rattle.probe_order.proofs.Looks.{AreNumbered, numbered-more}
use Rattle.probe_order.proofs.columns.column_of.Goals as goal

pub loop-row-preserved : goal.loop-row-preserved
loop-row-preserved c =
    let rows = c.args.rows.now in
    let at = c.args.at in
    let i = c.loop-row.row-index in
    let inv = c.loop-row.invariant in
    let row : Row = c.row-item.result in
    let there = slice_get_read rows (length rows) i row refl c.loop-row-test.true c.row-item.is in
    let old = c.loop-row.changes.items in
    let changes = c.number_in.new.changes.items in
    let numbers = c.loop-row.numbers.items in
    let n = c.in_ok-number.number in
    let here : IsNumberIn old changes (change_in at (Some row)) n =
    subst (λ (x : ℕ × ℕ). IsNumberIn old changes x n) c.change_of.ensures.change c.in_ok-number.ensures.number in
    let few = here.few in
    let more = length-append numbers (n ∷ []) in
    let items = c.in_ok-push.ensures.items in
    let size = ap (λ (ns : List ℕ). length ns) items in
    let P : List ℕ → Type 0 = λ ns. AreNumbered rows at (i + 1) changes ns in
    record {
      few = omega (arith, few, inv.few);
      long = omega (arith, inv.long, more, size);
      each = subst P (sym items) (numbered-more rows at i row old changes numbers n there inv.long inv.each here);
    }

pub returns : goal.returns
returns c =
    let rows = c.args.rows.now in
    let inv = c.loop-row.invariant in
    let changes = c.loop-row.changes.items in
    let numbers = c.loop-row.numbers.items in
    let past = c.loop-row-test.false in
    let upto = c.loop-row.auto.row-index-end in
    let own : IsColumnOf rows c.args.at (record { changes = changes; numbers = numbers }) = record {
      long = omega (arith, inv.long, past, upto);
      each = λ i row is. inv.each i row (let low = slice_get_within rows i row is in omega (arith, low, past)) is;
    } in
    let P : List (ℕ × ℕ) → Type 0 = λ xs. IsColumnOf rows c.args.at (record { changes = xs; numbers = numbers }) in
    let Q : List ℕ → Type 0 = λ ns. IsColumnOf rows c.args.at (record { changes = c.new.result; numbers = ns }) in
    record { column = subst Q (sym c.new-2.ensures.words) (subst P (sym c.new.ensures.items) own) }
