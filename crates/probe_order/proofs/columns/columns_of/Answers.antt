-- One place more.
use Rattle.std.proofs.Common.{List, [], ◌∷◌, length, length-append, slice_get, ap, sym, ◌∙◌, subst, arith, ℕ}
use Rattle.probe_inspect.proofs.Along.{each-push}
use Rattle.probe_order.specs.Numbers.{IsColumnOf}
use Rattle.probe_order.specs.declared.columns.Column.{Column}
use Rattle.probe_order.proofs.columns.columns_of.Goals as goal

pub column_of-requires-clause-cells : goal.column_of-requires-clause-cells
column_of-requires-clause-cells c = c.requires.cells c.loop-at.at c.loop-at-test.true

pub loop-at-preserved : goal.loop-at-preserved
loop-at-preserved c =
    let rows = c.args.rows.now in
    let columns = c.loop-at.columns.items in
    let column = c.in_ok-column_of.field-0 in
    let items = c.in_ok-push.ensures.items in
    let inv = c.loop-at.invariant in
    let more = length-append columns (column ∷ []) in
    let last : IsColumnOf rows (length columns) column = subst (λ (k : ℕ). IsColumnOf rows k column) (sym inv.long) c.in_ok-column_of.ensures.column in
    record {
      long = omega (arith, inv.long, more, ap (λ (xs : List Column). length xs) items);
      each = λ at other is. each-push (λ k x. IsColumnOf rows k x) columns column inv.each last at other (ap (λ (xs : List Column). slice_get xs at) (sym items) ∙ is);
    }
