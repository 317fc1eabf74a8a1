use Rattle.std.proofs.Common.{◌≡◌, sym, ap, ◌∙◌, subst, Some, is_some, unwrap_or, true≢false}
use mathlib.Core.Option.{some-injective}
use Rattle.turn_lock.specs.Rule.{StandsForWhole}
use Rattle.turn_lock.proofs.SeatChanges.{closing_finds_value}
use Rattle.turn_lock.proofs.turns.Turns.value_of_table.Goals as goal

pub unreachable-requires : goal.unreachable-requires
unreachable-requires g c =
    let final = c.close_with-closed.ensures.values.2 in
    let found = closing_finds_value g.V.Turned.stands c.args.table.shared.key final.0 c.args.first.id c.args.first.me.0 final.1.0 final.1.1 c.requires.first in
    let is : Some found.0 ≡ c.take-value.result = some-injective _ _ (sym (final.4 0 (Some found.0) found.1) ∙ c.take-value.ensures.value) in
    true≢false (ap is_some (is ∙ c.in-None.is))

pub returns : goal.returns
returns g c =
    let final = c.close_with-closed.ensures.values.2 in
    let key = c.args.table.shared.key in
    let found = closing_finds_value g.V.Turned.stands key final.0 c.args.first.id c.args.first.me.0 final.1.0 final.1.1 c.requires.first in
    let is : Some found.0 ≡ c.take-value.result = some-injective _ _ (sym (final.4 0 (Some found.0) found.1) ∙ c.take-value.ensures.value) in
    subst (StandsForWhole g.V.Turned.stands key c.args.first.me.0) (ap (λ o. unwrap_or o found.0) (is ∙ c.in-Some.is)) found.2
