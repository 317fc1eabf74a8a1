-- A label stood before, or is added.
use Rattle.std.proofs.Common.{◌≡◌, [], ◌∷◌, ◌++◌, false, true, sym, ap, ◌∙◌}
use Rattle.rv_asm.specs.Listing.{is_among}
use Rattle.rv_asm.specs.Places.{names}
use Rattle.rv_asm.proofs.Labels.{after_label_at, repeats_at}
use Rattle.rv_asm.proofs.listing.add_labels.Goals as goal

pub loop-label-preserved : goal.loop-label-preserved
loop-label-preserved c =
    let places = c.loop-label.places in
    let label = c.label-item.result in
    let name : c.as_slice-name.result.now ≡ label = c.as_slice-name.ensures.name in
    let new : is_among (names places) label ≡ false = ap (is_among (names places)) (sym name) ∙ sym c.if-contains.ensures.value in
    let put : c.add.new.self ≡ places ++ (label, c.args.place) ∷ [] = c.in_ok-add.ensures.ok ∙ ap (λ n. places ++ (n, c.args.place) ∷ []) name in
    after_label_at _ places _ _ _ _ label c.loop-label-test.true c.label-item.is c.loop-label.invariant new put

pub returns-then-contains-clause-repeats : goal.returns-then-contains-clause-repeats
returns-then-contains-clause-repeats c =
    let places = c.loop-label.places in
    let label = c.label-item.result in
    let name : c.as_slice-name.result.now ≡ label = c.as_slice-name.ensures.name in
    let old : is_among (names places) label ≡ true = ap (is_among (names places)) (sym name) ∙ sym c.if-contains.ensures.value in
    sym (repeats_at _ places _ _ _ label c.loop-label-test.true c.label-item.is c.loop-label.invariant old)
