use Rattle.std.proofs.Common.{◌≡◌, ℕ, ◌+◌, ◌<◌, Bool, List, [], ◌∷◌, ◌++◌, length, get_or, take, sym, ◌∙◌, rules, arith}
use Rattle.tape_terms.specs.declared.term.Term.{Term}
use Rattle.tape_terms.specs.Values.{each_from}
use Rattle.tape_terms.specs.Marks.{mark_in, marks}
use Rattle.tape_terms.proofs.EachLaws.{each-take}
use Rattle.tape_terms.proofs.column.Column.new.Goals as goal

none : (place : ℕ) (bs : List Bool) → bs ≡ [] → bs ≡ marks [] place
unfolding each_from
none place bs is = is

more : (terms : List Term) (place i : ℕ) (d : Term) (old slice new : List Bool) (b : Bool) → b ≡ mark_in place slice (get_or terms i d) → i < length terms
    → slice ≡ old → old ≡ marks (take i terms) place → new ≡ old ++ b ∷ [] → new ≡ marks (take (i + 1) terms) place
more terms place i d old slice new b mark low now is longer =
    let same : slice ≡ marks (take i terms) place = now ∙ is in
    longer ∙ (λ k. is k ++ (mark ∙ (λ j. mark_in place (same j) (get_or terms i d))) k ∷ []) ∙ sym (each-take (mark_in place) terms i d low)

pub loop-term-init : goal.loop-term-init
loop-term-init c = none c.args.place c.new-marks.result.items c.new-marks.ensures.items

pub loop-term-preserved : goal.loop-term-preserved
loop-term-preserved c =
    more c.as_slice-term-items.result.now c.args.place c.loop-term.term-index _ c.loop-term.marks.items c.as_slice.result.now c.push.new.self.items c.mark_of-mark.result
    c.mark_of-mark.ensures.value (omega arith) (search rules) c.loop-term.invariant (search rules)
