-- An entry more. The reader has one before each index below the number of entries.
use Rattle.std.proofs.Common.{◌≡◌, ◌≤◌, ℕ, zero, suc, List, [], ◌∷◌, None, slice_get, sym, ap, ◌∙◌, arith, length}
use Rattle.report_text.specs.Explanations.{explanation_of}
use Rattle.report_text.proofs.Appending.{entry_more}
use Rattle.report_text.proofs.explanations.explain_text.Goals as goal
use Rattle.report_text.proofs.explanations.explain_text.Goals.{in-Some+in_ok-add_explanation, in_default}

past_none : {X : Type 0} (xs : List X) (i : ℕ) → slice_get xs i ≡ None → length xs ≤ i
past_none [] i h = omega arith
past_none (x ∷ xs) zero h = absurd (cc h)
past_none (x ∷ xs) (suc i) h = let rest = past_none xs i h in omega arith

pub loop-preserved : goal.loop-preserved
loop-preserved c =
    let entries = c.args.log.now.entries in
    let index = c.loop.counter in
    let read = c.next.ensures.entry entries index c.loop.invariant.at in
    elim c.match-next.branch [
      | in-Some+in_ok-add_explanation w ↦ record {
        text =
            entry_more (explanation_of c.args.tasks.now) entries index w.in-Some.probe c.loop.text.items c.match-next.text.items
            (sym read.0 ∙ w.in-Some.is) c.loop.invariant.text (ap (λ v. v.items) w.text-is ∙ w.in_ok-add_explanation.ensures.ok);
        walk = w.walk-is ∙ w.add_explanation.ensures.tasks;
        at = read.1;
      }
      | in_default w ↦
          let here = w.in_default.ensures.entry entries index c.loop.invariant.at in
          let past : length entries ≤ index = past_none entries index (sym here.0) in
          let none : ⊥ = omega (arith, c.loop-test.true, c.len-end.ensures.length) in
          absurd none
    ]
