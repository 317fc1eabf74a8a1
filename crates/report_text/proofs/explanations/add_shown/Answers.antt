-- A value after its word.
use Rattle.report_text.proofs.Appending.{on_ok, join}
use Rattle.report_text.proofs.explanations.add_shown.Goals as goal

pub returns-in_ok-add-in-Value : goal.returns-in_ok-add-in-Value
returns-in_ok-add-in-Value c = rw c.in-Value.is (record {
  ok = on_ok c.add_word.result _ _ (λ last. join c.args.out.now.items c.add.new.out.items _ _ _ c.in_ok-add-in-Value.ensures.ok last) c.add_word.ensures.ok;
})
