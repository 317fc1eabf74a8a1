-- The parts of a leak, one after the other.
use Rattle.std.proofs.Common.{◌++◌, sym, ap, ◌∙◌}
use Rattle.probing_laws.specs.declared.verdict_two.VerdictTwo.{VerdictTwo}
use Rattle.report_text.specs.VerdictTwoText.{verdict_two_text_of}
use Rattle.report_text.proofs.Appending.{on_ok, join}
use Rattle.report_text.proofs.verdicts_two.add_verdict_two.Goals as goal

pub returns-in_ok-add_counts-in-Leak : goal.returns-in_ok-add_counts-in-Leak
returns-in_ok-add_counts-in-Leak c =
    let start = c.args.out.now.items in
    let text1 = c.add_steps.new.out.items in
    let text2 = c.add_latches.new.out.items in
    let text3 = c.add_secrets.new.out.items in
    let text4 = c.add_values.new.out.items in
    let text5 = c.add_counts.new.out.items in record {
      ok = on_ok c.add-in-Leak.result _ _ (λ last.
          join start text1 _ _ _ c.in_ok-add_steps-in-Leak.ensures.ok
          (join text1 text2 _ _ _ c.in_ok-add_latches-in-Leak.ensures.ok
          (join text2 text3 _ _ _ c.in_ok-add_secrets-in-Leak.ensures.ok
          (join text3 text4 _ _ _ c.in_ok-add_values-in-Leak.ensures.ok
          (join text4 text5 _ _ _ c.in_ok-add_counts-in-Leak.ensures.ok last))))
          ∙ ap (λ (v : VerdictTwo). start ++ verdict_two_text_of v) (sym c.in-Leak.is))
          c.add-in-Leak.ensures.ok;
    }
