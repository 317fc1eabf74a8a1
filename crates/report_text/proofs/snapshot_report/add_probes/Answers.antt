-- The counts, one after the other.
use Rattle.std.proofs.Common.{◌++◌, ap, ◌∙◌, codes, decimal}
use Rattle.report_text.specs.Report.{probes_line}
use Rattle.report_text.proofs.Appending.{on_ok, join}
use Rattle.report_text.proofs.snapshot_report.add_probes.Goals as goal

pub returns : goal.returns
unfolding probes_line
returns c =
    let start = c.args.out.now.items in
    let text1 = c.add_count.new.out.items in
    let text2 = c.add_count-2.new.out.items in
    let text3 = c.add_count-3.new.out.items in
    let text4 = c.add_count-4.new.out.items in
    let text5 = c.add_count-5.new.out.items in record {
      ok = on_ok c.add.result _ _ (λ last.
          join start text1 _ _ _ (c.in_ok-add_count.ensures.ok ∙ ap (λ n. start ++ (codes "probes " ++ decimal n)) c.total.ensures.whys) (
          join text1 text2 _ _ _ (c.in_ok-add_count-2.ensures.ok ∙ ap (λ n. text1 ++ (codes " public " ++ decimal n)) c.public.ensures.count) (
          join text2 text3 _ _ _ (c.in_ok-add_count-3.ensures.ok ∙ ap (λ n. text2 ++ (codes " value " ++ decimal n)) c.value.ensures.count) (
          join text3 text4 _ _ _ (c.in_ok-add_count-4.ensures.ok ∙ ap (λ n. text3 ++ (codes " step " ++ decimal n)) c.step.ensures.count) (
          join text4 text5 _ _ _ (c.in_ok-add_count-5.ensures.ok ∙ ap (λ n. text4 ++ (codes " unexplained " ++ decimal n)) c.unexplained.ensures.count) last)))))
          c.add.ensures.ok;
    }
