-- The counts, one after the other.
use Rattle.report_text.specs.Report.{latches_line}
use Rattle.report_text.proofs.Appending.{on_ok, join}
use Rattle.report_text.proofs.snapshot_report.add_latches.Goals as goal

pub returns : goal.returns
unfolding latches_line
returns c =
    let start = c.args.out.now.items in
    let text1 = c.add_count.new.out.items in
    let text2 = c.add_count-2.new.out.items in
    let text3 = c.add_count-3.new.out.items in
    let text4 = c.add_count-4.new.out.items in
    let text5 = c.add_count-5.new.out.items in
    let text6 = c.add_count-6.new.out.items in
    let text7 = c.add_count-7.new.out.items in
    let text8 = c.add_count-8.new.out.items in record {
      ok = on_ok c.add.result _ _ (λ last.
          join start text1 _ _ _ c.in_ok-add_count.ensures.ok (
          join text1 text2 _ _ _ c.in_ok-add_count-2.ensures.ok (
          join text2 text3 _ _ _ c.in_ok-add_count-3.ensures.ok (
          join text3 text4 _ _ _ c.in_ok-add_count-4.ensures.ok (
          join text4 text5 _ _ _ c.in_ok-add_count-5.ensures.ok (
          join text5 text6 _ _ _ c.in_ok-add_count-6.ensures.ok (
          join text6 text7 _ _ _ c.in_ok-add_count-7.ensures.ok (
          join text7 text8 _ _ _ c.in_ok-add_count-8.ensures.ok last))))))))
          c.add.ensures.ok;
    }
