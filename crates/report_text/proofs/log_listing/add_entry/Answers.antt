-- The parts of an entry, one after the other.
use Rattle.std.proofs.Common.{◌++◌, ap, ◌∙◌, decimal}
use Rattle.report_text.specs.Listing.{entry_text}
use Rattle.report_text.proofs.Appending.{on_ok, join}
use Rattle.report_text.proofs.log_listing.add_entry.Goals as goal

pub returns : goal.returns
unfolding entry_text
returns c =
    let start = c.args.out.now.items in
    let text1 = c.add_decimal.new.out.items in
    let text2 = c.add_word.new.out.items in
    let text3 = c.add.new.out.items in
    let text4 = c.latch_text.new.out.items in
    let text5 = c.add_word-2.new.out.items in
    let text6 = c.add_word-3.new.out.items in
    let text7 = c.add-2.new.out.items in record {
      ok = on_ok c.add_why.result _ _ (λ last.
          join start text1 _ _ _ (c.in_ok-add_decimal.ensures.ok ∙ ap (λ n. start ++ decimal n) c.from.ensures) (
          join text1 text2 _ _ _ c.in_ok-add_word.ensures.ok (
          join text2 text3 _ _ _ c.in_ok-add.ensures.ok (
          join text3 text4 _ _ _ c.in_ok-latch_text.ensures.ok (
          join text4 text5 _ _ _ c.in_ok-add_word-2.ensures.ok (
          join text5 text6 _ _ _ c.in_ok-add_word-3.ensures.ok (
          join text6 text7 _ _ _ c.in_ok-add-2.ensures.ok last)))))))
          c.add_why.ensures.ok;
    }
