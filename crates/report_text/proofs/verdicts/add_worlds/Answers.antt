-- The two worlds, one after the other.
use Rattle.std.proofs.Common.{◌++◌, ap, ◌∙◌, codes, decimal}
use Rattle.report_text.proofs.Appending.{on_ok, join}
use Rattle.report_text.proofs.verdicts.add_worlds.Goals as goal

pub returns : goal.returns
returns c =
    let start = c.args.out.now.items in
    let text1 = c.add_count.new.out.items in record {
      ok = on_ok c.add_count-2.result _ _ (λ last.
          join start text1 _ _ _ (c.in_ok-add_count.ensures.ok ∙ ap (λ n. start ++ (codes "control differs worlds " ++ decimal n)) c.from.ensures)
          (last ∙ ap (λ n. text1 ++ (codes " " ++ decimal n)) c.from-2.ensures))
          c.add_count-2.ensures.ok;
    }
