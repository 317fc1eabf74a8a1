-- A mark more, and the run at the next place or ended.
use Rattle.std.proofs.Common.{◌≡◌, ◌∙◌, sym, true, false, is_some}
use Rattle.probe_inspect.proofs.Marked.{each-more, length-more, trail-ended, not-ended}
use Rattle.probe_inspect.proofs.trails.Trail.new.Goals as goal

pub returns-then-is_some : goal.returns-then-is_some
returns-then-is_some c =
    let at = c.loop-index in
    let T = c.args.task.now in
    let new = c.push.new.self.items in
    let m = c.in_ok-mark.field-0 in
    let len = length-more at.marks.items new m at.index at.invariant.len c.in_ok-push.ensures.items in
    let each = each-more T at.marks.items new m at.index at.alone at.invariant.task at.invariant.count at.invariant.len at.invariant.each
    c.in_ok-mark.ensures.mark c.in_ok-push.ensures.items in
    let ended : is_some c.ended.result ≡ true = sym c.is_some.ensures ∙ c.if-is_some.true in
    record { trail = trail-ended T new at.index at.alone c.run_to.new.alone c.ended.result at.invariant.task c.run_to.ensures.after c.ended.ensures.end ended len each }

pub loop-index-preserved : goal.loop-index-preserved
loop-index-preserved c =
    let at = c.loop-index in
    let T = c.args.task.now in
    let new = c.push.new.self.items in
    let m = c.in_ok-mark.field-0 in
    let running : is_some c.ended.result ≡ false = sym c.is_some.ensures ∙ c.if-is_some.false in
    record {
      task = c.run_to.ensures.after.task ∙ at.invariant.task;
      count = not-ended T at.index at.alone c.run_to.new.alone c.ended.result at.invariant.task c.run_to.ensures.after c.ended.ensures.end running;
      len = length-more at.marks.items new m at.index at.invariant.len c.in_ok-push.ensures.items;
      each = each-more T at.marks.items new m at.index at.alone at.invariant.task at.invariant.count at.invariant.len at.invariant.each
          c.in_ok-mark.ensures.mark c.in_ok-push.ensures.items;
    }
