-- The lowest entry that matches decides.
use Rattle.std.proofs.Common.{sym, ◌∙◌, below_more, arith}
use Rattle.hart_model.proofs.PmpLaws.{lowest_decides, unmatched_fails}
use Rattle.mem_protect.proofs.pmp.Pmp.allows_user.Goals as goal

pub returns-then-matches : goal.returns-then-matches
returns-then-matches c = record {
  answer =
      c.permits.ensures.answer
      ∙ sym (lowest_decides c.args.self.now c.args.addr c.args.size c.loop-i.i c.args.kind (record {
        exists = c.loop-i-test.true;
        matches = sym (c.if-matches.ensures {u = tt}).answer;
        below = c.loop-i.invariant;
      }));
}

pub loop-i-preserved : goal.loop-i-preserved
loop-i-preserved c = below_more _ _ c.loop-i.invariant (sym (c.if-matches.ensures {u = tt}).answer)

pub returns : goal.returns
returns c = record { answer = sym (unmatched_fails c.args.self.now c.args.addr c.args.size c.args.kind (λ i h. c.loop-i.invariant i (omega arith))) }
