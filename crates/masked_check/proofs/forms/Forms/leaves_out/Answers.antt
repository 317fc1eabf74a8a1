use Rattle.std.proofs.Common.{rules, ◌≡◌, ℕ, true, List, arith, below_more}
use Rattle.tape_terms.specs.declared.term.Term.{Term}
use Rattle.tape_terms.specs.Marks.{AreColumns}
use Rattle.masked_check.specs.Shown.{LeavesOne, leaves_out}
use Rattle.masked_check.specs.Forms.{seen}
use Rattle.masked_check.proofs.forms.Forms.leaves_out.Goals as goal

pub loop-secret-preserved : goal.loop-secret-preserved
loop-secret-preserved c =
    let yes : c.leaves_one.result ≡ true = search rules in
    below_more (λ (k : ℕ). (terms : List Term) → AreColumns terms c.args.columns.now → LeavesOne c.args.roles.now (seen terms c.args.self.now) k) c.loop-secret.secret
    c.loop-secret.invariant (c.leaves_one.ensures.one yes)

pub returns : goal.returns
returns c = record {
  shown = λ yes terms are. leaves_out (λ k place share. let low = c.requires.below k place share in c.loop-secret.invariant k (omega arith) terms are);
}
