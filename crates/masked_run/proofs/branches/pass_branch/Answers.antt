-- The ports are written, and the branch goes the same way on each tape.
use Rattle.std.proofs.Common.{rules}
use Rattle.masked_run.proofs.BranchLaws.{branch-passed}
use Rattle.masked_run.proofs.branches.pass_branch.Goals as goal

pub returns : goal.returns
returns c = record {
  done = branch-passed c.args.pool.now c.args.machine.now c.write_ports.new.self c.args.op c.args.rs1 c.args.rs2 c.args.off c.reg-first.result c.reg-second.result
      c.requires.places c.reg-first.ensures.term c.reg-second.ensures.term c.write_ports.ensures.terms _ (search rules) c.requires.passed;
}
