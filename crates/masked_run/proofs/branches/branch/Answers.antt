-- A branch that is decided is taken or passed.
use Rattle.std.proofs.Common.{rules, ◌≡◌, subst, ℤ, w32, to_z, of_z}
use Rattle.isa_model.specs.declared.instr.Instr.TheVariants.{Branch}
use Rattle.masked_run.specs.Standing.{Does}
use Rattle.masked_run.proofs.branches.branch.Goals as goal

pub returns-else-machine-immediate_bits-ne0 : goal.returns-else-machine-immediate_bits-ne0
returns-else-machine-immediate_bits-ne0 c = record {
  done = λ known.
      subst (λ (off : ℤ). Does (Branch c.args.op c.args.rs1 c.args.rs2 off) c.args.pool.now c.args.machine.now c.args.pool.now c.take_branch.new.machine)
      (let same : to_z w32 (of_z w32 c.args.off) ≡ c.args.off = search rules in same) c.take_branch.ensures.done;
}

pub returns-in-Some-false : goal.returns-in-Some-false
returns-in-Some-false c = record {
  done = λ known.
      subst (λ (off : ℤ). Does (Branch c.args.op c.args.rs1 c.args.rs2 off) c.args.pool.now c.args.machine.now c.args.pool.now c.pass_branch.new.machine)
      (let same : to_z w32 (of_z w32 c.args.off) ≡ c.args.off = search rules in same) c.pass_branch.ensures.done;
}
