-- The register's word is known.
use Rattle.std.proofs.Common.{rules, ◌≡◌, subst, ℤ, w32, to_z, of_z}
use Rattle.isa_model.specs.declared.instr.Instr.TheVariants.{Jalr}
use Rattle.masked_run.specs.Standing.{Does}
use Rattle.masked_run.proofs.jumps.jump_indirect.Goals as goal

pub returns-in_ok-jump_to-in-Some : goal.returns-in_ok-jump_to-in-Some
returns-in_ok-jump_to-in-Some c = record {
  done = λ known.
      let same : to_z w32 (of_z w32 c.args.imm) ≡ c.args.imm = search rules in
      subst (λ (z : ℤ). Does (Jalr c.args.rd c.args.rs1 z) c.args.pool.now c.args.machine.now c.jump_to.new.pool c.jump_to.new.machine) same c.in_ok-jump_to-in-Some.ensures.done;
}
