-- Each form is done by its function.
use Rattle.std.proofs.Common.{rules, ◌≡◌, subst, ℤ, w32, to_z, of_z}
use Rattle.isa_model.specs.declared.instr.Instr.TheVariants.{Branch, AluImm, Jal, Jalr}
use Rattle.masked_run.specs.Standing.{Does}
use Rattle.masked_run.proofs.executing.perform.Goals as goal

pub returns-in_ok-load_upper-in-Lui : goal.returns-in_ok-load_upper-in-Lui
returns-in_ok-load_upper-in-Lui c = record { done = λ known. rw c.in-Lui.is (c.in_ok-load_upper-in-Lui.ensures.done c.args.task.now c.args.fixed.now) }

pub returns-in_ok-add_upper_to_pc-in-Auipc : goal.returns-in_ok-add_upper_to_pc-in-Auipc
returns-in_ok-add_upper_to_pc-in-Auipc c = record { done = λ known. rw c.in-Auipc.is (c.in_ok-add_upper_to_pc-in-Auipc.ensures.done c.args.task.now c.args.fixed.now) }

pub returns-in_ok-multiply-in-AluReg : goal.returns-in_ok-multiply-in-AluReg
returns-in_ok-multiply-in-AluReg c = record { done = λ known. rw c.in-AluReg.is (c.in_ok-multiply-in-AluReg.ensures.done c.args.task.now c.args.fixed.now) }

pub returns-in_ok-operate_plain-in-AluReg : goal.returns-in_ok-operate_plain-in-AluReg
returns-in_ok-operate_plain-in-AluReg c = record { done = λ known. rw c.in-AluReg.is (c.in_ok-operate_plain-in-AluReg.ensures.done c.args.task.now c.args.fixed.now) }

pub returns-in-Fence : goal.returns-in-Fence
returns-in-Fence c = record { done = λ known. rw c.in-Fence.is (c.fence.ensures.done c.args.task.now c.args.fixed.now) }

pub returns-in-Ebreak : goal.returns-in-Ebreak
returns-in-Ebreak c = record { done = λ known. rw c.in-Ebreak.is (c.raise.ensures.done c.args.task.now c.args.fixed.now) }

pub returns-in-Branch : goal.returns-in-Branch
returns-in-Branch c = record {
  done = λ known.
      let same : to_z w32 (of_z w32 c.in-Branch.off) ≡ c.in-Branch.off = search rules in
      rw c.in-Branch.is (subst (λ (z : ℤ). Does (Branch c.in-Branch.op c.in-Branch.rs1 c.in-Branch.rs2 z) c.args.pool.now c.args.machine.now c.args.pool.now c.branch-pool.new.machine) same (c.branch-pool.ensures.done known) c.args.task.now c.args.fixed.now);
}

pub returns-in_ok-operate_immediate-in-AluImm : goal.returns-in_ok-operate_immediate-in-AluImm
returns-in_ok-operate_immediate-in-AluImm c = record {
  done = λ known.
      let same : to_z w32 (of_z w32 c.in-AluImm.imm) ≡ c.in-AluImm.imm = search rules in
      rw c.in-AluImm.is (subst (λ (z : ℤ). Does (AluImm c.in-AluImm.op c.in-AluImm.rd c.in-AluImm.rs1 z) c.args.pool.now c.args.machine.now c.operate_immediate.new.pool c.operate_immediate.new.machine) same (c.in_ok-operate_immediate-in-AluImm.ensures.done) c.args.task.now c.args.fixed.now);
}

pub returns-in_ok-known-in-Jal : goal.returns-in_ok-known-in-Jal
returns-in_ok-known-in-Jal c = record {
  done = λ known.
      let same : to_z w32 (of_z w32 c.in-Jal.off) ≡ c.in-Jal.off = search rules in
      rw c.in-Jal.is (subst (λ (z : ℤ). Does (Jal c.in-Jal.rd z) c.args.pool.now c.args.machine.now c.jump_by.new.pool c.jump_by.new.machine) same (c.in_ok-known-in-Jal.ensures.done known) c.args.task.now c.args.fixed.now);
}

pub returns-in_ok-known-in-Jalr : goal.returns-in_ok-known-in-Jalr
returns-in_ok-known-in-Jalr c = record {
  done = λ known.
      let same : to_z w32 (of_z w32 c.in-Jalr.imm) ≡ c.in-Jalr.imm = search rules in
      rw c.in-Jalr.is (subst (λ (z : ℤ). Does (Jalr c.in-Jalr.rd c.in-Jalr.rs1 z) c.args.pool.now c.args.machine.now c.jump_indirect.new.pool c.jump_indirect.new.machine) same (c.in_ok-known-in-Jalr.ensures.done known) c.args.task.now c.args.fixed.now);
}
