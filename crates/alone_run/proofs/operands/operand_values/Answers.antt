-- The registers are read, and the word that rs1 leads to.
use Rattle.std.proofs.Common.{◌≡◌, ℕ, Option, ap, ◌∙◌}
use Rattle.isa_model.specs.declared.latch.Latch.TheVariants.{Reg}
use Rattle.isa_model.specs.Effect.{Operands}
use Rattle.isa_model.specs.Alone.{word_reached, rs1_of, rs2_of}
use Rattle.alone_run.proofs.operands.operand_values.Goals as goal

pub returns : goal.returns
returns c = record {
  operands = λ v h.
      let T = c.args.task.now in
      let instr = c.args.instr.now in
      let first : c.reg-rs1.result ≡ v (Reg (rs1_of instr)) = c.reg-rs1.ensures.value T v h ∙ ap (λ (n : ℕ). v (Reg n)) c.first_register.ensures.number in
      let second : c.reg-rs2.result ≡ v (Reg (rs2_of instr)) = c.reg-rs2.ensures.value T v h ∙ ap (λ (n : ℕ). v (Reg n)) c.second_register.ensures.number in
      let one = v (Reg (rs1_of instr)) in
      let two = v (Reg (rs2_of instr)) in
      let word = c.word_reached-word.ensures.word v h ∙ ap (λ (n : ℕ). word_reached T v instr n) first in
      let made : ℕ → ℕ → Option ℕ → Operands = λ a b w. record { rs1 = a; rs2 = b; word = w; old_csr = 0 } in
      ap (λ (a : ℕ). made a c.reg-rs2.result c.word_reached-word.result) first ∙ ap (λ (b : ℕ). made one b c.word_reached-word.result) second
      ∙ ap (λ (w : Option ℕ). made one two w) word;
}
