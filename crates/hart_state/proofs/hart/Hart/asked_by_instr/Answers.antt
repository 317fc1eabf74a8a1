-- What the code has of it is what the step has begun with.
use Rattle.std.proofs.Common.{◌≡◌, ℕ, ◌+◌, ◌%◌, ap, subst, ◌∙◌}
use Rattle.isa_model.specs.Bits.{low_word}
use Rattle.isa_model.specs.Effect.{Operands, effect_of}
use Rattle.hart_model.specs.declared.tag.Cell.{Cell}
use Rattle.hart_model.specs.HartState.{HartState}
use Rattle.hart_model.specs.MachineStep.{operand_cells}
use Rattle.rv_effect.specs.View.{operands_of}
use Rattle.hart_state.proofs.TakeAnswer.{needs}
use Rattle.hart_state.proofs.hart.Hart.asked_by_instr.Goals as goal

pub returns-in-NeedsQueue : goal.returns-in-NeedsQueue
returns-in-NeedsQueue c =
    let h = c.args.self.now in
    let instr = c.args.instr.now in
    let call = c.in-NeedsQueue.call in
    let word = c.in-NeedsQueue.word in
    let pc = ap (λ (x : HartState). x.pc) c.self.view_is in
    let same = c.operand_cells-cells.ensures.cells ∙ ap (λ (b : Cell). operand_cells h instr word b) c.blank.ensures.cell in
    let effect = c.effect_of-effect.ensures.effect ∙ ap (λ (p : ℕ). effect_of instr p (operands_of c.values.result)) pc
    ∙ ap (λ (v : Operands). effect_of instr h.pc v) c.values.ensures.values in
    let next = c.next_address.ensures.address ∙ ap (λ (p : ℕ). low_word (p + 4)) pc in
    let aligned = subst (λ (p : ℕ). p % 4 ≡ 0) pc c.self.invariant.1 in
    record {
      asked = needs h instr call word c.operand_cells-cells.result c.effect_of-effect.result c.load_register.result c.next_address.result
          c.in-NeedsQueue.ensures.reach same effect c.load_register.ensures.number next aligned;
    }
