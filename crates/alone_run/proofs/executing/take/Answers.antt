-- The code's effect is the one of the definitions, its writes are the task's own, and what follows is done after them.
use Rattle.std.proofs.Common.{◌≡◌, ℕ, false, List, ap, sym, subst, ◌∙◌}
use Rattle.isa_model.specs.declared.control.Deed.{Deed}
use Rattle.isa_model.specs.Effect.{Effect, Operands, Write, effect_of}
use Rattle.isa_model.specs.Alone.{operands_of, is_privileged, values_after, after_effect, deed_of}
use Rattle.rv_effect.specs.View.{writes_of, operands_of as operands_by}
use Rattle.rv_effect.specs.EffectView.{effect_value}
use Rattle.alone_run.specs.StandsFor.{Leaves}
use Rattle.alone_run.proofs.Standing.{stands-latches}
use Rattle.alone_run.proofs.OwnWrites.{AllOwn, row_own, unit_own}
use Rattle.alone_run.proofs.executing.take.Goals as goal

pub returns : goal.returns
returns c = record {
  performed = λ s h.
      let T = c.args.task.now in
      let instr = c.args.instr.now in
      let code = c.args.effect.now in
      let aligned = h.latches.aligned in
      let of_user : is_privileged instr ≡ false = c.requires.of_user in
      let read = c.requires.operands s.value h.latches in
      let e = effect_of instr s.pc (operands_of T s.value instr) in
      let same : effect_value code ≡ e = c.requires.effect
      ∙ ap (λ (p : ℕ). effect_of instr p (operands_by c.args.o.now)) h.pc ∙ ap (λ (o : Operands). effect_of instr s.pc o) read in
      let all = subst (λ (ws : List Write). AllOwn T ws) (sym (ap (λ (x : Effect). x.writes) same)) (row_own T instr s.pc s.value aligned of_user) in
      let held = c.write.ensures.held T s.value h.latches (unit_own T code.writes aligned all) in
      let after = values_after (writes_of code.writes) s.value in
      let done = c.follow.ensures.left (record s { value = after }) (stands-latches T s c.args.machine.now c.write.new.self after h held) in
      let deed = c.deed_by-deed.ensures.deed ∙ ap (λ (v : ℕ). deed_of instr v) (ap (λ (o : Operands). o.rs1) read) in
      rw of_user (subst (λ (d : Deed). Leaves T (after_effect T d e s) c.follow.result c.follow.new.machine) deed
      (subst (λ (x : Effect). Leaves T (after_effect T c.deed_by-deed.result x s) c.follow.result c.follow.new.machine) same done));
}
