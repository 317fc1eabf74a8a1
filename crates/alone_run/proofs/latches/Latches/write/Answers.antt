-- Each part is written after the parts before it.
use Rattle.std.proofs.Common.{ℕ, subst, sym}
use Rattle.isa_model.specs.declared.latch.Latch.{Latch}
use Rattle.isa_model.specs.declared.latch.Latch.TheVariants.{PortA, PortB}
use Rattle.isa_model.specs.Effect.{Moved, Rs1, Rs2}
use Rattle.isa_model.specs.Alone.{values_after}
use Rattle.rv_effect.specs.View.{port_write, before_res, res_write, after_res, register_write}
use Rattle.alone_run.specs.LatchValues.{Holds}
use Rattle.alone_run.proofs.WritesInOrder.{in_order}
use Rattle.alone_run.proofs.latches.Latches.write.Goals as goal

pub returns : goal.returns
returns c = record {
  held = λ T v h own.
      let w = c.args.writes.now in
      let a = port_write PortA (Moved Rs1) w.port_a in
      let b = port_write PortB (Moved Rs2) w.port_b in
      let before = before_res w.unit in
      let res = res_write w.res in
      let after = after_res w.unit in
      let v1 = values_after a v in
      let v2 = values_after b v1 in
      let v3 = values_after before v2 in
      let v4 = values_after res v3 in
      let v5 = values_after after v4 in
      let h2 = c.write_port_b.ensures.held T v1 (c.write_port_a.ensures.held T v h) in
      let h4 = c.write_res.ensures.held T v3 (c.write_before.ensures.held T v2 h2) in
      let h6 = c.write_register.ensures.held T v5 (c.write_after.ensures.held T v4 h4 own) in
      subst (λ (x : Latch → ℕ). Holds T c.write_register.new.self x) (sym (in_order a b before res after (register_write w.register) v)) h6;
}
