-- The register is written after the result.
use Rattle.std.proofs.Common.{ℕ, ap, ◌∙◌}
use Rattle.isa_model.specs.declared.latch.Latch.{Latch}
use Rattle.isa_model.specs.Effect.{Constant, to_reg}
use Rattle.isa_model.specs.Alone.{values_after}
use Rattle.masked_run.proofs.latches.Latches.write_result.Goals as goal

pub returns : goal.returns
returns c = record {
  terms = λ l. c.write_reg.ensures.terms l
      ∙ ap (λ (at : Latch → ℕ). values_after (to_reg c.args.rd c.args.term Constant) at l) (λ i k. c.write_res.ensures.terms k i);
}
