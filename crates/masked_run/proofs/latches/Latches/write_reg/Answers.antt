-- x0 isn't written.
use Rattle.std.proofs.Common.{◌≡◌, ℕ, refl, arith}
use Rattle.isa_model.specs.declared.latch.Latch.{Latch}
use Rattle.isa_model.specs.Effect.{Flow, Constant, to_reg}
use Rattle.isa_model.specs.Alone.{values_after}
use Rattle.masked_run.specs.Places.{term_at}
use Rattle.masked_run.proofs.latches.Latches.write_reg.Goals as goal

x0_kept : (rd term : ℕ) (flow : Flow) (at : Latch → ℕ) (l : Latch) → rd ≡ 0 → at l ≡ values_after (to_reg rd term flow) at l
x0_kept rd term flow at l is = rw is refl

pub returns-else-number-ne0 : goal.returns-else-number-ne0
returns-else-number-ne0 c = record { terms = λ l. x0_kept c.args.rd c.args.term Constant (term_at c.args.self.now) l (omega arith) }
