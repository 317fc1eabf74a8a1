-- By what the token spells.
use Rattle.std.proofs.Common.{Ok, Err, sym, ap, ◌∙◌}
use Rattle.timer_plan.proofs.Decides.{DecidesOrder}
use Rattle.bundle_text.proofs.RunLaws.{order_operand-is}
use Rattle.bundle_text.proofs.operands.order_operand.Goals as goal

pub returns-in-Ok : goal.returns-in-Ok
returns-in-Ok c =
    let e = c.in-Ok.ensures in
    let d : DecidesOrder c.args.token.now (Ok c.in-Ok.run') = record { run = e.run; bad_number = e.bad_number; out_of_range = e.out_of_range } in
    record { value = sym (order_operand-is c.args.token.now (Ok c.in-Ok.run') d) }

pub returns-in-Err : goal.returns-in-Err
returns-in-Err c =
    let e = c.in-Err.ensures in
    let d : DecidesOrder c.args.token.now (Err c.in-Err.fault) = record { run = e.run; bad_number = e.bad_number; out_of_range = e.out_of_range } in
    record { value = ap (λ k. Err k) c.kind.ensures.value ∙ sym (order_operand-is c.args.token.now (Err c.in-Err.fault) d) }
