-- By the numbers that are read.
use Rattle.std.proofs.Common.{arith, inl, inr}
use Rattle.timer_plan.specs.Tokens.{IsOutOfRange}
use Rattle.timer_plan.proofs.Decides.{order_within, order_outside, order_bad}
use Rattle.timer_plan.proofs.token.order_run.Goals as goal
use Rattle.timer_plan.proofs.token.order_run.Goals.{else-hart-lt-HARTS-via-then-hart-lt-HARTS+then-times-ge1+else-times-le-TIMES_MAX, else-hart-lt-HARTS-via-then-hart-lt-HARTS+else-times-ge1, else-hart-lt-HARTS-via-else-hart-lt-HARTS}

pub returns-then-times-le-TIMES_MAX : goal.returns-then-times-le-TIMES_MAX
returns-then-times-le-TIMES_MAX c =
    let p = c.in-Some.ensures.found in
    let d = order_within c.args.token.now c.in-Some.hart c.in-Some.times p.0 p.1 p.2 (omega arith) (omega arith) (omega arith) in
    record { run = d.run; bad_number = d.bad_number; out_of_range = d.out_of_range }

pub returns-else-hart-lt-HARTS : goal.returns-else-hart-lt-HARTS
returns-else-hart-lt-HARTS c =
    let p = c.in-Some.ensures.found in
    let out : IsOutOfRange c.in-Some.hart c.in-Some.times = elim c.else-hart-lt-HARTS.branch [
      | else-hart-lt-HARTS-via-then-hart-lt-HARTS+then-times-ge1+else-times-le-TIMES_MAX w ↦ inr (inr (omega arith))
      | else-hart-lt-HARTS-via-then-hart-lt-HARTS+else-times-ge1 w ↦ inr (inl (omega arith))
      | else-hart-lt-HARTS-via-else-hart-lt-HARTS w ↦ inl (omega arith)
    ] in
    let d = order_outside c.args.token.now c.in-Some.hart c.in-Some.times p.0 p.1 p.2 out in
    record { run = d.run; bad_number = d.bad_number; out_of_range = d.out_of_range }

pub returns-in-None : goal.returns-in-None
returns-in-None c =
    let d = order_bad c.args.token.now c.in-None.ensures.none in
    record { run = d.run; bad_number = d.bad_number; out_of_range = d.out_of_range }
