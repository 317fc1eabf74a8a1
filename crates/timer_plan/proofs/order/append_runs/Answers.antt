-- An entry more of the same run, or the end of a run.
use Rattle.std.proofs.Common.{◌-◌, ◌∷◌, ◌++◌, refl, ap, ◌∙◌, arith, append_assoc, length, get_or, take, drop}
use Rattle.timer_plan.specs.OrderText.{run_text, order_text_of}
use Rattle.timer_plan.proofs.Runs.{text_same, text_other}
use Rattle.timer_plan.proofs.order.append_runs.Goals as goal
use Rattle.timer_plan.proofs.order.append_runs.Goals.{then-next-hart, else-next-hart+in_ok-append_run}

pub loop-next-preserved : goal.loop-next-preserved
loop-next-preserved c =
    let order = c.args.order.now in
    let others = take (length order - 1) (drop 1 order) in
    let text = order_text_of (get_or order 0 0 ∷ others) in
    let i = c.loop-next.next-index in
    let next = get_or others i 0 in
    let now = c.loop-next in
    let inv = c.loop-next.invariant in
    elim c.if-next-hart.branch [
      | then-next-hart w ↦ (
        inv.0,
        ap (λ v. v.items) w.out-is ∙ inv.1,
        text_same inv.0 others text now.hart now.times i next c.if-next-hart.hart c.if-next-hart.times c.loop-next-test.true refl w.if-next-hart.true w.hart-is w.times-is
            inv.2,
        omega (arith, w.times-is),
      )
      | else-next-hart+in_ok-append_run w ↦ (
        inv.0 ++ run_text (record { hart = now.hart; times = now.times }),
        ap (λ v. v.items) w.out-is ∙ w.in_ok-append_run.ensures.ok ∙ ap (λ l. l ++ run_text (record { hart = now.hart; times = now.times })) inv.1
            ∙ append_assoc c.args.out.now.items inv.0 (run_text (record { hart = now.hart; times = now.times })),
        text_other inv.0 others text now.hart now.times i next c.if-next-hart.hart c.if-next-hart.times c.loop-next-test.true refl w.if-next-hart.false w.hart-is w.times-is
            inv.2,
        omega (arith, w.times-is),
      )
    ]
