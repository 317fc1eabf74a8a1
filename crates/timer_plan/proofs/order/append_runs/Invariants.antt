-- What is written so far, and the text of the run that is read and of the runs after it, are the text of the order.
use Rattle.std.proofs.Common.{◌≡◌, ℕ, ◌+◌, ◌≤◌, List, ◌∷◌, ◌++◌, drop}
use Rattle.timer_plan.specs.OrderText.{runs_of, runs_text, order_text_of}
use Rattle.timer_plan.proofs.Runs.{with_run}
use Rattle.timer_plan.proofs.order.append_runs.Given as goal

abbrev pub invariant-loop-next : goal.invariant-loop-next
invariant-loop-next l = (done : List ℕ) × (l.out.items ≡ l.initial.out.items ++ done)
    × (done ++ runs_text (with_run l.hart l.times (runs_of (drop l.next-index l.others))) ≡ order_text_of (l.initial.hart ∷ l.others))
    × (l.times ≤ l.next-index + 1)
