-- Where the run has ended, it is where any more instructions lead.
use Rattle.std.proofs.Common.{◌≡◌, ◌≤◌, sym, arith, IsSome, subst}
use Rattle.isa_model.specs.declared.task.Task.{Task}
use Rattle.isa_model.specs.Alone.{alone_at}
use Rattle.alone_run.specs.RunPosition.{RunPosition}
use Rattle.probe_inspect.specs.Reached.{IsAfter}
use Rattle.probe_inspect.proofs.Reached.{ended-is_after}
use Rattle.probe_inspect.proofs.shown.run_to.Goals as goal

pub returns-in_default : goal.returns-in_default
returns-in_default c =
    let T = c.args.alone.now.task in
    let m = c.loop-done.alone in
    let same : m.task ≡ T = c.loop-done.invariant.task in
    let before : m.count ≤ c.args.count = omega arith in
    let ended : IsSome (alone_at T m.count).end = subst (λ (t : Task). IsSome (alone_at t m.count).end) same c.in_default.ensures.none.0 in record {
      after = subst (λ (k : RunPosition). IsAfter T c.args.count k) (sym c.in_default.ensures.none.1) (ended-is_after T c.args.count m same before ended);
    }
