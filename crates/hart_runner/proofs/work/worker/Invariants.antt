-- Between two turns.
use Rattle.std.proofs.Common.{◌≡◌}
use Rattle.turn_lock.specs.Passes.{IsPassOf, pass_number, pass_seen, lock_frame}
use Rattle.hart_runner.specs.Turning.{IsTurning}
use Rattle.hart_runner.proofs.work.worker.Given as goal

abbrev pub invariant-loop : goal.invariant-loop
invariant-loop g l = record {
  next : (goal.iterator-loop g).can_next l.iterator';
  finite : (goal.iterator-loop g).is_finite l.iterator';
  pass : IsPassOf l.lock l.pass;
  number : pass_number l.pass ≡ l.hart;
  turning : IsTurning (lock_frame l.lock).value l.hart (pass_seen l.pass) l.own;
}
