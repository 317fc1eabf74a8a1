-- The step, and then the fuel.
use Rattle.std.proofs.Common.{rules}
use Rattle.masked_run.proofs.RunLaws.{advanced}
use Rattle.masked_run.proofs.running.advance.Goals as goal

pub returns-clause-stands : goal.returns-clause-stands
returns-clause-stands c = λ known.
    advanced c.args.task.now c.args.fixed.now c.args.count _ c.args.pool.now c.execute.new.pool c.args.machine.now c.execute.new.machine c.check_fuel.new.machine
    c.requires.running c.requires.stands (c.in_ok-execute.ensures.done c.if-not-branch.false) c.check_fuel.ensures.checked (search rules) c.check_fuel.ensures.latches
