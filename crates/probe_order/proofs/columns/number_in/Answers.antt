-- A change at the end of the list.
use Rattle.std.proofs.Common.{◌≡◌, length, arith}
use Rattle.probe_order.proofs.Looks.{number-pushed}
use Rattle.probe_order.proofs.columns.number_in.Goals as goal

pub returns-in_ok-push-in-Err : goal.returns-in_ok-push-in-Err
returns-in_ok-push-in-Err c =
    let changes = c.args.changes.now in
    let at : c.len-at.result ≡ length changes.items = omega (arith, c.len-at.ensures, changes.ok.0) in
    record { number = number-pushed changes.items c.push.new.self.items c.args.change c.len-at.result c.in_ok-push-in-Err.ensures.items at }
