use Rattle.std.proofs.Common.{◌≡◌}
use Rattle.turn_lock.specs.Passes.{IsPassOf, pass_number}
use Rattle.unit_tables.proofs.seats.make_entries.Given as goal

abbrev pub invariant-loop-count : goal.invariant-loop-count
invariant-loop-count g l = IsPassOf l.lock l.pass × (pass_number l.pass ≡ pass_number l.initial.pass)
