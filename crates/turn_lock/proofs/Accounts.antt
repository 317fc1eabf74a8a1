-- The lock's books after each kind of step that changes them.
use Rattle.std.proofs.Common.{ℕ, ◌+◌, List, ◌++◌}
use Rattle.turn_lock.specs.Rule.{Account}

-- one more ticket was drawn
abbrev pub after_draw : Account → Account
after_draw a = record { order = a.order; next_ticket = a.next_ticket + 1; now_serving = a.now_serving; seats_made = a.seats_made; seats_joined = a.seats_joined }

-- one more turn has ended, which made these entries
abbrev pub after_turn : Account → List ℕ → Account
after_turn a entries = record { order = a.order ++ entries; next_ticket = a.next_ticket; now_serving = a.now_serving + 1; seats_made = a.seats_made; seats_joined = a.seats_joined }

-- one more seat was made
abbrev pub after_split : Account → Account
after_split a = record { order = a.order; next_ticket = a.next_ticket; now_serving = a.now_serving; seats_made = a.seats_made + 1; seats_joined = a.seats_joined }

-- one more seat was joined into seat 0
abbrev pub after_join : Account → Account
after_join a = record { order = a.order; next_ticket = a.next_ticket; now_serving = a.now_serving; seats_made = a.seats_made; seats_joined = a.seats_joined + 1 }
