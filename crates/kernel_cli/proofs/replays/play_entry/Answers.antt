-- An entry that isn't legal, one that is run, and one whose log has no room.
use Rattle.std.proofs.Common.{◌≡◌, ◌<◌, true, false, is_some, length, ap, arith}
use Rattle.kernel_cli.specs.Playing.{told_order}
use Rattle.kernel_core.specs.PacedHistory.{has_stopped_at, is_above_before_action}
use Rattle.kernel_cli.proofs.Along.{count_is, missing, stopped, legal_now, has_actions, ends_bad, ends_full, room_is, told_now, goes_on, passes, fails}
use Rattle.kernel_cli.proofs.replays.play_entry.Goals.{then-hart-harts-via-then-hart-harts, then-hart-harts-via-else-hart-harts+then-not-goes_on}
use Rattle.kernel_cli.proofs.replays.play_entry.Goals as goal

pub returns-then-hart-harts-clause-end : goal.returns-then-hart-harts-clause-end
returns-then-hart-harts-clause-end g c loaded most rest s =
    let along = c.requires.along in
    let count = count_is g.K.Keeper.stands g.K.Keeper.room_of along.2 along.0 c.args.at c.args.hart along.3 c.args.core.now along.4 in
    let asked = along.1 in
    let harts = count_is g.K.Keeper.stands g.K.Keeper.room_of most loaded c.args.at c.args.hart rest c.args.core.now s in
    elim c.then-hart-harts.branch [
      | then-hart-harts-via-then-hart-harts w ↦
          (let high = w.if-hart-harts.true in
          ends_bad g.K.Keeper.stands g.K.Keeper.room_of most loaded c.args.at c.args.hart rest c.args.core.now s
          (missing g.K.Keeper.stands g.K.Keeper.room_of most loaded c.args.at c.args.hart rest c.args.core.now s (omega (arith, high, count, asked, harts))))
      | then-hart-harts-via-else-hart-harts+then-not-goes_on w ↦
          (let low = w.if-hart-harts.false in
          let here : c.args.hart < length c.args.core.now.run.harts = omega (arith, low, count, asked) in
          ends_bad g.K.Keeper.stands g.K.Keeper.room_of most loaded c.args.at c.args.hart rest c.args.core.now s
          (stopped g.K.Keeper.stands g.K.Keeper.room_of most loaded c.args.at c.args.hart rest c.args.core.now s here
          (fails w.goes_on.result (has_stopped_at c.args.core.now c.args.hart) w.goes_on.ensures.goes_on w.if-not-goes_on.true)))
    ]

pub to_action_within-requires-clause-hart : goal.to_action_within-requires-clause-hart
to_action_within-requires-clause-hart g c =
    let along = c.requires.along in
    let count = count_is g.K.Keeper.stands g.K.Keeper.room_of along.2 along.0 c.args.at c.args.hart along.3 c.args.core.now along.4 in
    let asked = along.1 in
    let low = c.if-hart-harts.false in
    omega (arith, low, count, asked)

pub to_action_within-requires-clause-actions : goal.to_action_within-requires-clause-actions
to_action_within-requires-clause-actions g c =
    let along = c.requires.along in
    has_actions g.K.Keeper.stands g.K.Keeper.room_of along.2 along.0 c.args.at c.args.hart along.3 c.args.core.now along.4

pub returns-in-Some-clause-next : goal.returns-in-Some-clause-next
returns-in-Some-clause-next g c loaded most rest s =
    let along = c.requires.along in
    let count = count_is g.K.Keeper.stands g.K.Keeper.room_of along.2 along.0 c.args.at c.args.hart along.3 c.args.core.now along.4 in
    let asked = along.1 in
    let low = c.if-hart-harts.false in
    let here : c.args.hart < length c.args.core.now.run.harts = omega (arith, low, count, asked) in
    let told = told_order loaded s.done in
    let is = told_now g.K.Keeper.stands g.K.Keeper.room_of most loaded c.args.at c.args.hart rest c.args.core.now s in
    let fits = room_is g.K.Keeper.stands g.K.Keeper.room_of most loaded c.args.at c.args.hart rest c.args.core.now s in
    let goes = passes c.goes_on.result (has_stopped_at c.args.core.now c.args.hart) c.goes_on.ensures.goes_on c.if-not-goes_on.false in
    let legal = legal_now g.K.Keeper.stands g.K.Keeper.room_of most loaded c.args.at c.args.hart rest c.args.core.now s here goes in
    let some : is_some c.to_action_within.result ≡ true = ap (λ o. is_some o) c.in-Some.is in
    let below = passes (is_some c.to_action_within.result) (is_above_before_action most told c.args.hart) (c.to_action_within.ensures.none told most is fits) some in
    goes_on g.K.Keeper.stands g.K.Keeper.room_of most loaded c.args.at c.args.hart rest c.args.core.now s c.to_action_within.new.self legal below
    (c.in-Some.ensures.told told is) (c.in-Some.ensures.keeper told is) c.to_action_within.ensures.actions (c.in-Some.ensures.room told is)

pub returns-in-None-clause-end : goal.returns-in-None-clause-end
returns-in-None-clause-end g c loaded most rest s =
    let along = c.requires.along in
    let count = count_is g.K.Keeper.stands g.K.Keeper.room_of along.2 along.0 c.args.at c.args.hart along.3 c.args.core.now along.4 in
    let asked = along.1 in
    let low = c.if-hart-harts.false in
    let here : c.args.hart < length c.args.core.now.run.harts = omega (arith, low, count, asked) in
    let told = told_order loaded s.done in
    let is = told_now g.K.Keeper.stands g.K.Keeper.room_of most loaded c.args.at c.args.hart rest c.args.core.now s in
    let fits = room_is g.K.Keeper.stands g.K.Keeper.room_of most loaded c.args.at c.args.hart rest c.args.core.now s in
    let goes = passes c.goes_on.result (has_stopped_at c.args.core.now c.args.hart) c.goes_on.ensures.goes_on c.if-not-goes_on.false in
    let legal = legal_now g.K.Keeper.stands g.K.Keeper.room_of most loaded c.args.at c.args.hart rest c.args.core.now s here goes in
    let none : is_some c.to_action_within.result ≡ false = ap (λ o. is_some o) c.in-None.is in
    ends_full g.K.Keeper.stands g.K.Keeper.room_of most loaded c.args.at c.args.hart rest c.args.core.now s legal
    (fails (is_some c.to_action_within.result) (is_above_before_action most told c.args.hart) (c.to_action_within.ensures.none told most is fits) none)
