-- Hart 0 goes on by one entry of its order, or has found nothing.
use Rattle.std.proofs.Common.{◌≡◌, [], ◌∷◌, ◌++◌, ◌-◌, ◌+◌, ◌<◌, length, length-append, arith}
use Rattle.kernel_core.specs.PacedHistory.{ordered, has_stopped_at}
use Rattle.kernel_cli.proofs.Along.{passes, fails}
use Rattle.kernel_cli.proofs.Drilling.{boots, exists, order_is, few, has_actions, has_room, goes_on, ends}
use Rattle.kernel_cli.proofs.drills.drill_core.Goals as goal

pub loop-core-init : goal.loop-core-init
loop-core-init g c = (
  [],
  boots g.K.Keeper.stands g.K.Keeper.room_of c.args.kernel c.args.loaded.now c.requires.harts c.requires.loaded c.args.keeper c.in_ok-core.core c.in_ok-core.ensures.paced c.in_ok-core.ensures.keeper
      c.requires.empty c.in_ok-core.ensures.actions c.requires.room,
)

pub to_action-action-requires-clause-hart : goal.to_action-action-requires-clause-hart
to_action-action-requires-clause-hart g c =
    let i = c.loop-core.invariant in
    exists g.K.Keeper.stands g.K.Keeper.room_of c.args.kernel c.args.loaded.now c.requires.harts i.0 c.loop-core.core i.1

pub to_action-action-requires-clause-actions : goal.to_action-action-requires-clause-actions
to_action-action-requires-clause-actions g c =
    let i = c.loop-core.invariant in
    let goes = passes c.goes_on.result (has_stopped_at c.loop-core.core 0) c.goes_on.ensures.goes_on c.loop-core-test.true in
    has_actions g.K.Keeper.stands g.K.Keeper.room_of c.args.kernel c.args.loaded.now c.requires.harts i.0 c.loop-core.core i.1 goes

pub to_action-action-requires-clause-room : goal.to_action-action-requires-clause-room
to_action-action-requires-clause-room g c =
    let i = c.loop-core.invariant in
    let goes = passes c.goes_on.result (has_stopped_at c.loop-core.core 0) c.goes_on.ensures.goes_on c.loop-core-test.true in
    has_room g.K.Keeper.stands g.K.Keeper.room_of c.args.kernel c.args.loaded.now c.requires.harts i.0 c.loop-core.core i.1 goes

pub loop-core-preserved : goal.loop-core-preserved
loop-core-preserved g c =
    let i = c.loop-core.invariant in
    let goes = passes c.goes_on.result (has_stopped_at c.loop-core.core 0) c.goes_on.ensures.goes_on c.loop-core-test.true in
    let told = ordered c.args.loaded.now c.args.kernel i.0 in (
      i.0 ++ 0 ∷ [],
      goes_on g.K.Keeper.stands g.K.Keeper.room_of c.args.kernel c.args.loaded.now c.requires.harts i.0 c.loop-core.core i.1 c.to_action-action.new.self goes
          (c.to_action-action.ensures.told told i.1.core) (c.to_action-action.ensures.keeper told i.1.core) c.to_action-action.ensures.actions
          c.to_action-action.ensures.few,
    )

pub loop-core-smaller : goal.loop-core-smaller
loop-core-smaller g c =
    let i = c.loop-core.invariant in
    let goes = passes c.goes_on.result (has_stopped_at c.loop-core.core 0) c.goes_on.ensures.goes_on c.loop-core-test.true in
    let told = ordered c.args.loaded.now c.args.kernel i.0 in
    let next = goes_on g.K.Keeper.stands g.K.Keeper.room_of c.args.kernel c.args.loaded.now c.requires.harts i.0 c.loop-core.core i.1 c.to_action-action.new.self goes
    (c.to_action-action.ensures.told told i.1.core) (c.to_action-action.ensures.keeper told i.1.core) c.to_action-action.ensures.actions
    c.to_action-action.ensures.few in
    let less = few g.K.Keeper.stands g.K.Keeper.room_of c.args.kernel c.args.loaded.now c.requires.harts i.0 c.loop-core.core i.1 goes in
    let now : length c.loop-core.core.run.board.lists.order ≡ length i.0 =
    order_is g.K.Keeper.stands g.K.Keeper.room_of c.args.kernel c.args.loaded.now c.requires.harts i.0 c.loop-core.core i.1 in
    let later : length c.to_action-action.new.self.run.board.lists.order ≡ length (i.0 ++ 0 ∷ []) =
    order_is g.K.Keeper.stands g.K.Keeper.room_of c.args.kernel c.args.loaded.now c.requires.harts (i.0 ++ 0 ∷ []) c.to_action-action.new.self next in
    let more : length (i.0 ++ 0 ∷ []) ≡ length i.0 + 1 = length-append i.0 (0 ∷ []) in
    let shrinks : 1048576 - length c.to_action-action.new.self.run.board.lists.order < 1048576 - length c.loop-core.core.run.board.lists.order =
    omega (arith, less, now, later, more) in
    shrinks

pub returns : goal.returns
returns g c =
    let i = c.loop-core.invariant in
    let stop = fails c.goes_on.result (has_stopped_at c.loop-core.core 0) c.goes_on.ensures.goes_on c.loop-core-test.false in
    record { drilled = ends g.K.Keeper.stands g.K.Keeper.room_of c.args.kernel c.args.loaded.now c.requires.harts i.0 c.loop-core.core i.1 stop }
