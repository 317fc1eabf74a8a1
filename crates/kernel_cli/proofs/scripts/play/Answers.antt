-- The events of the bundle, one after the other.
use Rattle.std.proofs.Common.{◌≡◌, ◌<◌, ◌≤◌, sym, ◌∙◌, ap, arith, length}
use Rattle.kernel_cli.specs.Scripts.{entries_each}
use Rattle.kernel_cli.proofs.Playing.{boots, run_hart_exists, run_has_actions, run_goes_on, run_has_no_room, run_ends, ends_played, ends_below}
use Rattle.kernel_cli.proofs.scripts.play.Goals as goal

pub loop-rest-init : goal.loop-rest-init
loop-rest-init g c = record {
  stands = boots g.K.Keeper.stands g.K.Keeper.room_of c.args.loaded.now c.args.keeper _ c.in_ok-core.core c.counts_are_lengths.ensures.law c.as_slice-rest.ensures.items
      c.in_ok-core.ensures.told c.in_ok-core.ensures.keeper c.requires.empty (c.in_ok-core.ensures.actions ∙ c.event_count.ensures.count) c.requires.room;
}

pub returns-then-room-lt-ENTRIES_EACH-clause-none : goal.returns-then-room-lt-ENTRIES_EACH-clause-none
returns-then-room-lt-ENTRIES_EACH-clause-none g c =
    let test = c.loop-left-test.true in
    let some : 0 < c.loop-left.left = omega arith in
    let few = c.if-room-lt-ENTRIES_EACH.true in
    let same : c.room.result ≡ g.K.Keeper.room_of c.loop-left.core.log.keeper = c.room.ensures.value ∙ ap g.K.Keeper.room_of c.keeper.ensures.keeper in
    let none : g.K.Keeper.room_of c.loop-left.core.log.keeper < entries_each = omega arith in
    sym (run_has_no_room g.K.Keeper.stands g.K.Keeper.room_of _ c.args.loaded.now c.loop-left.left _ _ c.loop-left.core some c.loop-left.invariant.stands none)

pub apply-action-requires-clause-hart : goal.apply-action-requires-clause-hart
apply-action-requires-clause-hart g c =
    let test = c.loop-left-test.true in
    let some : 0 < c.loop-left.left = omega arith in
    run_hart_exists g.K.Keeper.stands g.K.Keeper.room_of _ c.args.loaded.now c.loop-left.left _ _ c.loop-left.core some c.requires.harts c.loop-left.invariant.stands

pub apply-action-requires-clause-actions : goal.apply-action-requires-clause-actions
apply-action-requires-clause-actions g c =
    let test = c.loop-left-test.true in
    let some : 0 < c.loop-left.left = omega arith in
    run_has_actions g.K.Keeper.stands g.K.Keeper.room_of _ c.args.loaded.now c.loop-left.left _ _ c.loop-left.core some c.loop-left.invariant.stands

pub loop-left-preserved : goal.loop-left-preserved
loop-left-preserved g c =
    let test = c.loop-left-test.true in
    let some : 0 < c.loop-left.left = omega arith in
    let enough = c.if-room-lt-ENTRIES_EACH.false in
    let same : c.room.result ≡ g.K.Keeper.room_of c.loop-left.core.log.keeper = c.room.ensures.value ∙ ap g.K.Keeper.room_of c.keeper.ensures.keeper in
    let fits : entries_each ≤ g.K.Keeper.room_of c.loop-left.core.log.keeper = omega arith in
    record {
      stands = run_goes_on g.K.Keeper.stands g.K.Keeper.room_of _ c.args.loaded.now c.loop-left.left _ _ c.loop-left.core _ some c.loop-left.invariant.stands fits c.apply-action.ensures.told c.apply-action.ensures.keeper c.apply-action.ensures.actions
          c.apply-action.ensures.room;
    }

pub returns-clause-none : goal.returns-clause-none
returns-clause-none g c =
    let below = c.in_default.len_below in
    let none : length c.loop-rest.rest.now < 1 = omega arith in
    sym (ends_below g.K.Keeper.stands g.K.Keeper.room_of _ c.args.loaded.now c.loop-rest.rest.now c.loop-rest.core none c.loop-rest.invariant.stands)

pub loop-rest-preserved : goal.loop-rest-preserved
loop-rest-preserved g c =
    let test = c.loop-left-test.false in
    let none : c.loop-left.left ≡ 0 = omega arith in
    record { stands = run_ends g.K.Keeper.stands g.K.Keeper.room_of _ c.args.loaded.now c.loop-left.left _ _ c.loop-left.core none c.loop-left.invariant.stands }

pub returns-clause-played : goal.returns-clause-played
returns-clause-played g c =
    let below = c.in_default.len_below in
    let none : length c.loop-rest.rest.now < 1 = omega arith in
    ends_played g.K.Keeper.stands g.K.Keeper.room_of _ c.args.loaded.now c.loop-rest.rest.now c.loop-rest.core none c.loop-rest.invariant.stands
