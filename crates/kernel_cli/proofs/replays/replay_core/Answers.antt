-- The entries of the bundle's order, one after the other.
use Rattle.std.proofs.Common.{◌≡◌, ◌<◌, ◌-◌, ◌∙◌, length, refl, arith}
use Rattle.std.proofs.lemmas.Result.{err_from_is_err_and}
use Rattle.kernel_cli.specs.Scripts.{entries_each}
use Rattle.kernel_cli.proofs.Along.{boots, one_next, run_ends, place_below, ends_played}
use Rattle.kernel_cli.proofs.replays.replay_core.Goals as goal

pub loop-rest-init : goal.loop-rest-init
loop-rest-init g c =
    let room = c.requires.room in
    record {
      stands = boots g.K.Keeper.stands g.K.Keeper.room_of (g.K.Keeper.room_of c.args.keeper - entries_each) c.args.loaded.now c.requires.loaded c.args.keeper _ c.in_ok-core.core
          c.counts_are_lengths.ensures.law c.as_slice-rest.ensures.items c.in_ok-core.ensures.paced c.in_ok-core.ensures.keeper c.requires.empty
          (c.in_ok-core.ensures.actions ∙ c.entry_count.ensures.count) (omega (arith, room));
    }

pub play_entry-requires : goal.play_entry-requires
play_entry-requires g c =
    let test = c.loop-left-test.true in
    let some : 0 < c.loop-left.left = omega (arith, test) in
    record {
      along = (
        c.args.loaded.now,
        refl,
        _,
        _,
        one_next g.K.Keeper.stands g.K.Keeper.room_of _ c.args.loaded.now c.loop-left.at c.loop-left.left _ _ c.loop-left.core some c.loop-left.invariant.stands,
      );
    }

pub returns-in_err-play_entry : goal.returns-in_err-play_entry
returns-in_err-play_entry g c =
    let test = c.loop-left-test.true in
    let some : 0 < c.loop-left.left = omega (arith, test) in
    let next = one_next g.K.Keeper.stands g.K.Keeper.room_of _ c.args.loaded.now c.loop-left.at c.loop-left.left _ _ c.loop-left.core some c.loop-left.invariant.stands in
    let p = err_from_is_err_and c.from_residual-in_err-play_entry.result c.from_residual-in_err-play_entry.ensures.1 in
    rw (p.1, p.2) (record { replayed = c.in_err-play_entry.ensures.end c.args.loaded.now (g.K.Keeper.room_of c.args.keeper - entries_each) _ next })

pub overflow_add-at : goal.overflow_add-at
overflow_add-at g c =
    let test = c.loop-left-test.true in
    let some : 0 < c.loop-left.left = omega (arith, test) in
    let next = one_next g.K.Keeper.stands g.K.Keeper.room_of _ c.args.loaded.now c.loop-left.at c.loop-left.left _ _ c.loop-left.core some c.loop-left.invariant.stands in
    let place = place_below g.K.Keeper.stands g.K.Keeper.room_of _ c.args.loaded.now c.loop-left.at _ c.loop-left.core next in
    let count = c.counts_are_lengths.ensures.law.entries c.args.loaded.now.order in
    let high = c.requires.loaded.limits.order_high in
    omega (arith, place, count, high)

pub loop-left-preserved : goal.loop-left-preserved
loop-left-preserved g c =
    let test = c.loop-left-test.true in
    let some : 0 < c.loop-left.left = omega (arith, test) in
    let next = one_next g.K.Keeper.stands g.K.Keeper.room_of _ c.args.loaded.now c.loop-left.at c.loop-left.left _ _ c.loop-left.core some c.loop-left.invariant.stands in
    record { stands = c.in_ok-play_entry.ensures.next c.args.loaded.now _ _ next }

pub loop-rest-preserved : goal.loop-rest-preserved
loop-rest-preserved g c =
    let test = c.loop-left-test.false in
    let none : c.loop-left.left ≡ 0 = omega (arith, test) in
    record { stands = run_ends g.K.Keeper.stands g.K.Keeper.room_of _ c.args.loaded.now c.loop-left.at c.loop-left.left _ _ c.loop-left.core none c.loop-left.invariant.stands }

pub returns : goal.returns
returns g c =
    let below = c.in_default.len_below in
    let none : length c.loop-rest.rest.now < 1 = omega (arith, below) in
    record { replayed = ends_played g.K.Keeper.stands g.K.Keeper.room_of _ c.args.loaded.now c.loop-rest.at c.loop-rest.rest.now c.loop-rest.core none c.loop-rest.invariant.stands }
