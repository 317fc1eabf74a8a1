-- A put into both: the room is one less and the count one more, and what either stands for has one entry more.
use Rattle.std.proofs.Common.{◌≡◌, ◌+◌, ◌<◌, ◌^◌, ◌-◌, ℕ, sym, subst, arith}
use Rattle.probe_log.specs.Counts.{total_of}
use Rattle.kernel_core.specs.Counted.{CountedValue, StandsBoth}
use Rattle.kernel_core.proofs.Counting.{both-more}
use Rattle.kernel_core.proofs.counted.CountedKeeper.put.Goals as goal

one_more : (room room' total total' : ℕ) → room + total < 2 ^ 64 → room' + 1 ≡ room → total' < 2 ^ 64 → (2 ^ 64 - 1 - total') + 1 ≡ 2 ^ 64 - 1 - total → room' + total' < 2 ^ 64
one_more room room' total total' i a f b = omega arith

pub invariant_of-self : goal.invariant_of-self
invariant_of-self g c =
    one_more (g.K.Keeper.room_of c.self.inside.keeper) (g.K.Keeper.room_of c.put.new.self) (total_of c.self.inside.tally) (total_of c.put-2.new.self)
    c.self.invariant c.put.ensures.room (subst (λ (total : ℕ). total < 2 ^ 64) c.total-total.ensures.whys c.total-total.type_inv) c.put-2.ensures.room

pub returns-clause-entry : goal.returns-clause-entry
returns-clause-entry g c log given =
    let H : CountedValue g.row.K.Denot → Type 0 = λ v. StandsBoth g.K.Keeper.stands v log in
    both-more g.K.Keeper.stands _ _ c.args.probe c.put.ensures.entry c.put-2.ensures.entry log (subst H (sym c.self.view_is) given)
