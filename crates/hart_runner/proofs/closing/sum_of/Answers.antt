-- One tally more.
use Rattle.std.proofs.Common.{◌≡◌, ◌≤◌, ◌<◌, ◌+◌, ◌*◌, ◌^◌, ◌∙◌, ℕ, suc, length, slice_get, Some, sym, ap, subst, arith}
use Rattle.std.proofs.lemmas.Option.{slice_get-get_or}
use Rattle.probe_log.specs.Counts.{Counts, StandFor, total_of}
use Rattle.order_laws.specs.CoarseRuns.{entries_by}
use Rattle.hart_runner.specs.Remains.{entries_of_harts}
use Rattle.hart_runner.proofs.closing.sum_of.Goals as goal

added-small : (sum other after : Counts) (index : ℕ) → total_of after ≡ total_of sum + total_of other → total_of other ≤ 2 ^ 60
    → total_of sum ≤ 1152921504606846976 * index → total_of after ≤ 1152921504606846976 * (index + 1)
added-small sum other after index adds small before = omega (arith, adds, small, before)

pub loop-tally-preserved : goal.loop-tally-preserved
loop-tally-preserved c =
    let tallies = c.args.tallies.now in
    let i = c.loop-tally.tally-index in
    let item : Counts = c.tally-item.result in
    let low : i < length tallies = c.loop-tally-test.true in
    let here : slice_get tallies i ≡ Some item = slice_get-get_or tallies i item low ∙ ap (λ (t : Counts). Some t) (sym c.tally-item.is) in
    let small : total_of item ≤ 2 ^ 60 = subst (λ (t : Counts). total_of t ≤ 2 ^ 60) (sym c.tally-item.is) (c.requires.small i item low) in
    let one : i + 1 ≡ suc i = omega arith in
    record {
      small = added-small c.loop-tally.sum item c.add.new.self i (ap total_of c.add.ensures.counts ∙ (omega arith)) small c.loop-tally.invariant.small;
      stands = λ log are. subst (λ (n : ℕ). StandFor c.add.new.self (entries_of_harts n log)) (sym one)
          (c.add.ensures.logs (entries_of_harts i log) (entries_by i log) (c.loop-tally.invariant.stands log are) (are i item here));
    }

pub returns : goal.returns
returns c =
    let end : c.loop-tally.tally-index ≡ length c.args.tallies.now = omega arith in
    record {
      sum = λ log are. subst (λ (n : ℕ). StandFor c.loop-tally.sum (entries_of_harts n log)) end (c.loop-tally.invariant.stands log are);
    }
