-- The snapshot of what is left is that of the coarse run.
use Rattle.std.proofs.Common.{◌≡◌, ◌≤◌, ◌∙◌, ℕ, List, length, slice_get, get_or, All, IsSome, true≢false, sym, ap, subst, arith}
use Rattle.std.proofs.lemmas.Option.{slice_get-get_or}
use Rattle.hart_model.specs.HartState.{HartState}
use Rattle.core_model.specs.KernelWords.{kernel_code}
use Rattle.core_model.specs.Loaded.{action_bound_of}
use Rattle.core_model.specs.Orders.{coarse_after, IsLegal}
use Rattle.probe_log.specs.Counts.{Counts, counts_of}
use Rattle.kernel_core.specs.declared.snapshot.TaskState.{TaskState}
use Rattle.kernel_core.specs.declared.snapshot.Snapshot.{Snapshot}
use Rattle.kernel_core.specs.SnapshotNow.{snapshot_from}
use Rattle.kernel_core.specs.Snapshots.{states_from, snapshot_of}
use Rattle.hart_runner.specs.Remains.{AreTalliesOf, AreReceiptsOf, core_left, entries_of_harts}
use Rattle.hart_runner.proofs.Left.{tallies-few, tally-small, harts-few, snapshot-is, order-bounded}
use Rattle.hart_runner.specs.declared.receipt.Receipt.{Receipt}
use Rattle.hart_runner.specs.Finishing.{IsRetired}
use Rattle.hart_runner.proofs.Over.{tasks-left, one-retired}
use Rattle.hart_runner.proofs.closing.finish.Goals as goal

pub sum_of-tally-requires-clause-few : goal.sum_of-tally-requires-clause-few
sum_of-tally-requires-clause-few c =
    let few = tallies-few c.args.loaded.now c.requires.loaded c.args.left c.requires.remains in
    let same = ap (λ (ts : List Counts). length ts) c.as_slice.ensures.items in
    omega (arith, few, same)

pub sum_of-tally-requires-clause-small : goal.sum_of-tally-requires-clause-small
sum_of-tally-requires-clause-small c i d low =
    let tallies = c.as_slice.result.now in
    let here = ap (λ (ts : List Counts). slice_get ts i) (sym c.as_slice.ensures.items) ∙ slice_get-get_or tallies i d low in
    tally-small c.args.loaded.now c.requires.loaded c.args.left c.requires.remains i (get_or tallies i d) here

pub snapshot_of_parts-requires : goal.snapshot_of_parts-requires
snapshot_of_parts-requires c =
    let few = harts-few c.args.loaded.now c.requires.loaded c.args.left c.requires.remains in
    let same = ap (λ (hs : List HartState). length hs) c.as_slice-harts.ensures.items in
    record { few = omega (arith, few, same) }

pub returns-clause-finished : goal.returns-clause-finished
returns-clause-finished c =
    let loaded = c.args.loaded.now in
    let left = c.args.left in
    let remains = c.requires.remains in
    let s : Snapshot = c.in_ok-snapshot.snapshot in
    let tally : Counts = c.sum_of-tally.result in
    let log = (core_left loaded left).log in
    let T : List Counts → Type 0 = λ ts. AreTalliesOf log ts in
    let stands = c.sum_of-tally.ensures.sum log (subst T (sym c.as_slice.ensures.items) remains.tallies)
    ∙ ap (λ (ts : List Counts). counts_of (entries_of_harts (length ts) log)) c.as_slice.ensures.items in
    let is : s ≡ snapshot_from left.board.lists left.harts (length loaded.tasks) tally =
    c.in_ok-snapshot.ensures.snapshot
    ∙ ap (λ (hs : List HartState). snapshot_from left.board.lists hs c.len-tasks.result tally) c.as_slice-harts.ensures.items
    ∙ ap (λ (n : ℕ). snapshot_from left.board.lists left.harts n tally) c.len-tasks.ensures.length in
    let order : s.order ≡ left.board.lists.order = ap (λ (x : Snapshot). x.order) is in
    let L : List ℕ → Type 0 = λ o. IsLegal loaded kernel_code o in
    let A : List TaskState → Type 0 = λ ts. All (λ (task : TaskState). IsSome task.end) ts in
    let R : List ℕ → Type 0 = λ o. AreReceiptsOf loaded o left.receipts in
    let B : List ℕ → Type 0 = λ o. length o ≤ action_bound_of loaded in
    record {
      legal = subst L (sym order) remains.board.legal;
      snapshot = is
          ∙ snapshot-is loaded c.requires.loaded left remains tally stands
          ∙ ap (λ (o : List ℕ). snapshot_of (length loaded.tasks) (coarse_after loaded kernel_code o)) (sym order);
      ended = subst A c.as_slice-2.ensures.items (c.have_all_ended.ensures.test.0 c.if-not-have_all_ended.false);
      receipts = subst R (sym order) remains.receipts;
      count = remains.receipt_count;
      bounded = subst B (sym order) (order-bounded loaded c.requires.loaded left remains);
    }

pub first_retired-hart-requires-clause-some : goal.first_retired-hart-requires-clause-some
first_retired-hart-requires-clause-some c =
    let loaded = c.args.loaded.now in
    let left = c.args.left in
    let remains = c.requires.remains in
    let s : Snapshot = c.in_ok-snapshot.snapshot in
    let tally : Counts = c.sum_of-tally.result in
    let is : s ≡ snapshot_from left.board.lists left.harts (length loaded.tasks) tally =
    c.in_ok-snapshot.ensures.snapshot
    ∙ ap (λ (hs : List HartState). snapshot_from left.board.lists hs c.len-tasks.result tally) c.as_slice-harts.ensures.items
    ∙ ap (λ (n : ℕ). snapshot_from left.board.lists left.harts n tally) c.len-tasks.ensures.length in
    let A : List TaskState → Type 0 = λ ts. All (λ (task : TaskState). IsSome task.end) ts in
    let tasks : s.tasks ≡ states_from (core_left loaded left) 0 (length loaded.tasks) =
    ap (λ (x : Snapshot). x.tasks) is ∙ tasks-left loaded c.requires.loaded left remains in
    let unended : A (states_from (core_left loaded left) 0 (length loaded.tasks)) → ⊥ = λ all.
    (let yes = c.have_all_ended.ensures.test.1 (subst A (sym c.as_slice-2.ensures.items) (subst A (sym tasks) all)) in
    true≢false (sym yes ∙ c.if-not-have_all_ended.true)) in
    let R : List Receipt → Type 0 = λ rs. (hart : ℕ) × IsRetired rs hart in
    subst R (sym c.as_slice-then-not-have_all_ended.ensures.items) (one-retired loaded c.requires.loaded left remains unended)

pub returns-then-not-have_all_ended-clause-retired : goal.returns-then-not-have_all_ended-clause-retired
returns-then-not-have_all_ended-clause-retired c hart e =
    let loaded = c.args.loaded.now in
    let left = c.args.left in
    let remains = c.requires.remains in
    let same : c.first_retired-hart.result ≡ hart = cc e in
    let R : List Receipt → Type 0 = λ rs. IsRetired rs c.first_retired-hart.result in
    let retired : R left.receipts = subst R c.as_slice-then-not-have_all_ended.ensures.items c.first_retired-hart.ensures.retired in
    record {
      order = left.board.lists.order;
      receipts = left.receipts;
      legal = remains.board.legal;
      are = remains.receipts;
      count = remains.receipt_count;
      bounded = order-bounded loaded c.requires.loaded left remains;
      retired = subst (λ (n : ℕ). IsRetired left.receipts n) same retired;
    }
