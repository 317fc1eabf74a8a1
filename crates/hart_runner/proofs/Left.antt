-- What the workers leave, over the order of the board.
use Rattle.std.proofs.Common.{◌≡◌, ℕ, ◌≤◌, ◌^◌, List, length, map, slice_get, Some, refl, sym, ap, ◌∙◌, subst, arith}
use Rattle.std.proofs.lemmas.Option.{slice_get_within}
use Rattle.hart_model.specs.HartState.{HartState}
use Rattle.core_model.specs.declared.loaded.Loaded.{Loaded}
use Rattle.core_model.specs.Board.{BoardState}
use Rattle.core_model.specs.Core.{CoreState}
use Rattle.core_model.specs.KernelWords.{kernel_code}
use Rattle.core_model.specs.Loaded.{IsLoaded, action_bound_of}
use Rattle.core_model.specs.Orders.{coarse_after, fine_of}
use Rattle.core_invariant.specs.KernelStates.{emitted_parts}
use Rattle.core_invariant.proofs.Proved.{emitted-is-kernel}
use Rattle.probe_log.specs.Counts.{Counts, StandFor, total_of, counts_of}
use Rattle.probe_log.proofs.CountsAddUp.{counts_add_up}
use Rattle.turn_lock.specs.Order.{IsWholeOrder}
use Rattle.order_laws.specs.CoarseRuns.{coarse_state, entries_by}
use Rattle.order_laws.proofs.AsEvents.{coarse-states}
use Rattle.order_laws.proofs.WholeShares.{shares-whole}
use Rattle.order_laws.proofs.LegalOrders.{legal-orders}
use Rattle.kernel_core.specs.declared.snapshot.TaskState.{TaskState}
use Rattle.kernel_core.specs.declared.snapshot.Snapshot.{Snapshot}
use Rattle.resume_laws.specs.Parts.{core_of_parts}
use Rattle.kernel_core.specs.SnapshotNow.{snapshot_from}
use Rattle.kernel_core.specs.Snapshots.{states_from, snapshot_of}
use Rattle.kernel_core.proofs.Reported.{states-same}
use Rattle.hart_runner.specs.declared.receipt.Receipt.{Receipt}
use Rattle.hart_runner.specs.declared.remains.Remains.{Remains}
use Rattle.hart_runner.specs.CoreBoards.{IsBoardOf}
use Rattle.hart_runner.specs.Receipts.{IsReceiptOf}
use Rattle.hart_runner.specs.Working.{IsWorkerOf}
use Rattle.hart_runner.specs.Remains.{AreTalliesOf, AreReceiptsOf, AreRemainsOf, core_left, entries_of_harts}
use Rattle.hart_runner.proofs.LegalRuns.{run-kept, entries-short}
use Rattle.hart_runner.proofs.Pushed.{Each, item-of, same-items, at-map}
use Rattle.hart_runner.proofs.Sums.{counts-of-harts}
use Rattle.hart_runner.proofs.Turned.{worker-stays, receipt-stays, board-order}

-- what one worker left, over the order that it has seen
pub record IsOneLeft (loaded : Loaded) (number : ℕ) (seen : List ℕ) (h : HartState) (tally : Counts) (r : Receipt) : Type 0 where
  pub worker : IsWorkerOf loaded number seen h tally
  pub receipt : IsReceiptOf loaded seen number r

module _ {X : Type 0} (seen_of : X → List ℕ) (loaded : Loaded) (fits : IsLoaded loaded) (left : Remains) (passes : List X)
    (each : Each (λ i h t p r. IsOneLeft loaded i (seen_of p) h t r) left.harts left.tallies passes left.receipts)
    (hart_count : length left.harts ≡ loaded.harts) (tally_count : length left.tallies ≡ loaded.harts)
    (pass_count : length passes ≡ loaded.harts) (receipt_count : length left.receipts ≡ loaded.harts)
    (order : List ℕ) (board : IsBoardOf loaded left.board order) (whole : IsWholeOrder order (map seen_of passes)) where
  one-left : (i : ℕ) (h : HartState) (t : Counts) (r : Receipt) → slice_get left.harts i ≡ Some h → slice_get left.tallies i ≡ Some t
      → slice_get left.receipts i ≡ Some r → IsOneLeft loaded i order h t r
  one-left i h t r eh et er =
      let low = slice_get_within left.harts i h eh in
      let pass = item-of passes i (omega (arith, low, hart_count, pass_count)) in
      let one = each i h t pass.0 r eh et pass.1 er in
      let known = whole.known i (seen_of pass.0) (at-map seen_of passes i pass.0 pass.1) in
      record {
        worker = worker-stays loaded fits i (seen_of pass.0) order known board.legal h t one.worker;
        receipt = receipt-stays loaded fits i (seen_of pass.0) order known r one.receipt;
      }

  core-is : (coarse_state loaded kernel_code order).core ≡ coarse_after loaded kernel_code order
  core-is = coarse-states loaded kernel_code order

  hart-there : (i : ℕ) (h : HartState) → slice_get left.harts i ≡ Some h → slice_get (coarse_after loaded kernel_code order).harts i ≡ Some h
  hart-there i h eh =
      let low = slice_get_within left.harts i h eh in
      let t = item-of left.tallies i (omega (arith, low, hart_count, tally_count)) in
      let r = item-of left.receipts i (omega (arith, low, hart_count, receipt_count)) in
      let one = (one-left i h t.0 r.0 eh t.1 r.1).worker in
      ap (λ (c : CoreState). slice_get c.harts i) (sym core-is) ∙ one.is_share.hart ∙ ap (λ (x : HartState). Some x) (sym one.hart)

  harts-there : left.harts ≡ (coarse_after loaded kernel_code order).harts
  harts-there =
      let kept = run-kept emitted_parts emitted-is-kernel loaded fits order board.legal in
      let count : length (coarse_state loaded kernel_code order).core.harts ≡ loaded.harts = kept.core.hart_count in
      let there = ap (λ (c : CoreState). length c.harts) core-is in
      same-items left.harts (coarse_after loaded kernel_code order).harts (hart_count ∙ sym count ∙ there) hart-there

  tallies-there : AreTalliesOf (coarse_after loaded kernel_code order).log left.tallies
  tallies-there i t et =
      let low = slice_get_within left.tallies i t et in
      let h = item-of left.harts i (omega (arith, low, hart_count, tally_count)) in
      let r = item-of left.receipts i (omega (arith, low, tally_count, receipt_count)) in
      let one = (one-left i h.0 t r.0 h.1 et r.1).worker in
      one.counts ∙ ap counts_of (sym one.is_share.entries ∙ ap (λ (c : CoreState). entries_by i c.log) core-is)

  receipts-there : AreReceiptsOf loaded order left.receipts
  receipts-there i r er =
      let low = slice_get_within left.receipts i r er in
      let h = item-of left.harts i (omega (arith, low, hart_count, receipt_count)) in
      let t = item-of left.tallies i (omega (arith, low, tally_count, receipt_count)) in
      (one-left i h.0 t.0 r h.1 t.1 er).receipt

  pub remains-there : AreRemainsOf loaded left
  remains-there =
      let own = sym (board-order loaded fits order left.board board) in
      let B : List ℕ → Type 0 = λ o. IsBoardOf loaded left.board o in
      let H : List ℕ → Type 0 = λ o. left.harts ≡ (coarse_after loaded kernel_code o).harts in
      let T : List ℕ → Type 0 = λ o. AreTalliesOf (coarse_after loaded kernel_code o).log left.tallies in
      let R : List ℕ → Type 0 = λ o. AreReceiptsOf loaded o left.receipts in
      record {
        board = subst B own board;
        harts = subst H own harts-there;
        tallies = subst T own tallies-there;
        tally_count = tally_count;
        receipts = subst R own receipts-there;
        receipt_count = receipt_count;
      }

-- THE WHOLE, of what is left
module _ (loaded : Loaded) (fits : IsLoaded loaded) (left : Remains) (are : AreRemainsOf loaded left) where
  abbrev order : List ℕ
  order = left.board.lists.order

  abbrev core : CoreState
  core = core_left loaded left

  pub tallies-few : length left.tallies ≤ 8
  tallies-few = let count = are.tally_count in let most = fits.limits.harts_high in omega (arith, count, most)

  pub tally-small : (i : ℕ) (t : Counts) → slice_get left.tallies i ≡ Some t → total_of t ≤ 2 ^ 60
  tally-small i t et =
      let stands = are.tallies i t et in
      let total : total_of t ≡ length (entries_by i core.log) = (counts_add_up t (entries_by i core.log) stands).whys in
      let short = entries-short emitted_parts emitted-is-kernel loaded fits order are.board.legal i in
      let same = ap (λ (c : CoreState). length (entries_by i c.log)) (coarse-states loaded kernel_code order) in
      omega (arith, total, short, same)

  pub harts-few : length left.harts ≤ 8
  harts-few =
      let kept = run-kept emitted_parts emitted-is-kernel loaded fits order are.board.legal in
      let count : length (coarse_state loaded kernel_code order).core.harts ≡ loaded.harts = kept.core.hart_count in
      let there = ap (λ (c : CoreState). length c.harts) (coarse-states loaded kernel_code order) in
      let same = ap (λ (hs : List HartState). length hs) are.harts in
      let most = fits.limits.harts_high in
      omega (arith, count, there, same, most)

  snapshot-parts : {h k : ℕ} {o p : List ℕ} {a b : List TaskState} {x y : Counts} → h ≡ k → o ≡ p → a ≡ b → x ≡ y
      → (let s : Snapshot = record { harts = h; order = o; tasks = a; tally = x } in s) ≡ record { harts = k; order = p; tasks = b; tally = y }
  snapshot-parts e f g i = rw (e, f, g, i) refl

  pub snapshot-is : (tally : Counts) → StandFor tally (entries_of_harts (length left.tallies) core.log)
      → snapshot_from left.board.lists left.harts (length loaded.tasks) tally ≡ snapshot_of (length loaded.tasks) core
  snapshot-is tally stands =
      let whole = shares-whole emitted_parts emitted-is-kernel loaded fits (fine_of loaded kernel_code order) in
      let sum : tally ≡ counts_of core.log =
      stands ∙ ap (λ (n : ℕ). counts_of (entries_of_harts n core.log)) are.tally_count ∙ counts-of-harts core.log loaded.harts whole in
      let n = length loaded.tasks in
      let parts : core_of_parts left.board.lists left.harts ≡ core_of_parts core.board core.harts =
      ap (λ (b : BoardState). core_of_parts b left.harts) are.board.board ∙ ap (λ (hs : List HartState). core_of_parts core.board hs) are.harts in
      snapshot-parts (ap (λ (hs : List HartState). length hs) are.harts) (ap (λ (b : BoardState). b.order) are.board.board)
      (ap (λ (c : CoreState). states_from c 0 n) parts ∙ states-same core 0 n) sum

  pub order-bounded : length order ≤ action_bound_of loaded
  order-bounded = legal-orders emitted_parts emitted-is-kernel loaded fits order are.board.legal
