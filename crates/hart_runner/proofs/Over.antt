-- Where no worker wanted memory, all tasks have ended.
use Rattle.std.proofs.Common.{◌≡◌, ℕ, zero, suc, ◌+◌, ◌<◌, ◌≤◌, ◌⊎◌, inl, inr, List, [], ◌∷◌, ◌++◌, length, get_or, slice_get, true, Option, Some, None, IsSome, refl, sym, ap, ◌∙◌, subst, arith, append_assoc}
use Rattle.std.specs.Prelude.{All, find, option_map, ◌==◌}
use Rattle.std.proofs.lemmas.List.Elements.{All-nil, All-cons}
use Rattle.hart_model.specs.Context.{DoneState}
use Rattle.hart_model.specs.HartState.{HartState}
use Rattle.core_model.specs.declared.home.Home.{Home}
use Rattle.core_model.specs.declared.home.Home.TheVariants.{Ended}
use Rattle.core_model.specs.declared.loaded.Loaded.{Loaded}
use Rattle.core_model.specs.Board.{BoardState}
use Rattle.core_model.specs.Core.{CoreState}
use Rattle.core_model.specs.KernelWords.{kernel_code}
use Rattle.core_model.specs.Loaded.{IsLoaded}
use Rattle.core_model.specs.Orders.{boot_pace, IsLegal}
use Rattle.core_model.proofs.Lists.{some-is}
use Rattle.core_invariant.specs.KernelStates.{emitted_parts}
use Rattle.core_invariant.proofs.Proved.{emitted-is-kernel}
use Rattle.order_laws.specs.CoarseRuns.{coarse_state}
use Rattle.ended_laws.specs.Ending.{HaveAllStopped, IsOver}
use Rattle.ended_laws.proofs.Quiet.{home-is-end, stopped-over}
use Rattle.ended_laws.proofs.Stopping.{empty-stops}
use Rattle.kernel_core.specs.declared.snapshot.TaskState.{TaskState}
use Rattle.resume_laws.specs.Parts.{core_of_parts}
use Rattle.kernel_core.proofs.Reported.{states-same}
use Rattle.kernel_core.specs.Snapshots.{state_of_done, state_at, state_of, states_from}
use Rattle.hart_runner.specs.declared.receipt.Receipt.{Receipt}
use Rattle.hart_runner.specs.declared.receipt.Cause.{Cause}
use Rattle.hart_runner.specs.declared.receipt.Cause.TheVariants.{Empty, Memory}
use Rattle.hart_runner.specs.declared.remains.Remains.{Remains}
use Rattle.hart_runner.specs.Receipts.{FoundNothing, EndsFor, IsReceiptOf}
use Rattle.hart_runner.specs.Remains.{AreRemainsOf, core_left}
use Rattle.hart_runner.specs.Finishing.{IsRetired}
use Rattle.hart_runner.proofs.Pushed.{item-of}

-- RECEIPTS: either all are of empty takes, or one is of want of memory
abbrev pub AreAllEmpty : List Receipt → Type 0
AreAllEmpty receipts = (hart : ℕ) (r : Receipt) → slice_get receipts hart ≡ Some r → r.cause ≡ Empty

all-empty : (r : Receipt) (rs : List Receipt) → r.cause ≡ Empty → AreAllEmpty rs → AreAllEmpty (r ∷ rs)
all-empty r rs first rest zero x e = ap (λ (y : Receipt). y.cause) (sym (some-is e)) ∙ first
all-empty r rs first rest (suc i) x e = rest i x e

one-more : (r : Receipt) (rs : List Receipt) (cause : Cause) → r.cause ≡ cause → AreAllEmpty rs ⊎ ((hart : ℕ) × IsRetired rs hart)
    → AreAllEmpty (r ∷ rs) ⊎ ((hart : ℕ) × IsRetired (r ∷ rs) hart)
one-more r rs Memory is rest = inr (0, record { receipt = r; at = refl; cause = is })
one-more r rs Empty is (inl all) = inl (all-empty r rs is all)
one-more r rs Empty is (inr some) = inr (suc some.0, record { receipt = some.1.receipt; at = some.1.at; cause = some.1.cause })

empty-or-retired : (rs : List Receipt) → AreAllEmpty rs ⊎ ((hart : ℕ) × IsRetired rs hart)
empty-or-retired [] = inl (λ hart r e. absurd (cc e))
empty-or-retired (r ∷ rs) = one-more r rs r.cause refl (empty-or-retired rs)

-- STATES: each task of a board that is over has its end
found : (o : Option DoneState) → option_map (λ (d : DoneState). Ended) o ≡ Some Ended → IsSome (state_of_done o).end
found None e = absurd (cc e)
found (Some d) e = refl

module _ (tasks : ℕ) (c : CoreState) (over : IsOver tasks c.board) where
  has-end : (t : ℕ) → t < tasks → IsSome (state_of c t).end
  has-end t low =
      let ended = over.ended t low in
      let end = home-is-end c.board t over.waiting over.ready over.out in
      let P : Option Home → Type 0 = λ home. IsSome (state_at c t home).end in
      subst P (sym ended) (found (find (λ (done : DoneState). done.task_no == t) c.board.ended) (sym end ∙ ended))

  pub have-ends : (first more : ℕ) → first + more ≤ tasks → All (λ (task : TaskState). IsSome task.end) (states_from c first more)
  have-ends first zero low = All-nil (λ (task : TaskState). IsSome task.end)
  have-ends first (suc more) low =
      All-cons (λ (task : TaskState). IsSome task.end) (state_of c first) (states_from c (first + 1) more) (has-end first (omega arith))
      (have-ends (first + 1) more (omega arith))

-- A RUN whose receipts are all of empty takes
module _ (loaded : Loaded) (fits : IsLoaded loaded) (left : Remains) (are : AreRemainsOf loaded left) where
  abbrev order : List ℕ
  order = left.board.lists.order

  have-stopped : AreAllEmpty left.receipts → HaveAllStopped loaded.harts (coarse_state loaded kernel_code order)
  have-stopped all hart low =
      let count = are.receipt_count in
      let r = item-of left.receipts hart (omega (arith, low, count)) in
      let receipt : IsReceiptOf loaded order hart r.0 = are.receipts hart r.0 r.1 in
      let E : Cause → Type 0 = λ cause. EndsFor loaded receipt.seen hart cause in
      let nothing : FoundNothing loaded receipt.seen hart = subst E (all hart r.0 r.1) receipt.cause in
      let parts : order ≡ nothing.before ++ hart ∷ receipt.rest =
      receipt.parts ∙ ap (λ (seen : List ℕ). seen ++ receipt.rest) nothing.last ∙ append_assoc nothing.before (hart ∷ []) receipt.rest in
      let L : List ℕ → Type 0 = λ o. IsLegal loaded kernel_code o in
      let S : List ℕ → Type 0 = λ o. (get_or (coarse_state loaded kernel_code o).paces hart boot_pace).has_stopped ≡ true in
      subst S (sym parts) (empty-stops emitted_parts emitted-is-kernel loaded fits nothing.before receipt.rest hart (subst L parts are.board.legal) nothing.action)

  all-ended : AreAllEmpty left.receipts → All (λ (task : TaskState). IsSome task.end) (states_from (core_left loaded left) 0 (length loaded.tasks))
  all-ended all =
      have-ends (length loaded.tasks) (core_left loaded left)
      (stopped-over emitted_parts emitted-is-kernel loaded fits order are.board.legal (have-stopped all)) 0 (length loaded.tasks) (omega arith)

  -- the states of a snapshot of what is left
  pub tasks-left : states_from (core_of_parts left.board.lists left.harts) 0 (length loaded.tasks)
      ≡ states_from (core_left loaded left) 0 (length loaded.tasks)
  tasks-left =
      let n = length loaded.tasks in
      let core = core_left loaded left in
      let parts : core_of_parts left.board.lists left.harts ≡ core_of_parts core.board core.harts =
      ap (λ (b : BoardState). core_of_parts b left.harts) are.board.board ∙ ap (λ (hs : List HartState). core_of_parts core.board hs) are.harts in
      ap (λ (c : CoreState). states_from c 0 n) parts ∙ states-same core 0 n

  -- Where a task hasn't ended, some worker wanted memory.
  pub one-retired : (All (λ (task : TaskState). IsSome task.end) (states_from (core_left loaded left) 0 (length loaded.tasks)) → ⊥)
      → (hart : ℕ) × IsRetired left.receipts hart
  one-retired unended = elim (empty-or-retired left.receipts) [
    | inl all ↦ absurd (unended (all-ended all))
    | inr some ↦ some
  ]
