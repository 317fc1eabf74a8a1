-- The tasks of a core, one after the other; and a snapshot doesn't look at the log.
use Rattle.std.proofs.Common.{◌≡◌, ◌<◌, ◌^◌, length, ℕ, zero, suc, ◌+◌, List, [], ◌∷◌, ◌++◌, refl, sym, ap, ◌∙◌, arith}
use Rattle.hart_model.specs.HartState.{HartState}
use Rattle.core_model.specs.declared.loaded.Loaded.{Loaded}
use Rattle.core_model.specs.Board.{BoardState}
use Rattle.core_model.specs.Core.{CoreState}
use Rattle.probe_log.specs.Counts.{Counts}
use Rattle.kernel_core.specs.declared.snapshot.Snapshot.{Snapshot}
use Rattle.kernel_core.specs.Running.{RunValue, IsRunKept, core_of_run}
use Rattle.kernel_core.specs.History.{History, CoreValue, IsCoreOf, core_of}
use Rattle.kernel_core.specs.SnapshotNow.{snapshot_now}
use Rattle.kernel_core.specs.declared.snapshot.TaskState.{TaskState}
use Rattle.kernel_core.specs.Snapshots.{state_of, states_from, snapshot_of}

one-more-state : (c : CoreState) (first count : ℕ) → states_from c first (suc count) ≡ states_from c first count ++ state_of c (first + count) ∷ []
one-more-state c first zero = let e : first + 0 ≡ first = omega arith in ap (λ n. state_of c n ∷ []) (sym e)
one-more-state c first (suc count) =
    let e : first + 1 + count ≡ first + suc count = omega arith in
    ap (λ ss. state_of c first ∷ ss) (one-more-state c (first + 1) count ∙ ap (λ n. states_from c (first + 1) count ++ state_of c n ∷ []) e)

-- one task more
pub states-more : (c : CoreState) (count : ℕ) → states_from c 0 (count + 1) ≡ states_from c 0 count ++ state_of c count ∷ []
states-more c count =
    let e : count + 1 ≡ suc count = omega arith in
    let f : 0 + count ≡ count = omega arith in
    ap (λ n. states_from c 0 n) e ∙ one-more-state c 0 count ∙ ap (λ n. states_from c 0 count ++ state_of c n ∷ []) f

-- the states of tasks don't hang on the log
pub states-same : (c : CoreState) (first count : ℕ) → states_from (record c { log = [] }) first count ≡ states_from c first count
states-same c first zero = refl
states-same c first (suc count) = ap (λ ss. state_of c first ∷ ss) (states-same c (first + 1) count)

-- A snapshot of a core that was told something is the snapshot of what it was told.
pub snapshot-told : {K : Type 0} (t : History) (c : CoreValue K) → IsCoreOf t c → snapshot_now c ≡ snapshot_of (length t.loaded.tasks) (core_of t)
snapshot-told t c is =
    let full : CoreState = core_of t in
    let bare : CoreState = record { board = full.board; harts = full.harts; log = [] } in
    let core : core_of_run c.run ≡ bare =
    ap (λ (b : BoardState). record { board = b; harts = c.run.harts; log = [] }) is.board ∙ ap (λ (hs : List HartState). record { board = full.board; harts = hs; log = [] }) is.harts in
    let tasks : states_from (core_of_run c.run) 0 c.tasks ≡ states_from full 0 (length t.loaded.tasks) =
    ap (λ (x : CoreState). states_from x 0 c.tasks) core ∙ states-same full 0 c.tasks ∙ ap (λ n. states_from full 0 n) is.tasks in
    snapshot-parts (ap (λ (hs : List HartState). length hs) is.harts) (ap (λ (b : BoardState). b.order) is.board) tasks is.counts
  where
    snapshot-parts : {h k : ℕ} {o p : List ℕ} {a b : List TaskState} {x y : Counts} → h ≡ k → o ≡ p → a ≡ b → x ≡ y → (let s : Snapshot = record { harts = h; order = o; tasks = a; tally = x } in s) ≡ record { harts = k; order = p; tasks = b; tally = y }
    snapshot-parts e f g i = rw (e, f, g, i) refl

-- the number of harts is a number of 32 bits
pub few-harts : (r : RunValue) (loaded : Loaded) → IsRunKept loaded r → length r.harts < 2 ^ 32
few-harts r loaded run =
    let same = run.kept.hart_count in
    let few = run.within.harts_high in omega (arith, same, few)
