-- Bodies and harts at boot, one after the other.
use Rattle.std.proofs.Common.{◌≡◌, ◌≤◌, ℕ, zero, suc, ◌+◌, List, [], ◌∷◌, ◌++◌, length, replicate, slice_get, Some, refl, sym, ap, subst, ◌∙◌, arith}
use Rattle.std.specs.List.{AllByRecursion}
use Rattle.isa_model.specs.declared.task.Task.{Task}
use Rattle.isa_model.specs.TaskPlaces.{IsValidTask}
use Rattle.hart_model.specs.Cells.{blank}
use Rattle.hart_model.specs.Context.{BodyState, fresh_body}
use Rattle.hart_model.specs.HartState.{HartState, boot_hart}
use Rattle.core_model.specs.Core.{bodies_from, harts_from, core_from}
use Rattle.probe_log.specs.Counts.{counts_of}
use Rattle.kernel_core.specs.History.{CoreValue, IsCoreOf, history_at_boot}
use Rattle.core_model.specs.declared.loaded.Loaded.{Loaded}
use Rattle.core_model.specs.Board.{BoardState, BoardWithSpare, boot_board}
use Rattle.core_model.specs.Loaded.{IsLoaded}
use Rattle.core_model.proofs.BandsInOrder.{bands-go-in-order}
use Rattle.core_invariant.specs.KernelStates.{KernelParts, IsKernel}
use Rattle.core_invariant.specs.Invariant.{IsCoreKept}
use Rattle.core_invariant.proofs.Boot.{each_valid, boot-kept}
use Rattle.core_invariant.proofs.Proved.{kernel-harts}
use Rattle.context_slot.specs.Fresh.{IsFresh}
use Rattle.resume_laws.proofs.Rests.{rest-from-boot}
use Rattle.kernel_core.specs.Kernels.{IsWholeKernel}
use Rattle.kernel_core.specs.Running.{IsRunKept, beyond}
use Rattle.ready_queue.specs.Bodies.{AreFreshFrom}

one-more-hart : (first count take : ℕ) → harts_from first (suc count) take ≡ harts_from first count take ++ boot_hart (first + count) take ∷ []
one-more-hart first zero take = let e : first + 0 ≡ first = omega arith in ap (λ n. boot_hart n take ∷ []) (sym e)
one-more-hart first (suc count) take =
    let e : first + 1 + count ≡ first + suc count = omega arith in
    ap (λ hs. boot_hart first take ∷ hs) (one-more-hart (first + 1) count take ∙ ap (λ n. harts_from (first + 1) count take ++ boot_hart n take ∷ []) e)

-- one hart more
pub harts-more : (count take : ℕ) → harts_from 0 (count + 1) take ≡ harts_from 0 count take ++ boot_hart count take ∷ []
harts-more count take =
    let e : count + 1 ≡ suc count = omega arith in
    let f : 0 + count ≡ count = omega arith in
    ap (λ n. harts_from 0 n take) e ∙ one-more-hart 0 count take ∙ ap (λ n. harts_from 0 count take ++ boot_hart n take ∷ []) f

replicate-length : {X : Type 0} (n : ℕ) (x : X) → length (replicate n x) ≡ n
replicate-length zero x = refl
replicate-length (suc n) x = ap suc (replicate-length n x)

body-fresh : (task_no : ℕ) (task : Task) → IsFresh (fresh_body task_no task)
body-fresh task_no task = ap (fresh_body task_no) (sym (ap (λ n. record task { data_len = n }) (replicate-length task.data_len blank)))

pub bodies-fresh : (task_no : ℕ) (tasks : List Task) → AreFreshFrom task_no (bodies_from task_no tasks)
bodies-fresh task_no [] = tt
bodies-fresh task_no (task ∷ tasks) = (refl, body-fresh task_no task, bodies-fresh (task_no + 1) tasks)

bodies-length : (task_no : ℕ) (tasks : List Task) → length (bodies_from task_no tasks) ≡ length tasks
bodies-length task_no [] = refl
bodies-length task_no (task ∷ tasks) = ap suc (bodies-length (task_no + 1) tasks)

-- the tasks of a loaded bundle are valid, one after the other
all-valid : (tasks : List Task) → ((i : ℕ) (task : Task) → slice_get tasks i ≡ Some task → IsValidTask task) → AllByRecursion IsValidTask tasks
all-valid [] each = tt
all-valid (task ∷ tasks) each = (each 0 task refl, all-valid tasks (λ i other is. each (suc i) other is))

module _ (loaded : Loaded) (is : IsLoaded loaded) where
  -- a band for each body, 0 or 1
  pub bands-each : (bodies : List BodyState) (bands : List ℕ) → bodies ≡ bodies_from 0 loaded.tasks → bands ≡ loaded.bands → length bands ≡ length bodies
  bands-each bodies bands bodies_are bands_are =
      ap (λ (xs : List ℕ). length xs) bands_are ∙ is.limits.band_each
      ∙ sym (ap (λ (bs : List BodyState). length bs) bodies_are ∙ bodies-length 0 loaded.tasks)

  pub tasks-valid : (k : KernelParts) → IsKernel k → (tasks : List Task) → tasks ≡ loaded.tasks → AllByRecursion IsValidTask tasks
  tasks-valid k kernel tasks same =
      subst (λ (ts : List Task). AllByRecursion IsValidTask ts) (sym same)
      (all-valid loaded.tasks (λ i task at. (each_valid k loaded is (kernel-harts k kernel loaded is) i task at).1))

  pub bodies-least : (bodies : List BodyState) → bodies ≡ bodies_from 0 loaded.tasks → 1 ≤ length bodies
  bodies-least bodies same =
      let few = is.limits.tasks_low in
      let long = ap (λ (bs : List BodyState). length bs) same ∙ bodies-length 0 loaded.tasks in omega (arith, few, long)

  pub bodies-most : (bodies : List BodyState) → bodies ≡ bodies_from 0 loaded.tasks → length bodies ≤ 32
  bodies-most bodies same =
      let few = is.limits.tasks_high in
      let long = ap (λ (bs : List BodyState). length bs) same ∙ bodies-length 0 loaded.tasks in omega (arith, few, long)

  -- a board and harts at boot are a core that is kept
  pub run-kept : (k : KernelParts) → IsKernel k → (board : BoardWithSpare) (harts : List HartState) (actions : ℕ)
      → board.lists ≡ boot_board loaded.slots (bodies_from 0 loaded.tasks) loaded.bands → harts ≡ harts_from 0 loaded.harts k.code.take → actions + beyond ≤ board.spare
      → IsRunKept loaded (record { board = board; harts = harts; kernel = k; actions = actions })
  run-kept k kernel board harts actions lists same room = record {
    within = is.limits;
    is_kernel = kernel;
    kept = (
        let B : BoardState → Type 0 = λ b. IsCoreKept k loaded (record { board = b; harts = harts; log = [] }) in
        let H : List HartState → Type 0 = λ hs. IsCoreKept k loaded (record { board = boot_board loaded.slots (bodies_from 0 loaded.tasks) loaded.bands; harts = hs; log = [] }) in
        subst B (sym lists) (subst H (sym same) (boot-kept k loaded is (kernel-harts k kernel loaded is))));
    room = omega (arith, room);
  }

-- a core with such a board and such harts, and with nothing counted, was told nothing yet
pub told-boot : {K : Type 0} (loaded : Loaded) (k : KernelParts) (c : CoreValue K) → IsLoaded loaded → IsWholeKernel k → c.run.kernel ≡ k → c.tasks ≡ length loaded.tasks
    → c.run.board.lists ≡ boot_board loaded.slots (bodies_from 0 loaded.tasks) loaded.bands → c.run.harts ≡ harts_from 0 loaded.harts k.code.take → c.log.tally ≡ counts_of []
    → IsCoreOf (history_at_boot loaded k) c
unfolding core_from
told-boot loaded k c is_loaded is_kernel kernel tasks board harts counts =
    let one = kernel-harts k is_kernel.kernel loaded is_loaded in
    record {
      within = is_loaded.limits;
      is_kernel = is_kernel;
      start = boot-kept k loaded is_loaded one;
      rests = rest-from-boot k is_kernel.kernel loaded one is_loaded [];
      bands = record { same = refl; lists = bands-go-in-order.boot loaded.slots (bodies_from 0 loaded.tasks) loaded.bands };
      kernel = kernel;
      tasks = tasks;
      board = board;
      harts = harts;
      counts = counts;
    }
