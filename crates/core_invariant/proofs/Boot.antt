-- The core of a loaded bundle at boot has all that every event keeps.
use Rattle.std.proofs.Common.{◌≡◌, ℕ, zero, suc, ◌+◌, ◌≤◌, ◌<◌, ⊎_elim, Bool, true, false, List, [], ◌∷◌, length, take, slice_get, nat_lt, Some, ◌==◌, if◌then◌else◌, refl, sym, ap, ◌∙◌, subst, arith}
use Rattle.std.specs.Prelude.{All}
use Rattle.std.specs.List.{count_by}
use Rattle.std.proofs.lemmas.Bool.{eq-eqb, ne_eqb, lt-ltb, le-ltb, eqb-true, cases_lt}
use Rattle.std.proofs.lemmas.Option.{slice_get_within, get_or_from_slice_get}
use Rattle.std.proofs.lemmas.List.{length-replicate, get_or-replicate}
use Rattle.std.proofs.lemmas.List.Sums.{sum_by-take-drop}
use Rattle.std.proofs.lemmas.List.Elements.{All-nil, All-cons, All-head, All-tail, All-take, All-drop}
use Rattle.isa_model.specs.declared.task.Task.{Task}
use Rattle.isa_model.specs.TaskPlaces.{IsValidTask}
use Rattle.hart_model.specs.Cells.{blank}
use Rattle.hart_model.specs.Context.{BodyState, ContextState, task_of, fresh_body, fresh_words, admit_of, slot_len}
use Rattle.hart_model.specs.HartState.{HartState, boot_hart}
use Rattle.core_model.specs.declared.event.Event.{Event}
use Rattle.core_model.specs.declared.loaded.Loaded.{Loaded}
use Rattle.core_model.specs.Board.{contexts_from}
use Rattle.core_model.specs.Core.{bodies_from, harts_from, boot_core, core_after}
use Rattle.core_model.specs.Loaded.{IsLoaded}
use Rattle.core_model.specs.Soundness.{IsCoreSound, home_count, slot_count, entries_held}
use Rattle.core_invariant.specs.KernelStates.{KernelParts}
use Rattle.core_model.specs.Routines.{IsReadyContext}
use Rattle.core_invariant.specs.CutPoints.{IsOnItsWay}
use Rattle.core_invariant.specs.OneHart.{EachHart}
use Rattle.core_invariant.specs.Invariant.{IsCoreKept, IsWaitingTask}
use Rattle.core_model.proofs.ReadyLists.{count-bands, all-bands}
use Rattle.core_model.proofs.Lists.{bit, count-cons, some-is}
use Rattle.core_model.proofs.Counts.{waits_as, ready_as, ready_in}
use Rattle.core_invariant.proofs.Composition.{kept-sound, events-kept}
use Rattle.core_invariant.proofs.Admits.{AreCleanWords, clean-admits}

-- The harts.
pub length-harts : (number more take : ℕ) → length (harts_from number more take) ≡ more
length-harts number zero take = refl
length-harts number (suc more) take = ap suc (length-harts (number + 1) more take)

pub boot-hart : (number more take i : ℕ) (h : HartState) → slice_get (harts_from number more take) i ≡ Some h → boot_hart (number + i) take ≡ h
boot-hart number zero take i h is = absurd (cc is)
boot-hart number (suc more) take zero h is = let e : number + 0 ≡ number = omega arith in ap (λ n. boot_hart n take) e ∙ some-is is
boot-hart number (suc more) take (suc i) h is =
    let e : number + suc i ≡ number + 1 + i = omega arith in
    ap (λ n. boot_hart n take) e ∙ boot-hart (number + 1) more take i h is

-- The bodies: each number once.
none_before : (t first : ℕ) (tasks : List Task) → t < first → count_by (waits_as t) (bodies_from first tasks) ≡ 0
none_before t first [] lt = refl
none_before t first (task ∷ tasks) lt =
    let one = count-cons (waits_as t) (fresh_body first task) (bodies_from (first + 1) tasks) in
    let other = ap bit (ne_eqb first t (λ e. omega arith)) in
    let rest = none_before t (first + 1) tasks (omega arith) in
    omega arith

one_further : (i n : ℕ) → bit (nat_lt (suc i) (suc n)) ≡ bit (nat_lt i n)
one_further i n =
    ⊎_elim
    (λ (low : i < n). ap bit (lt-ltb (suc i) (suc n) (omega arith)) ∙ sym (ap bit (lt-ltb i n low)))
    (λ (high : n ≤ i). ap bit (le-ltb (suc i) (suc n) (omega arith)) ∙ sym (ap bit (le-ltb i n high)))
    (cases_lt i n)

one_each : (first i : ℕ) (tasks : List Task) → count_by (waits_as (first + i)) (bodies_from first tasks) ≡ bit (nat_lt i (length tasks))
one_each first i [] = sym (ap bit (le-ltb i 0 (omega arith)))
one_each first zero (task ∷ tasks) =
    let one = count-cons (waits_as (first + 0)) (fresh_body first task) (bodies_from (first + 1) tasks) in
    let here = ap bit (eq-eqb first (first + 0) (omega arith)) in
    let rest = none_before (first + 0) (first + 1) tasks (omega arith) in
    let low = ap bit (lt-ltb 0 (length (task ∷ tasks)) (omega arith)) in
    omega arith
one_each first (suc i) (task ∷ tasks) =
    let one = count-cons (waits_as (first + suc i)) (fresh_body first task) (bodies_from (first + 1) tasks) in
    let other = ap bit (ne_eqb first (first + suc i) (λ e. omega arith)) in
    let place : first + 1 + i ≡ first + suc i = omega arith in
    let rest = subst (λ n. count_by (waits_as n) (bodies_from (first + 1) tasks) ≡ bit (nat_lt i (length tasks))) place (one_each (first + 1) i tasks) in
    let shift = one_further i (length tasks) in
    omega arith

-- The contexts: each body in a slot of its own.
same_tasks : (t slot : ℕ) (bodies : List BodyState) → count_by (ready_as t) (contexts_from slot bodies) ≡ count_by (waits_as t) bodies
same_tasks t slot [] = refl
same_tasks t slot (b ∷ bs) =
    let one = count-cons (ready_as t) (admit_of b slot fresh_words) (contexts_from (slot + 1) bs) in
    let other = count-cons (waits_as t) b bs in
    let rest = same_tasks t (slot + 1) bs in
    omega arith

no_slot_before : (s slot : ℕ) (bodies : List BodyState) → s < slot → count_by (ready_in s) (contexts_from slot bodies) ≡ 0
no_slot_before s slot [] lt = refl
no_slot_before s slot (b ∷ bs) lt =
    let one = count-cons (ready_in s) (admit_of b slot fresh_words) (contexts_from (slot + 1) bs) in
    let other = ap bit (ne_eqb slot s (λ e. omega arith)) in
    let rest = no_slot_before s (slot + 1) bs (omega arith) in
    omega arith

slot_at_most_once : (s slot : ℕ) (bodies : List BodyState) → count_by (ready_in s) (contexts_from slot bodies) ≤ 1
slot_at_most_once s slot [] = omega arith
slot_at_most_once s slot (b ∷ bs) = by_test (slot_at_most_once s (slot + 1) bs) (slot == s) refl
  where
    one : count_by (ready_in s) (contexts_from slot (b ∷ bs)) ≡ bit (slot == s) + count_by (ready_in s) (contexts_from (slot + 1) bs)
    one = count-cons (ready_in s) (admit_of b slot fresh_words) (contexts_from (slot + 1) bs)

    by_test : count_by (ready_in s) (contexts_from (slot + 1) bs) ≤ 1 → (test : Bool) → (slot == s) ≡ test
        → count_by (ready_in s) (contexts_from slot (b ∷ bs)) ≤ 1
    by_test rest true is =
        let same = eqb-true slot s is in
        let here = ap bit is in
        let none = no_slot_before s (slot + 1) bs (omega arith) in
        omega (arith, one)
    by_test rest false is =
        let other = ap bit is in
        omega (arith, one)

taken_few : (n : ℕ) (bodies : List BodyState) → length (take n bodies) ≤ n
taken_few zero bodies = omega arith
taken_few (suc n) [] = omega arith
taken_few (suc n) (b ∷ bs) = let rest = taken_few n bs in omega arith

slots_below : (high slot : ℕ) (bodies : List BodyState) → slot + length bodies ≤ high → All (λ (c : ContextState). c.slot < high) (contexts_from slot bodies)
slots_below high slot [] le = All-nil _
slots_below high slot (b ∷ bs) le =
    All-cons (λ (c : ContextState). c.slot < high) (admit_of b slot fresh_words) (contexts_from (slot + 1) bs) (omega arith)
    (slots_below high (slot + 1) bs (omega arith))

-- A slot that nothing was in is clean, so that a waiting task may be given in it.
contexts_can : (tasks : List Task) (slot : ℕ) (bodies : List BodyState) → slot + length bodies ≤ 8 → All (IsWaitingTask tasks) bodies
    → All (IsReadyContext tasks) (contexts_from slot bodies)
contexts_can tasks slot [] le waits = All-nil _
contexts_can tasks slot (b ∷ bs) le waits =
    let first = All-head (IsWaitingTask tasks) b bs waits in
    let clean : AreCleanWords fresh_words = record {
      length = length-replicate slot_len blank;
      registers = λ i low high. get_or-replicate slot_len i blank blank (omega arith);
    } in
    All-cons (IsReadyContext tasks) (admit_of b slot fresh_words) (contexts_from (slot + 1) bs)
    (clean-admits tasks b slot fresh_words clean first.0 first.1 (omega arith))
    (contexts_can tasks (slot + 1) bs (omega arith) (All-tail (IsWaitingTask tasks) b bs waits))

-- Each body is a valid task of the list, at its start.
task_fresh : (task_no : ℕ) (task : Task) → task_of (fresh_body task_no task) ≡ task
task_fresh task_no task = ap (λ n. record task { data_len = n }) (length-replicate task.data_len blank)

body_waits : (tasks : List Task) (task_no : ℕ) (task : Task) → slice_get tasks task_no ≡ Some task → IsValidTask task
    → IsWaitingTask tasks (fresh_body task_no task)
body_waits tasks task_no task is valid =
    let same = sym (task_fresh task_no task) in
    (record { is_task = is ∙ ap Some same; is_fresh = ap (fresh_body task_no) same }, subst IsValidTask same valid)

bodies_wait : (tasks : List Task) (first : ℕ) (rest : List Task)
    → ((i : ℕ) (task : Task) → slice_get rest i ≡ Some task → (slice_get tasks (first + i) ≡ Some task) × IsValidTask task)
    → All (IsWaitingTask tasks) (bodies_from first rest)
bodies_wait tasks first [] each = All-nil _
bodies_wait tasks first (task ∷ rest) each =
    let here = each 0 task refl in
    let place : first + 0 ≡ first = omega arith in
    All-cons (IsWaitingTask tasks) (fresh_body first task) (bodies_from (first + 1) rest)
    (body_waits tasks first task (ap (slice_get tasks) (sym place) ∙ here.0) here.1)
    (bodies_wait tasks (first + 1) rest (λ i other is.
    let there = each (suc i) other is in
    let next : first + 1 + i ≡ first + suc i = omega arith in
    (ap (slice_get tasks) next ∙ there.0, there.1)))

module _ (k : KernelParts) (loaded : Loaded) (fits : IsLoaded loaded) (one : EachHart loaded.tasks k) where
  abbrev bodies : List BodyState
  bodies = bodies_from 0 loaded.tasks

  -- each task of the list is valid
  pub each_valid : (i : ℕ) (task : Task) → slice_get loaded.tasks i ≡ Some task → (slice_get loaded.tasks (0 + i) ≡ Some task) × IsValidTask task
  each_valid i task is =
      let place : 0 + i ≡ i = omega arith in
      let low = slice_get_within loaded.tasks i task is in (
        ap (slice_get loaded.tasks) place ∙ is,
        subst IsValidTask (get_or_from_slice_get loaded.tasks i task task is) (fits.limits.tasks i task low).valid,
      )

  all_wait : All (IsWaitingTask loaded.tasks) bodies
  all_wait = bodies_wait loaded.tasks 0 loaded.tasks each_valid

  boot_homes : (t : ℕ) → home_count (boot_core loaded k.code).board t ≡ (if nat_lt t (length loaded.tasks) then 1 else 0)
  boot_homes t =
      let place : 0 + t ≡ t = omega arith in
      let all = subst (λ n. count_by (waits_as n) bodies ≡ bit (nat_lt t (length loaded.tasks))) place (one_each 0 t loaded.tasks) in
      let ready = same_tasks t 0 (take loaded.slots bodies) in
      let lists = count-bands (ready_as t) loaded.bands (contexts_from 0 (take loaded.slots bodies)) in
      let split = sum_by-take-drop (λ b. bit (waits_as t b)) bodies loaded.slots in
      omega arith

  boot_slots : (s : ℕ) → slot_count (boot_core loaded k.code).board s ≤ 1
  boot_slots s =
      let once = slot_at_most_once s 0 (take loaded.slots bodies) in
      let lists = count-bands (ready_in s) loaded.bands (contexts_from 0 (take loaded.slots bodies)) in
      omega arith

  few : length (take loaded.slots bodies) ≤ loaded.slots
  few = taken_few loaded.slots bodies

  harts_start : (i : ℕ) (h : HartState) → slice_get (boot_core loaded k.code).harts i ≡ Some h → boot_hart i k.code.take ≡ h
  harts_start i h is =
      let place : 0 + i ≡ i = omega arith in
      ap (λ n. boot_hart n k.code.take) (sym place) ∙ boot-hart 0 loaded.harts k.code.take i h is

  -- The core at boot.
  pub boot-kept : IsCoreKept k loaded (boot_core loaded k.code)
  boot-kept = record {
    hart_count = length-harts 0 loaded.harts k.code.take;
    harts = λ i h is. subst (λ g. IsOnItsWay loaded.tasks k i g) (harts_start i h is) (one.boots i);
    homes = boot_homes;
    slot_once = boot_slots;
    ready_slots = all-bands (λ (context : ContextState). context.slot < loaded.slots) loaded.bands (contexts_from 0 (take loaded.slots bodies))
        (slots_below loaded.slots 0 (take loaded.slots bodies) (omega (arith, few)));
    out_slots = All-nil _;
    waiting = All-drop (IsWaitingTask loaded.tasks) loaded.slots bodies all_wait;
    ready = all-bands (IsReadyContext loaded.tasks) loaded.bands (contexts_from 0 (take loaded.slots bodies))
        (contexts_can loaded.tasks 0 (take loaded.slots bodies) (let high = fits.limits.slots_high in omega (arith, few))
        (All-take (IsWaitingTask loaded.tasks) loaded.slots bodies all_wait));
    ended = All-nil _;
    out = λ i h is. subst (λ (g : HartState). [] ≡ entries_held i g.held) (harts_start i h is) refl;
    out_exists = All-nil _;
    log = All-nil _;
  }

  -- A core is kept after every list of events, and so it is sound.
  pub core-kept : (events : List Event) → IsCoreKept k loaded (core_after loaded k.code events)
  core-kept events = events-kept k loaded one (boot_core loaded k.code) boot-kept events

  pub core-sound : (events : List Event) → IsCoreSound loaded (core_after loaded k.code events)
  core-sound events = kept-sound k loaded one (core_after loaded k.code events) (core-kept events)
