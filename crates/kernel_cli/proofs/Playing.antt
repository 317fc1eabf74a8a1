-- A core goes through the events of its bundle.
use Rattle.std.proofs.Common.{◌≡◌, ℕ, zero, suc, ◌+◌, ◌-◌, ◌<◌, ◌≤◌, true, false, nat_lt, List, [], ◌∷◌, ◌++◌, length, refl, sym, ap, ◌∙◌, subst, arith, length-append, replicate}
use Rattle.std.specs.List.{AllByRecursion}
use Rattle.std.proofs.lemmas.Bool.{lt-ltb, le-ltb}
use Rattle.std.proofs.lemmas.List.{append-nil, append_assoc}
use Rattle.std.proofs.lemmas.List.Elements.{recursion_from_All}
use Rattle.hart_model.specs.declared.probe.Probe.{Probe}
use Rattle.core_model.specs.declared.event.Event.{Event}
use Rattle.core_model.specs.declared.event.EventRun.{EventRun}
use Rattle.core_model.specs.declared.loaded.Loaded.{Loaded}
use Rattle.core_model.specs.Events.{hart_of, events_of, event_count, CountsAreLengths}
use Rattle.core_model.specs.KernelWords.{kernel_code}
use Rattle.isa_model.specs.Limits.{max_harts}
use Rattle.core_model.specs.Loaded.{IsEventRunWithinLimits}
use Rattle.core_model.specs.Core.{CoreState, boot_core, after_event, core_from}
use Rattle.kernel_core.specs.Running.{entries_of}
use Rattle.kernel_core.specs.History.{History, CoreValue, IsCoreOf, given}
use Rattle.order_laws.specs.LongLogs.{is_log_above}
use Rattle.core_invariant.proofs.Events.{core-more}
use Rattle.kernel_core.proofs.HistoryMore.{entries-told}
use Rattle.kernel_cli.specs.Scripts.{entries_each, is_script_above}
use Rattle.kernel_cli.specs.Playing.{told_of, core_by, IsPlayed, StandsBefore}
use Rattle.kernel_cli.proofs.CoreFacts.{events_harts, boot_harts, events_order}

-- The harts of all events exist.
low_times : (n : ℕ) (event : Event) → hart_of event < max_harts → AllByRecursion (λ e. hart_of e < max_harts) (replicate n event)
low_times zero event low = tt
low_times (suc n) event low = (low, low_times n event low)

low_append : (xs ys : List Event) → AllByRecursion (λ e. hart_of e < max_harts) xs → AllByRecursion (λ e. hart_of e < max_harts) ys
    → AllByRecursion (λ e. hart_of e < max_harts) (xs ++ ys)
low_append [] ys first others = others
low_append (x ∷ xs) ys first others = (first.0, low_append xs ys first.1 others)

low_runs : (runs : List EventRun) → AllByRecursion IsEventRunWithinLimits runs → AllByRecursion (λ e. hart_of e < max_harts) (events_of runs)
low_runs [] each = tt
low_runs (run ∷ runs) each = low_append (replicate run.times run.event) (events_of runs) (low_times run.times run.event each.0.hart) (low_runs runs each.1)

low_next : (done left : List Event) (event : Event) → AllByRecursion (λ e. hart_of e < max_harts) (done ++ event ∷ left) → hart_of event < max_harts
low_next [] left event each = each.0
low_next (x ∷ done) left event each = low_next done left event each.1

-- one of several events alike
one_of : (n : ℕ) (event : Event) → 0 < n → replicate n event ≡ event ∷ replicate (n - 1) event
one_of zero event some = absurd (omega arith)
one_of (suc n) event some = let e : suc n - 1 ≡ n = omega arith in rw e refl

-- the core after one event more
next_core : (loaded : Loaded) (done : List Event) (event : Event) → core_by loaded (done ++ event ∷ []) ≡ after_event kernel_code.words (core_by loaded done) event
next_core loaded done event = core-more kernel_code.words (boot_core loaded kernel_code) done event

-- its log
next_log : {K : Type 0} (loaded : Loaded) (c : CoreValue K) (done : List Event) (event : Event) → IsCoreOf (told_of loaded done) c
    → (core_by loaded (done ++ event ∷ [])).log ≡ (core_by loaded done).log ++ entries_of c.run event
next_log loaded c done event core = sym (entries-told (told_of loaded done) event c c core)

-- where there is room the log isn't above
log_fits : (most room log : ℕ) → room + log ≡ most + entries_each → entries_each ≤ room → nat_lt most log ≡ false
log_fits most room log sum fits = le-ltb most log (omega arith)

log_is_above : (most room log : ℕ) → room + log ≡ most + entries_each → room < entries_each → nat_lt most log ≡ true
log_is_above most room log sum none = lt-ltb most log (omega arith)

-- the test of the next event is passed, or isn't
next_above : (most : ℕ) (c : CoreState) (event : Event) (left : List Event) → nat_lt most (length c.log) ≡ false
    → is_log_above most kernel_code.words c (event ∷ left) ≡ is_log_above most kernel_code.words (after_event kernel_code.words c event) left
unfolding is_log_above
next_above most c event left test = rw test refl

first_above : (most : ℕ) (c : CoreState) (event : Event) (left : List Event) → nat_lt most (length c.log) ≡ true → is_log_above most kernel_code.words c (event ∷ left) ≡ true
unfolding is_log_above
first_above most c event left test = rw test refl

module _ {K : Type 0} (stands : K → List Probe → Type 0) (room_of : K → ℕ) where
  -- at boot all events are left
  pub boots : (loaded : Loaded) (keeper : K) (runs : List EventRun) (c : CoreValue K) → CountsAreLengths → runs ≡ loaded.events
      → IsCoreOf (told_of loaded []) c → c.log.keeper ≡ keeper → stands keeper [] → c.run.actions ≡ event_count runs → entries_each ≤ room_of keeper
      → StandsBefore stands room_of (room_of keeper - entries_each) loaded (events_of runs) c
  unfolding core_from
  boots loaded keeper runs c counts same core kept nothing actions room =
      let P : List EventRun → Type 0 = λ rs. StandsBefore stands room_of (room_of keeper - entries_each) loaded (events_of rs) c in
      let e : room_of c.log.keeper ≡ room_of keeper = ap room_of kept in
      let sum : room_of c.log.keeper + 0 ≡ room_of keeper - 6 + 6 = omega arith in
      let Q : K → Type 0 = λ k. stands k [] in
      subst P (sym same) (record {
        done = [];
        all = refl;
        core = core;
        keeper = subst Q (sym kept) nothing;
        actions = actions ∙ counts.events runs ∙ ap (λ rs. length (events_of rs)) same;
        room = sum;
        above = refl;
      })

  -- the hart of the next event exists
  hart_exists : (most : ℕ) (loaded : Loaded) (event : Event) (left : List Event) (c : CoreValue K) → loaded.harts ≡ 8
      → StandsBefore stands room_of most loaded (event ∷ left) c → hart_of event < length c.run.harts
  hart_exists most loaded event left c harts s =
      let each = low_runs loaded.events (recursion_from_All IsEventRunWithinLimits loaded.events s.core.within.events) in
      let P : List Event → Type 0 = λ events. AllByRecursion (λ e. hart_of e < max_harts) events in
      let low : hart_of event < 8 = low_next s.done left event (subst P (sym s.all) each) in
      let same : length c.run.harts ≡ length (core_by loaded s.done).harts = ap (λ hs. length hs) s.core.harts in
      let kept : length (core_by loaded s.done).harts ≡ length (boot_core loaded kernel_code).harts = events_harts kernel_code.words (boot_core loaded kernel_code) s.done in
      let booted : length (boot_core loaded kernel_code).harts ≡ loaded.harts = boot_harts 0 loaded.harts kernel_code.take in
      let all : length c.run.harts ≡ 8 = same ∙ kept ∙ booted ∙ harts in
      omega arith

  -- fewer actions were made than there are events
  has_actions : (most : ℕ) (loaded : Loaded) (event : Event) (left : List Event) (c : CoreValue K)
      → StandsBefore stands room_of most loaded (event ∷ left) c → length c.run.board.lists.order < c.run.actions
  has_actions most loaded event left c s =
      let same : length c.run.board.lists.order ≡ length (core_by loaded s.done).board.order = ap (λ b. length b.order) s.core.board in
      let few : length (core_by loaded s.done).board.order ≤ 0 + length s.done = events_order kernel_code.words (boot_core loaded kernel_code) s.done in
      let all : length s.done + length (event ∷ left) ≡ length (events_of loaded.events) = sym (length-append s.done (event ∷ left)) ∙ ap (λ es. length es) s.all in
      let actions : c.run.actions ≡ length (events_of loaded.events) = s.actions in
      let next : length (event ∷ left) ≡ suc (length left) = refl in
      omega arith

  -- an event is applied
  goes_on : (most : ℕ) (loaded : Loaded) (event : Event) (left : List Event) (c after : CoreValue K) → StandsBefore stands room_of most loaded (event ∷ left) c
      → entries_each ≤ room_of c.log.keeper
      → ((t : History) → IsCoreOf t c → IsCoreOf (given t event) after)
      → ((before : List Probe) → stands c.log.keeper before → stands after.log.keeper (before ++ entries_of c.run event))
      → after.run.actions ≡ c.run.actions
      → room_of after.log.keeper + length (entries_of c.run event) ≡ room_of c.log.keeper
      → StandsBefore stands room_of most loaded left after
  goes_on most loaded event left c after s fits told keeper actions room =
      let P : List Probe → Type 0 = λ log. stands after.log.keeper log in
      let grows : (core_by loaded (s.done ++ event ∷ [])).log ≡ (core_by loaded s.done).log ++ entries_of c.run event = next_log loaded c s.done event s.core in
      let longer : length (core_by loaded (s.done ++ event ∷ [])).log ≡ length (core_by loaded s.done).log + length (entries_of c.run event) =
      ap (λ l. length l) grows ∙ length-append (core_by loaded s.done).log (entries_of c.run event) in
      let sum : room_of c.log.keeper + length (core_by loaded s.done).log ≡ most + 6 = s.room in
      let next : room_of after.log.keeper + length (core_by loaded (s.done ++ event ∷ [])).log ≡ most + 6 = omega arith in
      let test = log_fits most (room_of c.log.keeper) (length (core_by loaded s.done).log) s.room fits in
      record {
        done = s.done ++ event ∷ [];
        all = append_assoc s.done (event ∷ []) left ∙ s.all;
        core = told (told_of loaded s.done) s.core;
        keeper = subst P (sym grows) (keeper (core_by loaded s.done).log s.keeper);
        actions = actions ∙ s.actions;
        room = next;
        above = ap (λ k. is_log_above most kernel_code.words k left) (next_core loaded s.done event)
            ∙ sym (next_above most (core_by loaded s.done) event left test) ∙ s.above;
      }

  -- an event has no room
  has_no_room : (most : ℕ) (loaded : Loaded) (event : Event) (left : List Event) (c : CoreValue K) → StandsBefore stands room_of most loaded (event ∷ left) c
      → room_of c.log.keeper < entries_each → is_script_above most loaded ≡ true
  has_no_room most loaded event left c s none =
      let test = log_is_above most (room_of c.log.keeper) (length (core_by loaded s.done).log) s.room none in
      sym s.above ∙ first_above most (core_by loaded s.done) event left test

  -- Of events that are left in a run, one is next.
  one_next : (most : ℕ) (loaded : Loaded) (n : ℕ) (event : Event) (rest : List Event) (c : CoreValue K) → 0 < n
      → StandsBefore stands room_of most loaded (replicate n event ++ rest) c → StandsBefore stands room_of most loaded (event ∷ (replicate (n - 1) event ++ rest)) c
  one_next most loaded n event rest c some s =
      let P : List Event → Type 0 = λ events. StandsBefore stands room_of most loaded (events ++ rest) c in
      subst P (one_of n event some) s

  pub run_hart_exists : (most : ℕ) (loaded : Loaded) (n : ℕ) (event : Event) (rest : List Event) (c : CoreValue K) → 0 < n → loaded.harts ≡ 8
      → StandsBefore stands room_of most loaded (replicate n event ++ rest) c → hart_of event < length c.run.harts
  run_hart_exists most loaded n event rest c some harts s =
      hart_exists most loaded event (replicate (n - 1) event ++ rest) c harts (one_next most loaded n event rest c some s)

  pub run_has_actions : (most : ℕ) (loaded : Loaded) (n : ℕ) (event : Event) (rest : List Event) (c : CoreValue K) → 0 < n
      → StandsBefore stands room_of most loaded (replicate n event ++ rest) c → length c.run.board.lists.order < c.run.actions
  run_has_actions most loaded n event rest c some s = has_actions most loaded event (replicate (n - 1) event ++ rest) c (one_next most loaded n event rest c some s)

  pub run_goes_on : (most : ℕ) (loaded : Loaded) (n : ℕ) (event : Event) (rest : List Event) (c after : CoreValue K) → 0 < n
      → StandsBefore stands room_of most loaded (replicate n event ++ rest) c → entries_each ≤ room_of c.log.keeper
      → ((t : History) → IsCoreOf t c → IsCoreOf (given t event) after)
      → ((before : List Probe) → stands c.log.keeper before → stands after.log.keeper (before ++ entries_of c.run event))
      → after.run.actions ≡ c.run.actions
      → room_of after.log.keeper + length (entries_of c.run event) ≡ room_of c.log.keeper
      → StandsBefore stands room_of most loaded (replicate (n - 1) event ++ rest) after
  run_goes_on most loaded n event rest c after some s fits told keeper actions room =
      goes_on most loaded event (replicate (n - 1) event ++ rest) c after (one_next most loaded n event rest c some s) fits told keeper actions room

  pub run_has_no_room : (most : ℕ) (loaded : Loaded) (n : ℕ) (event : Event) (rest : List Event) (c : CoreValue K) → 0 < n
      → StandsBefore stands room_of most loaded (replicate n event ++ rest) c → room_of c.log.keeper < entries_each → is_script_above most loaded ≡ true
  run_has_no_room most loaded n event rest c some s none =
      has_no_room most loaded event (replicate (n - 1) event ++ rest) c (one_next most loaded n event rest c some s) none

  -- no event is left in the run
  pub run_ends : (most : ℕ) (loaded : Loaded) (n : ℕ) (event : Event) (rest : List Event) (c : CoreValue K) → n ≡ 0
      → StandsBefore stands room_of most loaded (replicate n event ++ rest) c → StandsBefore stands room_of most loaded rest c
  run_ends most loaded n event rest c none s =
      let P : ℕ → Type 0 = λ n. StandsBefore stands room_of most loaded (replicate n event ++ rest) c in
      subst P none s

  -- no event is left
  pub ends_played : (most : ℕ) (loaded : Loaded) (runs : List EventRun) (c : CoreValue K) → length runs < 1 → StandsBefore stands room_of most loaded (events_of runs) c
      → IsPlayed stands loaded (events_of loaded.events) c
  ends_played most loaded [] c none s =
      let P : List Event → Type 0 = λ events. IsCoreOf (told_of loaded events) c in
      let Q : List Event → Type 0 = λ events. stands c.log.keeper (core_by loaded events).log in
      let all = sym (append-nil s.done) ∙ s.all in
      record { core = subst P all s.core; keeper = subst Q all s.keeper }
  ends_played most loaded (run ∷ runs) c none s = absurd (omega arith)

  pub ends_below : (most : ℕ) (loaded : Loaded) (runs : List EventRun) (c : CoreValue K) → length runs < 1 → StandsBefore stands room_of most loaded (events_of runs) c
      → is_script_above most loaded ≡ false
  unfolding is_log_above
  ends_below most loaded [] c none s = sym s.above
  ends_below most loaded (run ∷ runs) c none s = absurd (omega arith)
