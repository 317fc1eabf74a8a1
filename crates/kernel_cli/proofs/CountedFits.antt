-- No order of a loaded bundle is too long for counts of 64 bits.
use Rattle.std.proofs.Common.{◌≡◌, ℕ, ◌+◌, ◌*◌, ◌≤◌, Bool, true, false, nat_lt, List, [], ◌∷◌, length, get_or, Some, None, refl, sym, ap, ◌∙◌, arith, length-append}
use Rattle.std.proofs.lemmas.Bool.{le-ltb}
use Rattle.core_model.specs.declared.event.Event.{Event}
use Rattle.core_model.specs.declared.loaded.Loaded.{Loaded}
use Rattle.core_model.specs.Events.{order_of, CountsAreLengths}
use Rattle.core_model.specs.KernelWords.{kernel_code}
use Rattle.core_model.specs.Loaded.{IsLoaded, IsWithinLimits}
use Rattle.core_model.specs.Core.{CoreState, after_event, core_from}
use Rattle.core_model.specs.Orders.{CoarseState, boot_pace, boot_coarse, plan_at, max_steps, steps_of_entry, after_entry, IsLegalEntry, IsLegalFrom}
use Rattle.core_invariant.specs.KernelStates.{emitted_parts, IsKernel}
use Rattle.order_laws.specs.CoarseRuns.{coarse_from}
use Rattle.order_laws.specs.CoarseInvariant.{IsCoarseKept}
use Rattle.order_laws.specs.LongLogs.{is_log_above}
use Rattle.order_laws.specs.Judging.{is_legal_entry, end_from}
use Rattle.order_laws.proofs.AsEvents.{steps-core}
use Rattle.order_laws.proofs.LegalOrders.{coarse-kept, entries-few}
use Rattle.order_laws.proofs.Judged.{test-legal, end-illegal, end-passes}
use Rattle.kernel_core.proofs.HistoryMore.{event-same}
use Rattle.kernel_cli.specs.Replays.{replay_end}

-- No event makes the log shorter.
event_longer : (code : List ℕ) (c : CoreState) (event : Event) → length c.log ≤ length (after_event code c event).log
event_longer code c event =
    let made = (after_event code (record c { log = [] }) event).log in
    let e : length (after_event code c event).log ≡ length c.log + length made =
    ap length (event-same code c event).log_is ∙ length-append c.log made in
    omega (arith, e)

longer : (code : List ℕ) (c : CoreState) (events : List Event) → length c.log ≤ length (core_from code c events).log
unfolding core_from
longer code c [] = omega arith
longer code c (event ∷ events) =
    let one = event_longer code c event in
    let more = longer code (after_event code c event) events in
    omega (arith, one, more)

-- A log that isn't above at the end wasn't before.
never_above : (most : ℕ) (code : List ℕ) (c : CoreState) (events : List Event) → length (core_from code c events).log ≤ most
    → is_log_above most code c events ≡ false
unfolding is_log_above core_from
never_above most code c [] fits = refl
never_above most code c (event ∷ events) fits =
    let one = event_longer code c event in
    let more = longer code (after_event code c event) events in
    let test : nat_lt most (length c.log) ≡ false = le-ltb most (length c.log) (omega (arith, one, more, fits)) in
    rw test (never_above most code (after_event code c event) events fits)

module _ (most : ℕ) (loaded : Loaded) (kernel : IsKernel emitted_parts) (limits : IsWithinLimits loaded) where
  -- one entry keeps it
  kept_after : (co : CoarseState) (hart : ℕ) → IsCoarseKept emitted_parts loaded co → IsLegalEntry co hart
      → IsCoarseKept emitted_parts loaded (after_entry kernel_code.words loaded.plans co hart)
  unfolding coarse_from IsLegalFrom
  kept_after co hart kept legal = coarse-kept.orders emitted_parts kernel loaded limits co kept (hart ∷ []) (legal, tt)

  -- The log has room for an entry.
  entry_fits : (co : CoarseState) (hart : ℕ) → IsCoarseKept emitted_parts loaded co → IsLegalEntry co hart → length co.core.log + 30000 ≤ most
      → is_log_above most kernel_code.words co.core (steps_of_entry kernel_code.words loaded.plans co hart).events ≡ false
  entry_fits co hart kept legal fits =
      let few = entries-few emitted_parts kernel loaded limits co kept hart legal in
      let after : (after_entry kernel_code.words loaded.plans co hart).core
      ≡ core_from kernel_code.words co.core (steps_of_entry kernel_code.words loaded.plans co hart).events =
      steps-core kernel_code.words (plan_at loaded.plans hart) (get_or co.paces hart boot_pace) hart max_steps co.core in
      let same = ap (λ (k : CoreState). length k.log) after in
      never_above most kernel_code.words co.core (steps_of_entry kernel_code.words loaded.plans co hart).events (omega (arith, few, same, fits))

  -- one entry, by its test
  abbrev next : CoarseState → ℕ → CoarseState
  next co hart = after_entry kernel_code.words loaded.plans co hart

  by_test : (co : CoarseState) (at hart : ℕ) (order : List ℕ) (b : Bool) → is_legal_entry co hart ≡ b → IsCoarseKept emitted_parts loaded co
      → length co.core.log + 30000 ≤ most
      → (IsLegalEntry co hart → end_from (Some most) kernel_code.words loaded.plans (next co hart) (at + 1) order
      ≡ end_from None kernel_code.words loaded.plans (next co hart) (at + 1) order)
      → end_from (Some most) kernel_code.words loaded.plans co at (hart ∷ order) ≡ end_from None kernel_code.words loaded.plans co at (hart ∷ order)
  by_test co at hart order false test kept room later =
      end-illegal (Some most) kernel_code.words loaded.plans co at hart order test ∙ sym (end-illegal None kernel_code.words loaded.plans co at hart order test)
  by_test co at hart order true test kept room later =
      let legal = test-legal co hart test in
      end-passes (Some most) kernel_code.words loaded.plans co at hart order test (entry_fits co hart kept legal room)
      ∙ later legal ∙ sym (end-passes None kernel_code.words loaded.plans co at hart order test refl)

  -- So the run ends as without a limit.
  fits_from : (co : CoarseState) (at : ℕ) (order : List ℕ) → IsCoarseKept emitted_parts loaded co → length co.core.log + 30000 * length order ≤ most
      → end_from (Some most) kernel_code.words loaded.plans co at order ≡ end_from None kernel_code.words loaded.plans co at order
  unfolding end_from
  fits_from co at [] kept fits = refl
  fits_from co at (hart ∷ order) kept fits =
      by_test co at hart order (is_legal_entry co hart) refl kept (omega (arith, fits))
      (λ legal. let few = entries-few emitted_parts kernel loaded limits co kept hart legal in
      fits_from (next co hart) (at + 1) order (kept_after co hart kept legal) (omega (arith, few, fits)))

-- No order of a loaded bundle fills counts of 64 bits.
pub replay_fits : (most : ℕ) (loaded : Loaded) → CountsAreLengths → IsKernel emitted_parts → IsLoaded loaded → 31457280000 ≤ most
    → replay_end (Some most) loaded ≡ replay_end None loaded
replay_fits most loaded counts kernel is_loaded room =
    let count = counts.entries loaded.order in
    let high = is_loaded.limits.order_high in
    fits_from most loaded kernel is_loaded.limits (boot_coarse loaded kernel_code) 0 (order_of loaded.order)
    (coarse-kept.boots emitted_parts kernel loaded is_loaded) (boot_fits (length (order_of loaded.order)) (omega (arith, count, high)))
  where
    boot_fits : (n : ℕ) → n ≤ 1048576 → 0 + 30000 * n ≤ most
    boot_fits n few = omega (arith, few, room)
