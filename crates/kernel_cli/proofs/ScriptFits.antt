-- No list of events is too long for counts of 64 bits.
use Rattle.std.proofs.Common.{◌≡◌, ℕ, ◌+◌, ◌*◌, ◌≤◌, false, nat_lt, List, [], ◌∷◌, length, refl, arith}
use Rattle.std.proofs.lemmas.Bool.{le-ltb}
use Rattle.core_model.specs.declared.event.Event.{Event}
use Rattle.core_model.specs.declared.loaded.Loaded.{Loaded}
use Rattle.core_model.specs.Events.{events_of, CountsAreLengths}
use Rattle.core_model.specs.KernelWords.{kernel_code}
use Rattle.core_model.specs.Loaded.{IsLoaded}
use Rattle.core_model.specs.Core.{CoreState, boot_core, after_event}
use Rattle.core_invariant.proofs.FewEntries.{event_few}
use Rattle.order_laws.specs.LongLogs.{is_log_above}
use Rattle.kernel_cli.specs.Scripts.{is_script_above}

-- No log is above what eight entries for each event come to.
pub never_above : (most : ℕ) (code : List ℕ) (c : CoreState) (events : List Event) → length c.log + 8 * length events ≤ most → is_log_above most code c events ≡ false
unfolding is_log_above
never_above most code c [] fits = refl
never_above most code c (event ∷ events) fits =
    let test : nat_lt most (length c.log) ≡ false = le-ltb most (length c.log) (omega arith) in
    let more = event_few code c event in
    rw test (never_above most code (after_event code c event) events (omega arith))

-- No list of events of a loaded bundle fills counts of 64 bits.
pub script_fits : (most : ℕ) (loaded : Loaded) → CountsAreLengths → IsLoaded loaded → 8388608 ≤ most → is_script_above most loaded ≡ false
script_fits most loaded counts is_loaded room =
    let count = counts.events loaded.events in
    let high = is_loaded.limits.events_high in
    never_above most kernel_code.words (boot_core loaded kernel_code) (events_of loaded.events) (boot_fits (length (events_of loaded.events)) (omega arith))
  where
    boot_fits : (n : ℕ) → n ≤ 1048576 → 0 + 8 * n ≤ most
    boot_fits n few = omega arith
