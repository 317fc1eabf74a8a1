-- The log is full exactly where some beginning of the events has a log that is too long.
use Rattle.std.proofs.Common.{◌≡◌, ℕ, ◌<◌, Bool, true, false, ◌||◌, nat_lt, List, [], ◌∷◌, ◌++◌, length, refl, ap, ◌∙◌, ltb-true, lt-ltb}
use Rattle.core_model.specs.declared.event.Event.{Event}
use Rattle.core_model.specs.Events.{events_of}
use Rattle.core_model.specs.KernelWords.{kernel_code}
use Rattle.core_model.specs.Core.{CoreState, boot_core, after_event, core_from}
use Rattle.order_laws.specs.LongLogs.{is_log_above}
use Rattle.kernel_cli.specs.Scripts.{LogIsFullExactly}

-- Some of the events but not all leave a core whose log has more entries than this.
record IsAboveBefore (most : ℕ) (code : List ℕ) (c : CoreState) (events : List Event) : Type 0 where
  front : List Event
  event : Event
  rest : List Event
  parts : events ≡ front ++ event ∷ rest
  above : most < length (core_from code c front).log

-- none of the events is enough
now : (most : ℕ) (code : List ℕ) (c : CoreState) (event : Event) (events : List Event) → most < length c.log → IsAboveBefore most code c (event ∷ events)
unfolding core_from
now most code c event events above = record { front = []; event = event; rest = events; parts = refl; above = above }

-- one more event first
later : (most : ℕ) (code : List ℕ) (c : CoreState) (event : Event) (events : List Event) → IsAboveBefore most code (after_event code c event) events
    → IsAboveBefore most code c (event ∷ events)
unfolding core_from
later most code c event events b =
    record { front = event ∷ b.front; event = b.event; rest = b.rest; parts = ap (λ es. event ∷ es) b.parts; above = b.above }

-- either the test of the next event holds, or one of a later event
by_test : (most : ℕ) (code : List ℕ) (c : CoreState) (event : Event) (events : List Event) (test others : Bool) → nat_lt most (length c.log) ≡ test
    → (others ≡ true → IsAboveBefore most code (after_event code c event) events) → (test || others) ≡ true → IsAboveBefore most code c (event ∷ events)
by_test most code c event events true others is next up = now most code c event events (ltb-true most (length c.log) is)
by_test most code c event events false others is next up = later most code c event events (next up)

above_before : (most : ℕ) (code : List ℕ) (c : CoreState) (events : List Event) → is_log_above most code c events ≡ true → IsAboveBefore most code c events
unfolding is_log_above
above_before most code c [] up = absurd cc
above_before most code c (event ∷ events) up =
    by_test most code c event events (nat_lt most (length c.log)) (is_log_above most code (after_event code c event) events) refl
    (λ up. above_before most code (after_event code c event) events up) up

-- a test that holds, whichever comes before it
or_true : (test others : Bool) → others ≡ true → (test || others) ≡ true
or_true true others up = refl
or_true false others up = up

before_above : (most : ℕ) (code : List ℕ) (c : CoreState) (front : List Event) (event : Event) (rest : List Event)
    → most < length (core_from code c front).log → is_log_above most code c (front ++ event ∷ rest) ≡ true
unfolding is_log_above core_from
before_above most code c [] event rest above = let test : nat_lt most (length c.log) ≡ true = lt-ltb most (length c.log) above in rw test refl
before_above most code c (first ∷ front) event rest above =
    or_true (nat_lt most (length c.log)) (is_log_above most code (after_event code c first) (front ++ event ∷ rest))
    (before_above most code (after_event code c first) front event rest above)

pub full_exactly : LogIsFullExactly
full_exactly loaded = (
  λ full. let b = above_before 999994 kernel_code.words (boot_core loaded kernel_code) (events_of loaded.events) full in
      record { front = b.front; event = b.event; rest = b.rest; parts = b.parts; long = b.above },
  λ long. ap (λ es. is_log_above 999994 kernel_code.words (boot_core loaded kernel_code) es) long.parts
      ∙ before_above 999994 kernel_code.words (boot_core loaded kernel_code) long.front long.event long.rest long.long,
)
