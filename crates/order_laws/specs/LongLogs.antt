-- Whether a log grows too long on the way through events (this project's own).
use Rattle.std.specs.Prelude.{ℕ, Bool, false, ◌||◌, List, [], ◌∷◌, length, nat_lt, Option, Some, None}
use Rattle.core_model.specs.declared.event.Event.{Event}
use Rattle.core_model.specs.Core.{CoreState, after_event}

-- Before one of these events the log has more entries than this.
unfoldable pub is_log_above : ℕ → List ℕ → CoreState → List Event → Bool
is_log_above most code c [] = false
is_log_above most code c (event ∷ events) = nat_lt most (length c.log) || is_log_above most code (after_event code c event) events

-- Where the log is kept with room for so many entries before an event, one of these events comes too late. Where entries are counted alone,
-- none does.
abbrev pub is_past : Option ℕ → List ℕ → CoreState → List Event → Bool
is_past None code c events = false
is_past (Some most) code c events = is_log_above most code c events
