-- One event more, and events after events.
use Rattle.std.proofs.Common.{◌≡◌, ℕ, List, [], ◌∷◌, ◌++◌, refl}
use Rattle.core_model.specs.declared.event.Event.{Event}
use Rattle.core_model.specs.Core.{CoreState, after_event, core_from}

-- the core after further events
pub core-append : (code : List ℕ) (c : CoreState) (events further : List Event)
    → core_from code c (events ++ further) ≡ core_from code (core_from code c events) further
unfolding core_from
core-append code c [] further = refl
core-append code c (event ∷ events) further = core-append code (after_event code c event) events further

-- the core after one more
pub core-more : (code : List ℕ) (c : CoreState) (events : List Event) (event : Event)
    → core_from code c (events ++ event ∷ []) ≡ after_event code (core_from code c events) event
unfolding core_from
core-more code c events event = core-append code c events (event ∷ [])
