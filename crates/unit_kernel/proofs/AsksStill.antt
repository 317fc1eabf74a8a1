-- What a step wanted, the hart after it asks for.
use Rattle.std.proofs.Common.{◌≡◌, ℕ, List, sym, subst}
use Rattle.hart_model.specs.declared.calls.Did.{Did}
use Rattle.hart_model.specs.declared.calls.Did.TheVariants.{Wants}
use Rattle.hart_model.specs.declared.calls.QueueCall.{QueueCall}
use Rattle.hart_model.specs.HartState.{HartState}
use Rattle.hart_model.specs.HartStep.{hart_step}
use Rattle.hart_state.specs.Asked.{AsksFor}

-- A step that wanted this queue action comes to it, and has left the hart as it was.
pub asks_still : (code : List ℕ) (before after : HartState) (call : QueueCall) (did : Did)
    → did ≡ Wants call
    → ((c : QueueCall) → did ≡ Wants c → AsksFor c (hart_step code before))
    → ((c : QueueCall) → did ≡ Wants c → after ≡ before)
    → AsksFor call (hart_step code after)
asks_still code before after call did is wants kept =
    subst (λ h. AsksFor call (hart_step code h)) (sym (kept call is)) (wants call is)
