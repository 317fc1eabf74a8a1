-- What a step is that comes to a queue action: it leaves the hart, it makes no entry, and it is of the kind that it tells.
use Rattle.std.proofs.Common.{◌≡◌, ℕ, ◌+◌, [], length, refl, ap, arith}
use Rattle.hart_model.specs.declared.calls.Did.TheVariants as dids
use Rattle.hart_model.specs.declared.calls.QueueCall.{QueueCall}
use Rattle.hart_model.specs.declared.calls.QueueCall.TheVariants.{Take, GiveReady, GiveDone}
use Rattle.hart_model.specs.HartState.{HartState}
use Rattle.hart_model.specs.StepResult.{StepResult, Steps, Wants, Wedged, did_of, hart_after, probes_of}
use Rattle.hart_state.specs.Asked.{AsksFor, AsksTake}
use Rattle.ready_queue.specs.declared.kind.Kind.TheVariants.{Ready, Done}
use Rattle.kernel_core.specs.BoardStep.{GivesKind, IsWanted}

-- as the hart's step tells it
pub is-wanted : (call : QueueCall) (step : StepResult) → AsksFor call step → did_of step ≡ dids.Wants call → IsWanted call step
is-wanted call (Wants wanted early_writes rd next) asks did = cc did
is-wanted Take (Steps hart probes e) asks did = absurd asks
is-wanted GiveReady (Steps hart probes e) asks did = absurd asks
is-wanted GiveDone (Steps hart probes e) asks did = absurd asks
is-wanted Take Wedged asks did = absurd asks
is-wanted GiveReady Wedged asks did = absurd asks
is-wanted GiveDone Wedged asks did = absurd asks

pub wanted-stays : (call : QueueCall) (h : HartState) (step : StepResult) → IsWanted call step → hart_after h step ≡ h
wanted-stays call h (Wants wanted early_writes rd next) is = refl
wanted-stays call h (Steps hart probes did) is = absurd is
wanted-stays call h Wedged is = absurd is

pub no-entries : (call : QueueCall) (step : StepResult) → IsWanted call step → probes_of step ≡ []
no-entries call (Wants wanted early_writes rd next) is = refl
no-entries call (Steps hart probes did) is = absurd is
no-entries call Wedged is = absurd is

-- a take, or a give of a kind
pub takes : (step : StepResult) → IsWanted Take step → AsksTake step
takes (Wants Take early_writes rd next) is = tt
takes (Wants GiveReady early_writes rd next) is = absurd (cc is)
takes (Wants GiveDone early_writes rd next) is = absurd (cc is)
takes (Steps hart probes did) is = absurd is
takes Wedged is = absurd is

pub gives-ready : (step : StepResult) → IsWanted GiveReady step → GivesKind Ready step
gives-ready (Wants GiveReady early_writes rd next) is = tt
gives-ready (Wants GiveDone early_writes rd next) is = absurd (cc is)
gives-ready (Wants Take early_writes rd next) is = absurd (cc is)
gives-ready (Steps hart probes did) is = absurd is
gives-ready Wedged is = absurd is

pub gives-done : (step : StepResult) → IsWanted GiveDone step → GivesKind Done step
gives-done (Wants GiveDone early_writes rd next) is = tt
gives-done (Wants GiveReady early_writes rd next) is = absurd (cc is)
gives-done (Wants Take early_writes rd next) is = absurd (cc is)
gives-done (Steps hart probes did) is = absurd is
gives-done Wedged is = absurd is

-- the room is as before
pub room-left : (call : QueueCall) (step : StepResult) (before after : ℕ) → IsWanted call step → after + length (probes_of step) ≡ before
    → after ≡ before
room-left call step before after is room =
    let none : length (probes_of step) ≡ 0 = ap length (no-entries call step is) in omega (arith, none, room)
