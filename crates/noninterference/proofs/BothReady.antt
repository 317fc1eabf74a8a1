-- Two trapped harts that are alike, whose tasks go on later: the same trap leads both to the give of a ready context, alike.
use Rattle.std.proofs.Common.{◌≡◌, ℕ, ◌+◌, true, List, length, nat_lt, slice_get, Some}
use Rattle.isa_model.specs.declared.task.Task.{Task}
use Rattle.isa_model.specs.declared.latch.Latch.TheVariants as latches
use Rattle.isa_model.specs.Alone.{alone_at}
use Rattle.isa_model.specs.AloneValue.{alone_value}
use Rattle.hart_model.specs.Cells.{blank}
use Rattle.hart_model.specs.Context.{ContextState, task_of}
use Rattle.hart_model.specs.HartState.{HartState}
use Rattle.core_model.specs.AlikeHarts.{AreHartsAlike}
use Rattle.core_invariant.specs.KernelStates.{KernelParts, IsKernel, IsAlikeKernel, give_ready_index}
use Rattle.core_invariant.specs.CutPoints.{IsTimerTrap, IsCallTrap}
use Rattle.core_invariant.proofs.ReadyPaths.{timer_answers, yield_answers, out_answers, in_answers}
use Rattle.core_invariant.proofs.ReadyTimer.{GivesSome, timer-ends}
use Rattle.core_invariant.proofs.ReadyYield.{yield-ends}
use Rattle.core_invariant.proofs.ReadyOut.{out-ends}
use Rattle.core_invariant.proofs.ReadyIn.{tape_cell, tape-truthful, in-ends}
use Rattle.noninterference.specs.AlikeSteps.{LeadBoth}
use Rattle.noninterference.proofs.BothTraps.{StandAlike, both-trap-ends}

-- both are led to the give of ready contexts, each with the tasks of its own bundle, alike
abbrev pub LeadBothToReady : List Task → List Task → KernelParts → ℕ → HartState → HartState → Type 0
LeadBothToReady tasks others k number h g =
    (steps : ℕ) × LeadBoth k.code.words steps (StandAlike (GivesSome tasks k number) (GivesSome others k number)) h g

module _ (k : KernelParts) (kernel : IsKernel k) (of_both : IsAlikeKernel k) (tasks others : List Task) (number : ℕ) (h g : HartState)
    (c d : ContextState) (alike : AreHartsAlike h g) where
  -- The timer interrupts both tasks.
  pub timer-both : IsTimerTrap tasks number h c → IsTimerTrap others number g d → LeadBothToReady tasks others k number h g
  timer-both t u = (
    k.save + length timer_answers,
    both-trap-ends k kernel of_both t.trap u.trap alike blank blank tt tt timer_answers give_ready_index (GivesSome tasks k number) (GivesSome others k number)
        (timer-ends k tasks number h c t) (timer-ends k others number g d u),
  )

  module _ {n m : ℕ} (call : IsCallTrap tasks number n h c) (called : IsCallTrap others number m g d) where
    -- Both yield.
    pub yield-both : alone_value (task_of c.body) n (latches.Reg 17) ≡ 3 → alone_value (task_of d.body) m (latches.Reg 17) ≡ 3
        → LeadBothToReady tasks others k number h g
    yield-both is is_too = (
      k.save + length yield_answers,
      both-trap-ends k kernel of_both call.trap called.trap alike blank blank tt tt yield_answers give_ready_index
          (GivesSome tasks k number) (GivesSome others k number)
          (yield-ends k tasks number n h c call is) (yield-ends k others number m g d called is_too),
    )

    -- Both output a word, for which there is room.
    pub out-both : alone_value (task_of c.body) n (latches.Reg 17) ≡ 1 → alone_value (task_of d.body) m (latches.Reg 17) ≡ 1
        → nat_lt (length (alone_at (task_of c.body) n).output) c.body.out_max ≡ true
        → nat_lt (length (alone_at (task_of d.body) m).output) d.body.out_max ≡ true
        → LeadBothToReady tasks others k number h g
    out-both is is_too room room_too = (
      k.save + length out_answers,
      both-trap-ends k kernel of_both call.trap called.trap alike blank blank tt tt out_answers give_ready_index
          (GivesSome tasks k number) (GivesSome others k number)
          (out-ends k tasks number n h c call is room) (out-ends k others number m g d called is_too room_too),
    )

    -- Both take a word of their tapes.
    pub in-both : (word found : ℕ) → alone_value (task_of c.body) n (latches.Reg 17) ≡ 2 → alone_value (task_of d.body) m (latches.Reg 17) ≡ 2
        → slice_get c.body.tape (alone_at (task_of c.body) n).tape_at ≡ Some word
        → slice_get d.body.tape (alone_at (task_of d.body) m).tape_at ≡ Some found
        → LeadBothToReady tasks others k number h g
    in-both word found is is_too given given_too = (
      k.save + length in_answers,
      both-trap-ends k kernel of_both call.trap called.trap alike (tape_cell c word) (tape_cell d found)
          (tape-truthful call word is given) (tape-truthful called found is_too given_too) in_answers give_ready_index
          (GivesSome tasks k number) (GivesSome others k number)
          (in-ends k tasks number n h c word call is given) (in-ends k others number m g d found called is_too given_too),
    )
