-- Two harts that are alike after a step in user mode, with tasks that are alike: they go on in user mode, or the same trap leads both on.
use Rattle.std.proofs.Common.{◌≡◌, ℕ, ◌+◌, inl, inr, List, None, refl, sym, ap, ◌∙◌, arith}
use Rattle.isa_model.specs.declared.task.Task.{Task}
use Rattle.isa_model.specs.declared.control.Control.{Control}
use Rattle.isa_model.specs.declared.latch.Latch.TheVariants as latches
use Rattle.isa_model.specs.Alone.{Executed, alone_at, after_instr, after_call}
use Rattle.isa_model.specs.AloneValue.{alone_value}
use Rattle.hart_model.specs.Csrs.{CsrFile}
use Rattle.hart_model.specs.Context.{ContextState, task_of}
use Rattle.hart_model.specs.HartState.{HartState}
use Rattle.core_model.specs.LowEquivalence.{AreTasksAlike}
use Rattle.core_invariant.specs.KernelStates.{KernelParts, IsKernel, IsAlikeKernel}
use Rattle.core_invariant.specs.CutPoints.{IsAtCutPoint, IsAtTrap, IsCallTrap}
use Rattle.core_invariant.specs.UserLeads.{IsUserOutcome}
use Rattle.core_invariant.proofs.ReadyTimer.{GivesSome}
use Rattle.core_invariant.proofs.DoneEnds.{GivesEnded}
use Rattle.core_model.specs.AlikeHarts.{AreHartsAlike}
use Rattle.noninterference.specs.AlikeCores.{LedBoth}
use Rattle.noninterference.proofs.UserCsrs.{csrs-agree, user-alone, machine-alone}
use Rattle.noninterference.proofs.UserAlike.{contexts_alike}
use Rattle.noninterference.proofs.ControlItems.{same-item}
use Rattle.noninterference.proofs.BothWays.{both-map}
use Rattle.noninterference.proofs.BothTraps.{StandAlike}
use Rattle.noninterference.proofs.BothReady.{LeadBothToReady, timer-both, yield-both, out-both, in-both}
use Rattle.noninterference.proofs.BothDone.{LeadBothToDone, fuel-both, fault-both, exit-both, out-full-both, tape-end-both, bad-call-both}
use Rattle.noninterference.proofs.BothCalls.{BothCalls, BothExit, BothOut, BothFill, BothIn, BothRunOut, BothYield, BothBad, call-case, both-cases}

-- Two harts where they start, each with the tasks of its own bundle, that are alike.
pub record AreAtStarts (tasks others : List Task) (k : KernelParts) (number : ℕ) (h g : HartState) : Type 0 where
  pub start : IsAtCutPoint tasks k number h
  pub other : IsAtCutPoint others k number g
  pub alike : AreHartsAlike h g

module _ (k : KernelParts) (kernel : IsKernel k) (of_both : IsAlikeKernel k) (tasks others : List Task) (number : ℕ) where
  abbrev Led : HartState → HartState → Type 0
  Led h g = LedBoth (AreAtStarts tasks others k) k number h g

  -- the gives are starts
  ready-led : (h g : HartState) → LeadBothToReady tasks others k number h g → Led h g
  ready-led h g way = (
    way.0,
    both-map k.code.words way.0 (StandAlike (GivesSome tasks k number) (GivesSome others k number)) (AreAtStarts tasks others k number) h g
        (λ x y there. record { start = inr (inl there.here); other = inr (inl there.away); alike = there.alike }) way.1,
  )

  done-led : (h g : HartState) → LeadBothToDone tasks others k number h g → Led h g
  done-led h g way = (
    way.0,
    both-map k.code.words way.0 (StandAlike (GivesEnded tasks k number) (GivesEnded others k number)) (AreAtStarts tasks others k number) h g
        (λ x y there. record { start = inr (inr (inl there.here)); other = inr (inr (inl there.away)); alike = there.alike }) way.1,
  )

  module _ (h g : HartState) (c d : ContextState) (alike : AreHartsAlike h g) where
    -- Both call.
    module _ (n m : ℕ) (f : IsCallTrap tasks number n h c) (u : IsCallTrap others number m g d) (runs : AreTasksAlike (task_of c.body) (task_of d.body)) where
      abbrev T : Task
      T = task_of c.body

      abbrev U : Task
      U = task_of d.body

      same-count : n ≡ m
      same-count =
          let one : c.body.count ≡ n + 1 = f.count in
          let two : d.body.count ≡ m + 1 = u.count in
          let same : c.body.count ≡ d.body.count = (contexts_alike h.held g.held c d alike.held f.trap.held u.trap.held).body.count in
          omega (arith, one, two, same)

      same-deed : (after_instr T (alone_at T n)).deed ≡ (after_instr U (alone_at U m)).deed
      same-deed =
          let went : (alone_at U n).end ≡ None = ap (λ i. (alone_at U i).end) same-count ∙ u.went_on in
          ap (λ (x : Control). x.deed) (same-item T U runs.fuel runs.course.control n f.fuel_left f.went_on went)
          ∙ ap (λ i. (after_instr U (alone_at U i)).deed) same-count

      by-calls : BothCalls T U (alone_value T n (latches.Reg 17)) (alone_value U m (latches.Reg 17)) (alone_at T n) (alone_at U m) → Led h g
      by-calls (BothExit is other) = done-led h g (exit-both k kernel of_both alike f u is other)
      by-calls (BothOut is other room free) = ready-led h g (out-both k kernel of_both tasks others number h g c d alike f u is other room free)
      by-calls (BothFill is other room free) = done-led h g (out-full-both k kernel of_both alike f u is other room free)
      by-calls (BothIn is other word given found given_too) =
          ready-led h g (in-both k kernel of_both tasks others number h g c d alike f u word found is other given given_too)
      by-calls (BothRunOut is other none none_too) = done-led h g (tape-end-both k kernel of_both alike f u is other none none_too)
      by-calls (BothYield is other) = ready-led h g (yield-both k kernel of_both tasks others number h g c d alike f u is other)
      by-calls (BothBad same not0 not1 not2 not3) = done-led h g (bad-call-both k kernel of_both alike f u same not0 not1 not2 not3)

      call-led : Led h g
      call-led =
          let a7 = alone_value T n (latches.Reg 17) in
          let a0 = alone_value T n (latches.Reg 10) in
          let b7 = alone_value U m (latches.Reg 17) in
          let b0 = alone_value U m (latches.Reg 10) in
          let s = alone_at T n in
          let t = alone_at U m in
          let deeds : (after_call T a7 a0 s).deed ≡ (after_call U b7 b0 t).deed =
          sym (ap (λ (x : Executed). x.deed) f.serves) ∙ same-deed ∙ ap (λ (x : Executed). x.deed) u.serves in
          by-calls (both-cases T U a7 b7 s t (after_call T a7 a0 s).deed (after_call U b7 b0 t).deed deeds (call-case T a7 a0 s) (call-case U b7 b0 t))

    -- one cause
    one-cause : {n m cause reason : ℕ} → IsAtTrap tasks number n cause h c → IsAtTrap others number m reason g d → cause ≡ reason
    one-cause trap second =
        sym trap.mcause ∙ csrs-agree (λ (x : CsrFile). x.mcause) h.csrs g.csrs alike.csrs (λ x m. refl) ∙ second.mcause

    -- After every outcome of both steps.
    pub outcome-led : AreTasksAlike (task_of c.body) (task_of d.body) → IsUserOutcome tasks number h c → IsUserOutcome others number g d → Led h g
    outcome-led runs (inl user) (inl used) = (0, record { start = inl (c, user); other = inl (d, used); alike = alike })
    outcome-led runs (inl user) (inr (inl timer)) = absurd (user-alone h.csrs g.csrs alike.csrs user.user.mode timer.trap.mode)
    outcome-led runs (inl user) (inr (inr (inl fuel))) = absurd (user-alone h.csrs g.csrs alike.csrs user.user.mode fuel.trap.mode)
    outcome-led runs (inl user) (inr (inr (inr (inl fault)))) = absurd (user-alone h.csrs g.csrs alike.csrs user.user.mode fault.2.trap.mode)
    outcome-led runs (inl user) (inr (inr (inr (inr call)))) = absurd (user-alone h.csrs g.csrs alike.csrs user.user.mode call.1.trap.mode)
    outcome-led runs (inr (inl timer)) (inl used) = absurd (machine-alone h.csrs g.csrs alike.csrs timer.trap.mode used.user.mode)
    outcome-led runs (inr (inl timer)) (inr (inl later)) = ready-led h g (timer-both k kernel of_both tasks others number h g c d alike timer later)
    outcome-led runs (inr (inl timer)) (inr (inr (inl fuel))) = let e = one-cause timer.trap fuel.trap in absurd (omega (arith, e))
    outcome-led runs (inr (inl timer)) (inr (inr (inr (inl fault)))) =
        let e = one-cause timer.trap fault.2.trap in let low = fault.2.is_low in absurd (omega (arith, e, low))
    outcome-led runs (inr (inl timer)) (inr (inr (inr (inr call)))) = let e = one-cause timer.trap call.1.trap in absurd (omega (arith, e))
    outcome-led runs (inr (inr (inl fuel))) (inl used) = absurd (machine-alone h.csrs g.csrs alike.csrs fuel.trap.mode used.user.mode)
    outcome-led runs (inr (inr (inl fuel))) (inr (inl timer)) = let e = one-cause fuel.trap timer.trap in absurd (omega (arith, e))
    outcome-led runs (inr (inr (inl fuel))) (inr (inr (inl used))) = done-led h g (fuel-both k kernel of_both alike fuel used)
    outcome-led runs (inr (inr (inl fuel))) (inr (inr (inr (inl fault)))) =
        let e = one-cause fuel.trap fault.2.trap in let low = fault.2.is_low in absurd (omega (arith, e, low))
    outcome-led runs (inr (inr (inl fuel))) (inr (inr (inr (inr call)))) = let e = one-cause fuel.trap call.1.trap in absurd (omega (arith, e))
    outcome-led runs (inr (inr (inr (inl fault)))) (inl used) = absurd (machine-alone h.csrs g.csrs alike.csrs fault.2.trap.mode used.user.mode)
    outcome-led runs (inr (inr (inr (inl fault)))) (inr (inl timer)) =
        let e = one-cause fault.2.trap timer.trap in let low = fault.2.is_low in absurd (omega (arith, e, low))
    outcome-led runs (inr (inr (inr (inl fault)))) (inr (inr (inl fuel))) =
        let e = one-cause fault.2.trap fuel.trap in let low = fault.2.is_low in absurd (omega (arith, e, low))
    outcome-led runs (inr (inr (inr (inl fault)))) (inr (inr (inr (inl faults)))) =
        done-led h g (fault-both k kernel of_both alike fault.2 faults.2 (one-cause fault.2.trap faults.2.trap))
    outcome-led runs (inr (inr (inr (inl fault)))) (inr (inr (inr (inr call)))) =
        let e = one-cause fault.2.trap call.1.trap in let low = fault.2.is_low in absurd (omega (arith, e, low))
    outcome-led runs (inr (inr (inr (inr call)))) (inl used) = absurd (machine-alone h.csrs g.csrs alike.csrs call.1.trap.mode used.user.mode)
    outcome-led runs (inr (inr (inr (inr call)))) (inr (inl timer)) = let e = one-cause call.1.trap timer.trap in absurd (omega (arith, e))
    outcome-led runs (inr (inr (inr (inr call)))) (inr (inr (inl fuel))) = let e = one-cause call.1.trap fuel.trap in absurd (omega (arith, e))
    outcome-led runs (inr (inr (inr (inr call)))) (inr (inr (inr (inl fault)))) =
        let e = one-cause call.1.trap fault.2.trap in let low = fault.2.is_low in absurd (omega (arith, e, low))
    outcome-led runs (inr (inr (inr (inr call)))) (inr (inr (inr (inr called)))) = call-led call.0 called.0 call.1 called.1 runs
