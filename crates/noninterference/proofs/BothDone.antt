-- Two trapped harts that are alike, whose tasks end: the same trap leads both to the give of an ended task, alike.
use Rattle.std.proofs.Common.{◌≡◌, ℕ, ◌+◌, ◌≢◌, Bool, false, List, length, slice_get, nat_lt, Some, None, refl, sym, ap, ◌∙◌}
use Rattle.isa_model.specs.declared.task.Task.{Task}
use Rattle.isa_model.specs.declared.latch.Latch.TheVariants as latches
use Rattle.isa_model.specs.declared.ends.EndKind.{EndKind}
use Rattle.isa_model.specs.declared.ends.EndKind.TheVariants as kinds
use Rattle.isa_model.specs.Alone.{alone_at}
use Rattle.isa_model.specs.AloneValue.{alone_value}
use Rattle.hart_model.specs.declared.tag.Cell.{Cell}
use Rattle.hart_model.specs.Cells.{blank}
use Rattle.hart_model.specs.Context.{ContextState, task_of}
use Rattle.hart_model.specs.HartState.{HartState}
use Rattle.core_model.specs.AlikeHarts.{AreHartsAlike}
use Rattle.symbolic_run.specs.Laws.{PathsLead}
use Rattle.symbolic_run.proofs.StepsTaken.{steps-taken}
use Rattle.symbolic_run.proofs.Paths.{paths-lead}
use Rattle.core_invariant.specs.KernelStates.{KernelParts, IsKernel, IsAlikeKernel}
use Rattle.core_invariant.specs.CutPoints.{IsAtTrap, IsFuelTrap, IsFaultTrap, IsCallTrap}
use Rattle.core_invariant.proofs.Trapped.{AreOwn}
use Rattle.core_invariant.proofs.DonePaths.{trap_csrs, fuel_answers, fault_answers, exit_answers, out_full_answers, tape_end_answers, bad_call_answers}
use Rattle.core_invariant.proofs.DoneEnds.{GivesEnded, EndsDone, pc-of-trap, csrs-are, held-is-saved, done-end}
use Rattle.core_invariant.proofs.DoneLeads.{fuel-ends, fault-ends, exit-ends, out-full-ends, tape-end-ends, bad-call-ends}
use Rattle.noninterference.specs.AlikeSteps.{LeadBoth}
use Rattle.noninterference.proofs.BothTraps.{StandAlike, both-trap-leads}

-- both are led to the give of ended tasks, each with the tasks of its own bundle, alike
abbrev pub LeadBothToDone : List Task → List Task → KernelParts → ℕ → HartState → HartState → Type 0
LeadBothToDone tasks others k number h g =
    (steps : ℕ) × LeadBoth k.code.words steps (StandAlike (GivesEnded tasks k number) (GivesEnded others k number)) h g

-- paths are followed
abbrev lead : PathsLead
lead = paths-lead steps-taken

module _ (k : KernelParts) (kernel : IsKernel k) (of_both : IsAlikeKernel k) {tasks others : List Task} {number : ℕ} {h g : HartState}
    {c d : ContextState} (alike : AreHartsAlike h g) where
  -- Ways with the same answers that end both tasks by ends of one kind.
  done-both : {n m cause reason : ℕ} (trap : IsAtTrap tasks number n cause h c) (second : IsAtTrap others number m reason g d) (answers : List Bool)
      (kind other : EndKind) → kind ≡ other
      → ((regs : ℕ → Cell) → AreOwn n c regs → EndsDone lead k kernel trap regs answers kind)
      → ((regs : ℕ → Cell) → AreOwn m d regs → EndsDone lead k kernel second regs answers other)
      → LeadBothToDone tasks others k number h g
  done-both {cause = cause} {reason = reason} trap second answers kind other same ends ends_too = (
    k.save + length answers,
    both-trap-leads k kernel of_both trap second alike blank blank tt tt
        (trap_csrs h.csrs cause (pc-of-trap lead k kernel trap)) (trap_csrs g.csrs reason (pc-of-trap lead k kernel second))
        (record c { end = None }) (record d { end = None }) (csrs-are lead k kernel trap) (csrs-are lead k kernel second)
        (held-is-saved lead k kernel trap) (held-is-saved lead k kernel second) answers (GivesEnded tasks k number) (GivesEnded others k number)
        (λ regs own. done-end lead k kernel trap answers kind regs own (ends regs own))
        (λ regs own. done-end lead k kernel second answers other regs own (ends_too regs own))
        (λ regs others own own_too. ap (λ (x : EndKind). Some x) ((ends regs own).kind_is ∙ same ∙ sym (ends_too others own_too).kind_is)),
  )

  -- Both have used their fuel.
  pub fuel-both : IsFuelTrap tasks number h c → IsFuelTrap others number g d → LeadBothToDone tasks others k number h g
  fuel-both f u = done-both f.trap u.trap fuel_answers kinds.OutOfSteps kinds.OutOfSteps refl (fuel-ends lead k kernel f) (fuel-ends lead k kernel u)

  -- Both fault, by one cause.
  pub fault-both : {n m cause reason : ℕ} → IsFaultTrap tasks number n cause h c → IsFaultTrap others number m reason g d → cause ≡ reason
      → LeadBothToDone tasks others k number h g
  fault-both {cause = cause} {reason = reason} f u same =
      done-both f.trap u.trap fault_answers (kinds.Faulted cause) (kinds.Faulted reason) (ap (λ (i : ℕ). kinds.Faulted i) same)
      (fault-ends lead k kernel f) (fault-ends lead k kernel u)

  -- Both call the same service, which ends them.
  module _ {n m : ℕ} (f : IsCallTrap tasks number n h c) (u : IsCallTrap others number m g d) where
    abbrev a7 : ℕ
    a7 = alone_value (task_of c.body) n (latches.Reg 17)

    abbrev b7 : ℕ
    b7 = alone_value (task_of d.body) m (latches.Reg 17)

    pub exit-both : alone_value (task_of c.body) n (latches.Reg 17) ≡ 0 → alone_value (task_of d.body) m (latches.Reg 17) ≡ 0
        → LeadBothToDone tasks others k number h g
    exit-both e i = done-both f.trap u.trap exit_answers kinds.Exited kinds.Exited refl (exit-ends lead k kernel f e) (exit-ends lead k kernel u i)

    pub out-full-both : alone_value (task_of c.body) n (latches.Reg 17) ≡ 1 → alone_value (task_of d.body) m (latches.Reg 17) ≡ 1
        → nat_lt (length (alone_at (task_of c.body) n).output) c.body.out_max ≡ false
        → nat_lt (length (alone_at (task_of d.body) m).output) d.body.out_max ≡ false
        → LeadBothToDone tasks others k number h g
    out-full-both e i full full_too =
        done-both f.trap u.trap out_full_answers kinds.OutFull kinds.OutFull refl (out-full-ends lead k kernel f e full) (out-full-ends lead k kernel u i full_too)

    pub tape-end-both : alone_value (task_of c.body) n (latches.Reg 17) ≡ 2 → alone_value (task_of d.body) m (latches.Reg 17) ≡ 2
        → slice_get c.body.tape (alone_at (task_of c.body) n).tape_at ≡ None → slice_get d.body.tape (alone_at (task_of d.body) m).tape_at ≡ None
        → LeadBothToDone tasks others k number h g
    tape-end-both e i none none_too =
        done-both f.trap u.trap tape_end_answers kinds.TapeEnd kinds.TapeEnd refl (tape-end-ends lead k kernel f e none) (tape-end-ends lead k kernel u i none_too)

    -- both by one number
    pub bad-call-both : alone_value (task_of c.body) n (latches.Reg 17) ≡ alone_value (task_of d.body) m (latches.Reg 17)
        → alone_value (task_of c.body) n (latches.Reg 17) ≢ 0 → alone_value (task_of c.body) n (latches.Reg 17) ≢ 1
        → alone_value (task_of c.body) n (latches.Reg 17) ≢ 2 → alone_value (task_of c.body) n (latches.Reg 17) ≢ 3
        → LeadBothToDone tasks others k number h g
    bad-call-both same not0 not1 not2 not3 =
        done-both f.trap u.trap bad_call_answers (kinds.BadCall a7) (kinds.BadCall b7) (ap (λ (i : ℕ). kinds.BadCall i) same)
        (bad-call-ends lead k kernel f not0 not1 not2 not3)
        (bad-call-ends lead k kernel u (λ e. not0 (same ∙ e)) (λ e. not1 (same ∙ e)) (λ e. not2 (same ∙ e)) (λ e. not3 (same ∙ e)))
