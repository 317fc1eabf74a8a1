-- A step of a path keeps the mode.
use Rattle.std.proofs.Common.{◌≡◌, ℕ, Bool, Some, refl, arith}
use Rattle.std.proofs.lemmas.Grind.{common_steps}
use Rattle.isa_model.specs.declared.instr.Instr.{Instr}
use Rattle.hart_model.specs.Csrs.{CsrFile, with_public_csr}
use Rattle.hart_model.specs.Context.{ContextState}
use Rattle.symbolic_run.specs.Concretization.{Valuation}
use Rattle.symbolic_run.specs.SymbolicPath.{PathState, PathStep, path_step}
use Rattle.symbolic_run.proofs.StepWalk.{step-has}

-- a write of a CSR
written-mode : (c d : CsrFile) (number value : ℕ) → with_public_csr c number value ≡ Some d → d.mode ≡ c.mode
written-mode c d number value e = grind (arith, common_steps)

pub step-mode : (may_reach : ℕ → Bool) (s : Valuation) (p : PathState) (taken : Bool) (instr : Instr) (step : PathStep)
    → path_step may_reach s p taken instr ≡ Some step → step.csrs.mode ≡ p.csrs.mode
step-mode may_reach s p taken instr step is =
    let Q : CsrFile → ContextState → Type 0 = λ csrs held. csrs.mode ≡ p.csrs.mode in
    step-has Q p (record {
      stays = refl;
      advances = refl;
      outputs = λ word. refl;
      ends = λ end none. refl;
      csr_written = λ csr value d e. written-mode p.csrs d csr value e;
    }) may_reach s taken instr step is
