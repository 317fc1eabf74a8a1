-- A path keeps the end of the task that is held, where it has one.
use Rattle.std.proofs.Common.{◌≡◌, ℕ, Bool, true, List, [], ◌∷◌, Option, Some, None, is_none, sym, subst}
use Rattle.isa_model.specs.declared.instr.Instr.{Instr}
use Rattle.isa_model.specs.declared.ends.End.{End}
use Rattle.hart_model.specs.Csrs.{CsrFile}
use Rattle.hart_model.specs.Context.{ContextState}
use Rattle.symbolic_run.specs.Concretization.{Valuation}
use Rattle.symbolic_run.specs.SymbolicPath.{PathState, PathStep, Path, path_step, path_from}
use Rattle.symbolic_run.proofs.PathParts.{no-more, next_path, first-parts}
use Rattle.symbolic_run.proofs.StepWalk.{step-has}

-- where an end stands, none is made
no-end : (o : Option End) (end : End) → o ≡ Some end → is_none o ≡ true → ⊥
no-end None end is may = cc is
no-end (Some e) end is may = cc may

-- a step keeps an end that stands
kept-end : (may_reach : ℕ → Bool) (s : Valuation) (p : PathState) (taken : Bool) (instr : Instr) (step : PathStep) (end : End)
    → path_step may_reach s p taken instr ≡ Some step → p.held.end ≡ Some end → step.held.end ≡ Some end
kept-end may_reach s p taken instr step end is stands =
    let Q : CsrFile → ContextState → Type 0 = λ csrs held. held.end ≡ Some end in
    step-has Q p (record {
      stays = stands;
      advances = stands;
      outputs = λ word. stands;
      ends = λ new none. absurd (no-end p.held.end end stands none);
      csr_written = λ csr value d e. stands;
    }) may_reach s taken instr step is

-- A path keeps an end that stands.
pub end-stays : (may_reach : ℕ → Bool) (s : Valuation) (instrs : List Instr) (answers : List Bool) (start path : Path) (end : End)
    → path_from may_reach s instrs answers (Some start) ≡ Some path → start.end.held.end ≡ Some end → path.end.held.end ≡ Some end
end-stays may_reach s instrs [] start path end e is =
    let P : Path → Type 0 = λ q. q.end.held.end ≡ Some end in
    subst P (no-more may_reach s instrs start path e) is
end-stays may_reach s instrs (taken ∷ answers) start path end e is =
    let first = first-parts may_reach s instrs start taken answers path e in
    let kept = kept-end may_reach s start.end taken first.instr first.step end first.is_step is in
    let rest = end-stays may_reach s instrs answers (next_path first.step first.cells) first.rest end first.is_rest kept in
    let P : Path → Type 0 = λ q. q.end.held.end ≡ Some end in
    subst P (sym first.is_path) rest
