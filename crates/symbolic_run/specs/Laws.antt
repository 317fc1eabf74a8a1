-- What is proved of runs over abstract cells (this project's own).
use Rattle.std.specs.Prelude.{◌≡◌, ℕ, ◌%◌, ◌≤◌, Bool, false, List, [], length, replicate, Some}
use Rattle.isa_model.specs.declared.instr.Instr.{Instr}
use Rattle.hart_model.specs.HartState.{HartState}
use Rattle.symbolic_run.specs.AbstractCell.{AbstractState}
use Rattle.symbolic_run.specs.AbstractRun.{run_of, instrs_of}
use Rattle.symbolic_run.specs.Concretization.{Valuation, IsSound}
use Rattle.symbolic_run.specs.SymbolicPath.{PathState, Path, PathStep, path_of, path_step, AreSo, StandAt, IsAsPathSays, TakesStep}
use Rattle.symbolic_run.specs.Ways.{Leads}

-- Each instruction that is followed does what its step says, where what the step asks is so.
abbrev pub StepsAreTaken : Type 0
StepsAreTaken = (may_reach : ℕ → Bool) (s : Valuation) (number base : ℕ) (p : PathState) (taken : Bool) (instr : Instr) (step : PathStep) (h : HartState) →
    IsSound s → base % 4 ≡ 0 → base ≤ 8192 → p.index ≤ 1000 →
    path_step may_reach s p taken instr ≡ Some step → AreSo step.conditions → IsAsPathSays s number base p h → TakesStep s number base p step h instr

-- A path that is followed leads a hart to its end, by one step for each of its instructions, where what it asks is so.
abbrev pub PathsLead : Type 0
PathsLead = (may_reach : ℕ → Bool) (s : Valuation) (number base : ℕ) (code : List ℕ) (instrs : List Instr)
    (answers : List Bool) (p : PathState) (path : Path) (h : HartState) →
    IsSound s → StandAt code base instrs → path_of may_reach s instrs answers p ≡ Some path → AreSo path.conditions → IsAsPathSays s number base p h →
    Leads s.tasks code number (length answers) (IsAsPathSays s number base path.end) h

-- A run over straight words is the path of their instructions that takes no branch, and this path asks nothing.
abbrev pub RunsArePaths : Type 0
RunsArePaths = (may_reach : ℕ → Bool) (s : Valuation) (words : List ℕ) (p : PathState) (b : AbstractState) →
    p.index ≡ 0 → run_of may_reach words p.cells ≡ Some b →
    path_of may_reach s (instrs_of words) (replicate (length words) false) p
    ≡ Some (record { end = record p { cells = b; index = length words }; conditions = [] })
