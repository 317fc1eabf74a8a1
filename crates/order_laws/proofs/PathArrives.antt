-- Along a path of the kernel's code without ticks: where it ends, and that no timer becomes pending.
use Rattle.std.proofs.Common.{◌≡◌, ℕ, ◌+◌, ◌*◌, ◌≤◌, inr, Bool, false, List, [], ◌∷◌, length, slice_get, Some, refl, sym, ap, ◌∙◌, subst, arith}
use Rattle.std.proofs.lemmas.Option.{slice_get_within}
use Rattle.isa_model.specs.declared.instr.Instr.{Instr}
use Rattle.hart_model.specs.declared.calls.Did.TheVariants.{Ran}
use Rattle.hart_model.specs.declared.place.Place.{Place}
use Rattle.hart_model.specs.declared.place.Place.TheVariants.{Reg, PortA, PortB, Res, Load, Store, Mul, Scr, Zero, SlotWord, DataWord}
use Rattle.hart_model.specs.declared.tag.Cell.{Cell}
use Rattle.hart_model.specs.Csrs.{CsrFile}
use Rattle.hart_model.specs.Ports.{SideEffect, Nothing, Outputs, AdvancesTape, Ends, ClearsTimer}
use Rattle.hart_model.specs.HartState.{HartState, hart_with_cell}
use Rattle.hart_model.specs.Writes.{CellWrite, HartAndProbes, after_writes}
use Rattle.hart_model.specs.MachineStep.{after_side}
use Rattle.hart_model.specs.HartStep.{hart_step}
use Rattle.symbolic_run.specs.AbstractCell.{AbstractState}
use Rattle.symbolic_run.specs.AbstractRun as run
use Rattle.symbolic_run.specs.Concretization.{Valuation, IsSound}
use Rattle.symbolic_run.specs.SymbolicPath.{PathState, PathStep, Path, AreSo, path_step, path_from, StandAt, IsAsPathSays}
use Rattle.symbolic_run.specs.Laws.{StepsAreTaken}
use Rattle.symbolic_run.proofs.StepModes.{step-mode}
use Rattle.symbolic_run.proofs.AfterStep.{after-step}
use Rattle.symbolic_run.proofs.Paths.{machine-step-at}
use Rattle.symbolic_run.proofs.PathParts.{are-so-right, no-more, next_path, first-parts, conditions-first}
use Rattle.order_laws.specs.Arrives.{StepsTo, Arrives, IsAfter}
use Rattle.order_laws.proofs.Arrive.{after-same, after-then, steps-map, arrives-map}

-- a write leaves the pending timer
cell-calm : (h : HartState) (place : Place) (cell : Cell) → (hart_with_cell h place cell).csrs.is_timer_pending ≡ h.csrs.is_timer_pending
cell-calm h (Reg r) cell = refl
cell-calm h PortA cell = refl
cell-calm h PortB cell = refl
cell-calm h Res cell = refl
cell-calm h Load cell = refl
cell-calm h Store cell = refl
cell-calm h Mul cell = refl
cell-calm h Scr cell = refl
cell-calm h Zero cell = refl
cell-calm h (SlotWord i) cell = refl
cell-calm h (DataWord i) cell = refl

pub writes-calm : (writes : List CellWrite) (h : HartState) → (after_writes writes h).hart.csrs.is_timer_pending ≡ h.csrs.is_timer_pending
writes-calm [] h = refl
writes-calm (w ∷ writes) h = writes-calm writes (hart_with_cell h w.at w.cell) ∙ cell-calm h w.at w.cell

-- and a side effect makes none pending
pub side-calm : (side : SideEffect) (h : HartState) → h.csrs.is_timer_pending ≡ false → (after_side side h).csrs.is_timer_pending ≡ false
side-calm ClearsTimer h calm = refl
side-calm Nothing h calm = calm
side-calm (Outputs word) h calm = calm
side-calm AdvancesTape h calm = calm
side-calm (Ends end) h calm = calm

module _ (steps-taken : StepsAreTaken) (may_reach : ℕ → Bool) (s : Valuation) (ok : IsSound s) (number base : ℕ)
    (code : List ℕ) (instrs : List Instr) (stand : StandAt code base instrs) where
  -- one instruction of a path
  abbrev Next : HartState → PathState → HartState → Type 0
  Next h p g = IsAsPathSays s number base p g × IsAfter h g

  one-step : (p : PathState) (taken : Bool) (instr : Instr) (step : PathStep) (z : AbstractState) (h : HartState)
      → slice_get instrs p.index ≡ Some instr
      → path_step may_reach s p taken instr ≡ Some step → AreSo step.conditions → run.after_writes step.writes p.cells ≡ Some z
      → IsAsPathSays s number base p h
      → StepsTo (Next h (record { cells = z; index = step.index; csrs = step.csrs; held = step.held })) (hart_step code h)
  one-step p taken instr step z h found is so cells says =
      let within : p.index ≤ 1000 = omega (arith, slice_get_within instrs p.index instr found, stand.few) in
      let t = steps-taken may_reach s number base p taken instr step h ok stand.aligned stand.high within is so says in
      let a = after-step s ok number base p step z h instr (step-mode may_reach s p taken instr step is) cells says t in
      let written : HartAndProbes = after_writes t.writes (record h { csrs = t.csrs }) in
      let pending = writes-calm t.writes (record h { csrs = t.csrs }) ∙ ap (λ (c : CsrFile). c.is_timer_pending) t.csrs_are in
      record {
        after = record (after_side t.side written.hart) { pc = base + 4 * step.index };
        probes = written.probes;
        did = Ran;
        step_is = machine-step-at code h (base + 4 * p.index) instr says.mode says.pc (stand.each p.index instr found) ∙ t.step_is;
        there = (a.0, record { holds = a.1; calm = λ calm. side-calm t.side written.hart (pending ∙ calm) });
      }

  -- and all of it, by its answers
  pub path-arrives : (answers : List Bool) (start path : Path) (h : HartState) → path_from may_reach s instrs answers (Some start) ≡ Some path
      → AreSo path.conditions → IsAsPathSays s number base start.end h
      → Arrives code (length answers) (λ g. IsAsPathSays s number base path.end g × IsAfter h g) h
  path-arrives [] start path h e so says =
      (subst (λ (q : Path). IsAsPathSays s number base q.end h) (no-more may_reach s instrs start path e) says, after-same h)
  path-arrives (taken ∷ answers) start path h e so says =
      let first = first-parts may_reach s instrs start taken answers path e in
      let next = next_path first.step first.cells in
      let rest_so = are-so-right start.conditions first.rest.conditions (subst (λ (q : Path). AreSo q.conditions) first.is_path so) in
      let step_so = conditions-first may_reach s instrs answers next first.rest first.is_rest rest_so in
      let same : first.rest.end ≡ path.end = ap (λ (q : Path). q.end) (sym first.is_path) in
      let P : PathState → Type 0 = λ q. Arrives code (length (taken ∷ answers)) (λ g. IsAsPathSays s number base q g × IsAfter h g) h in
      let step = one-step start.end taken first.instr first.step first.cells h first.is_instr first.is_step step_so first.are_cells says in
      subst P same (inr (
        says.mode,
        steps-map (Next h next.end) (Arrives code (length answers) (λ g. IsAsPathSays s number base first.rest.end g × IsAfter h g))
            (hart_step code h)
            (λ f there. arrives-map code (length answers) (λ g. IsAsPathSays s number base first.rest.end g × IsAfter f g)
            (λ g. IsAsPathSays s number base first.rest.end g × IsAfter h g) f
            (λ g at. (at.0, after-then h f g there.1 at.1))
            (path-arrives answers next first.rest f first.is_rest rest_so there.0)) step,
      ))

  -- one instruction, by its answer
  pub single-step : (taken : Bool) (start path : Path) (h : HartState) → path_from may_reach s instrs (taken ∷ []) (Some start) ≡ Some path
      → AreSo path.conditions
      → IsAsPathSays s number base start.end h → StepsTo (λ g. IsAsPathSays s number base path.end g × IsAfter h g) (hart_step code h)
  single-step taken start path h e so says =
      let first = first-parts may_reach s instrs start taken [] path e in
      let next = next_path first.step first.cells in
      let rest_so = are-so-right start.conditions first.rest.conditions (subst (λ (q : Path). AreSo q.conditions) first.is_path so) in
      let step_so = conditions-first may_reach s instrs [] next first.rest first.is_rest rest_so in
      let same : next.end ≡ path.end =
      ap (λ (q : Path). q.end) (no-more may_reach s instrs next first.rest first.is_rest) ∙ ap (λ (q : Path). q.end) (sym first.is_path) in
      let step = one-step start.end taken first.instr first.step first.cells h first.is_instr first.is_step step_so first.are_cells says in
      let P : PathState → Type 0 = λ q. StepsTo (λ g. IsAsPathSays s number base q g × IsAfter h g) (hart_step code h) in
      subst P same step
