-- A path that is followed leads a hart to its end.
use Rattle.std.proofs.Common.{◌≡◌, ℕ, ◌+◌, ◌*◌, ◌≤◌, inr, Bool, true, false, List, [], ◌∷◌, length, slice_get, Some, sym, ap, ◌∙◌, subst, arith}
use Rattle.std.proofs.lemmas.Option.{slice_get_within}
use Rattle.isa_model.specs.declared.instr.Instr.{Instr}
use Rattle.hart_model.specs.declared.calls.Did.TheVariants.{Ran}
use Rattle.hart_model.specs.declared.tag.Mode.{Mode}
use Rattle.hart_model.specs.declared.tag.Mode.TheVariants.{Machine}
use Rattle.hart_model.specs.HartState.{HartState}
use Rattle.hart_model.specs.StepResult.{StepResult}
use Rattle.hart_model.specs.Writes.{HartAndProbes, after_writes}
use Rattle.hart_model.specs.MachineStep.{kernel_word_at, machine_step, machine_instr_step, by_instr, by_word, after_side}
use Rattle.hart_model.specs.HartStep.{hart_step, step_by_mode}
use Rattle.symbolic_run.specs.AbstractCell.{AbstractState}
use Rattle.symbolic_run.specs.AbstractRun as run
use Rattle.symbolic_run.specs.Concretization.{Valuation, IsSound}
use Rattle.symbolic_run.specs.SymbolicPath.{PathState, PathStep, Path, AreSo, path_step, path_from, HasInstrAt, StandAt, IsAsPathSays}
use Rattle.core_model.specs.Routines.{ticked_if}
use Rattle.symbolic_run.specs.Ways.{GoesOnTo, Leads}
use Rattle.symbolic_run.specs.Laws.{StepsAreTaken, PathsLead}
use Rattle.symbolic_run.proofs.Ways.{goes-map}
use Rattle.symbolic_run.proofs.PathSays.{path-says-ticked, path-sound}
use Rattle.symbolic_run.proofs.StepModes.{step-mode}
use Rattle.symbolic_run.proofs.AfterStep.{after-step}
use Rattle.symbolic_run.proofs.PathParts.{are-so-right, no-more, next_path, first-parts, conditions-first}

-- a step of a hart in machine mode, by the instruction at its pc
in-machine-mode : (code : List ℕ) (h : HartState) (mode : Mode) → mode ≡ Machine → step_by_mode code h mode ≡ machine_step code h
in-machine-mode code h mode e = ap (step_by_mode code h) e

pub machine-step-at : (code : List ℕ) (h : HartState) (at : ℕ) (instr : Instr) → h.csrs.mode ≡ Machine → h.pc ≡ at → HasInstrAt code at instr →
    hart_step code h ≡ machine_instr_step h instr
unfolding machine_step
machine-step-at code h at instr mode pc has =
    in-machine-mode code h h.csrs.mode mode
    ∙ ap (by_word h) (ap (kernel_word_at code) pc ∙ has.is_word)
    ∙ ap (by_instr h) has.is_instr

-- a step goes on as well from a hart before a tick
before-tick : (s : Valuation) (There : HartState → Type 0) (step : StepResult) (ticked : Bool) (h : HartState) →
    GoesOnTo s.tasks (ticked_if ticked h) There step → GoesOnTo s.tasks h There step
before-tick s There step true h goes = record {
  after = goes.after;
  probes = goes.probes;
  did = goes.did;
  step_is = goes.step_is;
  explained = goes.explained;
  holds = goes.holds;
  there = goes.there;
}
before-tick s There step false h goes = goes

module _ (steps-taken : StepsAreTaken) (may_reach : ℕ → Bool) (s : Valuation) (ok : IsSound s) (number base : ℕ)
    (code : List ℕ) (instrs : List Instr) (stand : StandAt code base instrs) where
  -- one instruction of a path
  pub one-step : (p : PathState) (taken : Bool) (instr : Instr) (step : PathStep) (z : AbstractState) (h : HartState) → slice_get instrs p.index ≡ Some instr →
      path_step may_reach s p taken instr ≡ Some step → AreSo step.conditions → run.after_writes step.writes p.cells ≡ Some z → IsAsPathSays s number base p h →
      GoesOnTo s.tasks h (IsAsPathSays s number base (record { cells = z; index = step.index; csrs = step.csrs; held = step.held })) (hart_step code h)
  one-step p taken instr step z h found is so cells says =
      let within : p.index ≤ 1000 = omega (arith, slice_get_within instrs p.index instr found, stand.few) in
      let t = steps-taken may_reach s number base p taken instr step h ok stand.aligned stand.high within is so says in
      let a = after-step s ok number base p step z h instr (step-mode may_reach s p taken instr step is) cells says t in
      let written : HartAndProbes = after_writes t.writes (record h { csrs = t.csrs }) in
      record {
        after = record (after_side t.side written.hart) { pc = base + 4 * step.index };
        probes = written.probes;
        did = Ran;
        step_is = machine-step-at code h (base + 4 * p.index) instr says.mode says.pc (stand.each p.index instr found) ∙ t.step_is;
        explained = a.2;
        holds = a.1;
        there = a.0;
      }

  -- and all of it, by its answers
  from-leads : (answers : List Bool) (start path : Path) (h : HartState) → path_from may_reach s instrs answers (Some start) ≡ Some path → AreSo path.conditions →
      IsAsPathSays s number base start.end h → Leads s.tasks code number (length answers) (IsAsPathSays s number base path.end) h
  from-leads [] start path h e so says = subst (λ (q : Path). IsAsPathSays s number base q.end h) (no-more may_reach s instrs start path e) says
  from-leads (taken ∷ answers) start path h e so says =
      let first = first-parts may_reach s instrs start taken answers path e in
      let next = next_path first.step first.cells in
      let rest_so = are-so-right start.conditions first.rest.conditions (subst (λ (q : Path). AreSo q.conditions) first.is_path so) in
      let step_so = conditions-first may_reach s instrs answers next first.rest first.is_rest rest_so in
      let same : first.rest.end ≡ path.end = ap (λ (q : Path). q.end) (sym first.is_path) in
      let P : PathState → Type 0 = λ q. Leads s.tasks code number (length (taken ∷ answers)) (IsAsPathSays s number base q) h in
      subst P same (inr (
        path-sound s ok number base start.end h says,
        λ ticked.
            let g = ticked_if ticked h in
            let step = one-step start.end taken first.instr first.step first.cells g first.is_instr first.is_step step_so first.are_cells
            (path-says-ticked s number base start.end ticked h says) in
            before-tick s _ (hart_step code g) ticked h
            (goes-map s.tasks g (IsAsPathSays s number base next.end)
            (Leads s.tasks code number (length answers) (IsAsPathSays s number base first.rest.end)) (hart_step code g)
            (λ f there. from-leads answers next first.rest f first.is_rest rest_so there) step),
      ))

-- A path that is followed leads a hart to its end.
pub paths-lead : StepsAreTaken → PathsLead
paths-lead steps-taken may_reach s number base code instrs answers p path h ok stand e so says =
    from-leads steps-taken may_reach s ok number base code instrs stand answers (record { end = p; conditions = [] }) path h e so says
