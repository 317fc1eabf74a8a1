-- Two harts that are alike, along paths of the same instructions and answers, come to both ends alike.
use Rattle.std.proofs.Common.{◌≡◌, ℕ, ◌+◌, ◌*◌, inr, Bool, List, [], ◌∷◌, length, slice_get, Option, Some, option_map, sym, ap, ◌∙◌, subst, arith}
use Rattle.isa_model.specs.declared.instr.Instr.{Instr}
use Rattle.isa_model.specs.declared.ends.End.TheVariants.{BadCall}
use Rattle.isa_model.specs.Control.{kind_of}
use Rattle.hart_model.specs.HartState.{HartState}
use Rattle.hart_model.specs.StepResult.{StepResult}
use Rattle.hart_model.specs.MachineStep.{machine_instr_step}
use Rattle.hart_model.specs.HartStep.{hart_step}
use Rattle.symbolic_run.specs.AbstractCell.{AbstractState}
use Rattle.symbolic_run.specs.AbstractRun as run
use Rattle.symbolic_run.specs.Concretization.{Valuation, IsSound}
use Rattle.symbolic_run.specs.SymbolicPath.{PathState, PathStep, Path, AreSo, path_step, path_from, path_of, StandAt}
use Rattle.core_model.specs.Routines.{ticked_if}
use Rattle.symbolic_run.proofs.PathSays.{path-says-ticked}
use Rattle.symbolic_run.proofs.PathParts.{are-so-right, no-more, next_path, first-parts, conditions-first}
use Rattle.symbolic_run.proofs.StepsTaken.{steps-taken}
use Rattle.symbolic_run.proofs.Paths.{machine-step-at, one-step}
use Rattle.noninterference.specs.AlikeSteps.{AreStepsAlike, GoOnAlike, LeadBoth}
use Rattle.noninterference.proofs.EndsStay.{end-stays}
use Rattle.noninterference.proofs.BothWays.{both-go-map}
use Rattle.noninterference.proofs.MachineAlike.{machine-alike}
use Rattle.noninterference.proofs.BothPaths.{AreAsPathsSay, SameBadCall, kinds-called, alike-ticked, went-alike, decides}

-- what stands at one place is one
pub one-of : (o : Option Instr) (a b : Instr) → o ≡ Some a → o ≡ Some b → a ≡ b
one-of o a b e f = cc (e, f)

module _ (may_reach : ℕ → Bool) (s t : Valuation) (ok : IsSound s) (ok_too : IsSound t) (number base : ℕ)
    (code : List ℕ) (instrs : List Instr) (stand : StandAt code base instrs) where
  abbrev Both : PathState → PathState → HartState → HartState → Type 0
  Both p q h g = AreAsPathsSay s t number base p q h g

  -- both are at the same instruction
  same-index : (p q : PathState) (h g : HartState) → Both p q h g → p.index ≡ q.index
  same-index p q h g both =
      let one : h.pc ≡ base + 4 * p.index = both.says.pc in
      let two : g.pc ≡ base + 4 * q.index = both.other.pc in
      let same : h.pc ≡ g.pc = both.alike.pc in
      omega (arith, one, two, same)

  -- one instruction of both paths
  both-step : (p q : PathState) (taken : Bool) (instr : Instr) (step to : PathStep) (z y : AbstractState) (h g : HartState) → slice_get instrs p.index ≡ Some instr
      → slice_get instrs q.index ≡ Some instr → path_step may_reach s p taken instr ≡ Some step → path_step may_reach t q taken instr ≡ Some to
      → AreSo step.conditions → AreSo to.conditions → run.after_writes step.writes p.cells ≡ Some z → run.after_writes to.writes q.cells ≡ Some y
      → SameBadCall step.held.end to.held.end → Both p q h g
      → GoOnAlike (Both (next_path step z).end (next_path to y).end) (hart_step code h) (hart_step code g)
  both-step p q taken instr step to z y h g at at_too is is_too so so_too cells cells_too called both =
      let one = one-step steps-taken may_reach s ok number base code instrs stand p taken instr step z h at is so cells both.says in
      let two = one-step steps-taken may_reach t ok_too number base code instrs stand q taken instr to y g at_too is_too so_too cells_too both.other in
      let by = machine-step-at code h (base + 4 * p.index) instr both.says.mode both.says.pc (stand.each p.index instr at) in
      let by_too = machine-step-at code g (base + 4 * q.index) instr both.other.mode both.other.pc (stand.each q.index instr at_too) in
      let same = machine-alike h g instr both.alike
      (decides may_reach s t ok ok_too number base p q h g both taken instr step to is is_too so so_too called) in
      let P : StepResult → Type 0 = λ x. AreStepsAlike x (hart_step code g) in
      let Q : StepResult → Type 0 = λ x. AreStepsAlike (machine_instr_step h instr) x in
      went-alike (Both (next_path step z).end (next_path to y).end) (hart_step code h) (hart_step code g) one.after two.after one.probes two.probes one.did two.did
      one.step_is two.step_is (subst P (sym by) (subst Q (sym by_too) same))
      (λ alike. record { says = one.there; other = two.there; alike = alike })

  -- after a tick of both too
  both-ticked : (p q : PathState) (ticked : Bool) (h g : HartState) → Both p q h g → Both p q (ticked_if ticked h) (ticked_if ticked g)
  both-ticked p q ticked h g both = record {
    says = path-says-ticked s number base p ticked h both.says;
    other = path-says-ticked t number base q ticked g both.other;
    alike = alike-ticked ticked h g both.alike;
  }

  -- all of both paths, by their answers
  both-from : (answers : List Bool) (start begin path way : Path) (h g : HartState) → path_from may_reach s instrs answers (Some start) ≡ Some path
      → path_from may_reach t instrs answers (Some begin) ≡ Some way → AreSo path.conditions → AreSo way.conditions
      → SameBadCall path.end.held.end way.end.held.end
      → Both start.end begin.end h g → LeadBoth code (length answers) (Both path.end way.end) h g
  both-from [] start begin path way h g e f so so_too called both =
      let P : Path → Type 0 = λ x. Both x.end way.end h g in
      let Q : Path → Type 0 = λ x. Both start.end x.end h g in
      subst P (no-more may_reach s instrs start path e) (subst Q (no-more may_reach t instrs begin way f) both)
  both-from (taken ∷ answers) start begin path way h g e f so so_too called both =
      let first = first-parts may_reach s instrs start taken answers path e in
      let second = first-parts may_reach t instrs begin taken answers way f in
      let next = next_path first.step first.cells in
      let next_too = next_path second.step second.cells in
      let rest_so = are-so-right start.conditions first.rest.conditions (subst (λ (x : Path). AreSo x.conditions) first.is_path so) in
      let rest_so_too = are-so-right begin.conditions second.rest.conditions (subst (λ (x : Path). AreSo x.conditions) second.is_path so_too) in
      let step_so = conditions-first may_reach s instrs answers next first.rest first.is_rest rest_so in
      let step_so_too = conditions-first may_reach t instrs answers next_too second.rest second.is_rest rest_so_too in
      let ends : first.rest.end ≡ path.end = ap (λ (x : Path). x.end) (sym first.is_path) in
      let ends_too : second.rest.end ≡ way.end = ap (λ (x : Path). x.end) (sym second.is_path) in
      let place = same-index start.end begin.end h g both in
      let instrs_same : second.instr ≡ first.instr = one-of (slice_get instrs begin.end.index) second.instr first.instr second.is_instr
      (ap (slice_get instrs) (sym place) ∙ first.is_instr) in
      let R : Instr → Type 0 = λ i. slice_get instrs begin.end.index ≡ Some i in
      let S : Instr → Type 0 = λ i. path_step may_reach t begin.end taken i ≡ Some second.step in
      let is_too = subst S instrs_same second.is_step in
      let C : PathState → Type 0 = λ x. SameBadCall x.held.end way.end.held.end in
      let D : PathState → Type 0 = λ x. SameBadCall first.rest.end.held.end x.held.end in
      let rest_called = subst D (sym ends_too) (subst C (sym ends) called) in
      let step_called : SameBadCall first.step.held.end second.step.held.end = λ n m u v.
      rest_called n m (end-stays may_reach s instrs answers next first.rest (BadCall n) first.is_rest u)
      (end-stays may_reach t instrs answers next_too second.rest (BadCall m) second.is_rest v) in
      let A : PathState → Type 0 = λ x. LeadBoth code (length (taken ∷ answers)) (Both x way.end) h g in
      let B : PathState → Type 0 = λ x. LeadBoth code (length (taken ∷ answers)) (Both first.rest.end x) h g in
      subst A ends (subst B ends_too (inr (
        (both.says.mode, both.other.mode),
        λ ticked.
            let a = ticked_if ticked h in
            let b = ticked_if ticked g in
            both-go-map (Both next.end next_too.end) (LeadBoth code (length answers) (Both first.rest.end second.rest.end)) (hart_step code a) (hart_step code b)
            (λ x y there. both-from answers next next_too first.rest second.rest x y first.is_rest second.is_rest rest_so rest_so_too rest_called there)
            (both-step start.end begin.end taken first.instr first.step second.step first.cells second.cells a b first.is_instr
            (subst R instrs_same second.is_instr) first.is_step is_too step_so step_so_too first.are_cells second.are_cells step_called
            (both-ticked start.end begin.end ticked h g both)),
      )))

  -- Two harts that are alike, as two states of paths say, are led to the ends of both paths, where they are alike again: the paths are of
  -- the same instructions and answers, what they ask is so, and bad calls that end them are of one number.
  pub both-lead : (answers : List Bool) (p q : PathState) (path way : Path) (h g : HartState) → path_of may_reach s instrs answers p ≡ Some path
      → path_of may_reach t instrs answers q ≡ Some way → AreSo path.conditions → AreSo way.conditions
      → option_map kind_of path.end.held.end ≡ option_map kind_of way.end.held.end
      → AreAsPathsSay s t number base p q h g → LeadBoth code (length answers) (AreAsPathsSay s t number base path.end way.end) h g
  both-lead answers p q path way h g e f so so_too same both =
      both-from answers (record { end = p; conditions = [] }) (record { end = q; conditions = [] }) path way h g e f so so_too
      (kinds-called path.end.held.end way.end.held.end same) both
