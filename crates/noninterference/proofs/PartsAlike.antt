-- Words that save and words that restore do alike on two harts that are alike: their entries agree publicly, and the harts are alike at
-- the end.
use Rattle.std.proofs.Common.{◌≡◌, ℕ, ◌+◌, ◌*◌, ◌≤◌, Bool, true, false, List, [], ◌∷◌, ◌++◌, length, slice_get, Some, refl, sym, ap, subst, ◌∙◌, arith}
use Rattle.std.specs.List.{list_all}
use Rattle.std.proofs.lemmas.List.{length-replicate}
use Rattle.isa_model.specs.declared.task.Task.{Task}
use Rattle.isa_model.specs.declared.instr.Instr.{Instr}
use Rattle.hart_model.specs.declared.calls.Did.TheVariants.{Ran}
use Rattle.hart_model.specs.Context.{ContextState}
use Rattle.hart_model.specs.HartState.{HartState}
use Rattle.hart_model.specs.MachineStep.{kernel_address, machine_instr_step}
use Rattle.hart_model.specs.StepResult.{Steps}
use Rattle.hart_model.specs.Writes.{HartAndProbes}
use Rattle.core_model.specs.LowEquivalence.{AgreesPublicly, AgreePublicly}
use Rattle.core_model.specs.AlikeHarts.{AreHartsAlike}
use Rattle.core_model.specs.Routines.{ticked_if, part_step, run_of_part, BothCome, IsTrapped, IsRestoring, SavesAlike, RestoresAlike, Saves, Restores, before_restore_limit}
use Rattle.symbolic_run.specs.AbstractCell.{AbstractState, PublicNumber}
use Rattle.symbolic_run.specs.AbstractRun.{run_of, instrs_of}
use Rattle.symbolic_run.specs.Concretization.{Valuation, IsSound}
use Rattle.symbolic_run.specs.SymbolicPath.{PathState, PathStep, Path, AreSo, path_from, path_step, StandAt}
use Rattle.symbolic_run.proofs.PathSays.{path-says-ticked}
use Rattle.symbolic_run.proofs.Paths.{machine-step-at}
use Rattle.symbolic_run.proofs.PathParts.{next_path, first-parts}
use Rattle.symbolic_run.proofs.ComputedPaths.{straight}
use Rattle.symbolic_run.proofs.PartSteps.{is_of_part, is-of-part, IsPartStepped, part-steps, only-writes}
use Rattle.symbolic_run.proofs.PartRuns.{after_probes}
use Rattle.symbolic_run.proofs.StraightRuns.{only_end, run-of-part, runs-are-paths}
use Rattle.core_invariant.proofs.KernelCells.{reached, trapped_cells, saved_cells, at_start}
use Rattle.core_invariant.proofs.Trapped.{saving_setting, saving-sound, trap-says}
use Rattle.core_invariant.proofs.TakenStands.{taken_setting, taken-setting-sound, pc_of}
use Rattle.core_invariant.proofs.PartSaves.{RunsSave, trapped-at, save-stands, save-values, save-explained}
use Rattle.core_invariant.proofs.PartRestores.{RunsRestore, restoring-says, restore-stands, restore-values, restore-explained}
use Rattle.noninterference.specs.AlikeSteps.{AreStepsAlike}
use Rattle.noninterference.proofs.Pairs.{pairwise-append}
use Rattle.noninterference.proofs.MachineAlike.{machine-alike}
use Rattle.noninterference.proofs.BothPaths.{AreAsPathsSay, SameBadCall, kinds-called, alike-ticked, decides}
use Rattle.noninterference.proofs.BothEnds.{held-ends}
use Rattle.noninterference.proofs.BothLead.{one-of}
use Rattle.noninterference.proofs.BothSteps.{alike-as}
use Rattle.noninterference.proofs.BothRuns.{both-come-map, both-then-come}

-- what two runs come to
abbrev AreRunAlike : HartAndProbes → HartAndProbes → Type 0
AreRunAlike a b = AgreePublicly a.probes b.probes × AreHartsAlike a.hart b.hart

module _ (may_reach : ℕ → Bool) (s t : Valuation) (ok : IsSound s) (ok_too : IsSound t) (number base : ℕ) (code : List ℕ) (instrs : List Instr)
    (stand : StandAt code base instrs) (all : list_all is_of_part instrs ≡ true) where
  abbrev Both : PathState → PathState → HartState → HartState → Type 0
  Both p q h g = AreAsPathsSay s t number base p q h g

  -- both are at the same instruction
  same-index : (p q : PathState) (h g : HartState) → Both p q h g → p.index ≡ q.index
  same-index p q h g both =
      let one : h.pc ≡ base + 4 * p.index = both.says.pc in
      let two : g.pc ≡ base + 4 * q.index = both.other.pc in
      let same : h.pc ≡ g.pc = both.alike.pc in
      omega (arith, one, two, same)

  -- an instruction of a part asks nothing, and leaves the end as it was
  record IsPlain (p : PathState) (step : PathStep) : Type 0 where
    so : AreSo step.conditions
    end : step.held.end ≡ p.held.end

  is-plain : (u : Valuation) (p : PathState) (taken : Bool) (instr : Instr) (step : PathStep) → is_of_part instr ≡ true
      → path_step may_reach u p taken instr ≡ Some step → IsPlain p step
  is-plain u p taken instr step of is =
      let w = only-writes may_reach u p taken instr step of is in
      let P : PathStep → Type 0 = λ x. IsPlain p x in
      subst P (sym w.step_is) (record { so = tt; end = refl })

  -- a step of both is one of the part on each, alike
  both-step : (p q : PathState) (taken : Bool) (instr : Instr) (step to : PathStep) (z y : AbstractState) (h g : HartState)
      → slice_get instrs p.index ≡ Some instr → slice_get instrs q.index ≡ Some instr → path_step may_reach s p taken instr ≡ Some step
      → path_step may_reach t q taken instr ≡ Some to
      → (one : IsPartStepped s number base code p step z h) → (two : IsPartStepped t number base code q to y g) → Both p q h g
      → AreRunAlike (record { hart = one.after; probes = one.probes }) (record { hart = two.after; probes = two.probes })
  both-step p q taken instr step to z y h g at at_too is is_too one two both =
      let of = is-of-part instrs p.index instr all at in
      let plain = is-plain s p taken instr step of is in
      let plain_too = is-plain t q taken instr to of is_too in
      let kinds : SameBadCall p.held.end q.held.end = kinds-called p.held.end q.held.end (held-ends s t number base p q h g both) in
      let called : SameBadCall step.held.end to.held.end = λ n m u v. kinds n m (sym plain.end ∙ u) (sym plain_too.end ∙ v) in
      let by = machine-step-at code h (base + 4 * p.index) instr both.says.mode both.says.pc (stand.each p.index instr at) in
      let by_too = machine-step-at code g (base + 4 * q.index) instr both.other.mode both.other.pc (stand.each q.index instr at_too) in
      let same = machine-alike h g instr both.alike
      (decides may_reach s t ok ok_too number base p q h g both taken instr step to is is_too plain.so plain_too.so called) in
      let left : AreStepsAlike (Steps one.after one.probes Ran) (Steps two.after two.probes Ran) =
      alike-as (machine_instr_step h instr) (machine_instr_step g instr) (Steps one.after one.probes Ran) (Steps two.after two.probes Ran)
      (sym by ∙ one.hart_is) (sym by_too ∙ two.hart_is) same in
      (left.0.probes, left.0.harts)

  -- After each number of instructions along the same path both are alike.
  both-runs : (answers ticks : List Bool) (start begin path way : Path) (h g : HartState)
      → path_from may_reach s instrs answers (Some start) ≡ Some path → path_from may_reach t instrs answers (Some begin) ≡ Some way
      → Both start.end begin.end h g → length ticks ≤ length answers
      → BothCome AreRunAlike (run_of_part code ticks h) (run_of_part code ticks g)
  both-runs answers [] start begin path way h g e f both le = (tt, both.alike)
  both-runs [] (ticked ∷ ticks) start begin path way h g e f both le = absurd (omega (arith, le))
  both-runs (taken ∷ answers) (ticked ∷ ticks) start begin path way h g e f both le =
      let first = first-parts may_reach s instrs start taken answers path e in
      let second = first-parts may_reach t instrs begin taken answers way f in
      let a = ticked_if ticked h in
      let b = ticked_if ticked g in
      let p = start.end in
      let q = begin.end in
      let now : Both p q a b = record {
        says = path-says-ticked s number base p ticked h both.says;
        other = path-says-ticked t number base q ticked g both.other;
        alike = alike-ticked ticked h g both.alike;
      } in
      let place = same-index p q h g both in
      let same : second.instr ≡ first.instr = one-of (slice_get instrs q.index) second.instr first.instr second.is_instr
      (ap (slice_get instrs) (sym place) ∙ first.is_instr) in
      let R : Instr → Type 0 = λ i. slice_get instrs q.index ≡ Some i in
      let S : Instr → Type 0 = λ i. path_step may_reach t q taken i ≡ Some second.step in
      let at_too = subst R same second.is_instr in
      let is_too = subst S same second.is_step in
      let of = is-of-part instrs p.index first.instr all first.is_instr in
      let one = part-steps may_reach s ok number base code instrs stand p taken first.instr first.step first.cells a first.is_instr of first.is_step
      first.are_cells now.says in
      let two = part-steps may_reach t ok_too number base code instrs stand q taken first.instr second.step second.cells b at_too of is_too
      second.are_cells now.other in
      let left = both-step p q taken first.instr first.step second.step first.cells second.cells a b first.is_instr at_too first.is_step is_too
      one two now in
      let x : HartAndProbes = record { hart = one.after; probes = one.probes } in
      let y : HartAndProbes = record { hart = two.after; probes = two.probes } in
      both-then-come AreRunAlike (part_step code a) (part_step code b) (λ f. run_of_part code ticks f) (λ f. run_of_part code ticks f) x y
      one.part_is two.part_is
      (both-come-map AreRunAlike (λ v w. AreRunAlike (after_probes one.probes v) (after_probes two.probes w)) (run_of_part code ticks one.after)
      (run_of_part code ticks two.after)
      (λ v w more. (pairwise-append AgreesPublicly one.probes two.probes v.probes w.probes left.0 more.0, more.1))
      (both-runs answers ticks (next_path first.step first.cells) (next_path second.step second.cells) first.rest second.rest one.after two.after
      first.is_rest second.is_rest (record { says = one.says; other = two.says; alike = left.1 }) (omega (arith, le))))

-- After each number of words that are followed on both.
both-words : (s t : Valuation) → IsSound s → IsSound t → (number base : ℕ) (code words : List ℕ) → StandAt code base (instrs_of words)
    → (p q : PathState) (x y : AbstractState) → p.index ≡ 0 → q.index ≡ 0 → run_of reached words p.cells ≡ Some x
    → run_of reached words q.cells ≡ Some y
    → (ticks : List Bool) (h g : HartState) → AreAsPathsSay s t number base p q h g → length ticks ≤ length words
    → BothCome AreRunAlike (run_of_part code ticks h) (run_of_part code ticks g)
both-words s t ok ok_too number base code words stand p q x y start begin run_is run_too ticks h g both le =
    let count = length-replicate (length words) false in
    both-runs reached s t ok ok_too number base code (instrs_of words) stand (run-of-part reached words p.cells x run_is).of_part
    (straight (length words)) ticks (only_end p) (only_end q) (only_end (record p { cells = x; index = length words }))
    (only_end (record q { cells = y; index = length words })) h g
    (runs-are-paths reached s words p x start run_is) (runs-are-paths reached t words q y begin run_too) both (omega (arith, le, count))

-- Words that save, whatever code follows them.
module _ (words : List ℕ) (runs : RunsSave words) (rest : List ℕ) where
  module _ (tasks others : List Task) (number n m : ℕ) (h g : HartState) (c d : ContextState) (ticks : List Bool)
      (one : IsTrapped tasks number n h c) (two : IsTrapped others number m g d) (alike : AreHartsAlike h g) where
    save-both : length ticks ≤ length words → BothCome AreRunAlike (run_of_part (words ++ rest) ticks h) (run_of_part (words ++ rest) ticks g)
    save-both le =
        let trap = (trapped-at tasks number n h c one).1 in
        let second = (trapped-at others number m g d two).1 in
        let s = saving_setting trap in
        let t = saving_setting second in
        let end = runs.ends s in
        let ending = runs.ends t in
        both-words s t (saving-sound trap) (saving-sound second) number kernel_address (words ++ rest) words (save-stands words runs s rest)
        (at_start (trapped_cells s) h.csrs c) (at_start (trapped_cells t) g.csrs d) end.0 ending.0 refl refl end.1 ending.1 ticks h g
        (record { says = trap-says trap; other = trap-says second; alike = alike }) le

  pub save-alike : SavesAlike (words ++ rest) (length words)
  save-alike = record {
    probes = λ tasks others number n m h g c d ticks one two alike le.
        both-come-map AreRunAlike (λ a b. AgreePublicly a.probes b.probes) (run_of_part (words ++ rest) ticks h) (run_of_part (words ++ rest) ticks g)
        (λ a b both. both.0) (save-both tasks others number n m h g c d ticks one two alike le);
    harts = λ tasks others number n m h g c d ticks one two alike same.
        both-come-map AreRunAlike (λ a b. AreHartsAlike a.hart b.hart) (run_of_part (words ++ rest) ticks h) (run_of_part (words ++ rest) ticks g)
        (λ a b both. both.1) (save-both tasks others number n m h g c d ticks one two alike (omega (arith, same)));
  }

-- Words that restore, whatever code stands before and after them.
module _ (words : List ℕ) (runs : RunsRestore words) (front rest : List ℕ) (few : length front ≤ before_restore_limit) where
  abbrev code_of : List ℕ
  code_of = front ++ (words ++ rest)

  abbrev base_of : ℕ
  base_of = kernel_address + 4 * length front

  module _ (tasks others : List Task) (number : ℕ) (h g : HartState) (c d : ContextState) (ticks : List Bool)
      (one : IsRestoring tasks number base_of h c) (two : IsRestoring others number base_of g d) (alike : AreHartsAlike h g) where
    restore-both : length ticks ≤ length words → BothCome AreRunAlike (run_of_part code_of ticks h) (run_of_part code_of ticks g)
    restore-both le =
        let s = taken_setting tasks c in
        let t = taken_setting others d in
        let end = runs.ends s (pc_of c) in
        let ending = runs.ends t (pc_of d) in
        both-words s t (taken-setting-sound tasks c one.context) (taken-setting-sound others d two.context) number base_of code_of words
        (restore-stands words runs s front rest few) (at_start (saved_cells s (PublicNumber (pc_of c))) h.csrs c)
        (at_start (saved_cells t (PublicNumber (pc_of d))) g.csrs d) end.0 ending.0 refl refl end.1 ending.1 ticks h g
        (record { says = restoring-says tasks number base_of h c one; other = restoring-says others number base_of g d two; alike = alike }) le

  pub restore-alike : RestoresAlike code_of base_of (length words)
  restore-alike = record {
    probes = λ tasks others number h g c d ticks one two alike le.
        both-come-map AreRunAlike (λ a b. AgreePublicly a.probes b.probes) (run_of_part code_of ticks h) (run_of_part code_of ticks g)
        (λ a b both. both.0) (restore-both tasks others number h g c d ticks one two alike le);
    harts = λ tasks others number h g c d ticks one two alike same.
        both-come-map AreRunAlike (λ a b. AreHartsAlike a.hart b.hart) (run_of_part code_of ticks h) (run_of_part code_of ticks g)
        (λ a b both. both.1) (restore-both tasks others number h g c d ticks one two alike (omega (arith, same)));
  }

-- So such words save and restore, in all three statements.
pub words-save : (words : List ℕ) → RunsSave words → Saves words
words-save words runs = record { values = save-values words runs; explained = save-explained words runs; alike = save-alike words runs }

pub words-restore : (words : List ℕ) → RunsRestore words → Restores words
words-restore words runs = record { values = restore-values words runs; explained = restore-explained words runs; alike = restore-alike words runs }
