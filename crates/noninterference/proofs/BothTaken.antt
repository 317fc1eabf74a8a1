-- Two harts that are alike and have taken contexts that are alike: both are led into user mode, alike.
use Rattle.std.proofs.Common.{◌≡◌, ℕ, ◌+◌, ◌*◌, inl, inr, Bool, List, [], length, Some, refl, sym, arith, ne_eqb}
use Rattle.isa_model.specs.declared.task.Task.{Task}
use Rattle.isa_model.specs.declared.instr.Instr.TheVariants.{Mret}
use Rattle.hart_model.specs.declared.calls.Did.TheVariants.{Ran}
use Rattle.hart_model.specs.Csrs.{CsrFile, public}
use Rattle.hart_model.specs.Context.{ContextState, slot_address, task_of}
use Rattle.hart_model.specs.HartState.{HartState}
use Rattle.hart_model.specs.Writes.{HartAndProbes}
use Rattle.hart_model.specs.HartStep.{hart_step, answer_take}
use Rattle.core_model.specs.AlikeHarts.{AreContextsAlike, AreHartsAlike}
use Rattle.core_model.specs.Routines.{ticked_if, IsReadyContext, run_of_part}
use Rattle.symbolic_run.specs.Concretization.{Valuation, IsSound}
use Rattle.symbolic_run.specs.Laws.{PathsLead}
use Rattle.symbolic_run.specs.SymbolicPath.{Path, AreSo}
use Rattle.symbolic_run.proofs.ComputedPaths.{every_word, straight}
use Rattle.symbolic_run.proofs.StepsTaken.{steps-taken}
use Rattle.symbolic_run.proofs.Paths.{paths-lead, machine-step-at}
use Rattle.core_invariant.specs.KernelStates.{KernelParts, IsKernel, IsAlikeKernel, middle_instrs, middle_at, mret_at, middle_len, take_index}
use Rattle.core_invariant.specs.CutPoints.{IsEmptyHanded}
use Rattle.core_invariant.proofs.PartModes.{in-restore}
use Rattle.core_invariant.proofs.Takes.{take_early_writes, after-take, taken-x5}
use Rattle.core_invariant.proofs.TakenStands.{taken_setting, taken-setting-sound, pc_of, taken-stands, taken_state}
use Rattle.core_invariant.proofs.TakenPath.{IsRestored, Restoring, restoring, runs-restored, task_csrs, end_state, taken_asks, taken-path}
use Rattle.core_invariant.proofs.Returns.{returned, restored-ticked, mret-step, user-state}
use Rattle.noninterference.specs.AlikeSteps.{LeadBoth, GoOnAlike}
use Rattle.noninterference.specs.AlikeCores.{LedBoth}
use Rattle.noninterference.proofs.MachineAlike.{machine-alike}
use Rattle.noninterference.proofs.BothWays.{both-map, both-then}
use Rattle.noninterference.proofs.BothRuns.{both-come-map, both-come-each, both-part-leads}
use Rattle.noninterference.proofs.BothPaths.{AreAsPathsSay, alike-ticked, went-alike}
use Rattle.noninterference.proofs.BothLead.{both-lead}
use Rattle.noninterference.proofs.BothTraps.{StandAlike}
use Rattle.noninterference.proofs.BothOutcomes.{AreAtStarts}
use Rattle.noninterference.proofs.BothSteps.{alike-as}
use Rattle.noninterference.proofs.BothAnswers.{taken-alike}

-- the question of the path is so
asks-so : (s : Valuation) → IsSound s → AreSo (taken_asks s)
asks-so s ok = let low = ok.slot in (ne_eqb (slot_address s.slot) 0 (λ e. absurd (omega (arith, e))), tt)

module _ (k : KernelParts) (kernel : IsKernel k) (of_both : IsAlikeKernel k) (tasks others : List Task) (number : ℕ) (c d : ContextState)
    (r : IsReadyContext tasks c) (q : IsReadyContext others d) (same : AreContextsAlike c d) where
  abbrev here : Valuation
  here = taken_setting tasks c

  abbrev there : Valuation
  there = taken_setting others d

  abbrev There : HartState → HartState → Type 0
  There h g = AreAtStarts tasks others k number h g

  -- paths are followed
  abbrev lead : PathsLead
  lead = paths-lead steps-taken

  -- with the CSRs at the take: both are to restore, and both are restored
  module _ (csrs files : CsrFile) where
    abbrev BothRestoring : HartState → HartState → Type 0
    BothRestoring = StandAlike (Restoring k kernel lead tasks number c r csrs) (Restoring k kernel lead others number d q files)

    abbrev BothRestored : HartState → HartState → Type 0
    BothRestored =
        StandAlike (IsRestored tasks number (mret_at k) (task_csrs (task_of c.body) (pc_of c) csrs) c)
        (IsRestored others number (mret_at k) (task_csrs (task_of d.body) (pc_of d) files) d)

    -- the restore part leads both to MRET
    both-restored : (h g : HartState) → BothRestoring h g → LeadBoth k.code.words k.restore BothRestored h g
    both-restored h g both =
        both-part-leads k.code.words BothRestored tasks others number c d k.restore h g
        (in-restore k kernel both.here.0) (in-restore k kernel both.away.0)
        (λ ticks le. of_both.restores.probes tasks others number h g c d ticks both.here.0 both.away.0 both.alike le)
        (λ ticks same.
        let run = run_of_part k.code.words ticks h in
        let other = run_of_part k.code.words ticks g in
        let Here : HartAndProbes → Type 0 = λ a. IsRestored tasks number (mret_at k) (task_csrs (task_of c.body) (pc_of c) csrs) c a.hart in
        let Away : HartAndProbes → Type 0 = λ a. IsRestored others number (mret_at k) (task_csrs (task_of d.body) (pc_of d) files) d a.hart in
        both-come-map (λ a b. Here a × Away b × AreHartsAlike a.hart b.hart) (λ a b. BothRestored a.hart b.hart) run other
        (λ a b all. record { here = all.0; away = all.1; alike = all.2 })
        (both-come-each (λ a b. AreHartsAlike a.hart b.hart) Here Away run other
        (runs-restored k kernel lead tasks number c r csrs h both.here ticks same)
        (runs-restored k kernel lead others number d q files g both.away ticks same)
        (of_both.restores.harts tasks others number h g c d ticks both.here.0 both.away.0 both.alike same)))

    -- one step of both, with a tick before it or without
    both-return : length csrs.pmp.addrs ≡ 4 → length files.pmp.addrs ≡ 4 → (h g : HartState) → BothRestored h g → LeadBoth k.code.words 1 There h g
    both-return four four_too h g both = inr ((both.here.mode, both.away.mode), goes)
      where
        goes : (ticked : Bool) → GoOnAlike There (hart_step k.code.words (ticked_if ticked h)) (hart_step k.code.words (ticked_if ticked g))
        goes ticked =
            let a = ticked_if ticked h in
            let b = ticked_if ticked g in
            let one = restored-ticked tasks number (mret_at k) (task_csrs (task_of c.body) (pc_of c) csrs) c ticked h both.here in
            let two = restored-ticked others number (mret_at k) (task_csrs (task_of d.body) (pc_of d) files) d ticked g both.away in
            let now = alike-ticked ticked h g both.alike in
            let by = machine-step-at k.code.words a (mret_at k) Mret one.mode one.pc kernel.linked.mret in
            let by_too = machine-step-at k.code.words b (mret_at k) Mret two.mode two.pc kernel.linked.mret in
            went-alike There (hart_step k.code.words a) (hart_step k.code.words b) (returned a) (returned b) [] [] Ran Ran
            (mret-step k kernel.linked tasks number c r csrs four a one) (mret-step k kernel.linked others number d q files four_too b two)
            (alike-as _ _ (hart_step k.code.words a) (hart_step k.code.words b) (sym by) (sym by_too) (machine-alike a b Mret now tt))
            (λ left. record {
              start = inl (c, user-state k kernel.linked tasks number c r csrs four a one);
              other = inl (d, user-state k kernel.linked others number d q files four_too b two);
              alike = left;
            })

  -- from the take to the restore part, through it, and to the return
  both-from-take : (h g : HartState) → length h.csrs.pmp.addrs ≡ 4 → length g.csrs.pmp.addrs ≡ 4
      → AreAsPathsSay here there number (middle_at k) (taken_state here h.csrs c) (taken_state there g.csrs d) h g
      → LeadBoth k.code.words (12 + k.restore + 1) There h g
  both-from-take h g four four_too both =
      let ok = taken-setting-sound tasks c r in
      let ok_too = taken-setting-sound others d q in
      let idle = middle_len + k.restore + 1 in
      let p = end_state here h.csrs c (pc_of c) in
      let o = end_state there g.csrs d (pc_of d) in
      let path : Path = record { end = p; conditions = taken_asks here } in
      let way : Path = record { end = o; conditions = taken_asks there } in
      let Saved = BothRestoring h.csrs g.csrs in
      let Restored = BothRestored h.csrs g.csrs in
      let led : LeadBoth k.code.words 12 Saved h g =
      both-map k.code.words 12 (AreAsPathsSay here there number (middle_at k) p o) Saved h g
      (λ x y at. record {
        here = restoring k kernel lead tasks number c r h.csrs x at.says;
        away = restoring k kernel lead others number d q g.csrs y at.other;
        alike = at.alike;
      })
      (both-lead every_word here there ok ok_too number (middle_at k) k.code.words (middle_instrs idle) kernel.linked.middle (straight 12)
      (taken_state here h.csrs c) (taken_state there g.csrs d) path way h g (taken-path here h.csrs c (pc_of c) idle)
      (taken-path there g.csrs d (pc_of d) idle) (asks-so here ok) (asks-so there ok_too) same.end both) in
      let further : LeadBoth k.code.words (12 + k.restore) Restored h g =
      both-then k.code.words 12 k.restore Saved Restored h g led (λ x y at. both-restored h.csrs g.csrs x y at) in
      both-then k.code.words (12 + k.restore) 1 Restored There h g further (λ x y at. both-return h.csrs g.csrs four four_too x y at)

  -- Both have taken contexts that are alike.
  pub both-taken : (h g : HartState) → IsEmptyHanded tasks number (middle_at k + 4 * take_index) h
      → IsEmptyHanded others number (middle_at k + 4 * take_index) g → AreHartsAlike h g
      → LedBoth (AreAtStarts tasks others k) k number (answer_take take_early_writes 5 (middle_at k + 4 * (take_index + 1)) (Some c) h).hart
      (answer_take take_early_writes 5 (middle_at k + 4 * (take_index + 1)) (Some d) g).hart
  both-taken h g e f alike =
      let next = middle_at k + 4 * (take_index + 1) in
      let a = (answer_take take_early_writes 5 next (Some c) h).hart in
      let b = (answer_take take_early_writes 5 next (Some d) g).hart in
      let one = after-take k kernel.linked tasks number h (Some c) e in
      let two = after-take k kernel.linked others number g (Some d) f in
      let left = taken-alike take_early_writes 5 next (Some c) (Some d) h g same alike in (
        12 + k.restore + 1,
        both-from-take a b one.0.bound_registers two.0.bound_registers (record {
          says = taken-stands tasks c r k number a one.0 refl (taken-x5 h (public (slot_address c.slot)) e.hart.registers);
          other = taken-stands others d q k number b two.0 refl (taken-x5 g (public (slot_address d.slot)) f.hart.registers);
          alike = left.harts;
        }),
      )
