-- From a take that got a context back into user mode, without ticks.
use Rattle.std.proofs.Common.{◌≡◌, ℕ, ◌+◌, inr, false, List, [], length, Option, sym, ap, subst, ◌∙◌, arith}
use Rattle.std.proofs.lemmas.Bool.{ne_eqb}
use Rattle.std.proofs.lemmas.List.{length-replicate}
use Rattle.isa_model.specs.declared.task.Task.{Task}
use Rattle.hart_model.specs.declared.calls.Did.TheVariants.{Ran}
use Rattle.hart_model.specs.Csrs.{CsrFile}
use Rattle.hart_model.specs.Context.{ContextState, slot_address, task_of}
use Rattle.hart_model.specs.HartState.{HartState}
use Rattle.hart_model.specs.Writes.{HartAndProbes}
use Rattle.core_model.specs.Routines.{run_of_part, has_tick, HoldsSame, ComesTo, IsPartSound, HasRestored, IsUserState, IsReadyContext}
use Rattle.symbolic_run.specs.SymbolicPath.{IsAsPathSays}
use Rattle.symbolic_run.proofs.ComputedPaths.{every_word, straight}
use Rattle.symbolic_run.proofs.PartRuns.{comes-map, comes-both}
use Rattle.symbolic_run.proofs.StepsTaken.{steps-taken}
use Rattle.symbolic_run.proofs.Paths.{paths-lead}
use Rattle.symbolic_run.specs.Laws.{PathsLead}
use Rattle.symbolic_run.proofs.Ways.{holds-same}
use Rattle.core_invariant.specs.KernelStates.{middle_instrs, middle_len, KernelParts, IsKernel, middle_at, mret_at}
use Rattle.core_invariant.proofs.PartModes.{in-restore}
use Rattle.core_invariant.proofs.TakenStands.{taken_setting, taken-setting-sound, taken_state, pc_of}
use Rattle.core_invariant.proofs.TakenPath.{IsRestored, task_csrs, Restoring, restoring, runs-restored, end_state, taken_asks, taken-path}
use Rattle.core_invariant.proofs.Returns.{returned, mret-step, user-state}
use Rattle.order_laws.specs.Arrives.{Arrives, IsAfter}
use Rattle.order_laws.specs.CoarseInvariant.{restore_steps}
use Rattle.order_laws.proofs.Arrive.{after-then, arrives-map, arrives-then}
use Rattle.order_laws.proofs.PathArrives.{path-arrives}
use Rattle.order_laws.proofs.PartArrives.{without_ticks, part-arrives}
use Rattle.order_laws.proofs.TrapArrives.{no-tick, or-false}

module _ (tasks : List Task) (k : KernelParts) (kernel : IsKernel k) (number : ℕ) (c : ContextState) (r : IsReadyContext tasks c) (csrs : CsrFile)
    (four : length csrs.pmp.addrs ≡ 4) where
  abbrev lead : PathsLead
  lead = paths-lead steps-taken

  abbrev ToRestore : HartState → Type 0
  ToRestore g = Restoring k kernel lead tasks number c r csrs g

  abbrev Restored : HartState → Type 0
  Restored g = IsRestored tasks number (mret_at k) (task_csrs (task_of c.body) (pc_of c) csrs) c g

  -- from the take to the restore part
  to-restore : (h : HartState) → IsAsPathSays (taken_setting tasks c) number (middle_at k) (taken_state (taken_setting tasks c) csrs c) h
      → Arrives k.code.words 12 (λ g. ToRestore g × IsAfter h g) h
  to-restore h says =
      let s = taken_setting tasks c in
      let ok = taken-setting-sound tasks c r in
      let low = ok.slot in
      arrives-map k.code.words 12 (λ g. IsAsPathSays s number (middle_at k) (end_state s csrs c (pc_of c)) g × IsAfter h g)
      (λ g. ToRestore g × IsAfter h g) h
      (λ g there. (restoring k kernel lead tasks number c r csrs g there.0, there.1))
      (path-arrives steps-taken every_word s ok number (middle_at k) k.code.words (middle_instrs (middle_len + k.restore + 1)) kernel.linked.middle
      (straight 12)
      (record { end = taken_state s csrs c; conditions = [] }) (record { end = end_state s csrs c (pc_of c); conditions = taken_asks s }) h
      (taken-path s csrs c (pc_of c) (middle_len + k.restore + 1))
      (ne_eqb (slot_address s.slot) 0 (λ e. absurd (omega (arith, e))), tt) says)

  -- through the restore part
  restored-end : (g : HartState) → ToRestore g
      → ComesTo (λ a. Restored a.hart × IsAfter g a.hart) (run_of_part k.code.words (without_ticks k.restore) g)
  restored-end g at =
      let ticks = without_ticks k.restore in
      let same = length-replicate k.restore false in
      let run = run_of_part k.code.words ticks g in
      let Is : HartAndProbes → Type 0 = λ a. Restored a.hart in
      let Values : HartAndProbes → Type 0 = λ a. HasRestored ticks g c a.hart in
      let Sound : HartAndProbes → Type 0 = IsPartSound tasks number c in
      comes-map (λ a. Is a × (Values a × Sound a)) (λ a. Restored a.hart × IsAfter g a.hart) run
      (λ a all. (
        all.0,
        record {
          holds = subst (λ (o : Option ContextState). HoldsSame o a.hart.held) (sym at.0.held) all.1.1.holds;
          calm =
              λ calm. ap (λ (x : CsrFile). x.is_timer_pending) all.1.0.csrs
              ∙ or-false g.csrs.is_timer_pending (has_tick ticks) calm (no-tick k.restore);
        },
      ))
      (comes-both Is (λ a. Values a × Sound a) run (runs-restored k kernel lead tasks number c r csrs g at ticks same)
      (comes-both Values Sound run (kernel.restores_values tasks number g c ticks at.0 same)
      (kernel.restores_explained.sound tasks number g c ticks at.0 (omega (arith, same)))))

  restores : (g : HartState) → ToRestore g → Arrives k.code.words k.restore (λ f. Restored f × IsAfter g f) g
  restores g at =
      part-arrives tasks k.code.words number c (λ f. Restored f × IsAfter g f) k.restore g (in-restore k kernel at.0) (restored-end g at)

  -- and by MRET
  returns : (g : HartState) → Restored g → Arrives k.code.words 1 (λ f. IsUserState tasks number f c × IsAfter g f) g
  returns g at = inr (
    at.mode,
    record {
      after = returned g;
      probes = [];
      did = Ran;
      step_is = mret-step k kernel.linked tasks number c r csrs four g at;
      there = (user-state k kernel.linked tasks number c r csrs four g at, record { holds = holds-same g.held; calm = λ calm. calm });
    },
  )

  -- From the take into user mode.
  pub take-arrives : (h : HartState) → IsAsPathSays (taken_setting tasks c) number (middle_at k) (taken_state (taken_setting tasks c) csrs c) h
      → Arrives k.code.words (restore_steps k) (λ g. IsUserState tasks number g c × IsAfter h g) h
  take-arrives h says =
      arrives-then k.code.words 12 (k.restore + 1) (λ g. ToRestore g × IsAfter h g) (λ g. IsUserState tasks number g c × IsAfter h g) h
      (to-restore h says)
      (λ g at. arrives-then k.code.words k.restore 1 (λ f. Restored f × IsAfter g f) (λ f. IsUserState tasks number f c × IsAfter h f) g
      (restores g at.0)
      (λ f done. arrives-map k.code.words 1 (λ x. IsUserState tasks number x c × IsAfter f x) (λ x. IsUserState tasks number x c × IsAfter h x) f
      (λ x there. (there.0, after-then h f x (after-then h g f at.1 done.1) there.1)) (returns f done.0)))
