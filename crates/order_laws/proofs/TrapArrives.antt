-- From a trap through the save part and along a path of the middle, without ticks.
use Rattle.std.proofs.Common.{◌≡◌, ℕ, zero, suc, ◌+◌, Bool, false, ◌||◌, List, [], length, Option, refl, sym, ap, subst, ◌∙◌, arith}
use Rattle.std.proofs.lemmas.List.{length-replicate}
use Rattle.isa_model.specs.declared.task.Task.{Task}
use Rattle.hart_model.specs.declared.tag.Cell.{Cell}
use Rattle.hart_model.specs.Csrs.{CsrFile}
use Rattle.hart_model.specs.Context.{ContextState}
use Rattle.hart_model.specs.HartState.{HartState}
use Rattle.hart_model.specs.Writes.{HartAndProbes}
use Rattle.core_model.specs.Soundness.{IsTruthful}
use Rattle.core_model.specs.Routines.{run_of_part, has_tick, HoldsSame, ComesTo, IsPartSound, HasSaved}
use Rattle.symbolic_run.specs.AbstractCell.{PublicAny}
use Rattle.symbolic_run.specs.Concretization.{Valuation}
use Rattle.symbolic_run.specs.SymbolicPath.{IsAsPathSays}
use Rattle.symbolic_run.proofs.ComputedPaths.{every_word}
use Rattle.symbolic_run.proofs.PartRuns.{comes-map, comes-both}
use Rattle.symbolic_run.proofs.StepsTaken.{steps-taken}
use Rattle.core_invariant.specs.KernelStates.{middle_instrs, middle_len, KernelParts, IsKernel, middle_at}
use Rattle.core_invariant.specs.CutPoints.{IsAtTrap}
use Rattle.core_invariant.proofs.KernelCells.{saved_cells, at_start}
use Rattle.core_invariant.proofs.Trapped.{trapped_setting, words_of, AreOwn, trap-setting-sound}
use Rattle.core_invariant.proofs.PartModes.{in-save}
use Rattle.core_invariant.proofs.Saved.{IsSaved, EndsThere, runs-saved, saved-says}
use Rattle.order_laws.specs.Arrives.{Arrives, IsAfter}
use Rattle.order_laws.proofs.Arrive.{after-then, arrives-map, arrives-then}
use Rattle.order_laws.proofs.PathArrives.{path-arrives}
use Rattle.order_laws.proofs.PartArrives.{without_ticks, part-arrives}

-- without ticks there is none
pub no-tick : (n : ℕ) → has_tick (without_ticks n) ≡ false
no-tick zero = refl
no-tick (suc n) = no-tick n

pub or-false : (b c : Bool) → b ≡ false → c ≡ false → b || c ≡ false
or-false b c e f = rw (e, f) refl

module _ {tasks : List Task} {number n cause : ℕ} {h : HartState} {c : ContextState} (trap : IsAtTrap tasks number n cause h c)
    (k : KernelParts) (kernel : IsKernel k) where
  -- the save part leaves a saved task
  abbrev Saved : HartState → Type 0
  Saved g = IsSaved tasks number n (middle_at k) h c g × IsAfter h g

  saved-end : ComesTo (λ a. Saved a.hart) (run_of_part k.code.words (without_ticks k.save) h)
  saved-end =
      let ticks = without_ticks k.save in
      let same = length-replicate k.save false in
      let run = run_of_part k.code.words ticks h in
      let Is : HartAndProbes → Type 0 = λ a. IsSaved tasks number n (middle_at k) h c a.hart in
      let Values : HartAndProbes → Type 0 = λ a. HasSaved n ticks h c a.hart in
      let Sound : HartAndProbes → Type 0 = IsPartSound tasks number c in
      comes-map (λ a. Is a × (Values a × Sound a)) (λ a. Saved a.hart) run
      (λ a all. (
        all.0,
        record {
          holds = subst (λ (o : Option ContextState). HoldsSame o a.hart.held) (sym trap.held) all.1.1.holds;
          calm = λ calm. ap (λ (x : CsrFile). x.is_timer_pending) all.1.0.csrs
              ∙ or-false h.csrs.is_timer_pending (has_tick ticks) calm (no-tick k.save);
        },
      ))
      (comes-both Is (λ a. Values a × Sound a) run (runs-saved trap k kernel ticks same)
      (comes-both Values Sound run (kernel.saves_values tasks number n h c ticks trap.trapped same)
      (kernel.saves_explained.sound tasks number n h c ticks trap.trapped (omega (arith, same)))))

  pub save-arrives : Arrives k.code.words k.save Saved h
  save-arrives = part-arrives tasks k.code.words number c Saved k.save h (in-save k kernel trap) saved-end

  module _ (given_cell : Cell) (truthful : IsTruthful tasks given_cell) where
    -- what arrives somewhere from every saved task arrives there from the trap
    pub after-save : (There : HartState → Type 0) (more : ℕ)
        → ((regs : ℕ → Cell) → AreOwn n c regs → (g : HartState)
        → IsAsPathSays (trapped_setting tasks n regs c given_cell) number (middle_at k)
        (at_start (saved_cells (trapped_setting tasks n regs c given_cell) PublicAny) h.csrs c) g
        → IsAfter h g → Arrives k.code.words more There g)
        → Arrives k.code.words (k.save + more) There h
    after-save There more further =
        arrives-then k.code.words k.save more Saved There h save-arrives
        (λ g is. further (words_of g) is.0.tags.saved g (saved-says trap given_cell truthful (middle_at k) g is.0) is.1)

    -- along a path of the middle
    pub trap-arrives : (csrs : CsrFile) (held : ContextState) → h.csrs ≡ csrs → c ≡ held → (answers : List Bool) (There : HartState → Type 0)
        → ((regs : ℕ → Cell) → AreOwn n c regs → EndsThere trap given_cell truthful regs k csrs held answers There)
        → Arrives k.code.words (k.save + length answers) (λ g. There g × IsAfter h g) h
    trap-arrives csrs held csrs_are held_is answers There ends =
        after-save (λ g. There g × IsAfter h g) (length answers) (λ regs own g says after.
        let s : Valuation = trapped_setting tasks n regs c given_cell in
        let e = ends regs own in
        let Says : CsrFile → ContextState → Type 0 = λ x d. IsAsPathSays s number (middle_at k) (at_start (saved_cells s PublicAny) x d) g in
        let P : CsrFile → Type 0 = λ x. Says x c in
        arrives-map k.code.words (length answers) (λ f. IsAsPathSays s number (middle_at k) e.path.end f × IsAfter g f) (λ f. There f × IsAfter h f) g
        (λ f at. (e.there f at.0, after-then h g f after at.1))
        (path-arrives steps-taken every_word s (trap-setting-sound trap given_cell truthful regs own) number (middle_at k) k.code.words
        (middle_instrs (middle_len + k.restore + 1)) kernel.linked.middle answers
        (record { end = at_start (saved_cells s PublicAny) csrs held; conditions = [] }) e.path g e.is_path e.so
        (subst (Says csrs) held_is (subst P csrs_are says))))
