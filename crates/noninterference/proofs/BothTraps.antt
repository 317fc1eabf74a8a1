-- Two harts that have trapped and are alike: the save part and a path of the middle lead both to its end, alike.
use Rattle.std.proofs.Common.{◌≡◌, ℕ, ◌+◌, Bool, List, length, Option, option_map, refl, sym, ap, subst, ◌∙◌}
use Rattle.isa_model.specs.declared.task.Task.{Task}
use Rattle.isa_model.specs.Control.{kind_of}
use Rattle.hart_model.specs.declared.tag.Cell.{Cell}
use Rattle.hart_model.specs.Csrs.{CsrFile}
use Rattle.hart_model.specs.Context.{ContextState}
use Rattle.hart_model.specs.HartState.{HartState}
use Rattle.core_model.specs.Soundness.{IsTruthful}
use Rattle.core_model.specs.AlikeHarts.{AreHartsAlike}
use Rattle.core_model.specs.Routines.{run_of_part}
use Rattle.symbolic_run.specs.AbstractCell.{PublicAny}
use Rattle.symbolic_run.specs.Concretization.{Valuation}
use Rattle.symbolic_run.proofs.ComputedPaths.{every_word}
use Rattle.core_invariant.specs.KernelStates.{KernelParts, IsKernel, IsAlikeKernel, middle_instrs, middle_len, middle_at}
use Rattle.core_invariant.proofs.KernelCells.{saved_cells, at_start}
use Rattle.core_invariant.specs.CutPoints.{IsAtTrap}
use Rattle.core_invariant.proofs.PartModes.{in-save}
use Rattle.core_invariant.proofs.Trapped.{trapped_setting, trap-setting-sound, words_of, AreOwn}
use Rattle.core_invariant.proofs.Saved.{IsSaved, EndsThere, runs-saved, saved-says}
use Rattle.core_invariant.proofs.TrapEnds.{EndsSo, one-end}
use Rattle.noninterference.specs.AlikeSteps.{LeadBoth}
use Rattle.noninterference.proofs.UserAlike.{contexts_alike}
use Rattle.noninterference.proofs.BothWays.{both-then, both-map}
use Rattle.noninterference.proofs.BothPaths.{AreAsPathsSay}
use Rattle.noninterference.proofs.BothLead.{both-lead}
use Rattle.noninterference.proofs.BothRuns.{both-come-map, both-come-each, both-part-leads}

-- the ends of what two trapped harts hold
pub trap-kinds : {tasks others : List Task} {number n m cause reason : ℕ} {h g : HartState} {c d : ContextState} → IsAtTrap tasks number n cause h c
    → IsAtTrap others number m reason g d → AreHartsAlike h g → option_map kind_of c.end ≡ option_map kind_of d.end
trap-kinds {h = h} {g = g} {c = c} {d = d} trap second alike = (contexts_alike h.held g.held c d alike.held trap.held second.held).end

-- two harts, one of which stands here and the other there, that are alike
pub record StandAlike (Here Away : HartState → Type 0) (h g : HartState) : Type 0 where
  pub here : Here h
  pub away : Away g
  pub alike : AreHartsAlike h g

module _ (k : KernelParts) (kernel : IsKernel k) (of_both : IsAlikeKernel k) {tasks others : List Task} {number n m cause reason : ℕ} {h g : HartState}
    {c d : ContextState} (trap : IsAtTrap tasks number n cause h c) (second : IsAtTrap others number m reason g d) (alike : AreHartsAlike h g) where
  -- two saved harts
  abbrev BothSaved : HartState → HartState → Type 0
  BothSaved = StandAlike (IsSaved tasks number n (middle_at k) h c) (IsSaved others number m (middle_at k) g d)

  -- the save part leads both to saved tasks
  both-saved : LeadBoth k.code.words k.save BothSaved h g
  both-saved =
      both-part-leads k.code.words BothSaved tasks others number c d k.save h g (in-save k kernel trap) (in-save k kernel second)
      (λ ticks le. of_both.saves.probes tasks others number n m h g c d ticks trap.trapped second.trapped alike le)
      (λ ticks same.
      let run = run_of_part k.code.words ticks h in
      let other = run_of_part k.code.words ticks g in
      both-come-map
      (λ a b. IsSaved tasks number n (middle_at k) h c a.hart × IsSaved others number m (middle_at k) g d b.hart × AreHartsAlike a.hart b.hart)
      (λ a b. BothSaved a.hart b.hart) run other (λ a b all. record { here = all.0; away = all.1; alike = all.2 })
      (both-come-each (λ a b. AreHartsAlike a.hart b.hart) (λ a. IsSaved tasks number n (middle_at k) h c a.hart)
      (λ b. IsSaved others number m (middle_at k) g d b.hart) run other
      (runs-saved trap k kernel ticks same) (runs-saved second k kernel ticks same)
      (of_both.saves.harts tasks others number n m h g c d ticks trap.trapped second.trapped alike same)))

  module _ (word found : Cell) (truthful : IsTruthful tasks word) (truthful_too : IsTruthful others found) where
    -- Paths of the middle with the same answers, from what the save part leaves on.
    pub both-trap-leads : (csrs files : CsrFile) (held holds : ContextState) → h.csrs ≡ csrs → g.csrs ≡ files → c ≡ held → d ≡ holds
        → (answers : List Bool) (Here Away : HartState → Type 0)
        → (ends : (regs : ℕ → Cell) → AreOwn n c regs → EndsThere trap word truthful regs k csrs held answers Here)
        → (ends_too : (regs : ℕ → Cell) → AreOwn m d regs → EndsThere second found truthful_too regs k files holds answers Away)
        → ((regs others : ℕ → Cell) (own : AreOwn n c regs) (own_too : AreOwn m d others)
        → option_map kind_of (ends regs own).path.end.held.end ≡ option_map kind_of (ends_too others own_too).path.end.held.end)
        → LeadBoth k.code.words (k.save + length answers) (StandAlike Here Away) h g
    both-trap-leads csrs files held holds csrs_are files_are held_is holds_is answers Here Away ends ends_too kinds =
        both-then k.code.words k.save (length answers) BothSaved (StandAlike Here Away) h g both-saved (λ x y both.
        let own : AreOwn n c (words_of x) = both.here.tags.saved in
        let own_too : AreOwn m d (words_of y) = both.away.tags.saved in
        let here : Valuation = trapped_setting tasks n (words_of x) c word in
        let there : Valuation = trapped_setting others m (words_of y) d found in
        let e = ends (words_of x) own in
        let f = ends_too (words_of y) own_too in
        let Says : CsrFile → CsrFile → ContextState → ContextState → Type 0 =
        λ p q v w. AreAsPathsSay here there number (middle_at k) (at_start (saved_cells here PublicAny) p v) (at_start (saved_cells there PublicAny) q w) x y in
        let now : Says h.csrs g.csrs c d = record {
          says = saved-says trap word truthful (middle_at k) x both.here;
          other = saved-says second found truthful_too (middle_at k) y both.away;
          alike = both.alike;
        } in
        let start : Says csrs files held holds =
        subst (λ w. Says csrs files held w) holds_is (subst (λ v. Says csrs files v d) held_is
        (subst (λ q. Says csrs q c d) files_are (subst (λ p. Says p g.csrs c d) csrs_are now))) in
        both-map k.code.words (length answers) (AreAsPathsSay here there number (middle_at k) e.path.end f.path.end) (StandAlike Here Away) x y
        (λ v w at. record { here = e.there v at.says; away = f.there w at.other; alike = at.alike })
        (both-lead every_word here there (trap-setting-sound trap word truthful (words_of x) own)
        (trap-setting-sound second found truthful_too (words_of y) own_too) number (middle_at k) k.code.words (middle_instrs (middle_len + k.restore + 1))
        kernel.linked.middle answers (at_start (saved_cells here PublicAny) csrs held) (at_start (saved_cells there PublicAny) files holds) e.path f.path x y
        e.is_path f.is_path e.so f.so (kinds (words_of x) (words_of y) own own_too) start))

    -- Paths that keep the end of the context, each to where its end says so.
    pub both-trap-ends : (answers : List Bool) (index : ℕ) (Here Away : HartState → Type 0)
        → ((regs : ℕ → Cell) → AreOwn n c regs → EndsSo (trapped_setting tasks n regs c word) number k h.csrs c answers index Here)
        → ((regs : ℕ → Cell) → AreOwn m d regs → EndsSo (trapped_setting others m regs d found) number k g.csrs d answers index Away)
        → LeadBoth k.code.words (k.save + length answers) (StandAlike Here Away) h g
    both-trap-ends answers index Here Away ends ends_too =
        both-trap-leads h.csrs g.csrs c d refl refl refl refl answers Here Away
        (λ regs own. one-end trap word truthful k answers index Here regs own (ends regs own))
        (λ regs own. one-end second found truthful_too k answers index Away regs own (ends_too regs own))
        (λ regs other own own_too.
        let e = ends regs own in
        let f = ends_too other own_too in
        let K : ContextState → Option _ = λ x. option_map kind_of x.end in
        ap K e.ends.held_is ∙ ap (option_map kind_of) e.end_kept ∙ trap-kinds trap second alike ∙ sym (ap (option_map kind_of) f.end_kept) ∙ sym (ap K f.ends.held_is))
