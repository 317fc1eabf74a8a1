-- All that two harts have to do that start alike, and what follows for the logs of alike bundles.
use Rattle.std.proofs.Common.{◌≡◌, ℕ, ◌+◌, ◌*◌, inl, inr, List, true, Option, Some, None, refl, sym, subst}
use Rattle.isa_model.specs.declared.task.Task.{Task}
use Rattle.hart_model.specs.declared.calls.QueueCall.TheVariants.{Take, GiveReady, GiveDone}
use Rattle.hart_model.specs.Csrs.{public}
use Rattle.hart_model.specs.Context.{ContextState}
use Rattle.hart_model.specs.HartState.{HartState, boot_hart}
use Rattle.hart_model.specs.Writes.{CellWrite}
use Rattle.hart_model.specs.StepResult.{Wants}
use Rattle.hart_model.specs.HartStep.{hart_step, answer_take, answer_give}
use Rattle.core_model.specs.LowEquivalence.{ArePairwise, AreTasksAlike}
use Rattle.core_invariant.specs.KernelStates.{KernelParts, IsKernel, IsAlikeKernel, middle_at, give_ready_index, give_done_index, take_index}
use Rattle.core_invariant.specs.CutPoints.{IsEmptyHanded, IsGivingReady, IsGivingDone}
use Rattle.core_invariant.specs.OneHart.{IsGot}
use Rattle.core_invariant.proofs.AtStart.{start-tick, boot-empty}
use Rattle.core_invariant.proofs.Gives.{give_writes, wants-give-ready, wants-give-done, given-ready, given-done}
use Rattle.core_invariant.proofs.Takes.{take_early_writes, wants-take, after-take, taken-x5}
use Rattle.core_invariant.proofs.Proved.{kernel-harts}
use Rattle.core_invariant.proofs.AtActions.{takes-at, gives-ready-at, gives-done-at}
use Rattle.core_model.specs.AlikeHarts.{AreCellsAlike, AreHeldAlike, AreHartsAlike}
use Rattle.noninterference.specs.AlikeCores.{AreLeftTogether, LedBoth, StartBoth}
use Rattle.noninterference.specs.Laws.{AlikeLogsAgree}
use Rattle.noninterference.proofs.Pairs.{pairwise-same}
use Rattle.noninterference.proofs.CellsAlike.{cell-refl}
use Rattle.noninterference.proofs.AlikeCores.{logs-agree}
use Rattle.noninterference.proofs.BothPaths.{alike-ticked}
use Rattle.noninterference.proofs.BothStarts.{both-harts}
use Rattle.noninterference.proofs.BothOutcomes.{AreAtStarts}
use Rattle.noninterference.proofs.BothSteps.{start-together}
use Rattle.noninterference.proofs.BothAnswers.{given-alike, taken-alike, both-to-take, both-to-idle}
use Rattle.noninterference.proofs.BothTaken.{both-taken}

-- a hart at boot is alike to itself
boot-alike : (number at : ℕ) → AreHartsAlike (boot_hart number at) (boot_hart number at)
boot-alike number at =
    let h = boot_hart number at in
    record {
      regs = pairwise-same AreCellsAlike cell-refl h.regs;
      port_a = cell-refl h.port_a;
      port_b = cell-refl h.port_b;
      res = cell-refl h.res;
      load = cell-refl h.load;
      store = cell-refl h.store;
      mul = cell-refl h.mul;
      zero_word = cell-refl h.zero_word;
      csrs = record { scratch = cell-refl h.csrs.mscratch; others = refl };
      pc = refl;
      held = tt;
    }

module _ (k : KernelParts) (kernel : IsKernel k) (of_both : IsAlikeKernel k) (tasks others : List Task) (runs : ArePairwise AreTasksAlike tasks others) where
  abbrev There : ℕ → HartState → HartState → Type 0
  There = AreAtStarts tasks others k

  boots : (number : ℕ) → LedBoth There k number (boot_hart number k.code.take) (boot_hart number k.code.take)
  boots number =
      let P : ℕ → Type 0 = λ at. LedBoth There k number (boot_hart number at) (boot_hart number at) in
      let at : ℕ = middle_at k + 4 * take_index in
      subst P (sym kernel.linked.take) (
        0,
        record {
          start = inr (inr (inr (inl (boot-empty tasks number at))));
          other = inr (inr (inr (inl (boot-empty others number at))));
          alike = boot-alike number at;
        },
      )

  module _ (number : ℕ) (h g : HartState) where
    -- after the gives
    ready-left : (c d : ContextState) → IsGivingReady tasks number (middle_at k + 4 * give_ready_index) h c
        → IsGivingReady others number (middle_at k + 4 * give_ready_index) g d → AreHartsAlike h g
        → AreLeftTogether (LedBoth There k) number (answer_give (give_writes (public 0)) (middle_at k + 4 * take_index) h)
        (answer_give (give_writes (public 0)) (middle_at k + 4 * take_index) g)
    ready-left c d one two alike =
        let left = given-alike (give_writes (public 0)) (middle_at k + 4 * take_index) h g alike in
        record {
          harts = (
            0,
            record {
              start = inr (inr (inr (inl ((given-ready k kernel.linked tasks number h c one).0))));
              other = inr (inr (inr (inl ((given-ready k kernel.linked others number g d two).0))));
              alike = left.harts;
            },
          );
          probes = left.probes;
        }

    done-left : (c d : ContextState) → IsGivingDone tasks number (middle_at k + 4 * give_done_index) h c
        → IsGivingDone others number (middle_at k + 4 * give_done_index) g d → AreHartsAlike h g
        → AreLeftTogether (LedBoth There k) number (answer_give (give_writes (public 1)) (middle_at k + 4 * (give_done_index + 1)) h)
        (answer_give (give_writes (public 1)) (middle_at k + 4 * (give_done_index + 1)) g)
    done-left c d one two alike =
        let left = given-alike (give_writes (public 1)) (middle_at k + 4 * (give_done_index + 1)) h g alike in
        record {
          harts = both-to-take k kernel tasks others number _ _ (given-done k kernel.linked tasks number h c one).0
              (given-done k kernel.linked others number g d two).0 left.harts;
          probes = left.probes;
        }

    -- after a take
    take-left : (got other : Option ContextState) → IsEmptyHanded tasks number (middle_at k + 4 * take_index) h
        → IsEmptyHanded others number (middle_at k + 4 * take_index) g → IsGot tasks got → IsGot others other → AreHeldAlike got other → AreHartsAlike h g
        → AreLeftTogether (LedBoth There k) number (answer_take take_early_writes 5 (middle_at k + 4 * (take_index + 1)) got h)
        (answer_take take_early_writes 5 (middle_at k + 4 * (take_index + 1)) other g)
    take-left None None e f can can_too same alike =
        let left = taken-alike take_early_writes 5 (middle_at k + 4 * (take_index + 1)) None None h g tt alike in
        record {
          harts = both-to-idle k kernel tasks others number _ _ (record { hart = (after-take k kernel.linked tasks number h None e).0; held = refl })
              (record { hart = (after-take k kernel.linked others number g None f).0; held = refl })
              (taken-x5 h (public 0) e.hart.registers) (taken-x5 g (public 0) f.hart.registers) left.harts;
          probes = left.probes;
        }
    take-left None (Some d) e f can can_too same alike = absurd same
    take-left (Some c) None e f can can_too same alike = absurd same
    take-left (Some c) (Some d) e f can can_too same alike = record {
      harts = both-taken k kernel of_both tasks others number c d can can_too same h g e f alike;
      probes = (taken-alike take_early_writes 5 (middle_at k + 4 * (take_index + 1)) (Some c) (Some d) h g same alike).probes;
    }

  takes : (number : ℕ) (h g : HartState) (early_writes other_early_writes : List CellWrite) (rd next : ℕ) (got other : Option ContextState) → There number h g
      → hart_step k.code.words h ≡ Wants Take early_writes rd next → hart_step k.code.words g ≡ Wants Take other_early_writes rd next
      → IsGot tasks got → IsGot others other → AreHeldAlike got other
      → AreLeftTogether (LedBoth There k) number (answer_take early_writes rd next got h) (answer_take other_early_writes rd next other g)
  takes number h g early_writes other_early_writes rd next got other t e f can can_too same =
      let one = takes-at k kernel tasks number h early_writes rd next t.start e in
      let two = takes-at k kernel others number g other_early_writes rd next t.other f in
      let known = wants-take k kernel.linked tasks number h one in
      let known_too = wants-take k kernel.linked others number g two in
      let same_early_writes : take_early_writes ≡ early_writes = cc (known, e) in
      let same_started : take_early_writes ≡ other_early_writes = cc (known_too, f) in
      let same_rd : 5 ≡ rd = cc (known, e) in
      let same_next : middle_at k + 4 * (take_index + 1) ≡ next = cc (known, e) in
      let R : List CellWrite → List CellWrite → ℕ → ℕ → Type 0 = λ ws vs r n.
      AreLeftTogether (LedBoth There k) number (answer_take ws r n got h) (answer_take vs r n other g) in
      subst (λ ws. R ws other_early_writes rd next) same_early_writes (subst (λ vs. R take_early_writes vs rd next) same_started
      (subst (λ r. R take_early_writes take_early_writes r next) same_rd (subst (λ n. R take_early_writes take_early_writes 5 n) same_next
      (take-left number h g got other one two can can_too same t.alike))))

  gives-ready : (number : ℕ) (h g : HartState) (early_writes other_early_writes : List CellWrite) (rd next : ℕ) → There number h g
      → hart_step k.code.words h ≡ Wants GiveReady early_writes rd next → hart_step k.code.words g ≡ Wants GiveReady other_early_writes rd next
      → AreLeftTogether (LedBoth There k) number (answer_give early_writes next h) (answer_give other_early_writes next g)
  gives-ready number h g early_writes other_early_writes rd next t e f =
      let one = gives-ready-at k kernel tasks number h early_writes rd next t.start e in
      let two = gives-ready-at k kernel others number g other_early_writes rd next t.other f in
      let known = wants-give-ready k kernel.linked tasks number h one.0 one.1 in
      let known_too = wants-give-ready k kernel.linked others number g two.0 two.1 in
      let same_early_writes : give_writes (public 0) ≡ early_writes = cc (known, e) in
      let same_started : give_writes (public 0) ≡ other_early_writes = cc (known_too, f) in
      let same_next : middle_at k + 4 * take_index ≡ next = cc (known, e) in
      let R : List CellWrite → List CellWrite → ℕ → Type 0 = λ ws vs n.
      AreLeftTogether (LedBoth There k) number (answer_give ws n h) (answer_give vs n g) in
      subst (λ ws. R ws other_early_writes next) same_early_writes (subst (λ vs. R (give_writes (public 0)) vs next) same_started
      (subst (λ n. R (give_writes (public 0)) (give_writes (public 0)) n) same_next (ready-left number h g one.0 two.0 one.1 two.1 t.alike)))

  gives-done : (number : ℕ) (h g : HartState) (early_writes other_early_writes : List CellWrite) (rd next : ℕ) → There number h g
      → hart_step k.code.words h ≡ Wants GiveDone early_writes rd next → hart_step k.code.words g ≡ Wants GiveDone other_early_writes rd next
      → AreLeftTogether (LedBoth There k) number (answer_give early_writes next h) (answer_give other_early_writes next g)
  gives-done number h g early_writes other_early_writes rd next t e f =
      let one = gives-done-at k kernel tasks number h early_writes rd next t.start e in
      let two = gives-done-at k kernel others number g other_early_writes rd next t.other f in
      let known = wants-give-done k kernel.linked tasks number h one.0 one.1 in
      let known_too = wants-give-done k kernel.linked others number g two.0 two.1 in
      let same_early_writes : give_writes (public 1) ≡ early_writes = cc (known, e) in
      let same_started : give_writes (public 1) ≡ other_early_writes = cc (known_too, f) in
      let same_next : middle_at k + 4 * (give_done_index + 1) ≡ next = cc (known, e) in
      let R : List CellWrite → List CellWrite → ℕ → Type 0 = λ ws vs n.
      AreLeftTogether (LedBoth There k) number (answer_give ws n h) (answer_give vs n g) in
      subst (λ ws. R ws other_early_writes next) same_early_writes (subst (λ vs. R (give_writes (public 1)) vs next) same_started
      (subst (λ n. R (give_writes (public 1)) (give_writes (public 1)) n) same_next (done-left number h g one.0 two.0 one.1 two.1 t.alike)))

  -- Two harts that start alike do what they have to.
  pub start-both : StartBoth There tasks others k
  start-both = record {
    boots = boots;
    ticks = λ number h g t. record {
      start = start-tick tasks k number h t.start;
      other = start-tick others k number g t.other;
      alike = alike-ticked true h g t.alike;
    };
    steps = λ number h g t. start-together k kernel of_both tasks others runs number h g t.alike t.start t.other;
    holds_alike = λ number h g t. t.alike.held;
    takes = takes;
    gives_ready = gives-ready;
    gives_done = gives-done;
  }

-- Under every kernel whose parts do alike, the logs of alike bundles agree publicly.
pub alike-logs-agree : AlikeLogsAgree
alike-logs-agree k kernel of_both loaded other fits fits_too alike events =
    let There : ℕ → HartState → HartState → Type 0 = AreAtStarts loaded.tasks other.tasks k in
    let both = both-harts There loaded.tasks other.tasks k (start-both k kernel of_both loaded.tasks other.tasks alike.tasks) in
    logs-agree (LedBoth There k) k loaded other (kernel-harts k kernel loaded fits) (kernel-harts k kernel other fits_too) both
    fits fits_too alike events
