-- Each entry of a log names one of the harts, so that what is counted of the entries adds up over the harts.
use Rattle.std.proofs.Common.{◌≡◌, ◌≢◌, ℕ, zero, suc, ◌+◌, ◌<◌, ◌==◌, inl, inr, Bool, List, [], ◌∷◌, slice_get, Option, Some, None, refl, sym, ap, ◌∙◌, subst, arith}
use Rattle.std.specs.Prelude.{All, count_by}
use Rattle.std.proofs.lemmas.Bool.{cases_eq, cond-true, cond-false, ne_eqb, eq-eqb}
use Rattle.std.proofs.lemmas.Option.{slice_get_within}
use Rattle.std.proofs.lemmas.List.Elements.{All-nil, All-cons, All-head, All-tail, All-same, All-append}
use Rattle.hart_model.specs.declared.probe.Probe.{Probe}
use Rattle.hart_model.specs.HartState.{HartState}
use Rattle.hart_model.specs.HartStep.{hart_step}
use Rattle.core_model.specs.declared.event.Event.{Event}
use Rattle.core_model.specs.declared.event.Event.TheVariants.{Go, Tick}
use Rattle.core_model.specs.declared.loaded.Loaded.{Loaded}
use Rattle.core_model.specs.Core.{CoreState, boot_core, after_go, after_tick, after_event, core_from}
use Rattle.core_model.proofs.Lists.{bit, count-cons}
use Rattle.core_invariant.specs.KernelStates.{KernelParts}
use Rattle.core_invariant.specs.Invariant.{IsCoreKept}
use Rattle.core_invariant.specs.OneHart.{EachHart}
use Rattle.core_invariant.proofs.Boot.{boot-kept}
use Rattle.core_invariant.proofs.Composition.{event-kept}
use Rattle.core_invariant.proofs.Proved.{kernel-harts}
use Rattle.order_laws.specs.CoarseRuns.{entries_by, sum_over_harts}
use Rattle.order_laws.specs.Laws.{SharesMakeUpLogs}
use Rattle.order_laws.proofs.Named.{AreNamed, step-named}
use Rattle.order_laws.proofs.OneEvent.{step-changes}
use Rattle.order_laws.proofs.Shares.{numbered}

-- sums that agree at each hart, and at each but one
sum-same : (harts : ℕ) (f g : ℕ → ℕ) → ((i : ℕ) → i < harts → g i ≡ f i) → sum_over_harts harts g ≡ sum_over_harts harts f
sum-same zero f g same = refl
sum-same (suc harts) f g same =
    let rest = sum-same harts f g (λ i low. same i (omega (arith, low))) in
    let one = same harts (omega arith) in
    omega (arith, rest, one)

sum-more : (harts hart more : ℕ) (f g : ℕ → ℕ) → ((i : ℕ) → i ≢ hart → g i ≡ f i) → g hart ≡ more + f hart → hart < harts
    → sum_over_harts harts g ≡ more + sum_over_harts harts f
sum-more zero hart more f g same here low = absurd (omega (arith, low))
sum-more (suc harts) hart more f g same here low =
    elim (cases_eq harts hart) [
      | inl last ↦ (let rest = sum-same harts f g (λ i below. same i (λ e. absurd (omega (arith, e, below, last)))) in
          let P : ℕ → Type 0 = λ i. g i ≡ more + f i in
          let one = subst P (sym last) here in
          omega (arith, rest, one))
      | inr other ↦ (let rest = sum-more harts hart more f g same here (omega (arith, low, other)) in
          let one = same harts other in
          omega (arith, rest, one))
    ]

-- One entry more, of one hart.
module _ (test : Probe → Bool) (entry : Probe) (log : List Probe) where
  abbrev count_before : ℕ → ℕ
  count_before number = count_by test (entries_by number log)

  abbrev count_then : ℕ → ℕ
  count_then number = count_by test (entries_by number (entry ∷ log))

  others-same : (number : ℕ) → number ≢ entry.hart → count_then number ≡ count_before number
  others-same number ne = ap (count_by test) (cond-false (entry.hart == number) _ _ (ne_eqb entry.hart number (λ e. ne (sym e))))

  one-more : count_then entry.hart ≡ bit (test entry) + count_before entry.hart
  one-more =
      ap (count_by test) (cond-true (entry.hart == entry.hart) _ _ (eq-eqb entry.hart entry.hart refl))
      ∙ count-cons test entry (entries_by entry.hart log)

pub counts-add : (harts : ℕ) (test : Probe → Bool) (log : List Probe) → All (λ (entry : Probe). entry.hart < harts) log
    → count_by test log ≡ sum_over_harts harts (λ number. count_by test (entries_by number log))
counts-add harts test [] named = sym (none harts)
  where
    none : (n : ℕ) → sum_over_harts n (λ number. 0) ≡ 0
    none zero = refl
    none (suc n) = let rest = none n in omega (arith, rest)
counts-add harts test (entry ∷ log) named =
    let P : Probe → Type 0 = λ e. e.hart < harts in
    let rest = counts-add harts test log (All-tail P entry log named) in
    count-cons test entry log
    ∙ ap (λ n. bit (test entry) + n) rest
    ∙ sym (sum-more harts entry.hart (bit (test entry)) (count_before test entry log) (count_then test entry log)
    (λ i ne. others-same test entry log i ne) (one-more test entry log) (All-head P entry log named))

-- All entries of a core that is kept name one of its harts.
module _ (k : KernelParts) (loaded : Loaded) (one : EachHart loaded.tasks k) where
  abbrev IsOfHart : Probe → Type 0
  IsOfHart entry = entry.hart < loaded.harts

  named-all : (number : ℕ) (log : List Probe) → number < loaded.harts → AreNamed number log → All IsOfHart log
  named-all number [] low named = All-nil IsOfHart
  named-all number (entry ∷ log) low named =
      All-cons IsOfHart entry log (subst (λ i. i < loaded.harts) (sym named.0) low) (named-all number log low named.1)

  module _ (c : CoreState) (kept : IsCoreKept k loaded c) (all : All IsOfHart c.log) (hart : ℕ) where
    go-named : (o : Option HartState) → slice_get c.harts hart ≡ o → All IsOfHart (after_go k.code.words c hart o).core.log
    go-named None is = all
    go-named (Some h) is =
        let number = numbered k loaded one c kept hart h is in
        let low = subst (λ n. hart < n) kept.hart_count (slice_get_within c.harts hart h is) in
        let changes = step-changes hart c h (hart_step k.code.words h) number (step-named hart k.code.words h number) in
        All-same IsOfHart _ _ changes.log (All-append IsOfHart c.log changes.probes all (named-all hart changes.probes low changes.named))

    tick-named : (o : Option HartState) → All IsOfHart (after_tick c hart o).log
    tick-named None = all
    tick-named (Some h) = all

  event-named : (c : CoreState) → IsCoreKept k loaded c → All IsOfHart c.log → (event : Event) → All IsOfHart (after_event k.code.words c event).log
  event-named c kept all (Go hart) = go-named c kept all hart (slice_get c.harts hart) refl
  event-named c kept all (Tick hart) = tick-named c kept all hart (slice_get c.harts hart)

  pub events-named : (c : CoreState) → IsCoreKept k loaded c → All IsOfHart c.log → (events : List Event)
      → All IsOfHart (core_from k.code.words c events).log
  unfolding core_from
  events-named c kept all [] = all
  events-named c kept all (event ∷ events) =
      events-named (after_event k.code.words c event) (event-kept k loaded one c kept event) (event-named c kept all event) events

-- Shares make up the log.
pub shares-whole : SharesMakeUpLogs
shares-whole k kernel loaded fits events =
    let one = kernel-harts k kernel loaded fits in
    let P : Probe → Type 0 = λ entry. entry.hart < loaded.harts in
    let named = events-named k loaded one (boot_core loaded k.code) (boot-kept k loaded fits one) (All-nil P) events in
    record { named = named; counts = λ test. counts-add loaded.harts test (core_from k.code.words (boot_core loaded k.code) events).log named }
