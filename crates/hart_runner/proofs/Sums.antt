-- The counts of all harts' entries are those of the log.
use Rattle.std.proofs.Common.{◌≡◌, ℕ, zero, suc, ◌+◌, ◌==◌, Bool, List, [], ◌∷◌, map, refl, sym, ap, ◌∙◌}
use Rattle.std.specs.Prelude.{count_by}
use Rattle.hart_model.specs.declared.probe.Probe.{Probe}
use Rattle.hart_model.specs.Probes.{kind_of_latch}
use Rattle.core_model.proofs.Lists.{count-append}
use Rattle.probe_log.specs.Counts.{Counts, is_public, is_value, is_step, is_unexplained, kinds, counts_of}
use Rattle.order_laws.specs.CoarseRuns.{entries_by, sum_over_harts, AreSharesWhole}
use Rattle.hart_runner.specs.Remains.{entries_of_harts}

map-same : (f g : ℕ → ℕ) (xs : List ℕ) → ((x : ℕ) → f x ≡ g x) → map f xs ≡ map g xs
map-same f g [] same = refl
map-same f g (x ∷ xs) same = ap (λ y. y ∷ map f xs) (same x) ∙ ap (λ ys. g x ∷ ys) (map-same f g xs same)

counts-parts : {p q v w s t u x : ℕ} {l m : List ℕ} → p ≡ q → v ≡ w → s ≡ t → u ≡ x → l ≡ m
    → (let c : Counts = record { public = p; value = v; step = s; unexplained = u; latches = l } in c)
    ≡ record { public = q; value = w; step = t; unexplained = x; latches = m }
counts-parts a b c d e = rw (a, b, c, d, e) refl

module _ (log : List Probe) where
  by-harts : (test : Probe → Bool) (harts : ℕ)
      → count_by test (entries_of_harts harts log) ≡ sum_over_harts harts (λ number. count_by test (entries_by number log))
  by-harts test zero = refl
  by-harts test (suc harts) =
      count-append test (entries_of_harts harts log) (entries_by harts log)
      ∙ ap (λ n. n + count_by test (entries_by harts log)) (by-harts test harts)

  pub counts-of-harts : (harts : ℕ) → AreSharesWhole harts log → counts_of (entries_of_harts harts log) ≡ counts_of log
  counts-of-harts harts whole =
      let same : (test : Probe → Bool) → count_by test (entries_of_harts harts log) ≡ count_by test log =
      λ test. by-harts test harts ∙ sym (whole.counts test) in
      counts-parts (same (λ p. is_public p.why)) (same (λ p. is_value p.why)) (same (λ p. is_step p.why)) (same (λ p. is_unexplained p.why))
      (map-same _ _ kinds (λ kind. same (λ p. kind_of_latch p.latch == kind)))
