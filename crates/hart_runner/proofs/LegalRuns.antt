-- Coarse runs along a legal order: each is kept, its log has few entries for each entry of the order, and the tally of a hart has room.
use Rattle.std.proofs.Common.{◌≡◌, ℕ, ◌+◌, ◌*◌, ◌^◌, ◌≤◌, ◌==◌, Bool, true, false, if◌then◌else◌, List, [], ◌∷◌, length, refl, arith}
use Rattle.hart_model.specs.declared.probe.Probe.{Probe}
use Rattle.core_model.specs.declared.loaded.Loaded.{Loaded}
use Rattle.core_model.specs.Loaded.{IsLoaded, action_bound_of}
use Rattle.isa_model.specs.Limits.{max_action_bound}
use Rattle.core_model.specs.Orders.{CoarseState, boot_coarse, after_entry, IsLegalFrom, IsLegal}
use Rattle.core_invariant.specs.KernelStates.{KernelParts, IsKernel}
use Rattle.probe_log.specs.Counts.{Counts, StandFor, total_of, counts_left}
use Rattle.probe_log.proofs.CountsAddUp.{counts_add_up}
use Rattle.order_laws.specs.CoarseRuns.{coarse_from, coarse_state, entries_by}
use Rattle.order_laws.specs.CoarseInvariant.{IsCoarseKept}
use Rattle.order_laws.proofs.LegalOrders.{coarse-kept, entries-few, legal-orders}

-- how many entries of a log name a hart
pub own-entries-few : (number : ℕ) (log : List Probe) → length (entries_by number log) ≤ length log
own-entries-few number [] = omega arith
own-entries-few number (entry ∷ log) =
    let rest = own-entries-few number log in
    by-test (entry.hart == number) (omega (arith, rest))
  where
    by-test : (b : Bool) → length (entries_by number log) ≤ length log
        → length (if b then entry ∷ entries_by number log else entries_by number log) ≤ length (entry ∷ log)
    by-test true few = omega (arith, few)
    by-test false few = omega (arith, few)

-- A tally of so few entries has room for as many as one turn makes.
pub tally-room : (tally : Counts) (log : List Probe) (most : ℕ) → StandFor tally log → length log ≤ most → most ≤ 2 ^ 60 → 30000 ≤ counts_left tally
tally-room tally log most stands few low =
    let adds = counts_add_up tally log stands in
    let total : total_of tally ≡ length log = adds.whys in
    omega (arith, total, few, low)

module _ (k : KernelParts) (kernel : IsKernel k) (loaded : Loaded) (fits : IsLoaded loaded) where
  abbrev boot : CoarseState
  boot = boot_coarse loaded k.code

  pub run-kept : (order : List ℕ) → IsLegal loaded k.code order → IsCoarseKept k loaded (coarse_state loaded k.code order)
  run-kept order legal = coarse-kept.orders k kernel loaded fits.limits boot (coarse-kept.boots k kernel loaded fits) order legal

  log-from : (order : List ℕ) (co : CoarseState) → IsCoarseKept k loaded co → IsLegalFrom k.code.words loaded.plans co order
      → length (coarse_from k.code.words loaded.plans co order).core.log ≤ length co.core.log + 30000 * length order
  unfolding IsLegalFrom coarse_from
  log-from [] co kept legal = omega arith
  log-from (hart ∷ order) co kept legal =
      let few = entries-few k kernel loaded fits.limits co kept hart legal.0 in
      let next = coarse-kept.orders k kernel loaded fits.limits co kept (hart ∷ []) (legal.0, tt) in
      let rest = log-from order (after_entry k.code.words loaded.plans co hart) next legal.1 in
      omega (arith, few, rest)

  -- The log has at most 30,000 entries for each entry of the order.
  pub log-few : (order : List ℕ) → IsLegal loaded k.code order → length (coarse_state loaded k.code order).core.log ≤ 30000 * length order
  log-few order legal =
      let few = log-from order boot (coarse-kept.boots k kernel loaded fits) legal in
      let none : length boot.core.log ≡ 0 = refl in
      omega (arith, few, none)

  -- The order is short.
  pub order-short : (order : List ℕ) → IsLegal loaded k.code order → length order ≤ 1048576
  order-short order legal =
      let bounded = legal-orders k kernel loaded fits order legal in
      let most : action_bound_of loaded ≤ max_action_bound = fits.bound in
      omega (arith, bounded, most)

  -- A hart has made few entries,
  pub entries-short : (order : List ℕ) → IsLegal loaded k.code order → (number : ℕ)
      → length (entries_by number (coarse_state loaded k.code order).core.log) ≤ 30000 * 1048576
  entries-short order legal number =
      let own = own-entries-few number (coarse_state loaded k.code order).core.log in
      let few = log-few order legal in
      let short = order-short order legal in
      omega (arith, own, few, short)
