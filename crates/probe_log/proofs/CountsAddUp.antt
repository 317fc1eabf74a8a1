-- The counts of a log add up to its length.
use Rattle.std.proofs.Common.{◌≡◌, ℕ, ◌+◌, ◌==◌, Bool, cond, List, [], ◌∷◌, length, sum, count_by, refl, arith, subst, sym}
use Rattle.std.proofs.lemmas.List.Sums.{sum_by-cons}
use Rattle.isa_model.specs.declared.latch.Latch.{Latch}
use Rattle.isa_model.specs.declared.latch.Latch.TheVariants.{Reg, PortA, PortB, Res, Load, Store, Scr, Mul, Mem}
use Rattle.hart_model.specs.declared.probe.Why.{Why}
use Rattle.hart_model.specs.declared.probe.Why.TheVariants as whys
use Rattle.hart_model.specs.declared.probe.Probe.{Probe}
use Rattle.hart_model.specs.Probes.{kind_of_latch}
use Rattle.probe_log.specs.Counts.{Counts, total_of, counts_of, is_public, is_value, is_step, is_unexplained, AddUpTo, CountsAddUp}

abbrev one_if : Bool → ℕ
one_if b = cond b 1 0

count_by-cons : (p : Probe → Bool) (entry : Probe) (log : List Probe) → count_by p (entry ∷ log) ≡ one_if (p entry) + count_by p log
count_by-cons p entry log = sum_by-cons (λ x. one_if (p x)) entry log

-- an entry has one why
one_why : (why : Why) → one_if (is_public why) + one_if (is_value why) + one_if (is_step why) + one_if (is_unexplained why) ≡ 1
one_why whys.Public = refl
one_why (whys.Value task step latch side) = refl
one_why (whys.Step task step latch) = refl
one_why whys.Unexplained = refl

whys_add_up : (log : List Probe) → total_of (counts_of log) ≡ length log
whys_add_up [] = refl
whys_add_up (entry ∷ log) = omega (
  arith,
  whys_add_up log,
  one_why entry.why,
  count_by-cons (λ p. is_public p.why) entry log,
  count_by-cons (λ p. is_value p.why) entry log,
  count_by-cons (λ p. is_step p.why) entry log,
  count_by-cons (λ p. is_unexplained p.why) entry log,
)

abbrev is_of_kind : ℕ → Probe → Bool
is_of_kind kind p = kind_of_latch p.latch == kind

-- how many of the kinds a latch has
abbrev kinds_of : Latch → ℕ
kinds_of l =
    one_if (kind_of_latch l == 0) + one_if (kind_of_latch l == 1) + one_if (kind_of_latch l == 2) + one_if (kind_of_latch l == 3)
    + one_if (kind_of_latch l == 4) + one_if (kind_of_latch l == 5) + one_if (kind_of_latch l == 6) + one_if (kind_of_latch l == 7)

kinds_of_one : (l : Latch) → kinds_of l ≡ 1
kinds_of_one (Reg r) = refl
kinds_of_one PortA = refl
kinds_of_one PortB = refl
kinds_of_one Res = refl
kinds_of_one Load = refl
kinds_of_one Store = refl
kinds_of_one Scr = refl
kinds_of_one Mul = refl
kinds_of_one (Mem at) = refl

kinds_add_up : (log : List Probe) → sum (counts_of log).latches ≡ length log
kinds_add_up [] = refl
kinds_add_up (entry ∷ log) = omega (
  arith,
  kinds_add_up log,
  kinds_of_one entry.latch,
  count_by-cons (is_of_kind 0) entry log,
  count_by-cons (is_of_kind 1) entry log,
  count_by-cons (is_of_kind 2) entry log,
  count_by-cons (is_of_kind 3) entry log,
  count_by-cons (is_of_kind 4) entry log,
  count_by-cons (is_of_kind 5) entry log,
  count_by-cons (is_of_kind 6) entry log,
  count_by-cons (is_of_kind 7) entry log,
)

of_log : (log : List Probe) → AddUpTo (counts_of log) log
of_log log = record { whys = whys_add_up log; kinds = kinds_add_up log }

pub counts_add_up : CountsAddUp
counts_add_up c log h = subst (λ (x : Counts). AddUpTo x log) (sym h) (of_log log)
