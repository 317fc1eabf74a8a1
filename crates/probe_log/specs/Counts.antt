-- The counts of a log (this project's own).
use Rattle.std.specs.Prelude.{◌≡◌, ℕ, ◌+◌, ◌-◌, ◌^◌, Bool, true, false, ◌==◌, List, [], ◌∷◌, map, sum, count_by, length, get_or}
use Rattle.hart_model.specs.declared.probe.Why.{Why}
use Rattle.hart_model.specs.declared.probe.Why.TheVariants as whys
use Rattle.hart_model.specs.declared.probe.Probe.{Probe}
use Rattle.hart_model.specs.Probes.{kind_of_latch}

-- How many entries have each why, and how many are of each kind of latch, in the order of the kinds: registers, port A, port B,
-- results (of the arithmetic unit and of the multiplier), loads, stores, the scratch CSR, memory.
pub record Counts : Type 0 where
  pub public : ℕ
  pub value : ℕ
  pub step : ℕ
  pub unexplained : ℕ
  pub latches : List ℕ

abbrev pub total_of : Counts → ℕ
total_of c = c.public + c.value + c.step + c.unexplained

-- how many more entries numbers of 64 bits can count
abbrev pub counts_left : Counts → ℕ
counts_left c = 2 ^ 64 - 1 - total_of c

abbrev pub kinds : List ℕ
kinds = 0 ∷ 1 ∷ 2 ∷ 3 ∷ 4 ∷ 5 ∷ 6 ∷ 7 ∷ []

abbrev pub is_public : Why → Bool
is_public whys.Public = true
is_public _ = false

abbrev pub is_value : Why → Bool
is_value (whys.Value task step latch side) = true
is_value _ = false

abbrev pub is_step : Why → Bool
is_step (whys.Step task step latch) = true
is_step _ = false

abbrev pub is_unexplained : Why → Bool
is_unexplained whys.Unexplained = true
is_unexplained _ = false

abbrev pub counts_of : List Probe → Counts
counts_of log = record {
  public = count_by (λ p. is_public p.why) log;
  value = count_by (λ p. is_value p.why) log;
  step = count_by (λ p. is_step p.why) log;
  unexplained = count_by (λ p. is_unexplained p.why) log;
  latches = map (λ kind. count_by (λ p. kind_of_latch p.latch == kind) log) kinds;
}

-- the counts of two logs together
abbrev pub counts_sum : Counts → Counts → Counts
counts_sum a b = record {
  public = a.public + b.public;
  value = a.value + b.value;
  step = a.step + b.step;
  unexplained = a.unexplained + b.unexplained;
  latches = map (λ kind. get_or a.latches kind 0 + get_or b.latches kind 0) kinds;
}

-- counts stand for each log that has them
abbrev pub StandFor : Counts → List Probe → Type 0
StandFor c log = c ≡ counts_of log

-- The counts of the whys, and those of the kinds, add up to the length of the log.
pub record AddUpTo (c : Counts) (log : List Probe) : Type 0 where
  pub whys : total_of c ≡ length log
  pub kinds : sum c.latches ≡ length log

abbrev pub CountsAddUp : Type 0
CountsAddUp = (c : Counts) (log : List Probe) → StandFor c log → AddUpTo c log
