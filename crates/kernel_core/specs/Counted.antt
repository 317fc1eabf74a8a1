-- A keeper whose entries are counted as well (this project's own).
use Rattle.std.specs.Prelude.{ℕ, Bool, true, false, List, [], ◌∷◌, ◌==◌}
use Rattle.isa_model.specs.declared.latch.Latch.TheVariants.{PortA}
use Rattle.hart_model.specs.declared.probe.Probe.{Probe}
use Rattle.hart_model.specs.declared.probe.Why.TheVariants as whys
use Rattle.probe_log.specs.Counts.{Counts, StandFor}

-- the keeper, and the counts of what it was given
pub record CountedValue (K : Type 0) : Type 0 where
  pub keeper : K
  pub tally : Counts

-- Both are asked for one list: the counts, whether they are its counts, or the keeper, whether it stands for it.
abbrev pub AnswersFor : {K : Type 0} → (K → List Probe → Type 0) → CountedValue K → Bool → List Probe → Type 0
AnswersFor stands c true log = StandFor c.tally log
AnswersFor stands c false log = stands c.keeper log

-- Which of them is asked is told by an entry before the list, which no hart makes: it names hart 0 or hart 1.
abbrev pub question : ℕ → Probe
question hart = record { hart = hart; pc = 0; latch = PortA; was = 0; now = 0; why = whys.Public }

abbrev pub of_counts : Probe
of_counts = question 0

abbrev pub of_keeper : Probe
of_keeper = question 1

abbrev pub StandsBoth : {K : Type 0} → (K → List Probe → Type 0) → CountedValue K → List Probe → Type 0
StandsBoth stands c [] = ⊥
StandsBoth stands c (which ∷ log) = AnswersFor stands c (which.hart == 0) log
