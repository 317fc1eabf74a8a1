-- What a counted keeper stands for after one entry more.
use Rattle.std.proofs.Common.{◌==◌, Bool, true, false, List, [], ◌∷◌, ◌++◌}
use Rattle.hart_model.specs.declared.probe.Probe.{Probe}
use Rattle.probe_log.specs.Counts.{StandFor}
use Rattle.kernel_core.specs.Counted.{CountedValue, AnswersFor, StandsBoth}

module _ {K : Type 0} (stands : K → List Probe → Type 0) (old new : CountedValue K) (p : Probe)
    (keeps : (log : List Probe) → stands old.keeper log → stands new.keeper (log ++ p ∷ []))
    (counts : (log : List Probe) → StandFor old.tally log → StandFor new.tally (log ++ p ∷ [])) where
  answers-more : (b : Bool) (log : List Probe) → AnswersFor stands old b log → AnswersFor stands new b (log ++ p ∷ [])
  answers-more true log is = counts log is
  answers-more false log is = keeps log is

  pub both-more : (log : List Probe) → StandsBoth stands old log → StandsBoth stands new (log ++ p ∷ [])
  both-more [] is = absurd is
  both-more (which ∷ log) is = answers-more (which.hart == 0) log is
