-- How often it stands among the changes so far.
use Rattle.std.proofs.Common.{◌≡◌, take}
use Rattle.std.specs.List.{count_by}
use Rattle.core_model.specs.Security.{same_pair}
use Rattle.probe_inspect.proofs.columns.count_of.Given as goal

abbrev pub invariant-loop-other : goal.invariant-loop-other
invariant-loop-other l = l.count ≡ count_by (λ x. same_pair x l.change) (take l.other-index l.changes)
