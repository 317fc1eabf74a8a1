-- What two harts hold that are alike as two states of paths say.
use Rattle.std.proofs.Common.{◌≡◌, ℕ, option_map}
use Rattle.isa_model.specs.Control.{kind_of}
use Rattle.hart_model.specs.HartState.{HartState, held_words}
use Rattle.symbolic_run.specs.Concretization.{Valuation}
use Rattle.symbolic_run.specs.SymbolicPath.{PathState}
use Rattle.noninterference.proofs.UserAlike.{contexts_alike}
use Rattle.noninterference.proofs.BothPaths.{AreAsPathsSay}

-- what two such harts hold has ends of one kind
pub held-ends : (s t : Valuation) (number base : ℕ) (p q : PathState) (h g : HartState) → AreAsPathsSay s t number base p q h g
    → option_map kind_of p.held.end ≡ option_map kind_of q.held.end
held-ends s t number base p q h g both =
    (contexts_alike h.held g.held (record p.held { words = held_words h.held }) (record q.held { words = held_words g.held })
    both.alike.held both.says.held both.other.held).end
