-- The closure tests the hart.
use Rattle.std.proofs.Common.{not, ◌==◌, rules, tests}
use Rattle.std.proofs.lemmas.Fn.{filter_same}
use Rattle.core_model.specs.Board.{OutEntry}
use Rattle.ready_queue.proofs.moves.take_back.Goals as goal

pub returns-clause-out : goal.returns-clause-out
returns-clause-out c = filter_same _ (λ (o : OutEntry). not (o.hart == c.args.hart)) _ (λ x b f' k. search (rules, tests)) _ _ c.retain.ensures.filtered
