use Rattle.tape_terms.proofs.MarkLaws.{unread-is_apart}
use Rattle.tape_terms.proofs.laws.unread_is_apart.Goals as goal

pub returns : goal.returns
returns c = record { law = unread-is_apart }
