-- Accepted parts restore.
use Rattle.std.proofs.Common.{ℕ, ◌+◌, List, sym, subst}
use Rattle.core_model.specs.Routines.{Restores}
use Rattle.scrub_rules.specs.Division.{restore_part}
use Rattle.scrub_rules.proofs.check.check_routine.Goals as goal

pub returns-in-Ok-clause-restores : goal.returns-in-Ok-clause-restores
returns-in-Ok-clause-restores c =
    let at = c.in_ok-at.at in
    subst (λ (ws : List ℕ). Restores ws) (sym c.in-Ok.ensures.restore)
    (c.accepted_routines_do.ensures.routines.restores (at + 1) (restore_part c.args.words.now at) c.in_ok-at.ensures.ok.restore)
