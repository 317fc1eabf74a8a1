-- A snapshot of a core that was told something.
use Rattle.kernel_core.proofs.Reported.{snapshot-told}
use Rattle.kernel_core.proofs.whole_core.Core.snapshot.Goals as goal

pub returns-clause-told : goal.returns-clause-told
returns-clause-told g c t is = snapshot-told t c.args.self.now is
