-- The first parting, the parting that is kept, and an earlier one.
use Rattle.std.proofs.Common.{Option, subst}
use Rattle.probe_inspect.specs.declared.table.Parting.{Parting}
use Rattle.probe_inspect.specs.Table.{IsPartingTo}
use Rattle.probe_inspect.proofs.Partings.{parting-new}
use Rattle.probe_inspect.proofs.table.earlier.Goals as goal

pub returns-in-None-clause-parting : goal.returns-in-None-clause-parting
returns-in-None-clause-parting c = λ T worlds course w there leaves before.
    parting-new T worlds course c.args.world w there c.args.step leaves
    (subst (λ (o : Option Parting). IsPartingTo T worlds course c.args.world o) c.in-None.is before)
