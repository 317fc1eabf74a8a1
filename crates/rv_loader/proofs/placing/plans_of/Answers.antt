-- The plan of one hart more.
use Rattle.std.proofs.Common.{arith}
use Rattle.std.proofs.lemmas.List.FromFn.{map-range_with_len_more}
use Rattle.std.proofs.lemmas.Grind.{common_steps}
use Rattle.rv_loader.specs.Loading.{plan_of}
use Rattle.rv_loader.proofs.placing.plans_of.Goals as goal

pub loop-hart-preserved : goal.loop-hart-preserved
loop-hart-preserved c =
    let more = map-range_with_len_more (plan_of c.args.lines.now) 0 c.loop-hart.hart c.loop-hart.hart (omega arith) in
    grind (arith, common_steps, more)
