-- The state after one instruction more.
use Rattle.std.proofs.Common.{◌≡◌, ◌+◌, ◌≢◌, sym, ◌∙◌, arith, None, ap, refl}
use Rattle.isa_model.specs.Alone.{alone_at, after_instr}
use Rattle.isa_model.proofs.AloneLaws.{alone-next, fuel-left}
use Rattle.alone_run.proofs.running.advance.Goals as goal

pub returns-clause-at : goal.returns-clause-at
returns-clause-at c =
    let T = c.args.task.now in
    let n = c.args.count in
    let running : (alone_at T n).end ≡ None = sym c.requires.at.stands.end ∙ c.requires.running in
    let next = alone-next T n running in
    let after = c.use_up.ensures.after T (after_instr T (alone_at T n)).state refl (c.execute-deed.ensures.left (alone_at T n) c.requires.at.stands).state in
    let lt = c.requires.at.running running in
    record {
      stands = rw next after;
      fuel = omega arith;
      running = λ going. let ne : n + 1 ≢ T.fuel = fuel-left T (n + 1) (after_instr T (alone_at T n)).state (ap (λ s. s.end) (sym next) ∙ going) in omega arith;
    }
