-- The value after so many instructions, and the value after one more.
use Rattle.std.proofs.Common.{◌≡◌, ℕ, ◌+◌, ap, ◌∙◌, subst, arith}
use Rattle.isa_model.specs.declared.task.Task.{Task}
use Rattle.isa_model.specs.AloneValue.{alone_value}
use Rattle.probe_inspect.specs.Reached.{IsAfter}
use Rattle.probe_inspect.specs.declared.shown.Shown.TheVariants.{Pair}
use Rattle.probe_inspect.proofs.Reached.{next-is_after, value_after}
use Rattle.probe_inspect.proofs.shown.change_at.Goals as goal

pub returns : goal.returns
returns c =
    let T = c.args.task.now in
    let n = c.args.step in
    let l = c.args.latch.now in
    let m = c.run_to.new.alone in
    let k = c.step-control.new.self in
    let whole : c.from.result ≡ n = omega arith in
    let there : IsAfter T c.from.result m = subst (λ (t : Task). IsAfter t c.from.result m) (ap (λ a. a.task) c.in_ok-alone.ensures.start) c.run_to.ensures.after in
    let after : IsAfter T n m = subst (λ (k : ℕ). IsAfter T k m) whole there in
    let next = next-is_after T n m k c.step-control.result after c.step-control.ensures.some c.step-control.ensures.none in
    let was : c.value-was.result ≡ alone_value T n l = value_after T n m l _ after c.value-was.ensures.value in
    let now : c.value-now.result ≡ alone_value T (n + 1) l = value_after T (n + 1) k l _ next c.value-now.ensures.value in record {
      pair = ap (λ v. Pair v c.value-now.result) was ∙ ap (λ v. Pair (alone_value T n l) v) now;
    }
