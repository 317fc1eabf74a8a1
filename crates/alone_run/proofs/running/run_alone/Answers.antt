-- Where it stopped is the end of the whole run.
use Rattle.std.proofs.Common.{◌≡◌, ℕ, ◌<◌, ◌≤◌, sym, ◌∙◌, arith, Some, None, ap, IsSome}
use Rattle.isa_model.specs.declared.task.Task.{Task}
use Rattle.isa_model.specs.Alone.{alone_at}
use Rattle.isa_model.proofs.AloneLaws.{last-is, count-is}
use Rattle.alone_run.specs.declared.running.Ended.{Ended}
use Rattle.alone_run.specs.Whole.{IsEndOf}
use Rattle.alone_run.proofs.running.run_alone.Goals as goal

ends : (T U : Task) (n : ℕ) (e : Ended) → U ≡ T → n ≤ U.fuel → IsSome (alone_at U n).end
    → ((k : ℕ) → k < n → (alone_at T k).end ≡ None) → Some e.end ≡ (alone_at U n).end → e.count ≡ n → e.output ≡ (alone_at U n).output → IsEndOf T e
ends T U n e same fuel some running end count output =
    let fuel' : n ≤ T.fuel = rw same at fuel in
    let some' : IsSome (alone_at T n).end = rw same at some in
    let last = last-is T n fuel' some' in
    record {
      end = ap (λ s. s.end) last ∙ ap (λ t. (alone_at t n).end) (sym same) ∙ sym end;
      count_is = count ∙ sym (count-is T n fuel' some' running);
      within = omega arith;
      output = output ∙ ap (λ t. (alone_at t n).output) same ∙ ap (λ s. s.output) (sym last);
    }

pub returns : goal.returns
returns c = record {
  end =
      let T = c.args.task.now in
      let none = c.in_default.ensures.none in
      let a = c.step.new.self in
      let running : (k : ℕ) → k < a.count → (alone_at T k).end ≡ None = rw none.1 c.loop-control.invariant.running in
      let some : IsSome (alone_at a.task a.count).end = rw none.1 none.0 in
      let within : a.count ≤ a.task.fuel = omega (arith, c.count.ensures.within, c.count.ensures.count) in
      ends T a.task a.count _ (ap (λ m. m.task) none.1 ∙ c.loop-control.invariant.task) within some running
      c.in-Some-ended.ensures.end c.count.ensures.count (c.new-output.ensures.words ∙ c.in_ok-from_slice.ensures.items ∙ c.output.ensures.output);
}
