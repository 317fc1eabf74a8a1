-- Along a course, and where a run leaves it.
use Rattle.std.proofs.Common.{◌≡◌, ◌+◌, inl, inr, length, slice_get, Some, sym, ap, ◌∙◌, subst, arith, List}
use Rattle.std.proofs.lemmas.Bool.{iff_false}
use Rattle.probe_inspect.specs.declared.course.Passed.{Passed}
use Rattle.probe_inspect.specs.Course.{IsSeenAt, IsEndAt, latches_at, values_to}
use Rattle.probe_inspect.specs.Rows.{IsSeenTo}
use Rattle.probe_inspect.proofs.Along.{read-of, at-place, from-place, values-none, values-step, seen-more, latches-there}
use Rattle.probe_inspect.proofs.rows.follow.Goals as goal

pub loop-step-init : goal.loop-step-init
loop-step-init c =
    let T = c.args.task.now in
    let latches = latches_at c.args.course.now in
    let start = c.in_ok-alone.ensures.start in
    record {
      task = ap (λ a. a.task) start;
      count = ap (λ a. a.count) start;
      seen = λ m passed low is. absurd (omega (arith, low));
      was = c.in_ok-was.ensures.items ∙ sym (values-none T 0 latches);
      now = c.in_ok-now.ensures.items ∙ sym (values-none T 1 latches);
    }

pub returns-then-not-passes : goal.returns-then-not-passes
returns-then-not-passes c =
    let T = c.args.task.now in
    let n = c.loop-step.step in
    let course = c.args.course.now in
    let steps = course.steps in
    let inv = c.loop-step.invariant in
    let passed = c.index-steps-step.result in
    let there : slice_get steps n ≡ Some passed =
    read-of c.as_slice-steps.result.now steps n passed c.as_slice-steps.ensures.items c.loop-step-test.true c.index-steps-step.is in
    record {
      followed = record {
        seen = inv.seen;
        leaves = inl (
          passed,
          there,
          λ seen. c.passes.ensures.other c.if-not-passes.true
              (from-place (λ U m. IsSeenAt U m passed) c.loop-step.alone T n inv.task inv.count seen),
        );
      };
    }

pub loop-step-preserved : goal.loop-step-preserved
loop-step-preserved c =
    let T = c.args.task.now in
    let n = c.loop-step.step in
    let course = c.args.course.now in
    let steps = course.steps in
    let inv = c.loop-step.invariant in
    let passed = c.index-steps-step.result in
    let there : slice_get steps n ≡ Some passed =
    read-of c.as_slice-steps.result.now steps n passed c.as_slice-steps.ensures.items c.loop-step-test.true c.index-steps-step.is in
    let lat = latches-there course n passed there in
    let step = c.passes.ensures.seen c.if-not-passes.false in
    let task : c.passes.new.alone.task ≡ T = c.passes.ensures.task ∙ inv.task in
    let count : c.passes.new.alone.count ≡ n + 1 = step.1 ∙ ap (λ k. k + 1) inv.count in
    let at : c.loop-step.alone.count ≡ n + 0 = omega (arith, inv.count) in
    record {
      task = task;
      count = count;
      seen = seen-more T course n passed there inv.seen (at-place (λ U m. IsSeenAt U m passed) c.loop-step.alone T n inv.task inv.count step.0);
      was = values-step T 0 n (latches_at course) c.loop-step.alone c.loop-step.was.items c.add_values.new.values.items c.as_slice.result.now
          c.in_ok-add_values.ensures.added inv.was (c.as_slice.ensures.items ∙ sym lat) inv.task at;
      now = values-step T 1 n (latches_at course) c.passes.new.alone c.loop-step.now.items c.add_values-in-loop-step.new.values.items
          c.as_slice-in-loop-step.result.now
          c.in_ok-add_values-2.ensures.added inv.now (c.as_slice-in-loop-step.ensures.items ∙ sym lat) task count;
    }

pub returns-then-has_ended_at : goal.returns-then-has_ended_at
returns-then-has_ended_at c =
    let T = c.args.task.now in
    let course = c.args.course.now in
    let inv = c.loop-step.invariant in
    let upto = c.loop-step.auto.step-end in
    let at : c.loop-step.step ≡ length course.steps =
    omega (arith, upto, c.loop-step-test.false, ap (λ (xs : List Passed). length xs) c.as_slice-steps.ensures.items) in
    let end = c.has_ended_at.ensures.end.0 c.if-has_ended_at.true in
    record {
      followed = (
        record {
          seen = subst (λ k. IsSeenTo T course k) at inv.seen;
          end = at-place (λ U m. IsEndAt U m course.last_pc) c.loop-step.alone T (length course.steps) inv.task (inv.count ∙ at) end;
        },
        record {
          was = c.new.ensures.words ∙ inv.was ∙ ap (values_to T 0 (latches_at course)) at;
          now = c.new-then-has_ended_at.ensures.words ∙ inv.now ∙ ap (values_to T 1 (latches_at course)) at;
        },
      );
    }

pub returns : goal.returns
returns c =
    let T = c.args.task.now in
    let course = c.args.course.now in
    let steps = course.steps in
    let inv = c.loop-step.invariant in
    let len : length c.as_slice-steps.result.now ≡ length steps = ap (λ (xs : List Passed). length xs) c.as_slice-steps.ensures.items in
    let upto = c.loop-step.auto.step-end in
    let at : c.loop-step.step ≡ length c.as_slice-steps.result.now = omega (arith, upto, c.loop-step-test.false) in
    record {
      followed = record {
        seen = subst (λ k. IsSeenTo T course k) at inv.seen;
        leaves = inr (
          len,
          λ end. iff_false c.has_ended_at.ensures.end c.if-has_ended_at.false
              (from-place (λ U m. IsEndAt U m course.last_pc) c.loop-step.alone T (length c.as_slice-steps.result.now) inv.task (inv.count ∙ at) end),
        );
      };
    }
