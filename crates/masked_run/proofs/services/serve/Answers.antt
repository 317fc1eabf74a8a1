-- The number chooses the service.
use Rattle.std.proofs.Common.{◌≡◌, ◌≢◌, ℕ, arith, refl, sym, subst}
use Rattle.std.proofs.lemmas.Bool.{ne_eqb}
use Rattle.isa_model.specs.declared.latch.Latch.TheVariants.{Reg}
use Rattle.isa_model.specs.declared.ends.End.TheVariants.{Exited, BadCall}
use Rattle.isa_model.specs.declared.ends.EndKind.TheVariants as kinds
use Rattle.isa_model.specs.declared.task.Task.{Task}
use Rattle.isa_model.specs.Alone.{AloneState, after_call, after_end}
use Rattle.masked_run.specs.Standing.{Steps}
use Rattle.masked_run.proofs.services.serve.Goals as goal

-- a number without a service
no_service : (T : Task) (number argument : ℕ) (s : AloneState) → number ≢ 0 → number ≢ 1 → number ≢ 2 → number ≢ 3
    → after_call T number argument s ≡ after_end (BadCall number) (kinds.BadCall number) s
no_service T number argument s n0 n1 n2 n3 = rw (ne_eqb number 0 n0, ne_eqb number 1 n1, ne_eqb number 2 n2, ne_eqb number 3 n3) refl

pub returns-in-0 : goal.returns-in-0
returns-in-0 c = record { done = rw c.in-0.is (c.finish.ensures.done c.args.task.now c.args.fixed.now (λ s. Exited (s.value (Reg 10))) (λ s. refl)) }

pub returns-in-1 : goal.returns-in-1
returns-in-1 c = record { done = rw c.in-1.is (c.put_out.ensures.done c.args.fixed.now) }

pub returns-in-3 : goal.returns-in-3
returns-in-3 c = record { done = rw c.in-3.is (c.return_from.ensures.done c.args.task.now c.args.fixed.now) }

pub returns-in_default : goal.returns-in_default
returns-in_default c =
    let n0 : c.args.number ≢ 0 = omega arith in
    let n1 : c.args.number ≢ 1 = omega arith in
    let n2 : c.args.number ≢ 2 = omega arith in
    let n3 : c.args.number ≢ 3 = omega arith in
    record {
      done = subst (λ (makes : Task → AloneState → AloneState). Steps c.args.task.now c.args.fixed.now makes c.args.pool.now c.args.machine.now c.args.pool.now c.finish-in_default.new.machine)
          (λ i U s. (sym (no_service U c.args.number (s.value (Reg 10)) s n0 n1 n2 n3) i).state)
          (c.finish-in_default.ensures.done c.args.task.now c.args.fixed.now (λ s. BadCall c.args.number) (λ s. refl));
    }
