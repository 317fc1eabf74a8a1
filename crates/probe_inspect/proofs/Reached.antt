-- A run alone that is where so many instructions lead, and one instruction more.
use Rattle.std.proofs.Common.{◌≡◌, ℕ, ◌+◌, ◌-◌, ◌≤◌, Option, Some, None, sym, ap, ◌∙◌, arith, subst, IsSome, IfSome, IfNone}
use Rattle.isa_model.specs.declared.ends.End.{End}
use Rattle.isa_model.specs.declared.control.Control.{Control}
use Rattle.isa_model.specs.declared.latch.Latch.{Latch}
use Rattle.isa_model.specs.declared.task.Task.{Task}
use Rattle.isa_model.specs.Alone.{AloneState, alone_at}
use Rattle.isa_model.specs.AloneValue.{alone_value}
use Rattle.isa_model.specs.Control.{control_at}
use Rattle.isa_model.proofs.AloneLaws.{alone-stays}
use Rattle.alone_run.specs.RunPosition.{RunPosition}
use Rattle.probe_inspect.specs.Reached.{IsAfter}

not_both : (o : Option End) → IsSome o → o ≡ None → ⊥
not_both None some none = absurd cc
not_both (Some e) some none = cc

-- a run that has ended is where more instructions lead
pub ended-is_after : (T : Task) (n : ℕ) (m : RunPosition) → m.task ≡ T → m.count ≤ n → IsSome (alone_at T m.count).end → IsAfter T n m
ended-is_after T n m task before ended =
    let more : n ≡ m.count + (n - m.count) = omega arith in record {
      task = task;
      state = sym (ap (λ k. alone_at T k) more ∙ alone-stays T m.count (n - m.count) ended);
      exact = λ running. absurd (not_both (alone_at T m.count).end ended running);
    }

-- one that has ended stays where any more instructions lead
ended_stays : (T : Task) (n : ℕ) (m : RunPosition) → IsAfter T n m → IsSome (alone_at T m.count).end → IsAfter T (n + 1) m
ended_stays T n m after ended = record {
  task = after.task;
  state = after.state ∙ sym (alone-stays T n 1 (subst (λ (s : AloneState). IsSome s.end) after.state ended));
  exact = λ running. absurd (not_both (alone_at T m.count).end ended running);
}

-- an instruction more, or none after the end
pub next-is_after : (T : Task) (n : ℕ) (m k : RunPosition) (o : Option Control) → IsAfter T n m
    → IfSome o (λ control. (control ≡ control_at m.task m.count) × ((alone_at m.task m.count).end ≡ None)
    × (k ≡ record { task = m.task; count = m.count + 1 }))
    → IfNone o (IsSome (alone_at m.task m.count).end × (k ≡ m)) → IsAfter T (n + 1) k
next-is_after T n m k None after some none =
    let ended : IsSome (alone_at T m.count).end = subst (λ (t : Task). IsSome (alone_at t m.count).end) after.task none.0 in
    subst (λ (x : RunPosition). IsAfter T (n + 1) x) (sym none.1) (ended_stays T n m after ended)
next-is_after T n m k (Some control) after some none =
    let running : (alone_at T m.count).end ≡ None = subst (λ (t : Task). (alone_at t m.count).end ≡ None) after.task some.1 in
    let count = after.exact running in
    let next : RunPosition = record { task = m.task; count = m.count + 1 } in
    let there : IsAfter T (n + 1) next = record {
      task = after.task;
      state = ap (λ j. alone_at T (j + 1)) count;
      exact = λ _. ap (λ j. j + 1) count;
    } in
    subst (λ (x : RunPosition). IsAfter T (n + 1) x) (sym some.2) there

-- the value of a latch there
pub value_after : (T : Task) (n : ℕ) (m : RunPosition) (l : Latch) (v : ℕ) → IsAfter T n m → v ≡ alone_value m.task m.count l → v ≡ alone_value T n l
value_after T n m l v after is = is ∙ ap (λ t. alone_value t m.count l) after.task ∙ ap (λ s. s.value l) after.state
