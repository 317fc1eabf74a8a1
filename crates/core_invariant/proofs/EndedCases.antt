-- The ended task that a trap makes: its count, its output and its end are those of its whole run alone.
use Rattle.std.proofs.Common.{◌≡◌, ℕ, ◌+◌, ◌<◌, ◌≢◌, false, ◌==◌, List, length, slice_get, nat_lt, Some, None, refl, sym, ap, subst, ◌∙◌}
use Rattle.std.proofs.lemmas.Bool.{ne_eqb}
use Rattle.isa_model.specs.declared.task.Task.{Task}
use Rattle.isa_model.specs.declared.latch.Latch.TheVariants as latches
use Rattle.isa_model.specs.declared.ends.End.{End}
use Rattle.isa_model.specs.declared.ends.End.TheVariants.{Exited, Faulted, BadCall, TapeEnd, OutFull, OutOfSteps}
use Rattle.isa_model.specs.Alone.{AloneState, Executed, alone_at, after_instr, after_call, after_in}
use Rattle.isa_model.specs.AloneValue.{alone_value}
use Rattle.hart_model.specs.Context.{ContextState, task_of, done_of}
use Rattle.hart_model.specs.HartState.{HartState}
use Rattle.core_model.specs.Soundness.{IsEndedCase, IsRunning}
use Rattle.core_invariant.specs.CutPoints.{IsAtTrap, IsFuelTrap, IsFaultTrap, IsCallTrap}
use Rattle.core_invariant.proofs.AloneEnds.{end-last, end-count, used-end, used-count}

-- An instruction that ends its task, with the output as it was.
module _ {tasks : List Task} {number n cause : ℕ} {h : HartState} {c : ContextState} (trap : IsAtTrap tasks number n cause h c) where
  pub ended-by : (end : End) → c.body.count ≡ n + 1 → n < c.body.fuel → (alone_at (task_of c.body) n).end ≡ None
      → (after_instr (task_of c.body) (alone_at (task_of c.body) n)).state.end ≡ Some end
      → (after_instr (task_of c.body) (alone_at (task_of c.body) n)).state.output ≡ (alone_at (task_of c.body) n).output
      → IsEndedCase tasks (done_of c end)
  ended-by end count left went_on ends output =
      let T : Task = task_of c.body in
      let last = end-last T n went_on left end ends in
      record {
        task = T;
        is_task = trap.is_task;
        count = count ∙ sym (end-count T n went_on left end ends);
        output = trap.output ∙ sym output ∙ sym (ap (λ (s : AloneState). s.output) last);
        end = ap (λ (s : AloneState). s.end) last ∙ ends;
      }

pub fault-ended : {tasks : List Task} {number n cause : ℕ} {h : HartState} {c : ContextState} (f : IsFaultTrap tasks number n cause h c)
    → IsEndedCase tasks (done_of c (Faulted cause (alone_at (task_of c.body) n).pc))
fault-ended {n = n} {cause = cause} {c = c} f = ended-by f.trap (Faulted cause (alone_at (task_of c.body) n).pc) f.count f.fuel_left f.went_on f.ends f.output

pub fuel-ended : {tasks : List Task} {number : ℕ} {h : HartState} {c : ContextState} (f : IsFuelTrap tasks number h c)
    → IsEndedCase tasks (done_of c OutOfSteps)
fuel-ended {c = c} f =
    let T : Task = task_of c.body in
    let P : ℕ → Type 0 = λ m. IsRunning T m in
    let running : IsRunning T T.fuel = subst P f.is_used f.trap.is_running in
    record {
      task = T;
      is_task = f.trap.is_task;
      count = f.is_used ∙ sym (used-count T f.trap.valid.fuel_least running);
      output = f.trap.output ∙ ap (λ m. (alone_at T m).output) f.is_used;
      end = used-end T f.trap.valid.fuel_least running;
    }

-- The services, by a7: each state after one that ends the task.
exits : (T : Task) (a7 a0 : ℕ) (s : AloneState) → a7 ≡ 0 → (after_call T a7 a0 s).state ≡ record s { end = Some (Exited a0) }
exits T a7 a0 s e = rw e refl

fills : (T : Task) (a7 a0 : ℕ) (s : AloneState) → a7 ≡ 1 → nat_lt (length s.output) T.out_max ≡ false
    → (after_call T a7 a0 s).state ≡ record s { end = Some OutFull }
fills T a7 a0 s e full = ap (λ m. (after_call T m a0 s).state) e ∙ rw full refl

runs-out : (T : Task) (a7 a0 : ℕ) (s : AloneState) → a7 ≡ 2 → slice_get T.tape s.tape_at ≡ None
    → (after_call T a7 a0 s).state ≡ record s { end = Some TapeEnd }
runs-out T a7 a0 s e none = ap (λ m. (after_call T m a0 s).state) e ∙ ap (λ word. (after_in word s).state) none

is-bad : (T : Task) (a7 a0 : ℕ) (s : AloneState) → a7 ≢ 0 → a7 ≢ 1 → a7 ≢ 2 → a7 ≢ 3
    → (after_call T a7 a0 s).state ≡ record s { end = Some (BadCall a7) }
is-bad T a7 a0 s not0 not1 not2 not3 =
    let e0 : (a7 == 0) ≡ false = ne_eqb a7 0 not0 in
    let e1 : (a7 == 1) ≡ false = ne_eqb a7 1 not1 in
    let e2 : (a7 == 2) ≡ false = ne_eqb a7 2 not2 in
    let e3 : (a7 == 3) ≡ false = ne_eqb a7 3 not3 in
    rw (e0, e1, e2, e3) refl

module _ {tasks : List Task} {number n : ℕ} {h : HartState} {c : ContextState} (f : IsCallTrap tasks number n h c) where
  abbrev the-task : Task
  the-task = task_of c.body

  abbrev a7-of : ℕ
  a7-of = alone_value (task_of c.body) n (latches.Reg 17)

  abbrev a0-of : ℕ
  a0-of = alone_value (task_of c.body) n (latches.Reg 10)

  -- a service that leaves all but the end as it was
  call-ended : (end : End)
      → (after_call (task_of c.body) a7-of a0-of (alone_at (task_of c.body) n)).state ≡ record (alone_at (task_of c.body) n) { end = Some end }
      → IsEndedCase tasks (done_of c end)
  call-ended end is =
      let state : (after_instr (task_of c.body) (alone_at (task_of c.body) n)).state ≡ record (alone_at (task_of c.body) n) { end = Some end }
      = ap (λ (d : Executed). d.state) f.serves ∙ is in
      ended-by f.trap end f.count f.fuel_left f.went_on (ap (λ (s : AloneState). s.end) state) (ap (λ (s : AloneState). s.output) state)

  pub exit-ended : (a0 : ℕ) → a0 ≡ a0-of → a7-of ≡ 0 → IsEndedCase tasks (done_of c (Exited a0))
  exit-ended a0 value e =
      let P : ℕ → Type 0 = λ v. IsEndedCase tasks (done_of c (Exited v)) in
      subst P (sym value) (call-ended (Exited a0-of) (exits the-task a7-of a0-of (alone_at the-task n) e))

  pub out-full-ended : a7-of ≡ 1 → nat_lt (length (alone_at (task_of c.body) n).output) (task_of c.body).out_max ≡ false
      → IsEndedCase tasks (done_of c OutFull)
  out-full-ended e full = call-ended OutFull (fills the-task a7-of a0-of (alone_at the-task n) e full)

  pub tape-end-ended : a7-of ≡ 2 → slice_get (task_of c.body).tape (alone_at (task_of c.body) n).tape_at ≡ None → IsEndedCase tasks (done_of c TapeEnd)
  tape-end-ended e none = call-ended TapeEnd (runs-out the-task a7-of a0-of (alone_at the-task n) e none)

  pub bad-call-ended : (a7 : ℕ) → a7 ≡ a7-of → a7-of ≢ 0 → a7-of ≢ 1 → a7-of ≢ 2 → a7-of ≢ 3 → IsEndedCase tasks (done_of c (BadCall a7))
  bad-call-ended a7 value not0 not1 not2 not3 =
      let P : ℕ → Type 0 = λ v. IsEndedCase tasks (done_of c (BadCall v)) in
      subst P (sym value) (call-ended (BadCall a7-of) (is-bad the-task a7-of a0-of (alone_at the-task n) not0 not1 not2 not3))
