-- The run alone of a task one instruction later, and where it has used its fuel.
use Rattle.std.proofs.Common.{◌≡◌, ℕ, zero, suc, ◌+◌, ◌≤◌, ◌<◌, ◌≢◌, ◌==◌, ◌⊎◌, inl, inr, Option, Some, None, refl, ap, sym, ◌∙◌, subst, arith, add-one}
use Rattle.std.proofs.lemmas.Bool.{cond_both, eqb-true}
use Rattle.isa_model.specs.declared.task.Task.{Task}
use Rattle.isa_model.specs.declared.latch.Latch.{Latch}
use Rattle.isa_model.specs.declared.latch.Latch.TheVariants as latches
use Rattle.isa_model.specs.declared.control.Deed.{Deed}
use Rattle.isa_model.specs.declared.ends.End.{End}
use Rattle.isa_model.specs.declared.ends.End.TheVariants.{OutOfSteps}
use Rattle.isa_model.specs.Effect.{Next, Goes, Raises, Calls, Returns}
use Rattle.isa_model.specs.Alone.{AloneState, Executed, alone_at, with_value, values_after, after_instr, after_writes, if_fuel_used, unless_ended}
use Rattle.isa_model.proofs.AloneLaws.{alone-next}
use Rattle.isa_model.proofs.RunLaws.{call_cases}
use Rattle.hart_model.specs.UserLaws.{alone_effect, written_value}
use Rattle.hart_model.proofs.UserStepIsAlone.{instr_follows}
use Rattle.core_model.specs.Soundness.{IsRunning}

-- the latches but for the registers
abbrev pub IsOther : Latch → Type 0
IsOther (latches.Reg r) = ⊥
IsOther latch = Unit {0}

other_stays : (word : ℕ) (v : Latch → ℕ) (l : Latch) → IsOther l → with_value (latches.Reg 10) word v l ≡ v l
other_stays word v (latches.Reg r) other = absurd other
other_stays word v latches.PortA other = refl
other_stays word v latches.PortB other = refl
other_stays word v latches.Res other = refl
other_stays word v latches.Load other = refl
other_stays word v latches.Store other = refl
other_stays word v latches.Scr other = refl
other_stays word v latches.Mul other = refl
other_stays word v (latches.Mem at) other = refl

other_written : (T : Task) (deed : Deed) (next : Next) (s : AloneState) (l : Latch) → IsOther l → (after_writes T deed next s).state.value l ≡ s.value l
other_written T deed (Goes pc) s l other = refl
other_written T deed (Raises cause) s l other = refl
other_written T deed Returns s l other = refl
other_written T deed Calls s l other =
    call_cases (λ (x : Executed). x.state.value l ≡ s.value l) T (s.value (latches.Reg 17)) (s.value (latches.Reg 10)) s
    (λ end not. refl) refl (λ word. other_stays word s.value l other) refl

-- After an instruction the latches but for the registers have the values that its effect writes.
pub other-values : (T : Task) (s : AloneState) (l : Latch) → IsOther l → (after_instr T s).state.value l ≡ written_value T s l
other-values T s l other =
    let f = instr_follows T s in
    ap (λ (x : Executed). x.state.value l) f.is
    ∙ other_written T f.deed (alone_effect T s).next (record s { value = values_after (alone_effect T s).writes s.value }) l other

-- no instruction ends a task as out of steps
never_out_written : (T : Task) (deed : Deed) (next : Next) (s : AloneState) → s.end ≡ None → (after_writes T deed next s).state.end ≢ Some OutOfSteps
never_out_written T deed (Goes pc) s none = λ e. absurd (cc (none, e))
never_out_written T deed (Raises cause) s none = λ e. absurd cc
never_out_written T deed Returns s none = λ e. absurd cc
never_out_written T deed Calls s none =
    call_cases (λ (x : Executed). x.state.end ≢ Some OutOfSteps) T (s.value (latches.Reg 17)) (s.value (latches.Reg 10)) s
    (λ end not. λ e. not (some_end end e)) (λ e. absurd (cc (none, e))) (λ word. λ e. absurd (cc (none, e))) (λ e. absurd (cc (none, e)))
  where
    some_end : (end : End) → Some end ≡ Some OutOfSteps → end ≡ OutOfSteps
    some_end end e = cc

never_out : (T : Task) (s : AloneState) → s.end ≡ None → (after_instr T s).state.end ≢ Some OutOfSteps
never_out T s none =
    let f = instr_follows T s in
    λ e. never_out_written T f.deed (alone_effect T s).next (record s { value = values_after (alone_effect T s).writes s.value }) none
    (sym (ap (λ (x : Executed). x.state.end) f.is) ∙ e)

out_checked : (T : Task) (n : ℕ) (s : AloneState) (e : Option End) → s.end ≡ e → e ≢ Some OutOfSteps → (if_fuel_used T n e s).end ≡ Some OutOfSteps
    → n ≡ T.fuel
out_checked T n s (Some x) is not out = absurd (not (sym is ∙ out))
out_checked T n s None is not out =
    cond_both (n == T.fuel) (record s { end = Some OutOfSteps }) s (λ (x : AloneState). x.end ≡ Some OutOfSteps → n ≡ T.fuel)
    (λ t o. eqb-true n T.fuel t) (λ f o. absurd (cc (is, o))) out

out_more : (T : Task) (n : ℕ) (e : Option End) → (alone_at T n).end ≡ e → (e ≡ Some OutOfSteps → T.fuel ≤ n)
    → (unless_ended T (n + 1) e (alone_at T n)).end ≡ Some OutOfSteps → T.fuel ≤ n + 1
out_more T n (Some x) is before out = let low = before (sym is ∙ out) in omega arith
out_more T n None is before out =
    let s = (after_instr T (alone_at T n)).state in
    let same : n + 1 ≡ T.fuel = out_checked T (n + 1) s s.end refl (never_out T (alone_at T n) is) out in
    omega arith

-- A run alone that is out of steps has used its fuel.
pub out-is-used : (T : Task) (n : ℕ) → (alone_at T n).end ≡ Some OutOfSteps → T.fuel ≤ n
unfolding alone_at
out-is-used T zero out = absurd cc
out-is-used T (suc n) out = let low = out_more T n (alone_at T n).end refl (out-is-used T n) out in let one = add-one n in omega arith

-- So one that runs, and has fuel left, has no end.
pub still-runs : (T : Task) (n : ℕ) → IsRunning T n → n < T.fuel → (alone_at T n).end ≡ None
still-runs T n (inl none) left = none
still-runs T n (inr out) left = let low = out-is-used T n out in absurd (omega arith)

-- What the check of the fuel leaves of a state.
pub record IsChecked (s : AloneState) (after : AloneState) : Type 0 where
  pub value : (l : Latch) → after.value l ≡ s.value l
  pub pc : after.pc ≡ s.pc
  pub output : after.output ≡ s.output
  pub tape_at : after.tape_at ≡ s.tape_at
  pub end : s.end ≡ None → (after.end ≡ None) ⊎ (after.end ≡ Some OutOfSteps)

checked_by : (T : Task) (n : ℕ) (e : Option End) (s : AloneState) → s.end ≡ e → IsChecked s (if_fuel_used T n e s)
checked_by T n (Some x) s is = record { value = λ l. refl; pc = refl; output = refl; tape_at = refl; end = λ none. absurd (cc (is, none)) }
checked_by T n None s is =
    cond_both (n == T.fuel) (record s { end = Some OutOfSteps }) s (λ (x : AloneState). IsChecked s x)
    (λ t. record { value = λ l. refl; pc = refl; output = refl; tape_at = refl; end = λ none. inr refl })
    (λ f. record { value = λ l. refl; pc = refl; output = refl; tape_at = refl; end = λ none. inl none })

-- The run alone after one instruction more.
pub next-state : (T : Task) (n : ℕ) → (alone_at T n).end ≡ None → IsChecked (after_instr T (alone_at T n)).state (alone_at T (n + 1))
next-state T n none =
    let s = (after_instr T (alone_at T n)).state in
    subst (λ (x : AloneState). IsChecked s x) (sym (alone-next T n none)) (checked_by T (n + 1) s.end s refl)
