-- The output of the run alone only grows, so that the output of a task at any count is the beginning of that of its whole run.
use Rattle.std.proofs.Common.{◌≡◌, ℕ, zero, suc, ◌+◌, ◌-◌, ◌≤◌, ◌<◌, Bool, true, false, ◌==◌, if◌then◌else◌, List, [], ◌∷◌, ◌++◌, length, slice_get, nat_lt, Option, Some, None, IsSome, refl, sym, ap, ◌∙◌, subst, arith, ⊎_elim, append_assoc, append-nil}
use Rattle.std.proofs.lemmas.Bool.{eq-eqb, cases_lt}
use mathlib.Core.List.{IsPrefix}
use Rattle.isa_model.specs.declared.instr.Instr.{Instr}
use Rattle.isa_model.specs.declared.latch.Latch.TheVariants.{Reg}
use Rattle.isa_model.specs.declared.ends.End.{End}
use Rattle.isa_model.specs.declared.ends.End.TheVariants.{Exited, BadCall, OutFull, OutOfSteps}
use Rattle.isa_model.specs.declared.ends.EndKind.TheVariants as kinds
use Rattle.isa_model.specs.declared.control.Deed.{Deed}
use Rattle.isa_model.specs.declared.task.Task.{Task}
use Rattle.isa_model.specs.InstrTable.{instr_of}
use Rattle.isa_model.specs.Effect.{Next, Goes, Raises, Calls, Returns, effect_of}
use Rattle.isa_model.specs.Alone.{AloneState, Executed, alone_at, last_of, after_instr, after_fetch, after_decode, after_effect, after_writes, after_call, after_in, after_out, after_end, after_service, after_fault, values_after, code_word_at, is_privileged, deed_of, rs1_of, operands_of, if_fuel_used, fuel_checked_state, unless_ended}
use Rattle.isa_model.proofs.AloneLaws.{alone-stays}

module _ {X : Type 0} where
  -- each list begins with itself, and the beginning of a beginning is one
  pub prefix-self : (xs : List X) → IsPrefix xs xs
  prefix-self xs = ([], append-nil xs)

  pub prefix-then : (xs ys zs : List X) → IsPrefix xs ys → IsPrefix ys zs → IsPrefix xs zs
  prefix-then xs ys zs p q = (p.0 ++ q.0, sym (append_assoc xs p.0 q.0) ∙ (ap (λ l. l ++ q.0) p.1 ∙ q.1))

  pub prefix-same : (xs ys zs : List X) → ys ≡ zs → IsPrefix xs ys → IsPrefix xs zs
  prefix-same xs ys zs e p = subst (IsPrefix xs) e p

-- the output so far, and that of what an instruction leaves
abbrev Grows : AloneState → Executed → Type 0
Grows s d = IsPrefix s.output d.state.output

either : (s : AloneState) (b : Bool) (x y : Executed) → Grows s x → Grows s y → Grows s (if b then x else y)
either s true x y h k = h
either s false x y h k = k

in_grows : (tape : Option ℕ) (s : AloneState) → Grows s (after_in tape s)
in_grows None s = prefix-self s.output
in_grows (Some word) s = prefix-self s.output

call_grows : (T : Task) (a7 a0 : ℕ) (s : AloneState) → Grows s (after_call T a7 a0 s)
call_grows T a7 a0 s =
    either s (a7 == 0) (after_end (Exited a0) kinds.Exited s) _ (prefix-self s.output)
    (either s (a7 == 1) (after_out T a0 s) _
    (either s (nat_lt (length s.output) T.out_max) (after_service 1 (record s { output = s.output ++ a0 ∷ [] })) (after_end OutFull kinds.OutFull s)
    (a0 ∷ [], refl) (prefix-self s.output))
    (either s (a7 == 2) (after_in (slice_get T.tape s.tape_at) s) _ (in_grows (slice_get T.tape s.tape_at) s)
    (either s (a7 == 3) (after_service 3 s) (after_end (BadCall a7) (kinds.BadCall a7) s) (prefix-self s.output) (prefix-self s.output))))

writes_grow : (T : Task) (deed : Deed) (next : Next) (s : AloneState) → Grows s (after_writes T deed next s)
writes_grow T deed (Goes pc) s = prefix-self s.output
writes_grow T deed (Raises cause) s = prefix-self s.output
writes_grow T deed Calls s = call_grows T (s.value (Reg 17)) (s.value (Reg 10)) s
writes_grow T deed Returns s = prefix-self s.output

decode_grows : (T : Task) (instr : Option Instr) (s : AloneState) → Grows s (after_decode T instr s)
decode_grows T None s = prefix-self s.output
decode_grows T (Some instr) s =
    let e = effect_of instr s.pc (operands_of T s.value instr) in
    let deed = deed_of instr (s.value (Reg (rs1_of instr))) in
    either s (is_privileged instr) (after_fault 2 s) (after_effect T deed e s) (prefix-self s.output)
    (writes_grow T deed e.next (record s { value = values_after e.writes s.value }))

fetch_grows : (T : Task) (word : Option ℕ) (s : AloneState) → Grows s (after_fetch T word s)
fetch_grows T None s = prefix-self s.output
fetch_grows T (Some word) s = decode_grows T (instr_of word) s

instr_grows : (T : Task) (s : AloneState) → Grows s (after_instr T s)
unfolding after_instr
instr_grows T s = fetch_grows T (code_word_at T s.pc) s

-- used fuel changes no output
out_of_steps : (b : Bool) (s : AloneState) → (if b then record s { end = Some OutOfSteps } else s).output ≡ s.output
out_of_steps true s = refl
out_of_steps false s = refl

checked_same : (T : Task) (n : ℕ) (e : Option End) (s : AloneState) → (if_fuel_used T n e s).output ≡ s.output
checked_same T n (Some e) s = refl
checked_same T n None s = out_of_steps (n == T.fuel) s

unended_grows : (T : Task) (n : ℕ) (e : Option End) (s : AloneState) → IsPrefix s.output (unless_ended T n e s).output
unended_grows T n (Some e) s = prefix-self s.output
unended_grows T n None s =
    let after = (after_instr T s).state in
    prefix-same s.output after.output (fuel_checked_state T n after).output (sym (checked_same T n after.end after)) (instr_grows T s)

one_more : (T : Task) (n : ℕ) → IsPrefix (alone_at T n).output (alone_at T (suc n)).output
unfolding alone_at
one_more T n = unended_grows T (n + 1) (alone_at T n).end (alone_at T n)

-- The output only grows.
pub output-grows : (T : Task) (n k : ℕ) → IsPrefix (alone_at T n).output (alone_at T (n + k)).output
output-grows T n zero =
    let same : n ≡ n + 0 = omega arith in
    prefix-same (alone_at T n).output (alone_at T n).output (alone_at T (n + 0)).output (ap (λ m. (alone_at T m).output) same)
    (prefix-self (alone_at T n).output)
output-grows T n (suc k) =
    let next : suc (n + k) ≡ n + suc k = omega arith in
    prefix-same (alone_at T n).output (alone_at T (suc (n + k))).output (alone_at T (n + suc k)).output (ap (λ m. (alone_at T m).output) next)
    (prefix-then (alone_at T n).output (alone_at T (n + k)).output (alone_at T (suc (n + k))).output (output-grows T n k) (one_more T (n + k)))

pub output-prefix : (T : Task) (n m : ℕ) → n ≤ m → IsPrefix (alone_at T n).output (alone_at T m).output
output-prefix T n m le =
    let same : n + (m - n) ≡ m = omega arith in
    prefix-same (alone_at T n).output (alone_at T (n + (m - n))).output (alone_at T m).output (ap (λ i. (alone_at T i).output) same)
    (output-grows T n (m - n))

-- a task that may execute an instruction has ended once its fuel is used
used_is_some : (b : Bool) (s : AloneState) → b ≡ true → IsSome (if b then record s { end = Some OutOfSteps } else s).end
used_is_some true s e = refl
used_is_some false s e = absurd (cc e)

checked_is_some : (T : Task) (n : ℕ) (e : Option End) (s : AloneState) → s.end ≡ e → n ≡ T.fuel → IsSome (if_fuel_used T n e s).end
checked_is_some T n (Some e) s is used = subst IsSome (sym is) refl
checked_is_some T n None s is used = used_is_some (n == T.fuel) s (eq-eqb n T.fuel used)

ended_is_some : (T : Task) (n : ℕ) (e : Option End) (s : AloneState) → s.end ≡ e → n ≡ T.fuel → IsSome (unless_ended T n e s).end
ended_is_some T n (Some e) s is used = subst IsSome (sym is) refl
ended_is_some T n None s is used = checked_is_some T n (after_instr T s).state.end (after_instr T s).state refl used

ended_at : (T : Task) (n : ℕ) → 1 ≤ n → n ≡ T.fuel → IsSome (alone_at T n).end
unfolding alone_at
ended_at T zero low used = absurd (omega arith)
ended_at T (suc n) low used = ended_is_some T (n + 1) (alone_at T n).end (alone_at T n) refl (omega arith)

-- The whole run has an end.
pub last-has-end : (T : Task) → 1 ≤ T.fuel → IsSome (last_of T).end
last-has-end T low = ended_at T T.fuel low refl

-- So the output after any number of instructions is the beginning of that of the whole run.
pub output-of-whole : (T : Task) → 1 ≤ T.fuel → (n : ℕ) → IsPrefix (alone_at T n).output (last_of T).output
output-of-whole T low n =
    ⊎_elim
    (λ (below : n < T.fuel). output-prefix T n T.fuel (omega arith))
    (λ (above : T.fuel ≤ n).
    let same : T.fuel + (n - T.fuel) ≡ n = omega arith in
    let stays = alone-stays T T.fuel (n - T.fuel) (last-has-end T low) in
    subst (λ s. IsPrefix s.output (last_of T).output) (sym stays ∙ ap (alone_at T) same) (prefix-self (last_of T).output))
    (cases_lt n T.fuel)
