-- The run alone after a service that goes on.
use Rattle.std.proofs.Common.{◌≡◌, ℕ, suc, ◌+◌, ◌⊎◌, inl, inr, Bool, true, false, ◌==◌, if◌then◌else◌, [], ◌∷◌, ◌++◌, length, Option, Some, None, slice_get, nat_lt, refl, sym, ap, subst, ◌∙◌}
use Rattle.isa_model.specs.declared.task.Task.{Task}
use Rattle.isa_model.specs.declared.latch.Latch.{Latch}
use Rattle.isa_model.specs.declared.latch.Latch.TheVariants.{Reg}
use Rattle.isa_model.specs.declared.ends.End.TheVariants.{OutOfSteps, OutFull}
use Rattle.isa_model.specs.declared.ends.EndKind.TheVariants as kinds
use Rattle.isa_model.specs.Bits.{low_word}
use Rattle.isa_model.specs.Alone.{AloneState, alone_at, after_instr, after_call, after_in, after_end, after_service, with_value, unless_ended, fuel_checked_state, if_fuel_used}

-- a state that goes on as another one, but for the end by used fuel
pub record GoesOnAs (next s : AloneState) : Type 0 where
  pub value : (l : Latch) → next.value l ≡ s.value l
  pub pc : next.pc ≡ s.pc
  pub output : next.output ≡ s.output
  pub tape_at : next.tape_at ≡ s.tape_at
  pub running : (next.end ≡ None) ⊎ (next.end ≡ Some OutOfSteps)

-- used fuel or not
by-fuel : (s : AloneState) → s.end ≡ None → (used : Bool) → GoesOnAs (if used then record s { end = Some OutOfSteps } else s) s
by-fuel s e true = record { value = λ l. refl; pc = refl; output = refl; tape_at = refl; running = inr refl }
by-fuel s e false = record { value = λ l. refl; pc = refl; output = refl; tape_at = refl; running = inl e }

-- an instruction that doesn't end the task leads the run alone on as its state
pub goes-on-as : (T : Task) (n : ℕ) (s : AloneState) → (alone_at T n).end ≡ None → (after_instr T (alone_at T n)).state ≡ s → s.end ≡ None
    → GoesOnAs (alone_at T (suc n)) s
unfolding alone_at
goes-on-as T n s went_on same e =
    let P : AloneState → Type 0 = λ next. GoesOnAs next s in
    let step : unless_ended T (n + 1) (alone_at T n).end (alone_at T n) ≡ if_fuel_used T (n + 1) None s =
    ap (λ o. unless_ended T (n + 1) o (alone_at T n)) went_on ∙ ap (λ x. fuel_checked_state T (n + 1) x) same ∙ ap (λ o. if_fuel_used T (n + 1) o s) e in
    subst P (sym step) (by-fuel s e (n + 1 == T.fuel))

-- the states after the services that go on
abbrev pub yielded : AloneState → AloneState
yielded s = record s { pc = low_word (s.pc + 4) }

abbrev pub with_output : ℕ → AloneState → AloneState
with_output word s = record s { pc = low_word (s.pc + 4); output = s.output ++ word ∷ [] }

abbrev pub with_input : ℕ → AloneState → AloneState
with_input word s = record s { value = with_value (Reg 10) word s.value; tape_at = s.tape_at + 1; pc = low_word (s.pc + 4) }

-- what the services come to, by a7
pub call-yields : (T : Task) (a7 a0 : ℕ) (s : AloneState) → a7 ≡ 3 → (after_call T a7 a0 s).state ≡ yielded s
call-yields T a7 a0 s e = rw e refl

pub call-outputs : (T : Task) (a7 a0 : ℕ) (s : AloneState) → a7 ≡ 1 → nat_lt (length s.output) T.out_max ≡ true
    → (after_call T a7 a0 s).state ≡ with_output a0 s
call-outputs T a7 a0 s e room =
    ap (λ x. (after_call T x a0 s).state) e
    ∙ ap (λ (b : Bool). (if b then after_service 1 (record s { output = s.output ++ a0 ∷ [] }) else after_end OutFull kinds.OutFull s).state) room

pub call-inputs : (T : Task) (a7 a0 word : ℕ) (s : AloneState) → a7 ≡ 2 → slice_get T.tape s.tape_at ≡ Some word
    → (after_call T a7 a0 s).state ≡ with_input word s
call-inputs T a7 a0 word s e given = ap (λ x. (after_call T x a0 s).state) e ∙ ap (λ (o : Option ℕ). (after_in o s).state) given

-- another latch than a0 is as before after a word of input
pub input-other : (word : ℕ) (s : AloneState) (i : ℕ) → (10 == i) ≡ false → (with_input word s).value (Reg i) ≡ s.value (Reg i)
input-other word s i e = ap (λ (b : Bool). if b then word else s.value (Reg i)) e
