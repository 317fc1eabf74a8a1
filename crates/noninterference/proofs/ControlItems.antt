-- What the control of a task has of an instruction that is executed, and what two tasks of one control have in common there.
use Rattle.std.proofs.Common.{◌≡◌, ℕ, zero, suc, ◌+◌, ◌<◌, ◌≤◌, ◌⊎◌, inl, inr, List, [], ◌∷◌, ◌++◌, length, length-append, slice_get, Option, Some, None, is_none, if◌then◌else◌, ⊎_elim, refl, ap, sym, ◌∙◌, subst, arith, add-one}
use Rattle.std.proofs.lemmas.Bool.{cases_lt}
use Rattle.isa_model.specs.declared.ends.End.{End}
use Rattle.isa_model.specs.declared.task.Task.{Task}
use Rattle.isa_model.specs.declared.control.Control.{Control}
use Rattle.isa_model.specs.Alone.{alone_at, after_instr, last_of, unless_ended}
use Rattle.isa_model.specs.Control.{control_at, control_to, control_of}
use Rattle.core_invariant.proofs.AloneNext.{still-runs, next-state}

-- an item of a list, and of a longer one
in_longer : {A : Type 0} (xs ys : List A) (i : ℕ) (x : A) → slice_get xs i ≡ Some x → slice_get (xs ++ ys) i ≡ Some x
in_longer [] ys i x is = absurd cc
in_longer (a ∷ xs) ys zero x is = is
in_longer (a ∷ xs) ys (suc i) x is = in_longer xs ys i x is

at_seam : {A : Type 0} (xs ys : List A) (x : A) → slice_get (xs ++ x ∷ ys) (length xs) ≡ Some x
at_seam [] ys x = refl
at_seam (a ∷ xs) ys x = at_seam xs ys x

module _ (T : Task) where
  -- a task that runs after an instruction ran before it
  ran_before : (n : ℕ) → (alone_at T (suc n)).end ≡ None → (alone_at T n).end ≡ None
  unfolding alone_at
  ran_before n runs = go (alone_at T n).end refl runs
    where
      go : (o : Option End) → (alone_at T n).end ≡ o → (unless_ended T (n + 1) o (alone_at T n)).end ≡ None → (alone_at T n).end ≡ None
      go None is later = is
      go (Some e) is later = later

  -- while it runs, each instruction has an item
  more_control : (n : ℕ) → (alone_at T n).end ≡ None → control_to T (suc n) ≡ control_to T n ++ control_at T n ∷ []
  unfolding control_to
  more_control n runs = ap (λ (o : Option End). if is_none o then control_to T n ++ control_at T n ∷ [] else control_to T n) runs

  control_length : (n : ℕ) → (alone_at T n).end ≡ None → length (control_to T n) ≡ n
  unfolding control_to
  control_length zero runs = refl
  control_length (suc n) runs =
      let before = ran_before n runs in
      ap (λ (cs : List Control). length cs) (more_control n before)
      ∙ length-append (control_to T n) (control_at T n ∷ []) ∙ ap (λ k. k + 1) (control_length n before) ∙ add-one n

  kept_item : (m i : ℕ) (x : Control) → slice_get (control_to T m) i ≡ Some x → slice_get (control_to T (suc m)) i ≡ Some x
  unfolding control_to
  kept_item m i x is = go (alone_at T m).end
    where
      go : (o : Option End) → slice_get (if is_none o then control_to T m ++ control_at T m ∷ [] else control_to T m) i ≡ Some x
      go None = in_longer (control_to T m) (control_at T m ∷ []) i x is
      go (Some e) = is

  item_last : (n : ℕ) → (alone_at T n).end ≡ None → slice_get (control_to T (suc n)) n ≡ Some (control_at T n)
  item_last n runs =
      let P : ℕ → Type 0 = λ i. slice_get (control_to T n ++ control_at T n ∷ []) i ≡ Some (control_at T n) in
      ap (λ (cs : List Control). slice_get cs n) (more_control n runs)
      ∙ subst P (control_length n runs) (at_seam (control_to T n) [] (control_at T n))

  item_before : (m n : ℕ) → n < m → (alone_at T n).end ≡ None → slice_get (control_to T m) n ≡ Some (control_at T n)
  item_before zero n low runs = absurd (omega (arith, low))
  item_before (suc m) n low runs =
      let P : ℕ → Type 0 = λ k. slice_get (control_to T (suc k)) n ≡ Some (control_at T n) in
      ⊎_elim
      (λ (less : n < m). kept_item m n (control_at T n) (item_before m n less runs))
      (λ (past : m ≤ n). let same : n ≡ m = omega (arith, low, past) in subst P same (item_last n runs))
      (cases_lt n m)

  -- The control of a task has each instruction that is executed.
  pub control-item : (n : ℕ) → (alone_at T n).end ≡ None → n < T.fuel → slice_get (control_of T) n ≡ Some (control_at T n)
  control-item n runs left = item_before T.fuel n left runs

module _ (T U : Task) (fuel : T.fuel ≡ U.fuel) (control : control_of T ≡ control_of U) where
  -- Two tasks of one control have the same item where both run.
  pub same-item : (n : ℕ) → n < T.fuel → (alone_at T n).end ≡ None → (alone_at U n).end ≡ None → control_at T n ≡ control_at U n
  same-item n left runs other =
      let left' : n < U.fuel = omega (arith, left, fuel) in
      some_is (control_at T n) (control_at U n)
      (sym (control-item T n runs left) ∙ ap (λ (cs : List Control). slice_get cs n) control ∙ control-item U n other left')
    where
      some_is : (x y : Control) → Some x ≡ Some y → x ≡ y
      some_is x y is = cc

  -- Where both go on after an instruction they go on at one pc: that of the next item, and after the last instruction that of the two
  -- last states, if they have one pc.
  pub same-next-pc : (last_of T).pc ≡ (last_of U).pc → (n : ℕ) → n < T.fuel → (alone_at T n).end ≡ None → (alone_at U n).end ≡ None
      → (after_instr T (alone_at T n)).state.end ≡ None → (after_instr U (alone_at U n)).state.end ≡ None
      → (after_instr T (alone_at T n)).state.pc ≡ (after_instr U (alone_at U n)).state.pc
  same-next-pc last n left runs other on on' =
      let one = next-state T n runs in
      let two = next-state U n other in
      sym one.pc ∙ go (cases_lt (n + 1) T.fuel) ∙ two.pc
    where
      go : (n + 1 < T.fuel) ⊎ (T.fuel ≤ n + 1) → (alone_at T (n + 1)).pc ≡ (alone_at U (n + 1)).pc
      go (inl more) =
          let runs' = still-runs T (n + 1) ((next-state T n runs).end on) more in
          let other' = still-runs U (n + 1) ((next-state U n other).end on') (omega (arith, more, fuel)) in
          ap (λ (c : Control). c.pc) (same-item (n + 1) more runs' other')
      go (inr used) =
          let at_last : T.fuel ≡ n + 1 = omega (arith, used, left) in
          let at_last' : U.fuel ≡ n + 1 = omega (arith, used, left, fuel) in
          ap (λ m. (alone_at T m).pc) (sym at_last) ∙ last ∙ ap (λ m. (alone_at U m).pc) at_last'
