-- Each why says its tags.
use Rattle.std.proofs.Common.{◌≡◌, ℕ, zero, suc, ◌+◌, ◌≤◌, inl, inr, refl, sym, subst, arith, add-one, Bool, true, false, ◌&&◌, ◌==◌, nat_le}
use Rattle.std.proofs.lemmas.Bool.{and_parts, and_from, eqb-true, eq-eqb, leb-true, le-leb, false_from_ne_true}
use Rattle.isa_model.specs.declared.latch.Latch.{Latch}
use Rattle.isa_model.specs.declared.latch.Latch.TheVariants.{Reg, PortA, PortB, Res, Load, Store, Scr, Mul, Mem}
use Rattle.isa_model.specs.LatchOrder.{same_latch}
use Rattle.hart_model.specs.declared.tag.Tag.{Tag}
use Rattle.hart_model.specs.declared.tag.Tag.TheVariants.{Public, Of, Many}
use Rattle.hart_model.specs.declared.tag.Mode.{Mode}
use Rattle.hart_model.specs.declared.tag.Mode.TheVariants.{User, Machine}
use Rattle.hart_model.specs.declared.probe.Why.{Why}
use Rattle.hart_model.specs.declared.probe.Why.TheVariants as whys
use Rattle.hart_model.specs.declared.probe.Side.TheVariants.{Was, Now}
use Rattle.hart_model.specs.Why.{why_of, step_or_unexplained}
use Rattle.hart_model.specs.WhyLaws.{IsStepOf, IsOfTask, IsNoStep, IsWhyOf, WhySaysItsTags}

pub same_latch-refl : (a : Latch) → same_latch a a ≡ true
same_latch-refl (Reg r) = eq-eqb r r refl
same_latch-refl (Mem at) = eq-eqb at at refl
same_latch-refl PortA = refl
same_latch-refl PortB = refl
same_latch-refl Res = refl
same_latch-refl Load = refl
same_latch-refl Store = refl
same_latch-refl Scr = refl
same_latch-refl Mul = refl

pub same_latch-true : (a b : Latch) → same_latch a b ≡ true → a ≡ b
same_latch-true (Reg a) (Reg b) h = let e = eqb-true a b h in cc
same_latch-true (Mem a) (Mem b) h = let e = eqb-true a b h in cc
same_latch-true PortA PortA h = refl
same_latch-true PortB PortB h = refl
same_latch-true Res Res h = refl
same_latch-true Load Load h = refl
same_latch-true Store Store h = refl
same_latch-true Scr Scr h = refl
same_latch-true Mul Mul h = refl
same_latch-true _ _ h = cc

-- the facts of the test of a step
pub record Agree (l : Latch) (task m : ℕ) (k : Latch) (other n : ℕ) (j : Latch) : Type 0 where
  pub task_is : task ≡ other
  pub old_latch_is : k ≡ l
  pub new_latch_is : j ≡ l
  pub is_earlier : m ≤ n

abbrev pub agree : Latch → ℕ → ℕ → Latch → ℕ → ℕ → Latch → Bool
agree l task m k other n j = (task == other) && same_latch k l && same_latch j l && nat_le m n

Agree-true : (l : Latch) (task m : ℕ) (k : Latch) (other n : ℕ) (j : Latch) → agree l task m k other n j ≡ true → Agree l task m k other n j
Agree-true l task m k other n j h =
    let p = and_parts _ _ h in
    let q = and_parts _ _ p.0 in
    let r = and_parts _ _ q.0 in
    record {
      task_is = eqb-true _ _ r.0;
      old_latch_is = same_latch-true _ _ r.1;
      new_latch_is = same_latch-true _ _ q.1;
      is_earlier = leb-true _ _ p.1;
    }

-- and where they hold, the test does
Agree-from : (l : Latch) (task m : ℕ) (k : Latch) (other n : ℕ) (j : Latch) → Agree l task m k other n j → agree l task m k other n j ≡ true
Agree-from l task m k other n j h =
    let latches : (same_latch k l ≡ true) × (same_latch j l ≡ true) =
    (subst (λ (x : Latch). same_latch x l ≡ true) (sym h.old_latch_is) (same_latch-refl l), subst (λ (x : Latch). same_latch x l ≡ true) (sym h.new_latch_is) (same_latch-refl l)) in
    and_from _ _ (and_from _ _ (and_from _ _ (eq-eqb _ _ h.task_is) latches.0) latches.1) (le-leb _ _ h.is_earlier)

-- what two tags of tasks say of a step of user mode
step_facts : (l : Latch) (task m : ℕ) (k : Latch) (other n : ℕ) (j : Latch) (t i : ℕ)
    → IsStepOf User l (Of task m k) (Of other (suc n) j) t i → (t ≡ other) × (i ≡ n) × Agree l task m k other n j
step_facts l task m k other n j t i h =
    let old : m ≡ h.old_step = cc (h.was_is) in
    let new : suc n ≡ i + 1 = cc (h.now_is) in
    let same : i ≡ n = omega (arith, new) in (
      cc (h.now_is),
      same,
      record {
        task_is = cc (h.was_is, h.now_is);
        old_latch_is = cc (h.was_is);
        new_latch_is = cc (h.now_is);
        is_earlier = omega (arith, old, same, h.is_earlier);
      },
    )

of_step : (l : Latch) (task m : ℕ) (k : Latch) (other n : ℕ) (j : Latch) → Agree l task m k other n j
    → IsStepOf User l (Of task m k) (Of other (suc n) j) task n
of_step l task m k other n j h = record {
  in_user_mode = refl;
  old_step = m;
  is_earlier = h.is_earlier;
  was_is = cc (h.old_latch_is);
  now_is = rw add-one (cc (h.task_is, h.new_latch_is));
}

of_task : (task step : ℕ) (latch : Latch) → IsOfTask (Of task step latch)
of_task task step latch = record { task = task; step = step; latch = latch; is = refl }

-- the why of two tags of tasks in user mode, by its test
step_says : (l : Latch) (task m : ℕ) (k : Latch) (other n : ℕ) (j : Latch) (b : Bool) → agree l task m k other n j ≡ b
    → IsWhyOf User l (Of task m k) (Of other (suc n) j) (step_or_unexplained b task n l)
step_says l task m k other n j true h = (refl, of_step l task m k other n j (Agree-true l task m k other n j h))
step_says l task m k other n j false h = inr (inr (record {
  was_of_task = of_task task m k;
  now_of_task = of_task other (suc n) j;
  no_step = λ t i step. let yes = Agree-from l task m k other n j (step_facts l task m k other n j t i step).2 in cc (h, yes);
}))

-- no step ends at the start of a task
no_step_to_start : (l : Latch) (was : Tag) (other : ℕ) (j : Latch) (t i : ℕ) → ¬ IsStepOf User l was (Of other 0 j) t i
no_step_to_start l was other j t i h = let new : 0 ≡ i + 1 = cc (h.now_is) in absurd (omega (arith, new))

-- the why of a write says its tags
sound : (mode : Mode) (l : Latch) (was now : Tag) → IsWhyOf mode l was now (why_of mode l was now)
sound mode l Public Public = (refl, refl)
sound mode l Public (Of task n k) = (refl, refl)
sound mode l (Of task n k) Public = (refl, refl)
sound User l Public Many = inr (inl refl)
sound Machine l Public Many = inr (inl refl)
sound User l Many Public = inl refl
sound Machine l Many Public = inl refl
sound User l Many Many = inl refl
sound Machine l Many Many = inl refl
sound User l Many (Of task zero k) = inl refl
sound User l Many (Of task (suc n) k) = inl refl
sound Machine l Many (Of task n k) = inl refl
sound User l (Of task n k) Many = inr (inl refl)
sound Machine l (Of task n k) Many = inr (inl refl)
sound User l (Of task m k) (Of other zero j) = inr (inr (record {
  was_of_task = of_task task m k;
  now_of_task = of_task other 0 j;
  no_step = no_step_to_start l (Of task m k) other j;
}))
sound User l (Of task m k) (Of other (suc n) j) = step_says l task m k other n j (agree l task m k other n j) refl
sound Machine l (Of task m k) (Of other n j) = inr (inr (record {
  was_of_task = of_task task m k;
  now_of_task = of_task other n j;
  no_step = λ t i step. let no = step.in_user_mode in cc;
}))

-- and tags that are as a why says have this why
step_is : (b : Bool) (task n : ℕ) (l : Latch) → b ≡ true → step_or_unexplained b task n l ≡ whys.Step task n l
step_is b task n l h = rw h refl

no_step_is : (b : Bool) (task n : ℕ) (l : Latch) → b ≡ false → step_or_unexplained b task n l ≡ whys.Unexplained
no_step_is b task n l h = rw h refl

step_why : (l : Latch) (task m n : ℕ) → m ≤ n → why_of User l (Of task m l) (Of task (n + 1) l) ≡ whys.Step task n l
step_why l task m n h =
    rw add-one (step_is _ task n l (Agree-from l task m l task n l (record { task_is = refl; old_latch_is = refl; new_latch_is = refl; is_earlier = h })))

many_before : (mode : Mode) (l : Latch) (now : Tag) → why_of mode l Many now ≡ whys.Unexplained
many_before User l Public = refl
many_before User l Many = refl
many_before User l (Of task zero k) = refl
many_before User l (Of task (suc n) k) = refl
many_before Machine l Public = refl
many_before Machine l Many = refl
many_before Machine l (Of task n k) = refl

many_after : (mode : Mode) (l : Latch) (was : Tag) → why_of mode l was Many ≡ whys.Unexplained
many_after User l Public = refl
many_after User l Many = refl
many_after User l (Of task n k) = refl
many_after Machine l Public = refl
many_after Machine l Many = refl
many_after Machine l (Of task n k) = refl

no_step_why : (mode : Mode) (l : Latch) (task m : ℕ) (k : Latch) (other n : ℕ) (j : Latch)
    → ((t i : ℕ) → ¬ IsStepOf mode l (Of task m k) (Of other n j) t i) → why_of mode l (Of task m k) (Of other n j) ≡ whys.Unexplained
no_step_why Machine l task m k other n j h = refl
no_step_why User l task m k other zero j h = refl
no_step_why User l task m k other (suc n) j h =
    no_step_is _ task n l (false_from_ne_true _ (λ yes. h task n (of_step l task m k other n j (Agree-true l task m k other n j yes))))

both_of_tasks : (mode : Mode) (l : Latch) (was now : Tag) → IsNoStep mode l was now → why_of mode l was now ≡ whys.Unexplained
both_of_tasks mode l (Of task m k) (Of other n j) h = no_step_why mode l task m k other n j h.no_step
both_of_tasks mode l Public now h = let e = h.was_of_task.is in cc
both_of_tasks mode l Many now h = let e = h.was_of_task.is in cc
both_of_tasks mode l was Public h = let e = h.now_of_task.is in cc
both_of_tasks mode l was Many h = let e = h.now_of_task.is in cc

complete : (mode : Mode) (l : Latch) (was now : Tag) (why : Why) → IsWhyOf mode l was now why → why_of mode l was now ≡ why
complete mode l was now whys.Public h = rw (h.0, h.1) refl
complete mode l was now (whys.Value task n k Was) h = rw (h.0, h.1) refl
complete mode l was now (whys.Value task n k Now) h = rw (h.0, h.1) refl
complete mode l was now (whys.Step task n k) h =
    let s = h.1 in
    rw (s.in_user_mode, s.was_is, s.now_is, h.0) (step_why l task s.old_step n s.is_earlier)
complete mode l was now whys.Unexplained h = elim h [
  | inl before ↦ rw before (many_before mode l now)
  | inr rest ↦ elim rest [
    | inl after ↦ rw after (many_after mode l was)
    | inr none ↦ both_of_tasks mode l was now none
  ]
]

pub why_says_its_tags : WhySaysItsTags
why_says_its_tags mode l was now why =
    (λ e. subst (λ (w : Why). IsWhyOf mode l was now w) e (sound mode l was now), complete mode l was now why)
