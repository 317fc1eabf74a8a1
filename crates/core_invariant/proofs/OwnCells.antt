-- Cells that are a task's own: their value, and what they are after one instruction more, which writes the latch or leaves it as it was.
use Rattle.std.proofs.Common.{◌≡◌, ℕ, suc, ◌+◌, ◌≤◌, ◌⊎◌, inl, inr, List, Some, slice_get, refl, ap, sym, ◌∙◌, subst, arith, add-one, le_refl}
use Rattle.std.proofs.lemmas.Bool.Decides.{eqb_tells}
use Rattle.isa_model.specs.declared.task.Task.{Task}
use Rattle.isa_model.specs.declared.latch.Latch.{Latch}
use Rattle.isa_model.specs.declared.latch.Latch.TheVariants as latches
use Rattle.isa_model.specs.AloneValue.{alone_value}
use Rattle.hart_model.specs.declared.probe.Probe.{Probe}
use Rattle.hart_model.specs.declared.probe.Why.{Why}
use Rattle.hart_model.specs.declared.probe.Why.TheVariants as whys
use Rattle.hart_model.specs.declared.probe.Side.TheVariants.{Now}
use Rattle.hart_model.specs.declared.tag.Cell.{Cell}
use Rattle.hart_model.specs.declared.tag.Tag.{Tag}
use Rattle.hart_model.specs.declared.tag.Tag.TheVariants.{Of}
use Rattle.hart_model.specs.declared.tag.Mode.TheVariants.{User}
use Rattle.hart_model.specs.Why.{why_of}
use Rattle.hart_model.specs.Probes.{probe_of}
use Rattle.hart_model.proofs.WhyTells.{why_says_its_tags}
use Rattle.core_model.specs.Explained.{IsExplained}
use Rattle.core_model.specs.Soundness.{IsTruthful, IsUntouched, IsUnchangedSince, IsOwn, IsOwnOrPublic, IsOldWord}

-- the cell of a written latch
abbrev pub written_cell : Task → ℕ → ℕ → Latch → Cell
written_cell T task_no n l = record { value = alone_value T (n + 1) l; tag = Of task_no (n + 1) l }

-- A latch was written by instruction n, or it was not and has the same value in the run alone.
abbrev pub IsNext : Task → ℕ → ℕ → Latch → Cell → Cell → Type 0
IsNext T task_no n l old new = (new ≡ written_cell T task_no n l) ⊎ ((new ≡ old) × (alone_value T (n + 1) l ≡ alone_value T n l))

module _ (T : Task) (task_no n : ℕ) (l : Latch) where
  -- the value of a cell of the task's own
  pub own-value : (cell : Cell) → IsOwn task_no T n l cell → cell.value ≡ alone_value T n l
  own-value cell (inl own) = own.value ∙ sym (own.never n (le_refl n))
  own-value cell (inr own) = own.value

  pub own-is-public : (cell : Cell) → IsOwn task_no T n l cell → IsOwnOrPublic task_no T n l cell
  own-is-public cell (inl own) = inl own.tag
  own-is-public cell (inr own) = inr own

  -- what was just written
  just_written : IsUnchangedSince task_no T (n + 1) l (written_cell T task_no n l)
  just_written = record {
    since = n + 1;
    since_low = omega arith;
    since_high = le_refl (n + 1);
    tag = refl;
    value = refl;
    unchanged = λ k low high. (let same : k ≡ n + 1 = omega arith in ap (λ (m : ℕ). alone_value T m l) same);
  }

  -- or stays
  up_to_next : (P : ℕ → Type 0) → ((k : ℕ) → k ≤ n → P k) → P (n + 1) → (k : ℕ) → (k ≤ n) ⊎ (k ≡ n + 1) → P k
  up_to_next P before now k (inl low) = before k low
  up_to_next P before now k (inr same) = subst P (sym same) now

  low_or_last : (k : ℕ) → k ≤ n + 1 → (k ≤ n) ⊎ (k ≡ n + 1)
  low_or_last k high = elim (eqb_tells k (n + 1)) [
    | inl last ↦ inr last.1
    | inr other ↦ inl (let not = other.1 in omega arith)
  ]

  still_untouched : (cell : Cell) → alone_value T (n + 1) l ≡ alone_value T n l → IsUntouched T n l cell → IsUntouched T (n + 1) l cell
  still_untouched cell same own = record {
    tag = own.tag;
    value = own.value;
    never = λ k high. up_to_next (λ m. alone_value T m l ≡ 0) own.never (same ∙ own.never n (le_refl n)) k (low_or_last k high);
  }

  still_unchanged : (cell : Cell) → alone_value T (n + 1) l ≡ alone_value T n l → IsUnchangedSince task_no T n l cell
      → IsUnchangedSince task_no T (n + 1) l cell
  still_unchanged cell same own = record {
    since = own.since;
    since_low = own.since_low;
    since_high = (let high = own.since_high in omega arith);
    tag = own.tag;
    value = own.value ∙ sym same;
    unchanged = λ k low high.
        up_to_next (λ m. own.since ≤ m → alone_value T m l ≡ alone_value T (n + 1) l) (λ m before after. own.unchanged m after before ∙ sym same)
        (λ after. refl) k (low_or_last k high) low;
  }

  -- A cell of the task's own is so after the next instruction.
  pub own-next : (old new : Cell) → IsNext T task_no n l old new → IsOwn task_no T n l old → IsOwn task_no T (n + 1) l new
  own-next old new (inl written) own = subst (λ (x : Cell). IsOwn task_no T (n + 1) l x) (sym written) (inr just_written)
  own-next old new (inr kept) (inl own) = subst (λ (x : Cell). IsOwn task_no T (n + 1) l x) (sym kept.0) (inl (still_untouched old kept.1 own))
  own-next old new (inr kept) (inr own) = subst (λ (x : Cell). IsOwn task_no T (n + 1) l x) (sym kept.0) (inr (still_unchanged old kept.1 own))

  pub public-next : (old new : Cell) → IsNext T task_no n l old new → IsOwnOrPublic task_no T n l old → IsOwnOrPublic task_no T (n + 1) l new
  public-next old new (inl written) own = subst (λ (x : Cell). IsOwnOrPublic task_no T (n + 1) l x) (sym written) (inr just_written)
  public-next old new (inr kept) (inl public) = inl (ap (λ (x : Cell). x.tag) kept.0 ∙ public)
  public-next old new (inr kept) (inr own) = subst (λ (x : Cell). IsOwnOrPublic task_no T (n + 1) l x) (sym kept.0) (inr (still_unchanged old kept.1 own))

  -- and says the truth
  pub truthful-next : (tasks : List Task) → slice_get tasks task_no ≡ Some T → (old new : Cell) → IsNext T task_no n l old new → IsTruthful tasks old
      → IsTruthful tasks new
  truthful-next tasks is_task old new (inl written) truth =
      subst (λ (x : Cell). IsTruthful tasks x) (sym written) (record { task = T; is_task = is_task; is_value = refl })
  truthful-next tasks is_task old new (inr kept) truth = subst (λ (x : Cell). IsTruthful tasks x) (sym kept.0) truth

  -- The entry of a write is explained, where the old cell was the task's own or public.
  step_why : (m : ℕ) → m ≤ n → why_of User l (Of task_no m l) (Of task_no (n + 1) l) ≡ whys.Step task_no n l
  step_why m low =
      (why_says_its_tags User l (Of task_no m l) (Of task_no (n + 1) l) (whys.Step task_no n l)).1
      (refl, record { in_user_mode = refl; old_step = m; is_earlier = low; was_is = refl; now_is = refl })

  pub entry-explained : (tasks : List Task) (hart pc value : ℕ) (old : Cell) → slice_get tasks task_no ≡ Some T → value ≡ alone_value T (n + 1) l
      → IsOwnOrPublic task_no T n l old → IsExplained tasks (probe_of hart pc User l old (record { value = value; tag = Of task_no (n + 1) l }))
  entry-explained tasks hart pc value old is_task is (inl public) =
      let p : Why → Probe = λ w. record { hart = hart; pc = pc; latch = l; was = old.value; now = value; why = w } in
      let why : why_of User l old.tag (Of task_no (n + 1) l) ≡ whys.Value task_no (n + 1) l Now =
      ap (λ (t : Tag). why_of User l t (Of task_no (n + 1) l)) public in
      subst (λ (w : Why). IsExplained tasks (p w)) (sym why) (record { task = T; is_task = is_task; is_value = is })
  entry-explained tasks hart pc value old is_task is (inr own) =
      let p : Why → Probe = λ w. record { hart = hart; pc = pc; latch = l; was = old.value; now = value; why = w } in
      let why : why_of User l old.tag (Of task_no (n + 1) l) ≡ whys.Step task_no n l =
      ap (λ (t : Tag). why_of User l t (Of task_no (n + 1) l)) own.tag ∙ step_why own.since own.since_high in
      subst (λ (w : Why). IsExplained tasks (p w)) (sym why)
      (refl, record { task = T; is_task = is_task; is_change = ap (λ (v : ℕ). (v, value)) own.value ∙ ap (λ (v : ℕ). (alone_value T n l, v)) is })

-- A cell of the task's own stays so where an instruction leaves the value.
pub own-later : (T : Task) (task_no n : ℕ) (l : Latch) (cell : Cell) → alone_value T (suc n) l ≡ alone_value T n l → IsOwn task_no T n l cell
    → IsOwn task_no T (suc n) l cell
own-later T task_no n l cell same own =
    let Same : ℕ → Type 0 = λ m. alone_value T m l ≡ alone_value T n l in
    let Own : ℕ → Type 0 = λ m. IsOwn task_no T m l cell in
    subst Own (add-one n) (own-next T task_no n l cell cell (inr (refl, subst Same (sym (add-one n)) same)) own)

-- And it may stand in the slot as a word of before.
pub own-old : (T : Task) (task_no n i : ℕ) (cell : Cell) → IsOwn task_no T n (latches.Reg i) cell → IsOldWord task_no i cell
own-old T task_no n i cell (inl untouched) = inl untouched.tag
own-old T task_no n i cell (inr since) = inr (since.since, since.tag)
