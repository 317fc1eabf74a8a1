-- What an abstract flow says of a value is so of the value that flows on a hart.
use Rattle.std.proofs.Common.{◌≡◌, ℕ, Bool, true, false, ◌&&◌, List, [], ◌∷◌, Some, None, refl, ap, subst, ◌∙◌, ◌==◌, if◌then◌else◌, eqb-true}
use Rattle.std.specs.List.{list_any, list_all}
use Rattle.std.proofs.lemmas.Bool.{and_parts}
use Rattle.hart_model.specs.declared.tag.Cell.{Cell}
use Rattle.hart_model.specs.declared.tag.Tag.{Tag}
use Rattle.hart_model.specs.declared.tag.Tag.TheVariants.{Public}
use Rattle.hart_model.specs.Taint.{mixture_of}
use Rattle.symbolic_run.specs.AbstractCell.{AbstractCell, Zero, SlotAddress, PublicAny, PublicNumber, TaskReg, OldSlotWord, GivenCell, AnyTagged, is_tagged, is_zero, is_number}
use Rattle.symbolic_run.specs.AbstractEffect.{stand_in, mixed_cell}
use Rattle.symbolic_run.specs.Concretization.{Valuation, Denotes}
use Rattle.symbolic_run.proofs.OneWrite.{denoted-public}

any-parts : (x : AbstractCell) (xs : List AbstractCell) → list_any is_tagged (x ∷ xs) ≡ false → (is_tagged x ≡ false) × (list_any is_tagged xs ≡ false)
any-parts Zero xs e = (refl, e)
any-parts SlotAddress xs e = (refl, e)
any-parts PublicAny xs e = (refl, e)
any-parts (PublicNumber value) xs e = (refl, e)
any-parts (TaskReg number) xs e = absurd (cc e)
any-parts (OldSlotWord index) xs e = absurd (cc e)
any-parts GivenCell xs e = absurd (cc e)
any-parts AnyTagged xs e = absurd (cc e)

numbers-parts : (x : AbstractCell) (xs : List AbstractCell) → list_all is_number (x ∷ xs) ≡ true → (is_number x ≡ true) × (list_all is_number xs ≡ true)
numbers-parts Zero xs e = (refl, e)
numbers-parts SlotAddress xs e = absurd (cc e)
numbers-parts PublicAny xs e = absurd (cc e)
numbers-parts (PublicNumber value) xs e = (refl, e)
numbers-parts (TaskReg number) xs e = absurd (cc e)
numbers-parts (OldSlotWord index) xs e = absurd (cc e)
numbers-parts GivenCell xs e = absurd (cc e)
numbers-parts AnyTagged xs e = absurd (cc e)

-- cells that are known as Zero are known numbers
zeros-numbers : (xs : List AbstractCell) → list_all is_zero xs ≡ true → list_all is_number xs ≡ true
zeros-numbers [] e = refl
zeros-numbers (Zero ∷ xs) e = zeros-numbers xs e
zeros-numbers (SlotAddress ∷ xs) e = absurd (cc e)
zeros-numbers (PublicAny ∷ xs) e = absurd (cc e)
zeros-numbers (PublicNumber value ∷ xs) e = absurd (cc e)
zeros-numbers (TaskReg number ∷ xs) e = absurd (cc e)
zeros-numbers (OldSlotWord index ∷ xs) e = absurd (cc e)
zeros-numbers (GivenCell ∷ xs) e = absurd (cc e)
zeros-numbers (AnyTagged ∷ xs) e = absurd (cc e)

module _ (s : Valuation) where
  -- a cell that is known as a number has it
  pub number-value : (x : AbstractCell) (c : Cell) → is_number x ≡ true → Denotes s x c → c.value ≡ stand_in x
  number-value Zero c e d = ap (λ y. y.value) d
  number-value (PublicNumber value) c e d = ap (λ y. y.value) d
  number-value SlotAddress c e d = absurd (cc e)
  number-value PublicAny c e d = absurd (cc e)
  number-value (TaskReg number) c e d = absurd (cc e)
  number-value (OldSlotWord index) c e d = absurd (cc e)
  number-value GivenCell c e d = absurd (cc e)
  number-value AnyTagged c e d = absurd (cc e)

  -- a value that is computed of several, by the three tests of them
  mixed-by : (b₁ b₂ b₃ : Bool) (v w : ℕ) (t : Tag) (y : AbstractCell) →
      (if b₁ then None else if b₂ then Some Zero else if b₃ then Some (PublicNumber w) else Some PublicAny) ≡ Some y →
      (b₁ ≡ false → t ≡ Public) → (b₂ ≡ true → v ≡ 0) → (b₃ ≡ true → v ≡ w) → Denotes s y (record { value = v; tag = t })
  mixed-by true b₂ b₃ v w t y e p z n = absurd (cc e)
  mixed-by false true b₃ v w t y e p z n =
      let same : Zero ≡ y = cc e in
      let P : AbstractCell → Type 0 = λ q. Denotes s q (record { value = v; tag = t }) in
      subst P same (rw (z refl, p refl) refl)
  mixed-by false false true v w t y e p z n =
      let same : PublicNumber w ≡ y = cc e in
      let P : AbstractCell → Type 0 = λ q. Denotes s q (record { value = v; tag = t }) in
      subst P same (rw (n refl, p refl) refl)
  mixed-by false false false v w t y e p z n =
      let same : PublicAny ≡ y = cc e in
      let P : AbstractCell → Type 0 = λ q. Denotes s q (record { value = v; tag = t }) in
      subst P same (p refl)

  mixed : (xs : List AbstractCell) (v w : ℕ) (t : Tag) (y : AbstractCell) → mixed_cell xs w ≡ Some y →
      (list_any is_tagged xs ≡ false → t ≡ Public) → (list_all is_number xs ≡ true → v ≡ w) → Denotes s y (record { value = v; tag = t })
  mixed xs v w t y e p n = mixed-by (list_any is_tagged xs) (list_all is_zero xs && (w == 0)) (list_all is_number xs) v w t y e p zero n
    where
      zero : (list_all is_zero xs && (w == 0)) ≡ true → v ≡ 0
      zero z =
          let b = and_parts (list_all is_zero xs) (w == 0) z in
          let w0 : w ≡ 0 = eqb-true w 0 b.1 in
          n (zeros-numbers xs b.0) ∙ w0

  -- a value that is computed of one operand, and of two
  pub mixed-one : (f : ℕ → ℕ) (x y : AbstractCell) (c : Cell) → mixed_cell (x ∷ []) (f (stand_in x)) ≡ Some y → Denotes s x c →
      Denotes s y (record { value = f c.value; tag = mixture_of (c.tag ∷ []) })
  mixed-one f x y c e d = mixed (x ∷ []) (f c.value) (f (stand_in x)) (mixture_of (c.tag ∷ [])) y e public same
    where
      public : list_any is_tagged (x ∷ []) ≡ false → mixture_of (c.tag ∷ []) ≡ Public
      public u = let p = denoted-public s x c (any-parts x [] u).0 d in ap (λ t. mixture_of (t ∷ [])) p

      same : list_all is_number (x ∷ []) ≡ true → f c.value ≡ f (stand_in x)
      same n = ap f (number-value x c (numbers-parts x [] n).0 d)

  pub mixed-two : (f : ℕ → ℕ → ℕ) (x z y : AbstractCell) (c k : Cell) → mixed_cell (x ∷ z ∷ []) (f (stand_in x) (stand_in z)) ≡ Some y →
      Denotes s x c → Denotes s z k → Denotes s y (record { value = f c.value k.value; tag = mixture_of (c.tag ∷ k.tag ∷ []) })
  mixed-two f x z y c k e d g = mixed (x ∷ z ∷ []) (f c.value k.value) (f (stand_in x) (stand_in z)) (mixture_of (c.tag ∷ k.tag ∷ [])) y e public same
    where
      public : list_any is_tagged (x ∷ z ∷ []) ≡ false → mixture_of (c.tag ∷ k.tag ∷ []) ≡ Public
      public u =
          let parts = any-parts x (z ∷ []) u in
          let p = denoted-public s x c parts.0 d in
          let q = denoted-public s z k (any-parts z [] parts.1).0 g in
          ap (λ t. mixture_of (t ∷ k.tag ∷ [])) p ∙ ap (λ t. mixture_of (t ∷ [])) q

      same : list_all is_number (x ∷ z ∷ []) ≡ true → f c.value k.value ≡ f (stand_in x) (stand_in z)
      same n =
          let parts = numbers-parts x (z ∷ []) n in
          ap (λ v. f v k.value) (number-value x c parts.0 d) ∙ ap (f (stand_in x)) (number-value z k (numbers-parts z [] parts.1).0 g)
