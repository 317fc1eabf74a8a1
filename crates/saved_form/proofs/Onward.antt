-- Items that were read, and those that are read after them.
use Rattle.std.proofs.Common.{◌≡◌, ℕ, suc, ◌+◌, ◌-◌, ◌<◌, ◌≤◌, List, [], ◌∷◌, ◌++◌, Result, Ok, Err, refl, sym, ap, ◌∙◌, subst, append_assoc, arith}
use Rattle.std.proofs.lemmas.List.{append-nil}
use Rattle.saved_form.specs.declared.numbers.ReadError.{ReadError}
use Rattle.saved_form.specs.declared.numbers.ReadError.TheVariants.{Short as IsShort, Bad as IsBad, Memory}
use Rattle.saved_form.specs.Fields.{FieldFault, Place, Reader, ◌>>=◌, got, items}
use Rattle.saved_form.specs.Answer.{IsFault}

-- what follows is put behind what was read
abbrev behind : {A : Type 0} → List A → Result (List A × Place) FieldFault → Result (List A × Place) FieldFault
behind before r = r >>= (λ xs. got (before ++ xs.0) xs.1)

-- all items, where these were read and so many are left
unfoldable pub onward : {A : Type 0} → (List A → Reader A) → List A → ℕ → Reader (List A)
onward reads before count p = behind before (items reads before count p)

-- a fault goes through
pub fault-through : {A B : Type 0} (error : ReadError) (r : Result A FieldFault) (f : A → Result B FieldFault) → IsFault error r → IsFault error (r >>= f)
fault-through (IsShort at) r f is = ap (λ x. x >>= f) is
fault-through (IsBad at) r f is = ap (λ x. x >>= f) is
fault-through Memory r f is = tt

pub fault-along : {A : Type 0} (error : ReadError) (r q : Result A FieldFault) → r ≡ q → IsFault error q → IsFault error r
fault-along {A} error r q e is = subst (λ (x : Result A FieldFault). IsFault error x) (sym e) is

module _ {A : Type 0} (reads : List A → Reader A) where
  none-behind : (r : Result (List A × Place) FieldFault) → r ≡ behind [] r
  none-behind (Ok xs) = refl
  none-behind (Err fault) = refl

  pub begins : (count : ℕ) (p : Place) → items reads [] count p ≡ onward reads [] count p
  unfolding onward
  begins count p = none-behind (items reads [] count p)

  pub ends : (before : List A) (p : Place) → onward reads before 0 p ≡ got before p
  unfolding onward items
  ends before p = ap (λ xs. got xs p) (append-nil before)

  abbrev after : A → Result (List A × Place) FieldFault → Result (List A × Place) FieldFault
  after x r = r >>= (λ xs. got (x ∷ xs.0) xs.1)

  abbrev goes_on : List A → ℕ → Result (A × Place) FieldFault → Result (List A × Place) FieldFault
  goes_on before more r = r >>= (λ x. after x.0 (items reads (before ++ x.0 ∷ []) more x.1))

  moved-behind : (before : List A) (x : A) (r : Result (List A × Place) FieldFault) → behind before (after x r) ≡ behind (before ++ x ∷ []) r
  moved-behind before x (Ok xs) = ap (λ ys. got ys xs.1) (sym (append_assoc before (x ∷ []) xs.0))
  moved-behind before x (Err fault) = refl

  pub one-more : (before : List A) (p q : Place) (x : A) (more : ℕ) → reads before p ≡ got x q
      → onward reads before (suc more) p ≡ onward reads (before ++ x ∷ []) more q
  unfolding onward items
  one-more before p q x more is =
      ap (λ r. behind before (goes_on before more r)) is ∙ moved-behind before x (items reads (before ++ x ∷ []) more q)

  pub one-fault : (before : List A) (p : Place) (error : ReadError) (more : ℕ) → IsFault error (reads before p)
      → IsFault error (onward reads before (suc more) p)
  unfolding onward items
  one-fault before p error more is =
      fault-through error (goes_on before more (reads before p)) (λ xs. got (before ++ xs.0) xs.1)
      (fault-through error (reads before p) (λ x. after x.0 (items reads (before ++ x.0 ∷ []) more x.1)) is)

  -- In a loop: so many are wanted, and this many were read.
  module _ (count : ℕ) (whole : Result (List A × Place) FieldFault) where
    pub begun : (found : List A) (left : ℕ) (p : Place) → found ≡ [] → left ≡ count → whole ≡ items reads [] count p → whole ≡ onward reads found left p
    begun found left p none all is =
        is ∙ begins count p ∙ ap (λ xs. onward reads xs count p) (sym none) ∙ ap (λ n. onward reads found n p) (sym all)

    module _ (index : ℕ) (before : List A) (p : Place) (so_far : whole ≡ onward reads before (count - index) p) where
      less : index < count → count - index ≡ suc (count - (index + 1))
      less low = omega arith

      pub read-on : (found : List A) (q : Place) (x : A) → index < count → reads before p ≡ got x q → found ≡ before ++ x ∷ []
          → whole ≡ onward reads found (count - (index + 1)) q
      read-on found q x low is more =
          so_far
          ∙ ap (λ n. onward reads before n p) (less low)
          ∙ one-more before p q x (count - (index + 1)) is
          ∙ ap (λ xs. onward reads xs (count - (index + 1)) q) (sym more)

      pub faulty : (error : ReadError) → index < count → IsFault error (reads before p) → IsFault error whole
      faulty error low is =
          fault-along error whole (onward reads before (suc (count - (index + 1))) p) (so_far ∙ ap (λ n. onward reads before n p) (less low))
          (one-fault before p error (count - (index + 1)) is)

      pub read-all : (found : List A) → count ≤ index → found ≡ before → whole ≡ got found p
      read-all found high same =
          let none : count - index ≡ 0 = omega arith in
          so_far ∙ ap (λ n. onward reads before n p) none ∙ ends before p ∙ ap (λ xs. got xs p) (sym same)
