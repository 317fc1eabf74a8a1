-- Terms that are written, and the values that they denote.
use Rattle.std.proofs.Common.{◌≡◌, ℕ, ◌<◌, ◌==◌, [], if◌then◌else◌, Bool, true, false, List, length, refl, ap, sym, ◌∙◌, subst, arith}
use Rattle.isa_model.specs.declared.latch.Latch.{Latch}
use Rattle.isa_model.specs.declared.latch.Latch.TheVariants as latches
use Rattle.isa_model.specs.LatchOrder.{same_latch}
use Rattle.isa_model.specs.Effect.{Flow, to, result}
use Rattle.isa_model.specs.Alone.{with_value, values_after}
use Rattle.tape_terms.specs.declared.term.Term.{Term}
use Rattle.tape_terms.specs.Values.{value_of, Keeps}
use Rattle.masked_run.specs.Places.{AreIn, Denote}

chosen : (terms : List Term) (tape : List ℕ) (c : Bool) (t u x y : ℕ) → value_of terms tape t ≡ x → value_of terms tape u ≡ y
    → value_of terms tape (if c then t else u) ≡ (if c then x else y)
chosen terms tape true t u x y p q = p
chosen terms tape false t u x y p q = q

chosen_in : (n : ℕ) (c : Bool) (t u : ℕ) → t < n → u < n → (if c then t else u) < n
chosen_in n true t u p q = p
chosen_in n false t u p q = q

-- a latch is written
pub put : (terms : List Term) (tape : List ℕ) (latch : Latch) (term x : ℕ) (at value : Latch → ℕ) → Denote terms tape at value → value_of terms tape term ≡ x
    → Denote terms tape (with_value latch term at) (with_value latch x value)
put terms tape latch term x at value old new l = chosen terms tape (same_latch latch l) term (at l) x (value l) new (old l)

pub put-in : (terms : List Term) (latch : Latch) (term : ℕ) (at : Latch → ℕ) → AreIn terms at → term < length terms → AreIn terms (with_value latch term at)
put-in terms latch term at old new l = chosen_in (length terms) (same_latch latch l) term (at l) new (old l)

-- a register is written, or none where it is x0
reg-by : (terms : List Term) (tape : List ℕ) (c : Bool) (rd term x : ℕ) (f g : Flow) (at value : Latch → ℕ) → Denote terms tape at value → value_of terms tape term ≡ x
    → Denote terms tape (values_after (if c then [] else to (latches.Reg rd) term f) at) (values_after (if c then [] else to (latches.Reg rd) x g) value)
reg-by terms tape true rd term x f g at value old new = old
reg-by terms tape false rd term x f g at value old new = put terms tape (latches.Reg rd) term x at value old new

reg-in-by : (terms : List Term) (c : Bool) (rd term : ℕ) (f : Flow) (at : Latch → ℕ) → AreIn terms at → term < length terms
    → AreIn terms (values_after (if c then [] else to (latches.Reg rd) term f) at)
reg-in-by terms true rd term f at old new = old
reg-in-by terms false rd term f at old new = put-in terms (latches.Reg rd) term at old new

-- the result and a register
pub put-result : (terms : List Term) (tape : List ℕ) (rd term x : ℕ) (f g : Flow) (at value : Latch → ℕ) → Denote terms tape at value → value_of terms tape term ≡ x
    → Denote terms tape (values_after (result rd term f) at) (values_after (result rd x g) value)
put-result terms tape rd term x f g at value old new =
    reg-by terms tape (rd == 0) rd term x f g (with_value latches.Res term at) (with_value latches.Res x value) (put terms tape latches.Res term x at value old new) new

pub put-result-in : (terms : List Term) (rd term : ℕ) (f : Flow) (at : Latch → ℕ) → AreIn terms at → term < length terms → AreIn terms (values_after (result rd term f) at)
put-result-in terms rd term f at old new = reg-in-by terms (rd == 0) rd term f (with_value latches.Res term at) (put-in terms latches.Res term at old new) new

-- more terms denote the same
pub grown : (old new : List Term) (tape : List ℕ) (at value : Latch → ℕ) → Keeps old new → AreIn old at → Denote old tape at value → Denote new tape at value
grown old new tape at value keeps low is l = keeps.values tape (at l) (low l) ∙ is l

pub grown-in : (old new : List Term) (at : Latch → ℕ) → Keeps old new → AreIn old at → AreIn new at
grown-in old new at keeps low l = let longer = keeps.longer in let here = low l in omega arith

-- the same places
pub denote-same : (terms : List Term) (tape : List ℕ) (at new value : Latch → ℕ) → ((l : Latch) → new l ≡ at l) → Denote terms tape at value → Denote terms tape new value
denote-same terms tape at new value same is l = ap (value_of terms tape) (same l) ∙ is l

pub in-same : (terms : List Term) (at new : Latch → ℕ) → ((l : Latch) → new l ≡ at l) → AreIn terms at → AreIn terms new
in-same terms at new same low l = subst (λ (i : ℕ). i < length terms) (sym (same l)) (low l)

-- one list of terms after another
pub keeps-on : (a b c : List Term) → Keeps a b → Keeps b c → Keeps a c
keeps-on a b c p q = record {
  longer = (let x = p.longer in let y = q.longer in omega arith);
  values = λ tape i low. q.values tape i (let x = p.longer in omega arith) ∙ p.values tape i low;
}

pub keeps-none : (terms : List Term) → Keeps terms terms
keeps-none terms = record { longer = omega arith; values = λ tape i low. refl }
