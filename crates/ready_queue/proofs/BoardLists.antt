-- Contexts in slots of their own are no more than the slots; and contexts by their bands stand in the lists of these.
use Rattle.std.proofs.Common.{◌≡◌, ℕ, zero, suc, ◌<◌, ◌≤◌, ◌==◌, Bool, true, false, not, List, [], ◌∷◌, filter, All, length, refl, sym, arith}
use Rattle.std.specs.List.{count_by}
use Rattle.std.proofs.lemmas.Bool.{cond_both, eqb-false}
use Rattle.std.proofs.lemmas.List.Elements.{All-nil, All-cons, All-head, All-tail, All-weaker, filter_passes}
use Rattle.std.proofs.lemmas.List.Filters.{length-filter_both}
use Rattle.std.proofs.lemmas.List.Sums.{length-filter}
use Rattle.hart_model.specs.Context.{ContextState}
use Rattle.core_model.specs.Bands.{AreInTheirBands}
use Rattle.core_model.specs.Board.{BoardState, goes_first, by_bands}
use Rattle.core_model.proofs.Lists.{count-split}

not-true : (b : Bool) → not b ≡ true → b ≡ false
not-true true e = sym e
not-true false e = refl

abbrev IsBefore : ℕ → ContextState → Type 0
IsBefore slot c = c.slot < slot

-- what isn't in the last slot is in one before it
others-before : (n : ℕ) (cs : List ContextState) → All (IsBefore (suc n)) cs → All (IsBefore n) (filter (λ c. not (c.slot == n)) cs)
others-before n [] all = All-nil (IsBefore n)
others-before n (c ∷ cs) all =
    let rest = filter (λ (x : ContextState). not (x.slot == n)) cs in
    let first = All-head (IsBefore (suc n)) c cs all in
    let later = others-before n cs (All-tail (IsBefore (suc n)) c cs all) in
    cond_both (not (c.slot == n)) (c ∷ rest) rest (All (IsBefore n))
    (λ is. let other = eqb-false c.slot n (not-true (c.slot == n) is) in All-cons (IsBefore n) c rest (omega arith) later)
    (λ is. later)

pub slots-hold : (slots : ℕ) (cs : List ContextState) → All (λ (c : ContextState). c.slot < slots) cs
    → ((slot : ℕ) → count_by (λ (c : ContextState). c.slot == slot) cs ≤ 1) → length cs ≤ slots
slots-hold zero [] there once = omega arith
slots-hold zero (c ∷ cs) there once = let first = All-head (IsBefore 0) c cs there in absurd (omega arith)
slots-hold (suc n) cs there once =
    let last = λ (c : ContextState). c.slot == n in
    let rest = filter (λ c. not (last c)) cs in
    let fewer = slots-hold n rest (others-before n cs there) (λ slot.
    let split = count-split (λ (c : ContextState). c.slot == slot) last cs in
    let one = once slot in
    omega arith) in
    let parts = length-filter_both last (λ c. not (last c)) (λ c. refl) cs in
    let here = length-filter last cs in
    let one = once n in
    omega arith

pub in-their-bands : (bands : List ℕ) (cs : List ContextState) (b : BoardState) → b.bands ≡ bands → b.ready ≡ by_bands bands cs → AreInTheirBands b
in-their-bands bands cs b same is =
    rw (is, same) (record {
      first = filter_passes (goes_first bands) cs;
      second = All-weaker (λ (c : ContextState). not (goes_first bands c) ≡ true) (λ (c : ContextState). goes_first bands c ≡ false)
          (λ c. not-true (goes_first bands c)) (filter (λ (c : ContextState). not (goes_first bands c)) cs)
          (filter_passes (λ (c : ContextState). not (goes_first bands c)) cs);
    })
