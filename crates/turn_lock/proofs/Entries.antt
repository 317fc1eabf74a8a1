-- Orders that grow, and how many entries of a number they have.
use Rattle.std.proofs.Common.{◌≡◌, ℕ, ◌+◌, ◌≢◌, List, [], ◌∷◌, ◌++◌, cond, refl, ap, ◌∙◌, sym, append_assoc, append-nil, ne_eqb, eq-eqb, arith, ◌==◌}
use Rattle.std.proofs.lemmas.List.Sums.{sum_by-append}
use Rattle.turn_lock.specs.Order.{entries_of, KnowsOwnEntries}

pub entries_of-append : (number : ℕ) (xs ys : List ℕ) → entries_of number (xs ++ ys) ≡ entries_of number xs + entries_of number ys
entries_of-append number xs ys = sum_by-append (λ entry. cond (entry == number) 1 0) xs ys

pub entries_of_one : (number : ℕ) → entries_of number (number ∷ []) ≡ 1
entries_of_one number = ap (λ b. 0 + cond b 1 0) (eq-eqb number number refl)

pub entries_of_other : (number other : ℕ) → other ≢ number → entries_of number (other ∷ []) ≡ 0
entries_of_other number other apart = ap (λ b. 0 + cond b 1 0) (ne_eqb other number apart)

-- who has seen the whole order knows all its own entries
pub knows_whole : (number : ℕ) (order : List ℕ) → KnowsOwnEntries number order order
knows_whole number order = (([], append-nil order), refl)

-- entries of other numbers leave a seat as knowing as before
pub knows_longer : (number : ℕ) (seen order more : List ℕ) → entries_of number more ≡ 0 → KnowsOwnEntries number seen order → KnowsOwnEntries number seen (order ++ more)
knows_longer number seen order more none knows = (
  (knows.0.0 ++ more, sym (append_assoc seen knows.0.0 more) ∙ ap (λ (xs : List ℕ). xs ++ more) knows.0.1),
  (let longer = entries_of-append number order more in let same = knows.1 in omega arith),
)
