-- What forms show, and what they don't hang on.
use Rattle.std.proofs.Common.{ℕ, zero, suc, List, [], ◌∷◌, set, refl, arith}
use Rattle.std.specs.Prelude.{bit_xor}
use Rattle.tape_terms.specs.declared.term.Term.{Term}
use Rattle.tape_terms.specs.Marks.{marks, IsApart}
use Rattle.tape_terms.proofs.MarkLaws.{unread-is_apart}
use Rattle.masked_check.specs.Forms.{value_on, seen, IsUnread, AreUnread, OthersAreUnread}

pub form-apart : (terms : List Term) (place : ℕ) (form : List ℕ) → IsUnread (marks terms place) form → IsApart place (λ t. value_on terms t form)
form-apart terms place [] unread t x = refl
form-apart terms place (a ∷ atoms) unread t x =
    let first = unread-is_apart terms place a (unread 0 (omega arith)) t x in
    let rest = form-apart terms place atoms (λ k low. unread (suc k) (omega arith)) t x in
    λ i. bit_xor (first i) (rest i)

pub seen-apart : (terms : List Term) (place : ℕ) (forms : List (List ℕ)) → AreUnread (marks terms place) forms → IsApart place (seen terms forms)
seen-apart terms place [] unread t x = refl
seen-apart terms place (form ∷ forms) unread t x =
    let first = form-apart terms place form (unread 0 (omega arith)) t x in
    let rest = seen-apart terms place forms (λ j low. unread (suc j) (omega arith)) t x in
    λ i. first i ∷ rest i

-- the others, with nothing in place of one
others_from : (terms : List Term) (place : ℕ) (forms : List (List ℕ)) (i : ℕ) → OthersAreUnread (marks terms place) forms i → AreUnread (marks terms place) (set forms i [])
others_from terms place [] i unread j low = absurd (omega arith)
others_from terms place (form ∷ forms) zero unread zero low = λ k below. absurd (omega arith)
others_from terms place (form ∷ forms) zero unread (suc j) low = unread (suc j) (omega arith) (λ e. omega arith)
others_from terms place (form ∷ forms) (suc i) unread zero low = unread zero (omega arith) (λ e. omega arith)
others_from terms place (form ∷ forms) (suc i) unread (suc j) low =
    others_from terms place forms i (λ k below other. unread (suc k) (omega arith) (λ e. other (omega arith))) j (omega arith)

pub others-apart : (terms : List Term) (place : ℕ) (forms : List (List ℕ)) (i : ℕ) → OthersAreUnread (marks terms place) forms i
    → IsApart place (seen terms (set forms i []))
others-apart terms place forms i unread = seen-apart terms place (set forms i []) (others_from terms place forms i unread)
