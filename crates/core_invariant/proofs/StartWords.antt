-- The words of a slot for a task at its start, one by one. The crate context_slot has these lemmas too: neither crate stands on the other.
use Rattle.std.proofs.Common.{◌≡◌, ℕ, zero, suc, ◌<◌, ◌≤◌, ◌∙◌, List, length, get_or, set, refl, subst, ⊎_elim, arith, length-set}
use Rattle.std.proofs.lemmas.Bool.{cases_lt}
use Rattle.std.proofs.lemmas.List.{get_or-set_same, get_or-set_other}
use Rattle.isa_model.specs.declared.task.Task.{Task}
use Rattle.hart_model.specs.declared.tag.Cell.{Cell}
use Rattle.hart_model.specs.Cells.{blank}
use Rattle.hart_model.specs.Csrs.{public}
use Rattle.hart_model.specs.Pmp.{bounds_of}
use Rattle.hart_model.specs.Context.{slot_len, pc_word, bound_word, with_bound, start_words}

-- the words with the pc and the bounds before this one
abbrev words_before : Task → ℕ → List Cell → List Cell
words_before T zero words = set words pc_word (public T.code_at)
words_before T (suc i) words = with_bound T i (words_before T i words)

module _ (T : Task) where
  length-words_before : (i : ℕ) (words : List Cell) → length (words_before T i words) ≡ length words
  length-words_before zero words = length-set words pc_word _
  length-words_before (suc i) words = length-set (words_before T i words) (bound_word i) _ ∙ length-words_before i words

  pub length-start : (words : List Cell) → length (start_words T words) ≡ length words
  length-start words = length-words_before 4 words

  -- a word that is none of the bounds before this one
  no_bound : (i j : ℕ) (words : List Cell) → j < 32 → get_or (words_before T i words) j blank ≡ get_or (words_before T 0 words) j blank
  no_bound zero j words lt = refl
  no_bound (suc i) j words lt = get_or-set_other (words_before T i words) (bound_word i) j _ blank (omega arith) ∙ no_bound i j words lt

  pub start-pc : (words : List Cell) → length words ≡ slot_len → get_or (start_words T words) pc_word blank ≡ public T.code_at
  start-pc words len = no_bound 4 pc_word words (omega arith) ∙ get_or-set_same words pc_word _ blank (omega arith)

  pub start-register : (words : List Cell) (i : ℕ) → 1 ≤ i → i < 32 → get_or (start_words T words) i blank ≡ get_or words i blank
  start-register words i least lt = no_bound 4 i words lt ∙ get_or-set_other words pc_word i _ blank (omega arith)

  -- a bound that is set is there
  bound_set : (i : ℕ) (words : List Cell) → length words ≡ slot_len → i < 4
      → get_or (words_before T (suc i) words) (bound_word i) blank ≡ public (get_or (bounds_of T) i 0)
  bound_set i words len lt = get_or-set_same (words_before T i words) (bound_word i) _ blank (omega (arith, length-words_before i words))

  -- and stays where later ones are set
  bound_stays : (k i : ℕ) (words : List Cell) → length words ≡ slot_len → i < k → k ≤ 4
      → get_or (words_before T k words) (bound_word i) blank ≡ public (get_or (bounds_of T) i 0)
  bound_stays zero i words len lt le = absurd (omega arith)
  bound_stays (suc k) i words len lt le =
      ⊎_elim
      (λ (below : i < k). get_or-set_other (words_before T k words) (bound_word k) (bound_word i) _ blank (omega arith)
      ∙ bound_stays k i words len below (omega arith))
      (λ (above : k ≤ i).
      let same : i ≡ k = omega arith in
      subst (λ n. get_or (words_before T (suc n) words) (bound_word i) blank ≡ public (get_or (bounds_of T) i 0)) same (bound_set i words len (omega arith)))
      (cases_lt i k)

  pub start-bound : (words : List Cell) (i : ℕ) → length words ≡ slot_len → i < 4
      → get_or (start_words T words) (bound_word i) blank ≡ public (get_or (bounds_of T) i 0)
  start-bound words i len lt = bound_stays 4 i words len lt (omega arith)
