-- Words with one EBREAK, which divides them into a save part and a restore part (this project's own).
use Rattle.std.specs.Prelude.{◌≡◌, ℕ, ◌+◌, ◌<◌, List, slice_index, take, drop}

-- the word of EBREAK (unprivileged manual, RV32I, "Environment Call and Breakpoints")
abbrev pub break_word : ℕ
break_word = 0x0010_0073

-- EBREAK stands at a place, counted from 0
abbrev pub IsBreak : List ℕ → ℕ → Type 0
IsBreak words at = slice_index words at ≡ break_word

-- at no place
abbrev pub HasNoBreak : List ℕ → Type 0
HasNoBreak words = (i : ℕ) → IsBreak words i → ⊥

-- at this place and at no other
pub record IsDivision (words : List ℕ) (at : ℕ) : Type 0 where
  pub here : IsBreak words at
  pub alone : (i : ℕ) → IsBreak words i → i ≡ at

-- at this place, and at exactly one before it
pub record IsSecondBreak (words : List ℕ) (at : ℕ) : Type 0 where
  pub first : ℕ
  pub before : first < at
  pub first_is : IsBreak words first
  pub here : IsBreak words at
  pub between : (i : ℕ) → i < at → IsBreak words i → i ≡ first

-- the words before the EBREAK, and those after it
abbrev pub save_part : List ℕ → ℕ → List ℕ
save_part words at = take at words

abbrev pub restore_part : List ℕ → ℕ → List ℕ
restore_part words at = drop (at + 1) words
