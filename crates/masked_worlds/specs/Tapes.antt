-- All choices of the words of a tape.
use Rattle.std.specs.Prelude.{◌≡◌, ℕ, zero, suc, ◌^◌, Bool, true, false, ◌&&◌, List, [], ◌∷◌, ◌++◌, map, count_by, ◌==◌, nat_lt, if◌then◌else◌}
use Rattle.masked_worlds.specs.declared.role.Role.{Role}
use Rattle.masked_worlds.specs.declared.role.Role.TheVariants.{Public, Mask, Share}

-- the numbers below a bound
unfoldable pub below : ℕ → List ℕ
below zero = []
below (suc n) = n ∷ below n

-- a word is chosen freely, but where it is public
abbrev pub is_free : Role → Bool
is_free Public = false
is_free Mask = true
is_free (Share k) = true

-- the words that may stand where a word of the task's tape stands: all, or this one where it is public
abbrev pub choices : Role → ℕ → List ℕ
choices role word = if is_free role then below (2 ^ 32) else word ∷ []

-- each word before each rest
abbrev pub each : List ℕ → List (List ℕ) → List (List ℕ)
each [] rests = []
each (v ∷ vs) rests = map (λ rest. v ∷ rest) rests ++ each vs rests

-- All tapes, by the roles of the words of the task's own tape.
abbrev pub tapes : List Role → List ℕ → List (List ℕ)
tapes (role ∷ roles) (word ∷ words) = each (choices role word) (tapes roles words)
tapes _ _ = [] ∷ []

-- whether a word may stand there, and whether a tape is one of them
abbrev pub is_choice : Role → ℕ → ℕ → Bool
is_choice role word v = if is_free role then nat_lt v (2 ^ 32) else v == word

abbrev pub is_tape : List Role → List ℕ → List ℕ → Bool
is_tape (role ∷ roles) (word ∷ words) (v ∷ vs) = is_choice role word v && is_tape roles words vs
is_tape (role ∷ roles) (word ∷ words) [] = false
is_tape [] words [] = true
is_tape [] words (v ∷ vs) = false
is_tape (role ∷ roles) [] [] = true
is_tape (role ∷ roles) [] (v ∷ vs) = false

-- whether two tapes have the same words
abbrev pub same_words : List ℕ → List ℕ → Bool
same_words [] [] = true
same_words (x ∷ xs) (y ∷ ys) = (x == y) && same_words xs ys
same_words _ _ = false

-- how often a tape stands in a list
abbrev pub often : List ℕ → List (List ℕ) → ℕ
often t ts = count_by (λ u. same_words u t) ts

-- Each tape stands in the list once, and nothing else stands there.
pub record TapesComeOnce (roles : List Role) (words : List ℕ) : Type 0 where
  pub once : (t : List ℕ) → is_tape roles words t ≡ true → often t (tapes roles words) ≡ 1
  pub no_others : (t : List ℕ) → is_tape roles words t ≡ false → often t (tapes roles words) ≡ 0
