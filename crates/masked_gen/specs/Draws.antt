-- Draws: what a generator of words gives, and the generator after it, from which the next draw takes its words.
use Rattle.std.specs.Prelude.{ℕ, zero, suc, List, [], ◌∷◌, ◌++◌}
use Rattle.rand_pcg.specs.Lcg.{Lcg}
use Rattle.rand_pcg.specs.Pcg.{pcg32}

-- what was drawn, and the generator after it
pub record Drawn (A : Type 0) : Type 0 where
  pub value : A
  pub rest : Lcg

-- this value, for which no word is taken
abbrev pub drawn : {A : Type 0} → A → Lcg → Drawn A
drawn value rest = record { value = value; rest = rest }

-- a draw, and then the draw that its value asks for
infixl 10 ◌>>=◌
abbrev pub ◌>>=◌ : {A B : Type 0} → (Lcg → Drawn A) → (A → Lcg → Drawn B) → Lcg → Drawn B
(first >>= second) g = let before = first g in second before.value before.rest

-- the draw of a word
unfoldable pub word_draw : Lcg → Drawn ℕ
word_draw g = drawn (pcg32 g).0 (pcg32 g).1

-- so many of a draw, one after the other
unfoldable pub draws : {A : Type 0} → ℕ → (Lcg → Drawn A) → Lcg → Drawn (List A)
draws zero draw = drawn []
draws (suc n) draw = do
  front ← draws n draw
  last ← draw
  drawn (front ++ last ∷ [])
