-- Draws one after the other.
use Rattle.std.proofs.Common.{◌≡◌, ℕ, ◌+◌, List, [], ◌∷◌, ◌++◌, refl, sym, ap, ◌∙◌, add-one}
use Rattle.rand_pcg.specs.Lcg.{Lcg}
use Rattle.rand_pcg.specs.Pcg.{pcg32}
use Rattle.masked_gen.specs.Draws.{Drawn, drawn, ◌>>=◌, word_draw, draws}

-- what the generator's step gives is the draw of a word
pub word-drawn : (g rest : Lcg) (word : ℕ) → (word, rest) ≡ pcg32 g → word_draw g ≡ drawn word rest
unfolding word_draw
word-drawn g rest word e = ap (λ p. drawn p.0 p.1) (sym e)

-- two draws in a row
pub both-drawn : {A B : Type 0} (first : Lcg → Drawn A) (second : A → Lcg → Drawn B) (g h k : Lcg) (x : A) (y : B)
    → first g ≡ drawn x h → second x h ≡ drawn y k → (first >>= second) g ≡ drawn y k
both-drawn first second g h k x y e f = ap (λ d. second d.value d.rest) e ∙ f

pub none-drawn : {A : Type 0} (draw : Lcg → Drawn A) (g : Lcg) → draws 0 draw g ≡ drawn [] g
unfolding draws
none-drawn draw g = refl

pub more-drawn : {A : Type 0} (draw : Lcg → Drawn A) (n : ℕ) (g h k : Lcg) (xs : List A) (x : A)
    → draws n draw g ≡ drawn xs h → draw h ≡ drawn x k → draws (n + 1) draw g ≡ drawn (xs ++ x ∷ []) k
unfolding draws
more-drawn draw n g h k xs x e f =
    rw add-one (both-drawn (draws n draw) (λ front. draw >>= λ last. drawn (front ++ last ∷ [])) g h k xs (xs ++ x ∷ []) e
    (both-drawn draw (λ last. drawn (xs ++ last ∷ [])) h k k x (xs ++ x ∷ []) f refl))
