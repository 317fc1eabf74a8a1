-- A section at the front of lines, and what is said of the lines after it.
use Rattle.std.proofs.Common.{◌≡◌, ℕ, suc, ◌⊎◌, List, [], ◌∷◌, ◌++◌, length, refl, ap}
use Rattle.bundle_text.specs.Grammar.{IsSilent, AreSaid}

pub record Front {A : Type 0} (Says : List ℕ → List A → Type 0) (Rest : ℕ → List A → List (List ℕ) → Type 0) (lines : List (List ℕ)) : Type 0 where
  pub section : List (List ℕ)
  pub rest : List (List ℕ)
  pub items : List A
  pub parts : lines ≡ section ++ rest
  pub said : AreSaid Says section items
  pub later : Rest (length section) items rest

pub front_none : {A : Type 0} (Says : List ℕ → List A → Type 0) (Rest : ℕ → List A → List (List ℕ) → Type 0) (lines : List (List ℕ)) → Rest 0 [] lines
    → Front Says Rest lines
front_none Says Rest lines h = record { section = []; rest = lines; items = []; parts = refl; said = refl; later = h }

-- a line more
pub front_line : {A : Type 0} (Says : List ℕ → List A → Type 0) (Rest More : ℕ → List A → List (List ℕ) → Type 0) (line : List ℕ) (others : List (List ℕ))
    (first : List A) → (IsSilent line × (first ≡ [])) ⊎ Says line first → Front Says More others
    → ((k : ℕ) (items : List A) (rest : List (List ℕ)) → More k items rest → Rest (suc k) (first ++ items) rest) → Front Says Rest (line ∷ others)
front_line Says Rest More line others first is f more = record {
  section = line ∷ f.section;
  rest = f.rest;
  items = first ++ f.items;
  parts = ap (λ l. line ∷ l) f.parts;
  said = (first, f.items, refl, is, f.said);
  later = more (length f.section) f.items f.rest f.later;
}
