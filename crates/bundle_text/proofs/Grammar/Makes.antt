-- What lines make of a draft, whatever follows them.
use Rattle.std.proofs.Common.{◌≡◌, ℕ, suc, ◌+◌, ◌⊎◌, inl, inr, Bool, true, false, List, [], ◌∷◌, ◌++◌, length, Ok, refl, sym, ap, ◌∙◌, subst, arith, append-nil, append_assoc, length-append}
use Rattle.std.specs.List.{AllByRecursion}
use Rattle.std.proofs.lemmas.Bool.{cond-false}
use Rattle.bundle_text.specs.Pieces.{tokens}
use Rattle.bundle_text.specs.Operands.{◌>>=◌}
use Rattle.bundle_text.specs.Places.{is_in_code}
use Rattle.bundle_text.specs.Lines.{is_endcode, with_line, at_line, with_lines}
use Rattle.bundle_text.specs.Grammar.{IsSilent, AreSaid, IsOfCode}
use Rattle.bundle_text.specs.declared.bundle.Bundle.{Bundle}
use Rattle.bundle_text.specs.declared.bundle.TaskText.{TaskText}
use Rattle.bundle_text.specs.declared.bundle.Code.TheVariants.{Text}
use Rattle.bundle_text.specs.declared.draft.Draft.{Draft}
use Rattle.bundle_text.specs.declared.draft.Place.{Place}
use Rattle.bundle_text.specs.declared.draft.Place.TheVariants as at
use Rattle.bundle_text.proofs.RoundTrip.Drafts.{so_far}
use Rattle.bundle_text.proofs.Grammar.Lines.{silent_read, code_read, endcode_is}

-- The lines make one draft of another.
abbrev pub Makes : ℕ → Draft → List (List ℕ) → Draft → Type 0
Makes number d lines next = (rest : List (List ℕ)) → with_lines number d (lines ++ rest) ≡ with_lines (number + length lines) next rest

pub makes_none : (number : ℕ) (d : Draft) → Makes number d [] d
makes_none number d = λ rest. let same : number ≡ number + 0 = omega arith in ap (λ n. with_lines n d rest) same

pub makes_line : (number : ℕ) (d middle next : Draft) (line : List ℕ) (lines : List (List ℕ)) → with_line number d line ≡ Ok middle
    → Makes (number + 1) middle lines next → Makes number d (line ∷ lines) next
makes_line number d middle next line lines says others = λ rest.
    let same : number + 1 + length lines ≡ number + suc (length lines) = omega arith in
    ap (λ r. at_line number r >>= λ x. with_lines (number + 1) x (lines ++ rest)) says ∙ others rest ∙ ap (λ n. with_lines n next rest) same

pub makes_one : (number : ℕ) (d next : Draft) (line : List ℕ) → with_line number d line ≡ Ok next → Makes number d (line ∷ []) next
makes_one number d next line says = makes_line number d next next line [] says (makes_none (number + 1) next)

pub makes_on : (number : ℕ) (d middle next : Draft) (front back : List (List ℕ)) → Makes number d front middle
    → Makes (number + length front) middle back next → Makes number d (front ++ back) next
makes_on number d middle next front back first second = λ rest.
    let same : number + length front + length back ≡ number + length (front ++ back) = omega (arith, length-append front back) in
    ap (λ l. with_lines number d l) (append_assoc front back rest) ∙ first (back ++ rest) ∙ second rest ∙ ap (λ n. with_lines n next rest) same

pub makes_silent : (lines : List (List ℕ)) (number : ℕ) (d : Draft) → is_in_code d.place ≡ false → AllByRecursion IsSilent lines → Makes number d lines d
makes_silent [] number d outside all = makes_none number d
makes_silent (line ∷ lines) number d outside all =
    makes_line number d d d line lines (silent_read number d line outside all.0) (makes_silent lines (number + 1) d outside all.1)

-- ---- a section

-- the lines of a section, and the place after them
pub record SectionMakes {A : Type 0} (draft : Place → List A → Draft) (Ready : Place → Type 0) (number : ℕ) (place : Place) (front items : List A)
    (lines : List (List ℕ)) : Type 0 where
  pub next : Place
  pub ready : Ready next
  pub makes : Makes number (draft place front) lines (draft next (front ++ items))

module _ {A : Type 0} (Says : List ℕ → List A → Type 0) (draft : Place → List A → Draft) (Ready : Place → Type 0) (Fits : List A → Type 0) (last : Place)
    (ready : Ready last)
    (silent : (number : ℕ) (place : Place) (front : List A) (line : List ℕ) → Ready place → IsSilent line
    → with_line number (draft place front) line ≡ Ok (draft place front))
    (says : (number : ℕ) (place : Place) (front items others : List A) (line : List ℕ) → Ready place → Says line items → Fits (front ++ (items ++ others))
    → with_line number (draft place front) line ≡ Ok (draft last (front ++ items)))
  where
    -- what is to be shown of lines
    abbrev SectionOf : List (List ℕ) → Type 0
    SectionOf lines =
        (number : ℕ) (place : Place) (front items : List A) → Ready place → AreSaid Says lines items → Fits (front ++ items)
        → SectionMakes draft Ready number place front items lines

    section_line : (line : List ℕ) (lines : List (List ℕ)) → SectionOf lines → (number : ℕ) (place : Place) (front first others : List A) → Ready place
        → (IsSilent line × (first ≡ [])) ⊎ Says line first → AreSaid Says lines others → Fits (front ++ (first ++ others))
        → SectionMakes draft Ready number place front (first ++ others) (line ∷ lines)
    section_line line lines later number place front first others may (inl is) said fits =
        let none : first ++ others ≡ others = ap (λ l. l ++ others) is.1 in
        let more = later (number + 1) place front others may said (subst (λ l. Fits (front ++ l)) none fits) in
        record {
          next = more.next;
          ready = more.ready;
          makes = subst (λ l. Makes number (draft place front) (line ∷ lines) (draft more.next (front ++ l))) (sym none)
              (makes_line number (draft place front) (draft place front) (draft more.next (front ++ others)) line lines
              (silent number place front line may is.0) more.makes);
        }
    section_line line lines later number place front first others may (inr is) said fits =
        let assoc = append_assoc front first others in
        let more = later (number + 1) last (front ++ first) others ready said (subst (λ l. Fits l) (sym assoc) fits) in
        record {
          next = more.next;
          ready = more.ready;
          makes = subst (λ l. Makes number (draft place front) (line ∷ lines) (draft more.next l)) assoc
              (makes_line number (draft place front) (draft last (front ++ first)) (draft more.next ((front ++ first) ++ others)) line lines
              (says number place front first others line may is fits) more.makes);
        }

    pub section_makes : (lines : List (List ℕ)) → SectionOf lines
    section_makes [] number place front items may said fits = record {
      next = place;
      ready = may;
      makes = subst (λ l. Makes number (draft place front) [] (draft place l)) (sym (ap (λ l. front ++ l) said ∙ append-nil front))
          (makes_none number (draft place front));
    }
    section_makes (line ∷ lines) number place front items may said fits =
        subst (λ l. SectionMakes draft Ready number place front l (line ∷ lines)) (sym said.2)
        (section_line line lines (section_makes lines) number place front said.0 said.1 may said.3 said.4 (subst (λ l. Fits (front ++ l)) said.2 fits))

-- ---- lines of code

goes_on : (t : Bool) (line : List ℕ) → IsOfCode line → is_endcode (tokens line) ≡ t → t ≡ false
goes_on true line is e = absurd (is.goes_on (endcode_is line is.text e))
goes_on false line is e = refl

pub makes_code : (lines : List (List ℕ)) (number : ℕ) (banded : Bool) (b : Bundle) (t : TaskText) (tape : List ℕ) (first : ℕ) (front : List (List ℕ))
    → AllByRecursion IsOfCode lines
    → Makes number (so_far banded at.Code b t tape (Text first front)) lines (so_far banded at.Code b t tape (Text first (front ++ lines)))
makes_code [] number banded b t tape first front all =
    subst (λ l. Makes number (so_far banded at.Code b t tape (Text first front)) [] (so_far banded at.Code b t tape (Text first l))) (sym (append-nil front))
    (makes_none number (so_far banded at.Code b t tape (Text first front)))
makes_code (line ∷ lines) number banded b t tape first front all =
    let d = so_far banded at.Code b t tape (Text first front) in
    let middle = so_far banded at.Code b t tape (Text first (front ++ line ∷ [])) in
    let says : with_line number d line ≡ Ok middle =
    code_read number d line refl all.0.text
    ∙ ap (λ x. Ok x) (cond-false (is_endcode (tokens line)) (record d { place = at.CodeEnd }) middle (goes_on (is_endcode (tokens line)) line all.0 refl)) in
    subst (λ l. Makes number d (line ∷ lines) (so_far banded at.Code b t tape (Text first l))) (append_assoc front (line ∷ []) lines)
    (makes_line number d middle (so_far banded at.Code b t tape (Text first ((front ++ line ∷ []) ++ lines))) line lines says
    (makes_code lines (number + 1) banded b t tape first (front ++ line ∷ []) all.1))
