-- What the lines of a text make of a draft, one after another.
use Rattle.std.proofs.Common.{◌≡◌, ℕ, ◌+◌, true, false, List, [], ◌∷◌, ◌++◌, codes, Some, Ok, Err, refl, ap, ◌∙◌, append_assoc}
use Rattle.std.specs.List.{AllByRecursion}
use Rattle.std.proofs.lemmas.Bool.{cond-true, cond-false}
use Rattle.bundle_text.specs.Pieces.{is_text, lines, tokens}
use Rattle.bundle_text.specs.Operands.{◌>>=◌}
use Rattle.bundle_text.specs.Places.{word_named, place_after, is_in_code}
use Rattle.bundle_text.specs.Lines.{with_operands, is_comment, placed_line, line_of_word, line_of_tokens, line_of_code, with_line, at_line, with_lines}
use Rattle.bundle_text.specs.Text.{after_blanks, line_text}
use Rattle.bundle_text.specs.declared.draft.Draft.{Draft}
use Rattle.bundle_text.specs.declared.draft.Word.{Word}
use Rattle.bundle_text.specs.declared.draft.Place.{Place}
use Rattle.bundle_text.specs.declared.bundle.BundleKind.TheVariants.{NotText}
use Rattle.bundle_text.proofs.RoundTrip.Tokens.{IsPlain, tokens-line, IsRaw, raw_line, lines-raw}

-- The lines of a text make one draft of another, whatever follows. The line after them has the number `after`.
pub record Leads (number : ℕ) (draft : Draft) (text : List ℕ) (next : Draft) : Type 0 where
  pub after : ℕ
  pub leads : (rest : List ℕ) → with_lines number draft (lines (text ++ rest)) ≡ with_lines after next (lines rest)

pub leads_nothing : (number : ℕ) (draft : Draft) → Leads number draft [] draft
leads_nothing number draft = record { after = number; leads = λ rest. refl }

pub leads_on : (number : ℕ) (draft middle next : Draft) (front back : List ℕ) (first : Leads number draft front middle) → Leads first.after middle back next
    → Leads number draft (front ++ back) next
leads_on number draft middle next front back first second = record {
  after = second.after;
  leads = λ rest. ap (λ t. with_lines number draft (lines t)) (append_assoc front back rest) ∙ first.leads (back ++ rest) ∙ second.leads rest;
}

-- ---- one line

line_leads : (number : ℕ) (draft next : Draft) (line text : List ℕ) → IsRaw line → ((rest : List ℕ) → text ++ rest ≡ line ++ 10 ∷ rest)
    → with_line number draft line ≡ Ok next → Leads number draft text next
line_leads number draft next line text raw ended says = record {
  after = number + 1;
  leads = λ rest.
      ap (λ t. with_lines number draft (lines t)) (ended rest) ∙ ap (λ ls. with_lines number draft ls) (lines-raw line rest raw)
      ∙ ap (λ r. at_line number r >>= λ d. with_lines (number + 1) d (lines rest)) says;
}

-- a line of code, or the end of it
pub code_line_leads : (number : ℕ) (draft : Draft) (line : List ℕ) → IsRaw line → is_in_code draft.place ≡ true
    → Leads number draft (line ++ codes "\n") (line_of_code draft line)
unfolding with_line
code_line_leads number draft line raw inside =
    line_leads number draft (line_of_code draft line) line (line ++ codes "\n") raw (λ rest. append_assoc line (codes "\n") rest)
    (cond-true (is_text line) _ (Err NotText) raw.text
    ∙ cond-true (is_in_code draft.place) (Ok (line_of_code draft line)) (line_of_tokens number draft (tokens line)) inside)

-- the first token of a line, which is this word
pub record Names (token : List ℕ) (word : Word) : Type 0 where
  pub plain : IsPlain token
  pub no_comment : is_comment token ≡ false
  pub named : word_named token ≡ Some word

line_says : (number : ℕ) (draft next : Draft) (token : List ℕ) (ts : List (List ℕ)) (word : Word) (place : Place) → Names token word
    → place_after draft.place word ≡ Some place → with_operands word number (record draft { place = place }) ts ≡ Ok next
    → line_of_tokens number draft (token ∷ ts) ≡ Ok next
line_says number draft next token ts word place names placed says =
    cond-false (is_comment token) (Ok draft) (line_of_word (word_named token) number draft ts) names.no_comment
    ∙ ap (λ w. line_of_word w number draft ts) names.named ∙ ap (λ p. placed_line word p number draft ts) placed ∙ says

-- a line of a word and operands
pub word_line_leads : (number : ℕ) (draft next : Draft) (token : List ℕ) (ts : List (List ℕ)) (word : Word) (place : Place) → Names token word
    → AllByRecursion IsPlain ts → is_in_code draft.place ≡ false → place_after draft.place word ≡ Some place
    → with_operands word number (record draft { place = place }) ts ≡ Ok next → Leads number draft (line_text token ts) next
unfolding with_line
word_line_leads number draft next token ts word place names plain outside placed says =
    let line = token ++ after_blanks ts in
    let raw = raw_line token ts names.plain plain in
    line_leads number draft next line (line_text token ts) raw (λ rest. simp append_assoc)
    (cond-true (is_text line) _ (Err NotText) raw.text
    ∙ cond-false (is_in_code draft.place) (Ok (line_of_code draft line)) (line_of_tokens number draft (tokens line)) outside
    ∙ ap (λ l. line_of_tokens number draft l) (tokens-line token ts names.plain plain)
    ∙ line_says number draft next token ts word place names placed says)
