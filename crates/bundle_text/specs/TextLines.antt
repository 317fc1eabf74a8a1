-- The lines of text of a whole input, as a block of code has them: each with bytes of text alone. Or the first of them that has another byte.
use Rattle.std.specs.Prelude.{◌≡◌, ℕ, ◌+◌, Bool, true, false, not, ◌⊎◌, List, ◌∷◌, ◌++◌, length, Option, Some, None, Result, Ok, Err}
use Rattle.std.specs.List.{AllByRecursion, position_from}
use Rattle.bundle_text.specs.Pieces.{is_text, lines}
use Rattle.bundle_text.specs.Form.{AreLinesOf}
use Rattle.bundle_text.specs.declared.bundle.BundleFault.{BundleFault}
use Rattle.bundle_text.specs.declared.bundle.BundleKind.TheVariants.{NotText, Memory}

-- each line has bytes of text alone
abbrev pub AreText : List (List ℕ) → Type 0
AreText text = AllByRecursion (λ line. is_text line ≡ true) text

-- a line that isn't of text, with its number
abbrev pub not_text_at : ℕ → BundleFault
not_text_at number = record { line = number; kind = NotText }

-- The bytes are these lines, and each is of text.
pub record AreTextLines (bytes : List ℕ) (text : List (List ℕ)) : Type 0 where
  pub text_is : AreLinesOf text bytes
  pub all : AreText text

-- The fault names the first line of the bytes that isn't of text, counted from 1.
pub record IsFirstNotText (bytes : List ℕ) (fault : BundleFault) : Type 0 where
  pub front : List (List ℕ)
  pub line : List ℕ
  pub others : List (List ℕ)
  pub text_is : AreLinesOf (front ++ line ∷ others) bytes
  pub before : AreText front
  pub here : is_text line ≡ false
  pub fault_is : fault ≡ not_text_at (length front + 1)

-- ---- the same as functions

abbrev pub isnt_text : List ℕ → Bool
isnt_text line = not (is_text line)

-- the lines, unless the line of a number isn't of text
abbrev pub text_unless : List (List ℕ) → Option ℕ → Result (List (List ℕ)) BundleFault
text_unless text None = Ok text
text_unless text (Some number) = Err (not_text_at number)

-- the lines of text of these bytes, or the first line that isn't
abbrev pub text_lines_of : List ℕ → Result (List (List ℕ)) BundleFault
text_lines_of bytes = text_unless (lines bytes) (position_from isnt_text 1 (lines bytes))

-- want of memory, which is of no line
abbrev pub no_memory : BundleFault
no_memory = record { line = 0; kind = Memory }

-- The answer is what was decided, unless memory ran out.
abbrev pub AnswersLines : Result (List (List ℕ)) BundleFault → Result (List (List ℕ)) BundleFault → Type 0
AnswersLines (Ok text) decided = decided ≡ Ok text
AnswersLines (Err fault) decided = (fault ≡ no_memory) ⊎ (decided ≡ Err fault)
