-- The first line that isn't of text, and the lines before it.
use Rattle.std.proofs.Common.{◌≡◌, ◌≢◌, ℕ, ◌+◌, Bool, true, false, not, cond, List, [], ◌∷◌, ◌++◌, length, Option, Some, None, Result, Ok, Err, refl, sym, ap, ◌∙◌, subst, arith}
use Rattle.std.specs.List.{position_from}
use Rattle.bundle_text.specs.Pieces.{is_text, lines}
use Rattle.bundle_text.specs.Form.{AreLinesOf}
use Rattle.bundle_text.specs.TextLines.{AreText, isnt_text, text_unless, text_lines_of, not_text_at, AreTextLines, IsFirstNotText}
use Rattle.bundle_text.specs.declared.bundle.BundleFault.{BundleFault}
use Rattle.bundle_text.proofs.LineLaws.{lines_are_of_form, lines_are_unique}

-- lines of which this one is the first that isn't of text
record Begins (number : ℕ) (text : List (List ℕ)) (at : ℕ) : Type 0 where
  front : List (List ℕ)
  line : List ℕ
  others : List (List ℕ)
  text_is : text ≡ front ++ line ∷ others
  before : AreText front
  here : is_text line ≡ false
  place : at ≡ length front + number

-- ---- what the position says

found_here : (number at : ℕ) (line : List ℕ) (others : List (List ℕ)) → is_text line ≡ false → ◌≡◌ {A = Option ℕ} (Some number) (Some at)
    → Begins number (line ∷ others) at
found_here number at line others here e =
    let same : number ≡ at = cc in
    record { front = []; line = line; others = others; text_is = refl; before = tt; here = here; place = omega (arith, same) }

found_later : (number at : ℕ) (line : List ℕ) (others : List (List ℕ)) → is_text line ≡ true → Begins (number + 1) others at → Begins number (line ∷ others) at
found_later number at line others here b = record {
  front = line ∷ b.front;
  line = b.line;
  others = b.others;
  text_is = ap (λ l. line ∷ l) b.text_is;
  before = (here, b.before);
  here = b.here;
  place = let place = b.place in omega arith;
}

begins-at : (t : Bool) (number : ℕ) (line : List ℕ) (others : List (List ℕ)) (at : ℕ) → is_text line ≡ t
    → ((k : ℕ) → position_from isnt_text (number + 1) others ≡ Some k → Begins (number + 1) others k)
    → cond (not t) (Some number) (position_from isnt_text (number + 1) others) ≡ Some at → Begins number (line ∷ others) at
begins-at true number line others at here later e = found_later number at line others here (later at e)
begins-at false number line others at here later e = found_here number at line others here e

begins : (number : ℕ) (text : List (List ℕ)) (at : ℕ) → position_from isnt_text number text ≡ Some at → Begins number text at
begins number [] at e = absurd (cc e)
begins number (line ∷ others) at e = begins-at (is_text line) number line others at refl (begins (number + 1) others) e

all_text-at : (t : Bool) (number : ℕ) (line : List ℕ) (others : List (List ℕ)) → is_text line ≡ t
    → (position_from isnt_text (number + 1) others ≡ None → AreText others)
    → cond (not t) (Some number) (position_from isnt_text (number + 1) others) ≡ None → AreText (line ∷ others)
all_text-at true number line others here later e = (here, later e)
all_text-at false number line others here later e = absurd (cc e)

all_text : (number : ℕ) (text : List (List ℕ)) → position_from isnt_text number text ≡ None → AreText text
all_text number [] e = tt
all_text number (line ∷ others) e = all_text-at (is_text line) number line others refl (all_text (number + 1) others) e

-- ---- and what says the position

pub line_is_text : (number : ℕ) (line : List ℕ) (others : List (List ℕ)) → is_text line ≡ true
    → position_from isnt_text number (line ∷ others) ≡ position_from isnt_text (number + 1) others
line_is_text number line others here = ap (λ t. cond (not t) (Some number) (position_from isnt_text (number + 1) others)) here

pub line_isnt_text : (number : ℕ) (line : List ℕ) (others : List (List ℕ)) → is_text line ≡ false
    → position_from isnt_text number (line ∷ others) ≡ Some number
line_isnt_text number line others here = ap (λ t. cond (not t) (Some number) (position_from isnt_text (number + 1) others)) here

none_of : (number : ℕ) (text : List (List ℕ)) → AreText text → position_from isnt_text number text ≡ None
none_of number [] h = refl
none_of number (line ∷ others) h = line_is_text number line others h.0 ∙ none_of (number + 1) others h.1

some_of : (number : ℕ) (front : List (List ℕ)) (line : List ℕ) (others : List (List ℕ)) → AreText front → is_text line ≡ false
    → position_from isnt_text number (front ++ line ∷ others) ≡ Some (length front + number)
some_of number [] line others h here =
    line_isnt_text number line others here ∙ ap Some (let e : number ≡ length {A = List ℕ} [] + number = omega arith in e)
some_of number (first ∷ front) line others h here =
    line_is_text number first (front ++ line ∷ others) h.0 ∙ some_of (number + 1) front line others h.1 here
    ∙ ap Some (let e : length front + (number + 1) ≡ length (first ∷ front) + number = omega arith in e)

-- ---- both ways

abbrev Decision : List ℕ → Option ℕ → Type 0
Decision bytes at = position_from isnt_text 1 (lines bytes) ≡ at

lines_of_ok : (bytes : List ℕ) (text : List (List ℕ)) (at : Option ℕ) → Decision bytes at → text_unless (lines bytes) at ≡ Ok text → AreTextLines bytes text
lines_of_ok bytes text None d e =
    let same : lines bytes ≡ text = cc in
    record { text_is = subst (λ ls. AreLinesOf ls bytes) same (lines_are_of_form bytes); all = subst AreText same (all_text 1 (lines bytes) d) }
lines_of_ok bytes text (Some at) d e = absurd (cc e)

fault_of_err : (bytes : List ℕ) (fault : BundleFault) (at : Option ℕ) → Decision bytes at → text_unless (lines bytes) at ≡ Err fault
    → IsFirstNotText bytes fault
fault_of_err bytes fault None d e = absurd (cc e)
fault_of_err bytes fault (Some at) d e =
    let b = begins 1 (lines bytes) at d in
    let same : not_text_at at ≡ fault = cc in
    record {
      front = b.front;
      line = b.line;
      others = b.others;
      text_is = subst (λ ls. AreLinesOf ls bytes) b.text_is (lines_are_of_form bytes);
      before = b.before;
      here = b.here;
      fault_is = sym same ∙ ap not_text_at b.place;
    }

pub ok_is : (bytes : List ℕ) (text : List (List ℕ)) → text_lines_of bytes ≡ Ok text → AreTextLines bytes text
ok_is bytes text e = lines_of_ok bytes text (position_from isnt_text 1 (lines bytes)) refl e

pub is_ok : (bytes : List ℕ) (text : List (List ℕ)) → AreTextLines bytes text → text_lines_of bytes ≡ Ok text
is_ok bytes text h =
    ap (λ ls. text_unless ls (position_from isnt_text 1 ls)) (lines_are_unique text bytes h.text_is) ∙ ap (text_unless text) (none_of 1 text h.all)

pub err_is : (bytes : List ℕ) (fault : BundleFault) → text_lines_of bytes ≡ Err fault → IsFirstNotText bytes fault
err_is bytes fault e = fault_of_err bytes fault (position_from isnt_text 1 (lines bytes)) refl e

pub is_err : (bytes : List ℕ) (fault : BundleFault) → IsFirstNotText bytes fault → text_lines_of bytes ≡ Err fault
is_err bytes fault h =
    let text = h.front ++ h.line ∷ h.others in
    ap (λ ls. text_unless ls (position_from isnt_text 1 ls)) (lines_are_unique text bytes h.text_is)
    ∙ ap (text_unless text) (some_of 1 h.front h.line h.others h.before h.here) ∙ ap Err (sym h.fault_is)
