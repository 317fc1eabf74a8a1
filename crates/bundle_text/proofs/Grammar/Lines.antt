-- What a line is by productions, and what it is decided to make of a draft.
use Rattle.std.proofs.Common.{◌≡◌, ℕ, ◌⊎◌, inl, inr, Bool, true, false, cond, List, [], ◌∷◌, codes, Option, Some, None, Ok, Err, refl, sym, ap, ◌∙◌}
use Rattle.std.specs.Str.{bytes_eq}
use Rattle.std.proofs.lemmas.Bool.{false≢true, eqb-true, eq-eqb, cond-true, cond-false}
use Rattle.std.proofs.lemmas.Slice.Eq.{bytes_eq-Decides}
use Rattle.bundle_text.specs.Pieces.{is_text, tokens}
use Rattle.bundle_text.specs.Places.{word_named, place_after, is_in_code}
use Rattle.bundle_text.specs.Lines.{with_operands, is_comment, is_endcode, placed_line, line_of_word, line_of_tokens, line_of_code, with_line}
use Rattle.bundle_text.specs.Form.{AreTokensOf}
use Rattle.bundle_text.specs.Grammar.{IsLine, BeginsComment, IsSilent}
use Rattle.bundle_text.specs.declared.draft.Draft.{Draft}
use Rattle.bundle_text.specs.declared.draft.Word.{Word}
use Rattle.bundle_text.specs.declared.draft.Word.TheVariants as word
use Rattle.bundle_text.specs.declared.draft.Place.{Place}
use Rattle.bundle_text.specs.declared.bundle.BundleKind.TheVariants as kind
use Rattle.bundle_text.proofs.Steps.{same_ok, err_ok, if_ok}
use Rattle.bundle_text.proofs.TokenLaws.{tokens_are_of_form, tokens_are_unique}

-- ---- words

abbrev pub name_of : Word → List ℕ
name_of word.Bundle = codes "bundle"
name_of word.Slots = codes "slots"
name_of word.Plan = codes "plan"
name_of word.Task = codes "task"
name_of word.Tape = codes "tape"
name_of word.Words = codes "words"
name_of word.Code = codes "code"
name_of word.EndCode = codes "endcode"
name_of word.EndTask = codes "endtask"
name_of word.World = codes "world"
name_of word.Events = codes "events"
name_of word.Order = codes "order"

named : (w : Word) → (word_named (name_of w) ≡ Some w) × (is_comment (name_of w) ≡ false)
named word.Bundle = (refl, refl)
named word.Slots = (refl, refl)
named word.Plan = (refl, refl)
named word.Task = (refl, refl)
named word.Tape = (refl, refl)
named word.Words = (refl, refl)
named word.Code = (refl, refl)
named word.EndCode = (refl, refl)
named word.EndTask = (refl, refl)
named word.World = (refl, refl)
named word.Events = (refl, refl)
named word.Order = (refl, refl)

-- it is this word, or one of those that are tried later
named_or : (t : Bool) (token : List ℕ) (v : Word) (others : Option Word) (w : Word) → bytes_eq token (name_of v) ≡ t → cond t (Some v) others ≡ Some w
    → (others ≡ Some w → token ≡ name_of w) → token ≡ name_of w
named_or true token v others w is e later =
    let same : v ≡ w = cc in (bytes_eq-Decides token (name_of v)).0 is ∙ ap (λ x. name_of x) same
named_or false token v others w is e later = later e

no_word : (w : Word) → ◌≡◌ {A = Option Word} None (Some w) → ⊥
no_word w e = cc

is_named : (token : List ℕ) (w : Word) → word_named token ≡ Some w → token ≡ name_of w
is_named token w e =
    named_or (bytes_eq token (codes "bundle")) token word.Bundle _ w refl e (λ e.
    named_or (bytes_eq token (codes "slots")) token word.Slots _ w refl e (λ e.
    named_or (bytes_eq token (codes "plan")) token word.Plan _ w refl e (λ e.
    named_or (bytes_eq token (codes "task")) token word.Task _ w refl e (λ e.
    named_or (bytes_eq token (codes "tape")) token word.Tape _ w refl e (λ e.
    named_or (bytes_eq token (codes "words")) token word.Words _ w refl e (λ e.
    named_or (bytes_eq token (codes "code")) token word.Code _ w refl e (λ e.
    named_or (bytes_eq token (codes "endcode")) token word.EndCode _ w refl e (λ e.
    named_or (bytes_eq token (codes "endtask")) token word.EndTask _ w refl e (λ e.
    named_or (bytes_eq token (codes "world")) token word.World _ w refl e (λ e.
    named_or (bytes_eq token (codes "events")) token word.Events _ w refl e (λ e.
    named_or (bytes_eq token (codes "order")) token word.Order _ w refl e (λ e. absurd (no_word w e)))))))))))))

-- ---- a line outside code

-- a line of a word that stands here, and what it makes of the draft
pub record SaysWord (number : ℕ) (d : Draft) (line : List ℕ) (next : Draft) : Type 0 where
  pub word : Word
  pub operands : List (List ℕ)
  pub place : Place
  pub line_is : IsLine (name_of word) line operands
  pub placed : place_after d.place word ≡ Some place
  pub says : with_operands word number (record d { place = place }) operands ≡ Ok next

-- The line says nothing, or a word and operands.
abbrev pub LineSays : ℕ → Draft → List ℕ → Draft → Type 0
LineSays number d line next = (IsSilent line × (d ≡ next)) ⊎ SaysWord number d line next

begins_comment : (token : List ℕ) → is_comment token ≡ true → BeginsComment token
begins_comment [] e = absurd (false≢true e)
begins_comment (b ∷ bs) e = eqb-true b 0x23 e

placed_says : (w : Word) (o : Option Place) (number : ℕ) (d : Draft) (line : List ℕ) (ts : List (List ℕ)) (next : Draft) → IsLine (name_of w) line ts
    → place_after d.place w ≡ o → placed_line w o number d ts ≡ Ok next → SaysWord number d line next
placed_says w None number d line ts next is placed e = absurd (err_ok next kind.Misplaced e)
placed_says w (Some place) number d line ts next is placed e =
    record { word = w; operands = ts; place = place; line_is = is; placed = placed; says = e }

word_says : (o : Option Word) (number : ℕ) (d : Draft) (line token : List ℕ) (ts : List (List ℕ)) (next : Draft) → is_text line ≡ true
    → AreTokensOf (token ∷ ts) line → word_named token ≡ o → line_of_word o number d ts ≡ Ok next → SaysWord number d line next
word_says None number d line token ts next text are is e = absurd (err_ok next kind.UnknownWord e)
word_says (Some w) number d line token ts next text are is e =
    let name = is_named token w is in
    let line_is : IsLine (name_of w) line ts = record { text = text; tokens_are = rw name at are } in
    placed_says w (place_after d.place w) number d line ts next line_is refl e

comment_or : (t : Bool) (number : ℕ) (d : Draft) (line token : List ℕ) (ts : List (List ℕ)) (next : Draft) → is_text line ≡ true
    → AreTokensOf (token ∷ ts) line → is_comment token ≡ t → cond t (Ok d) (line_of_word (word_named token) number d ts) ≡ Ok next → LineSays number d line next
comment_or true number d line token ts next text are is e =
    inl (record { tokens = token ∷ ts; text = text; tokens_are = are; silent = begins_comment token is }, same_ok d next e)
comment_or false number d line token ts next text are is e = inr (word_says (word_named token) number d line token ts next text are refl e)

tokens_say : (number : ℕ) (d : Draft) (line : List ℕ) (ts : List (List ℕ)) (next : Draft) → is_text line ≡ true → AreTokensOf ts line
    → line_of_tokens number d ts ≡ Ok next → LineSays number d line next
tokens_say number d line [] next text are e = inl (record { tokens = []; text = text; tokens_are = are; silent = tt }, same_ok d next e)
tokens_say number d line (token ∷ ts) next text are e = comment_or (is_comment token) number d line token ts next text are refl e

pub line_says : (number : ℕ) (d : Draft) (line : List ℕ) (next : Draft) → is_in_code d.place ≡ false → with_line number d line ≡ Ok next
    → LineSays number d line next
unfolding with_line
line_says number d line next outside e =
    let p = if_ok (is_text line) _ kind.NotText next e in
    tokens_say number d line (tokens line) next p.0 (tokens_are_of_form line)
    (sym (cond-false (is_in_code d.place) (Ok (line_of_code d line)) (line_of_tokens number d (tokens line)) outside) ∙ p.1)

comment_begins : (token : List ℕ) → BeginsComment token → is_comment token ≡ true
comment_begins [] h = absurd h
comment_begins (b ∷ bs) h = eq-eqb b 0x23 h

silent_tokens : (number : ℕ) (d : Draft) (line : List ℕ) (ts : List (List ℕ)) (h : IsSilent line) → h.tokens ≡ ts → line_of_tokens number d h.tokens ≡ Ok d
silent_tokens number d line [] h are = ap (λ l. line_of_tokens number d l) are
silent_tokens number d line (token ∷ ts) h are =
    let silent = rw are at h.silent in
    ap (λ l. line_of_tokens number d l) are
    ∙ cond-true (is_comment token) (Ok d) (line_of_word (word_named token) number d ts) (comment_begins token silent)

outside_code : (number : ℕ) (d : Draft) (line : List ℕ) (next : Draft) → is_in_code d.place ≡ false → is_text line ≡ true
    → line_of_tokens number d (tokens line) ≡ Ok next → with_line number d line ≡ Ok next
unfolding with_line
outside_code number d line next outside text e =
    cond-true (is_text line) _ (Err kind.NotText) text
    ∙ cond-false (is_in_code d.place) (Ok (line_of_code d line)) (line_of_tokens number d (tokens line)) outside ∙ e

pub silent_read : (number : ℕ) (d : Draft) (line : List ℕ) → is_in_code d.place ≡ false → IsSilent line → with_line number d line ≡ Ok d
silent_read number d line outside h =
    outside_code number d line d outside h.text
    (ap (λ l. line_of_tokens number d l) (tokens_are_unique h.tokens line h.tokens_are) ∙ silent_tokens number d line h.tokens h refl)

pub word_read : (w : Word) (number : ℕ) (d : Draft) (line : List ℕ) (ts : List (List ℕ)) (place : Place) (next : Draft) → is_in_code d.place ≡ false
    → IsLine (name_of w) line ts → place_after d.place w ≡ Some place → with_operands w number (record d { place = place }) ts ≡ Ok next
    → with_line number d line ≡ Ok next
word_read w number d line ts place next outside is placed says =
    outside_code number d line next outside is.text
    (ap (λ l. line_of_tokens number d l) (tokens_are_unique (name_of w ∷ ts) line is.tokens_are)
    ∙ cond-false (is_comment (name_of w)) (Ok d) (line_of_word (word_named (name_of w)) number d ts) (named w).1
    ∙ ap (λ o. line_of_word o number d ts) (named w).0 ∙ ap (λ o. placed_line w o number d ts) placed ∙ says)

-- ---- a line of code

pub code_says : (number : ℕ) (d : Draft) (line : List ℕ) (next : Draft) → is_in_code d.place ≡ true → with_line number d line ≡ Ok next
    → (is_text line ≡ true) × (line_of_code d line ≡ next)
unfolding with_line
code_says number d line next inside e =
    let p = if_ok (is_text line) _ kind.NotText next e in
    (p.0, same_ok (line_of_code d line) next (sym (cond-true (is_in_code d.place) (Ok (line_of_code d line)) (line_of_tokens number d (tokens line)) inside) ∙ p.1))

pub code_read : (number : ℕ) (d : Draft) (line : List ℕ) → is_in_code d.place ≡ true → is_text line ≡ true → with_line number d line ≡ Ok (line_of_code d line)
unfolding with_line
code_read number d line inside text =
    cond-true (is_text line) _ (Err kind.NotText) text
    ∙ cond-true (is_in_code d.place) (Ok (line_of_code d line)) (line_of_tokens number d (tokens line)) inside

one_token : (ts : List (List ℕ)) → is_endcode ts ≡ true → ts ≡ codes "endcode" ∷ []
one_token [] e = absurd (false≢true e)
one_token (t ∷ []) e = ap (λ x. x ∷ []) ((bytes_eq-Decides t (codes "endcode")).0 e)
one_token (t ∷ u ∷ ts) e = absurd (false≢true e)

pub endcode_is : (line : List ℕ) → is_text line ≡ true → is_endcode (tokens line) ≡ true → IsLine (codes "endcode") line []
endcode_is line text e = record { text = text; tokens_are = rw (one_token (tokens line) e) at (tokens_are_of_form line) }

pub endcode_read : (line : List ℕ) → IsLine (codes "endcode") line [] → is_endcode (tokens line) ≡ true
endcode_read line h = ap (λ ts. is_endcode ts) (tokens_are_unique (codes "endcode" ∷ []) line h.tokens_are)
