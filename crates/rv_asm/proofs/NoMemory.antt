-- No line is refused for want of memory.
use Rattle.std.proofs.Common.{◌≡◌, ◌≢◌, ℕ, ◌+◌, ◌-◌, ◌^◌, Bool, true, false, if◌then◌else◌, List, [], ◌∷◌, ◌++◌, map, take, drop, Option, Some, None, IfSome, IfErr, Result, Ok, Err, nat_lt, ℤ, refl}
use Rattle.std.specs.List.{find, AllByRecursion}
use Rattle.std.specs.Str.{bytes_eq}
use Rattle.asm_line.specs.declared.line.AsmKind.{AsmKind}
use Rattle.asm_line.specs.declared.line.AsmKind.TheVariants.{DuplicateLabel, UnknownWord, Operands, BadRegister, BadNumber, OutOfRange, TooManyWords, UnknownLabel, Memory}
use Rattle.asm_line.specs.declared.line.Item.{Item}
use Rattle.asm_line.specs.declared.line.Item.TheVariants.{Empty, One, Two, JumpTo, BranchTo}
use Rattle.asm_line.specs.Numbers.{number_of, distance_of, is_within}
use Rattle.asm_line.specs.Names.{number_named, register_names, csr_names, is_name}
use Rattle.asm_line.specs.Operands.{◌>>=◌, or_fault, register, in_range, number_in, unsigned_in, word_in, csr_named, csr, target_or_label, target, with_operand, have_shapes, with_operands}
use Rattle.asm_line.specs.Table.{row_of, all_words, mnemonic_of}
use Rattle.asm_line.specs.Fields.{no_fields}
use Rattle.asm_line.specs.LineForm.{item_of_word, item_of, line_of}
use Rattle.asm_line.specs.Pieces.{register_part, offset_part}
use Rattle.rv_asm.specs.declared.fault.AsmFault.{AsmFault}
use Rattle.rv_asm.specs.declared.listing.Placed.{Placed}
use Rattle.rv_asm.specs.Listing.{word_count, placed_from}
use Rattle.isa_model.specs.Limits.{max_code_words}
use Rattle.rv_asm.specs.Refusals.{repeats, kind_of_item, kind_in_reading, refusal_or, refusal_in_reading}
use Rattle.rv_asm.specs.Assembly.{distance, distance_to, words_of_item, words_of_line, words_then, linked}

-- what isn't refused for want of memory
pub record IsOfText {A : Type 0} (r : Result A AsmKind) : Type 0 where
  pub other : (kind : AsmKind) → r ≡ Err kind → kind ≢ Memory

ok_of_text : {A : Type 0} (x : A) → IsOfText (Ok x)
ok_of_text x = record { other = λ kind e. absurd (cc) }

err_of_text : {A : Type 0} (kind : AsmKind) → kind ≢ Memory → IsOfText {A = A} (Err kind)
err_of_text kind other = record { other = λ k e m. other (cc) }

then_of_text : {A B : Type 0} (r : Result A AsmKind) (f : A → Result B AsmKind) → IsOfText r → ((x : A) → IsOfText (f x)) → IsOfText (r >>= f)
then_of_text (Ok x) f first later = later x
then_of_text (Err kind) f first later = err_of_text kind (first.other kind refl)

if_of_text : {A : Type 0} (b : Bool) (r s : Result A AsmKind) → IsOfText r → IsOfText s → IsOfText (if b then r else s)
if_of_text true r s first second = first
if_of_text false r s first second = second

or_of_text : {A : Type 0} (found : Option A) (kind : AsmKind) → kind ≢ Memory → IsOfText (or_fault found kind)
or_of_text None kind other = err_of_text kind other
or_of_text (Some x) kind other = ok_of_text x

bad_register : BadRegister ≢ Memory
bad_register e = cc

bad_number : BadNumber ≢ Memory
bad_number e = cc

out_of_range : OutOfRange ≢ Memory
out_of_range e = cc

register_of_text : (text : List ℕ) → IsOfText (register text)
register_of_text text = or_of_text (number_named register_names text) BadRegister bad_register

number_of_text : (below above : ℕ) (text : List ℕ) → IsOfText (number_in below above text)
number_of_text below above text =
    then_of_text (or_fault (number_of text) BadNumber) (in_range below above) (or_of_text (number_of text) BadNumber bad_number)
    (λ number. if_of_text (is_within below above number) (Ok number) (Err OutOfRange) (ok_of_text number) (err_of_text OutOfRange out_of_range))

unsigned_of_text : (above : ℕ) (text : List ℕ) → IsOfText (unsigned_in above text)
unsigned_of_text above text = then_of_text (number_in 0 above text) _ (number_of_text 0 above text) (λ n. ok_of_text _)

word_of_text : (text : List ℕ) → IsOfText (word_in text)
word_of_text text = then_of_text (number_in (2 ^ 31) (2 ^ 32 - 1) text) _ (number_of_text (2 ^ 31) (2 ^ 32 - 1) text) (λ n. ok_of_text _)

csr_of_text : (text : List ℕ) → IsOfText (csr text)
csr_of_text text = by (number_named csr_names text)
  where
    by : (named : Option ℕ) → IsOfText (csr_named named text)
    by (Some number) = ok_of_text number
    by None = unsigned_of_text (2 ^ 12 - 1) text

target_of_text : (reach : ℕ) (text : List ℕ) → IsOfText (target reach text)
target_of_text reach text = by (distance_of text)
  where
    by : (distance : Option ℤ) → IsOfText (target_or_label reach distance text)
    by (Some off) = if_of_text _ _ _ (ok_of_text _) (err_of_text OutOfRange out_of_range)
    by None = if_of_text (is_name text) _ _ (ok_of_text _) (err_of_text BadNumber bad_number)

-- a field that a register, a number and so on give
from_register : {F : Type 0} (field : ℕ → F → F) (text : List ℕ) (f : F) → IsOfText (register text >>= λ r. Ok (field r f))
from_register field text f = then_of_text (register text) (λ r. Ok (field r f)) (register_of_text text) (λ r. ok_of_text (field r f))

from_number : {F : Type 0} (below above : ℕ) (field : ℤ → F → F) (text : List ℕ) (f : F) → IsOfText (number_in below above text >>= λ n. Ok (field n f))
from_number below above field text f = then_of_text (number_in below above text) (λ n. Ok (field n f)) (number_of_text below above text) (λ n. ok_of_text (field n f))

from_unsigned : {F : Type 0} (above : ℕ) (field : ℕ → F → F) (text : List ℕ) (f : F) → IsOfText (unsigned_in above text >>= λ n. Ok (field n f))
from_unsigned above field text f = then_of_text (unsigned_in above text) (λ n. Ok (field n f)) (unsigned_of_text above text) (λ n. ok_of_text (field n f))

from_address : {F : Type 0} (field : ℕ → ℤ → F → F) (text : List ℕ) (f : F)
    → IsOfText (register (register_part text) >>= λ r. (number_in (2 ^ 11) (2 ^ 11 - 1) (offset_part text) >>= λ n. Ok (field r n f)))
from_address field text f =
    then_of_text (register (register_part text)) _ (register_of_text (register_part text))
    (λ r. then_of_text (number_in (2 ^ 11) (2 ^ 11 - 1) (offset_part text)) _ (number_of_text (2 ^ 11) (2 ^ 11 - 1) (offset_part text)) (λ n. ok_of_text (field r n f)))

from_csr : {F : Type 0} (field : ℕ → F → F) (text : List ℕ) (f : F) → IsOfText (csr text >>= λ n. Ok (field n f))
from_csr field text f = then_of_text (csr text) (λ n. Ok (field n f)) (csr_of_text text) (λ n. ok_of_text (field n f))

from_target : {F : Type 0} (reach : ℕ) (field : _ → F → F) (text : List ℕ) (f : F) → IsOfText (target reach text >>= λ t. Ok (field t f))
from_target reach field text f = then_of_text (target reach text) (λ t. Ok (field t f)) (target_of_text reach text) (λ t. ok_of_text (field t f))

from_word : {F : Type 0} (field : ℕ → F → F) (text : List ℕ) (f : F) → IsOfText (word_in text >>= λ n. Ok (field n f))
from_word field text f = then_of_text (word_in text) (λ n. Ok (field n f)) (word_of_text text) (λ n. ok_of_text (field n f))

-- what an operand says
abbrev ReadsText : {O F : Type 0} → (O → List ℕ → F → Result F AsmKind) → O → Type 0
ReadsText {O} {F} with_one operand = (text : List ℕ) (f : F) → IsOfText (with_one operand text f)

-- what holds of each item of two lists holds of each item of both together
all_of_both : {X : Type 0} (P : X → Type 0) (xs ys : List X) → AllByRecursion P xs → AllByRecursion P ys → AllByRecursion P (xs ++ ys)
all_of_both P [] ys first second = second
all_of_both P (x ∷ xs) ys first second = (first.0, all_of_both P xs ys first.1 second)

-- the operands of each word; one search over all words would be too long
rows_of_text : AllByRecursion (λ word. AllByRecursion (ReadsText with_operand) (row_of word).operands) all_words
rows_of_text =
    all_of_both (λ word. AllByRecursion (ReadsText with_operand) (row_of word).operands) (take 32 all_words) (drop 32 all_words)
    (search (from_register, from_number, from_unsigned, from_address, from_csr, from_target, from_word))
    (search (from_register, from_number, from_unsigned, from_address, from_csr, from_target, from_word))

operands_of_text : (operands : _) → AllByRecursion (ReadsText with_operand) operands → (texts : List (List ℕ)) (f : _) → IsOfText (with_operands operands texts f)
operands_of_text [] each texts f = ok_of_text f
operands_of_text (operand ∷ operands) each [] f = ok_of_text f
operands_of_text (operand ∷ operands) each (text ∷ texts) f =
    then_of_text (with_operand operand text f) (λ g. with_operands operands texts g) (each.0 text f) (λ g. operands_of_text operands each.1 texts g)

-- what holds of each item holds of the one that is found
find_keeps : {X : Type 0} (P : X → Type 0) (test : X → Bool) (xs : List X) → AllByRecursion P xs → IfSome (find test xs) P
find_keeps P test [] each = tt
find_keeps P test (x ∷ xs) each = by (test x) (find_keeps P test xs each.1)
  where
    by : (b : Bool) → IfSome (find test xs) P → IfSome (if b then Some x else find test xs) P
    by true rest = each.0
    by false rest = rest

item_of_word_of_text : (word : _) → IfSome word (λ w. AllByRecursion (ReadsText with_operand) (row_of w).operands) → (texts : List (List ℕ)) → IsOfText (item_of_word word texts)
item_of_word_of_text None each texts = err_of_text UnknownWord (λ e. cc)
item_of_word_of_text (Some word) each texts =
    if_of_text (have_shapes (row_of word).operands texts) _ (Err Operands)
    (then_of_text (with_operands (row_of word).operands texts no_fields) (λ fields. Ok ((row_of word).item fields)) (operands_of_text (row_of word).operands each texts no_fields) (λ fields. ok_of_text _))
    (err_of_text Operands (λ e. cc))

word_of_name : (name : List ℕ) (texts : List (List ℕ)) → IsOfText (item_of_word (mnemonic_of name) texts)
word_of_name name texts = item_of_word_of_text (mnemonic_of name) (find_keeps (λ word. AllByRecursion (ReadsText with_operand) (row_of word).operands) (λ word. bytes_eq (row_of word).name name) all_words rows_of_text) texts

-- the item of a text
item_is_of_text : (text : List ℕ) → IsOfText (item_of text)
item_is_of_text text = search (if_of_text, ok_of_text, word_of_name)

line_is_of_text : (text : List ℕ) → IsOfText (line_of text).item
line_is_of_text text = search item_is_of_text

-- the distance to a label
distance_of_text : (reach at : ℕ) (place : Option ℕ) → IsOfText (distance_to reach at place)
distance_of_text reach at None = err_of_text UnknownLabel (λ e. cc)
distance_of_text reach at (Some place) =
    if_of_text (is_within reach (reach - 2) (distance at place)) (Ok (distance at place)) (Err OutOfRange) (ok_of_text (distance at place)) (err_of_text OutOfRange out_of_range)

words_of_item_of_text : (find : List ℕ → Option ℕ) (at : ℕ) (item : Item) → IsOfText (words_of_item find at item)
words_of_item_of_text find at Empty = ok_of_text []
words_of_item_of_text find at (One word) = ok_of_text (word ∷ [])
words_of_item_of_text find at (Two first second) = ok_of_text (first ∷ second ∷ [])
words_of_item_of_text find at (JumpTo rd label) =
    then_of_text (distance_to (2 ^ 20) at (find label)) _ (distance_of_text (2 ^ 20) at (find label)) (λ off. ok_of_text _)
words_of_item_of_text find at (BranchTo op rs1 rs2 label) =
    then_of_text (distance_to (2 ^ 12) at (find label)) _ (distance_of_text (2 ^ 12) at (find label)) (λ off. ok_of_text _)

-- the words of a line
words_of_line_of_text : (find : List ℕ → Option ℕ) (p : Placed) → IsOfText p.line.item → IsOfText (words_of_line find p)
words_of_line_of_text find p item = then_of_text p.line.item (words_of_item find p.place) item (words_of_item_of_text find p.place)

-- a fault of a line
abbrev pub IsOfLine : AsmFault → Type 0
IsOfLine fault = fault.kind ≢ Memory

words_then_of_line : (number : ℕ) (words : Result (List ℕ) AsmKind) (later : Result (List (ℕ × ℕ)) AsmFault)
    → IsOfText words → IfErr later IsOfLine → IfErr (words_then number words later) IsOfLine
words_then_of_line number (Err kind) later line rest = line.other kind refl
words_then_of_line number (Ok words) (Ok later) line rest = tt
words_then_of_line number (Ok words) (Err fault) line rest = rest

-- of lines that are linked
pub linked_of_line : (find : List ℕ → Option ℕ) (number place : ℕ) (listing : List (List ℕ)) → IfErr (linked find (placed_from number place (map line_of listing))) IsOfLine
linked_of_line find number place [] = tt
linked_of_line find number place (text ∷ listing) =
    let p : Placed = record { number = number; place = place; line = line_of text } in
    let later = place + word_count p.line.item in
    words_then_of_line number (words_of_line find p) (linked find (placed_from (number + 1) later (map line_of listing)))
    (words_of_line_of_text find p (line_is_of_text text)) (linked_of_line find (number + 1) later listing)

kind_of_item_of_text : (place : ℕ) (item : Result Item AsmKind) → IsOfText item → IfSome (kind_of_item place item) (λ kind. kind ≢ Memory)
kind_of_item_of_text place (Err kind) item = item.other kind refl
kind_of_item_of_text place (Ok what) item = by (nat_lt max_code_words (place + word_count (Ok what)))
  where
    by : (b : Bool) → IfSome (if b then Some TooManyWords else None) (λ kind. kind ≢ Memory)
    by true = λ e. cc
    by false = tt

kind_in_reading_of_text : (seen : List (List ℕ)) (p : Placed) → IsOfText p.line.item → IfSome (kind_in_reading seen p) (λ kind. kind ≢ Memory)
kind_in_reading_of_text seen p item = by (repeats seen p.line.labels) (kind_of_item_of_text p.place p.line.item item)
  where
    by : (b : Bool) → IfSome (kind_of_item p.place p.line.item) (λ kind. kind ≢ Memory) → IfSome (if b then Some DuplicateLabel else kind_of_item p.place p.line.item) (λ kind. kind ≢ Memory)
    by true rest = λ e. cc
    by false rest = rest

refusal_or_of_line : (number : ℕ) (kind : Option AsmKind) (later : Option AsmFault)
    → IfSome kind (λ k. k ≢ Memory) → IfSome later IsOfLine → IfSome (refusal_or number kind later) IsOfLine
refusal_or_of_line number (Some kind) later line rest = line
refusal_or_of_line number None later line rest = rest

-- of lines that are read
pub refusal_of_line : (seen : List (List ℕ)) (number place : ℕ) (listing : List (List ℕ)) → IfSome (refusal_in_reading seen (placed_from number place (map line_of listing))) IsOfLine
refusal_of_line seen number place [] = tt
refusal_of_line seen number place (text ∷ listing) =
    let p : Placed = record { number = number; place = place; line = line_of text } in
    let later = place + word_count p.line.item in
    refusal_or_of_line number (kind_in_reading seen p) (refusal_in_reading (seen ++ p.line.labels) (placed_from (number + 1) later (map line_of listing)))
    (kind_in_reading_of_text seen p (line_is_of_text text)) (refusal_of_line (seen ++ p.line.labels) (number + 1) later listing)
