-- The text that is written of an instruction is read as the instruction.
use Rattle.std.proofs.Common.{◌≡◌, ℕ, ◌<◌, false, ◌||◌, cond, List, [], ◌∷◌, ◌++◌, length, map, Ok, refl, ap, ◌∙◌, arith, ne_eqb, length-append}
use Rattle.std.specs.List.{join_with_byte}
use Rattle.rv_decode.specs.Text.{instr_line}
use Rattle.asm_line.specs.declared.pieces.Separator.{Separator}
use Rattle.asm_line.specs.declared.pieces.Separator.TheVariants.{Hash, Colon, Comma, Blank}
use Rattle.asm_line.specs.declared.line.Item.TheVariants.{Empty}
use Rattle.asm_line.specs.declared.line.Line.{Line}
use Rattle.asm_line.specs.Pieces.{is_separator, pieces, before, after, trim, operands_of}
use Rattle.asm_line.specs.Table.{mnemonic_of}
use Rattle.asm_line.specs.LineForm.{line_of, line_of_parts, parts_of, item_of, item_of_word}
use Rattle.asm_line.proofs.Parts.{Lacks, lacks-append, before_first-at, before_first-none, after_first-at, split_whole, split_after, trim-lacks, trim-whole}

-- an operand without a byte that parts a line
pub record IsPlain (text : List ℕ) : Type 0 where
  pub hash : Lacks (is_separator Hash) text
  pub colon : Lacks (is_separator Colon) text
  pub comma : Lacks (is_separator Comma) text
  pub blank : Lacks (is_separator Blank) text

abbrev pub ArePlain : List (List ℕ) → Type 0
ArePlain [] = Unit {0}
ArePlain (text ∷ texts) = IsPlain text × ArePlain texts

-- commas are the only separators between plain texts
joined_lacks : (s : Separator) → is_separator s 0x2c ≡ false → ((text : List ℕ) → IsPlain text → Lacks (is_separator s) text)
    → (texts : List (List ℕ)) → ArePlain texts → Lacks (is_separator s) (join_with_byte 0x2c texts)
joined_lacks s comma each [] h = refl
joined_lacks s comma each (text ∷ []) h = each text h.0
joined_lacks s comma each (text ∷ next ∷ texts) h =
    lacks-append (is_separator s) text (0x2c ∷ join_with_byte 0x2c (next ∷ texts)) (each text h.0)
    (lacks-append (is_separator s) (0x2c ∷ []) (join_with_byte 0x2c (next ∷ texts)) (ap (λ b. b || false) comma) (joined_lacks s comma each (next ∷ texts) h.1))

pieces-joined : (text : List ℕ) (texts : List (List ℕ)) → ArePlain (text ∷ texts) → pieces Comma (join_with_byte 0x2c (text ∷ texts)) ≡ text ∷ texts
pieces-joined text [] h = split_whole (is_separator Comma) text h.0.comma
pieces-joined text (next ∷ texts) h =
    split_after (is_separator Comma) text 0x2c (join_with_byte 0x2c (next ∷ texts)) h.0.comma refl ∙ ap (λ l. text ∷ l) (pieces-joined next texts h.1)

trim-plain : (texts : List (List ℕ)) → ArePlain texts → map trim texts ≡ texts
trim-plain [] h = refl
trim-plain (text ∷ texts) h = ap (λ t. t ∷ map trim texts) (trim-whole text h.0.blank) ∙ ap (λ l. text ∷ l) (trim-plain texts h.1)

join_some : (text : List ℕ) (texts : List (List ℕ)) → 0 < length text → 0 < length (join_with_byte 0x2c (text ∷ texts))
join_some text [] some = some
join_some text (next ∷ texts) some = let e = length-append text (0x2c ∷ join_with_byte 0x2c (next ∷ texts)) in omega arith

operands-joined : (text : List ℕ) (texts : List (List ℕ)) → 0 < length text → ArePlain (text ∷ texts)
    → operands_of (trim (join_with_byte 0x2c (text ∷ texts))) ≡ text ∷ texts
operands-joined text texts some h =
    let joined = join_with_byte 0x2c (text ∷ texts) in
    let long = join_some text texts some in
    ap operands_of (trim-whole joined (joined_lacks Blank refl (λ t p. p.blank) (text ∷ texts) h))
    ∙ ap (λ b. cond b [] (map trim (pieces Comma joined))) (ne_eqb (length joined) 0 (λ e. omega arith))
    ∙ ap (map trim) (pieces-joined text texts h) ∙ trim-plain (text ∷ texts) h

-- the first word and what follows it
item-words : (name rest : List ℕ) → 0 < length name → Lacks (is_separator Blank) name
    → item_of (name ++ 0x20 ∷ rest) ≡ item_of_word (mnemonic_of name) (operands_of (trim rest))
item-words name rest some h =
    let text = name ++ 0x20 ∷ rest in
    let e = length-append name (0x20 ∷ rest) in
    ap (λ b. cond b (Ok Empty) (item_of_word (mnemonic_of (before Blank text)) (operands_of (trim (after Blank text))))) (ne_eqb (length text) 0 (λ q. omega arith))
    ∙ ap (λ t. item_of_word (mnemonic_of t) (operands_of (trim (after Blank text)))) (before_first-at (is_separator Blank) name 0x20 rest h refl)
    ∙ ap (λ t. item_of_word (mnemonic_of name) (operands_of (trim t))) (after_first-at (is_separator Blank) name 0x20 rest h refl)

-- a line without comment and label
line-plain : (line : List ℕ) → Lacks (is_separator Hash) line → Lacks (is_separator Colon) line → line_of line ≡ record { labels = []; item = item_of (trim line) }
line-plain line hash colon =
    ap (λ t. line_of_parts (parts_of (pieces Colon t))) (before_first-none (is_separator Hash) line hash)
    ∙ ap (λ l. line_of_parts (parts_of l)) (split_whole (is_separator Colon) line colon)

-- a mnemonic and its operands are read as they were written
pub line-words : (name text : List ℕ) (texts : List (List ℕ)) → 0 < length name → IsPlain name → 0 < length text → ArePlain (text ∷ texts)
    → line_of (instr_line name (text ∷ texts)) ≡ record { labels = []; item = item_of_word (mnemonic_of name) (text ∷ texts) }
line-words name text texts named plain some h =
    let joined = join_with_byte 0x2c (text ∷ texts) in
    let line = name ++ 0x20 ∷ joined in
    let rest_hash = joined_lacks Hash refl (λ t p. p.hash) (text ∷ texts) h in
    let rest_colon = joined_lacks Colon refl (λ t p. p.colon) (text ∷ texts) h in
    let rest_blank = joined_lacks Blank refl (λ t p. p.blank) (text ∷ texts) h in
    let long = join_some text texts some in
    line-plain line (lacks-append (is_separator Hash) name (0x20 ∷ joined) plain.hash rest_hash) (lacks-append (is_separator Colon) name (0x20 ∷ joined) plain.colon rest_colon)
    ∙ ap (λ t. let l : Line = record { labels = []; item = item_of t } in l) (trim-lacks name (0x20 ∷ []) joined named plain.blank long rest_blank)
    ∙ ap (λ i. let l : Line = record { labels = []; item = i } in l) (item-words name joined named plain.blank ∙ ap (λ ts. item_of_word (mnemonic_of name) ts) (operands-joined text texts some h))
