-- The words of a kernel with other parts.
use Rattle.std.proofs.Common.{◌≡◌, ℕ, ◌+◌, ◌*◌, ℤ, pos, ◌-ℤ◌, List, [], ◌∷◌, ◌++◌, length, map, refl, ap, ◌∙◌, sym, arith, add-zero, zero-add, append_assoc}
use Rattle.std.specs.Prelude.{slice_range}
use Rattle.std.proofs.lemmas.Int.{ints}
use Rattle.isa_model.specs.declared.instr.Instr.TheVariants.{Jal, Branch, Mret}
use Rattle.isa_model.specs.declared.instr.Cmp.TheVariants.{Beq}
use Rattle.isa_model.specs.Encoding.{word_of}
use Rattle.core_model.specs.KernelText.{Label, Idle, Take, Line, At, Does, Branches, Jumps, Word, middle_lines, last_lines, x0, x5}
use Rattle.core_model.specs.KernelWords.{words_before, distance, words_from, words_of, kernel_words, linked_lines, linked_words, linked_code}
use Rattle.switch_emit.specs.Linked.{middle_words, last_words}

-- given words are themselves, wherever they stand
words_from-given : (text : List Line) (at : ℕ) (words : List ℕ) (rest : List Line)
    → words_from text at (map Word words ++ rest) ≡ words ++ words_from text (at + length words) rest
words_from-given text at [] rest = rw add-zero refl
words_from-given text at (word ∷ words) rest =
    let e : (at + 1) + length words ≡ at + length (word ∷ words) = omega arith in
    ap (λ ws. word ∷ ws) (words_from-given text (at + 1) words rest ∙ ap (λ n. words ++ words_from text n rest) e)

words_before-given : (label : Label) (words : List ℕ) (rest : List Line)
    → words_before label (map Word words ++ rest) ≡ length words + words_before label rest
words_before-given label [] rest = sym (zero-add (words_before label rest))
words_before-given label (word ∷ words) rest =
    let e = words_before-given label words rest in
    omega arith

cancelled : (n a b : ℕ) → pos (4 * (n + a)) -ℤ pos (4 * (n + b)) ≡ pos (4 * a) -ℤ pos (4 * b)
cancelled n a b = omega (arith, ints)

-- words are the same in a text that has so many words more before each label
module _ (n : ℕ) (longer text : List Line) (labels : (label : Label) → words_before label longer ≡ n + words_before label text) where
  same_distance : (at : ℕ) (label : Label) → distance longer (n + at) label ≡ distance text at label
  same_distance at label = rw (labels label) (cancelled n (words_before label text) at)

  next : (at : ℕ) (lines : List Line) → words_from longer (n + (at + 1)) lines ≡ words_from text (at + 1) lines
      → words_from longer ((n + at) + 1) lines ≡ words_from text (at + 1) lines
  next at lines e =
      let same : (n + at) + 1 ≡ n + (at + 1) = omega arith in
      rw same e

  words_from-moved : (at : ℕ) (lines : List Line) → words_from longer (n + at) lines ≡ words_from text at lines
  words_from-moved at [] = refl
  words_from-moved at (At label ∷ lines) = words_from-moved at lines
  words_from-moved at (Does instr ∷ lines) =
      ap (λ ws. word_of instr ∷ ws) (next at lines (words_from-moved (at + 1) lines))
  words_from-moved at (Branches op rs1 rs2 to ∷ lines) =
      rw (same_distance at to) (ap (λ ws. word_of (Branch op rs1 rs2 (distance text at to)) ∷ ws) (next at lines (words_from-moved (at + 1) lines)))
  words_from-moved at (Jumps rd to ∷ lines) =
      rw (same_distance at to) (ap (λ ws. word_of (Jal rd (distance text at to)) ∷ ws) (next at lines (words_from-moved (at + 1) lines)))
  words_from-moved at (Word word ∷ lines) =
      ap (λ ws. word ∷ ws) (next at lines (words_from-moved (at + 1) lines))

-- the kernel's lines after the save part
abbrev after_save : List ℕ → List Line
after_save restore = middle_lines ++ (map Word restore ++ last_lines)

linked_lines-is : (save restore : List ℕ) → linked_lines save restore ≡ map Word save ++ after_save restore
linked_lines-is save restore = simp append_assoc

-- the save part alone is what it is, and moves nothing but where the others stand
linked_words-save : (save restore : List ℕ) → linked_words save restore ≡ save ++ words_of (after_save restore)
linked_words-save save restore =
    let rest = after_save restore in
    let text = map Word save ++ rest in
    let e : 0 + length save ≡ length save + 0 = omega arith in
    let moved : words_from text (0 + length save) rest ≡ words_of rest =
    rw e (words_from-moved (length save) text rest (λ label. words_before-given label save rest) 0 rest) in
    ap words_of (linked_lines-is save restore) ∙ (words_from-given text 0 save rest ∙ ap (λ ws. save ++ ws) moved)

idle_after : (restore : List ℕ) → words_before Idle (after_save restore) ≡ length restore + 114
idle_after restore =
    let e = words_before-given Idle restore last_lines in
    omega arith

difference : (far near over : ℕ) → far ≡ near + over → pos (4 * far) -ℤ pos (4 * near) ≡ pos (4 * over)
difference far near over e = omega (arith, ints)

distance_over : (restore : List ℕ) → distance (after_save restore) 101 Idle ≡ pos (4 * (length restore + 13))
distance_over restore =
    let e = idle_after restore in
    difference (words_before Idle (after_save restore)) 101 (length restore + 13) (omega arith)

distance_back : (restore : List ℕ) → distance (after_save restore) (113 + length restore + 1) Idle ≡ pos 0
distance_back restore =
    let e = idle_after restore in
    difference (words_before Idle (after_save restore)) (113 + length restore + 1) 0 (omega arith)

words_of-after_save : (restore : List ℕ) → words_of (after_save restore) ≡ middle_words (length restore) ++ restore ++ last_words
words_of-after_save restore =
    let text = after_save restore in
    let middle : ℤ → List ℕ → List ℕ = λ over rest. slice_range kernel_words 101 202 ++ word_of (Branch Beq x5 x0 over) ∷ [] ++ slice_range kernel_words 203 214 ++ rest in
    let over = distance_over restore in
    let back = distance_back restore in
    let last = ap (λ z. restore ++ word_of Mret ∷ word_of (Jal x0 z) ∷ []) back in
    ap (λ z. middle z (words_from text 113 (map Word restore ++ last_lines))) over
    ∙ ap (λ rest. middle (pos (4 * (length restore + 13))) rest) (words_from-given text 113 restore last_lines ∙ last)

pub linked_words-is : (save restore : List ℕ) → linked_words save restore ≡ save ++ middle_words (length restore) ++ restore ++ last_words
linked_words-is save restore = rw (linked_words-save save restore, words_of-after_save restore) (simp append_assoc)

pub take-is : (save restore : List ℕ) → (linked_code save restore).take ≡ 0x1000 + 4 * (length save + 100)
take-is save restore = rw (linked_lines-is save restore, words_before-given Take save (after_save restore)) refl

pub idle-is : (save restore : List ℕ) → (linked_code save restore).idle ≡ 0x1000 + 4 * (length save + length restore + 114)
idle-is save restore =
    rw (linked_lines-is save restore, words_before-given Idle save (after_save restore), idle_after restore) (omega arith)
