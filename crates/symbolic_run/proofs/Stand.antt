-- Instructions stand in a code where its words are theirs.
use Rattle.std.proofs.Common.{◌≡◌, ℕ, zero, suc, ◌+◌, ◌*◌, ◌-◌, ◌/◌, ◌≤◌, true, List, [], ◌∷◌, ◌++◌, length, map, take, drop, slice_get, nat_le, Option, Some, None, refl, sym, ap, ◌∙◌, subst, arith}
use Rattle.std.proofs.lemmas.Bool.{cond-true, le-leb}
use Rattle.std.proofs.Math.Seq.{drop-append_seam}
use Rattle.isa_model.specs.declared.instr.Instr.{Instr}
use Rattle.isa_model.specs.InstrTable.{instr_of}
use Rattle.hart_model.specs.MachineStep.{kernel_address, kernel_word_at}
use Rattle.symbolic_run.specs.SymbolicPath.{StandAt}

-- words of which these are the instructions, one by one; more words may follow
abbrev pub AreWordsOf : List ℕ → List Instr → Type 0
AreWordsOf words instrs = map instr_of (take (length instrs) words) ≡ map (λ instr. Some instr) instrs

-- a word of a list, with its instruction
record IsWordAt (code : List ℕ) (i : ℕ) (instr : Instr) : Type 0 where
  word : ℕ
  is_word : slice_get code i ≡ Some word
  is_instr : instr_of word ≡ Some instr

-- the heads and the tails of equal lists
head-of : (x y : Option Instr) (xs ys : List (Option Instr)) → x ∷ xs ≡ y ∷ ys → (x ≡ y) × (xs ≡ ys)
head-of x y xs ys e = (cc e, cc e)

-- the word of an instruction of a list
word-at : (words : List ℕ) (instrs : List Instr) (i : ℕ) (instr : Instr) → AreWordsOf words instrs → slice_get instrs i ≡ Some instr → IsWordAt words i instr
word-at words [] i instr are e = absurd (cc e)
word-at [] (first ∷ instrs) i instr are e = absurd (cc are)
word-at (word ∷ words) (first ∷ instrs) zero instr are e =
    let t = head-of (instr_of word) (Some first) (map instr_of (take (length instrs) words)) (map (λ x. Some x) instrs) are in
    record { word = word; is_word = refl; is_instr = t.0 ∙ e }
word-at (word ∷ words) (first ∷ instrs) (suc i) instr are e =
    let t = head-of (instr_of word) (Some first) (map instr_of (take (length instrs) words)) (map (λ x. Some x) instrs) are in
    let rest = word-at words instrs i instr t.1 e in
    record { word = rest.word; is_word = rest.is_word; is_instr = rest.is_instr }

-- an element after some others
get-after : (k : ℕ) (code : List ℕ) (i word : ℕ) → slice_get (drop k code) i ≡ Some word → slice_get code (k + i) ≡ Some word
get-after zero code i word e =
    let same : i ≡ zero + i = omega arith in
    subst (λ j. slice_get code j ≡ Some word) same e
get-after (suc k) [] i word e = absurd (cc e)
get-after (suc k) (first ∷ code) i word e =
    let same : suc (k + i) ≡ suc k + i = omega arith in
    subst (λ j. slice_get (first ∷ code) j ≡ Some word) same (get-after k code i word e)

-- the kernel's word at the address of a word of its code
word-of-code : (code : List ℕ) (i : ℕ) → kernel_word_at code (kernel_address + 4 * i) ≡ slice_get code i
word-of-code code i =
    let low : nat_le kernel_address (kernel_address + 4 * i) ≡ true = le-leb kernel_address (kernel_address + 4 * i) (omega arith) in
    let index : (kernel_address + 4 * i - kernel_address) / 4 ≡ i = omega arith in
    cond-true (nat_le kernel_address (kernel_address + 4 * i)) (slice_get code ((kernel_address + 4 * i - kernel_address) / 4)) None low
    ∙ ap (slice_get code) index

-- Instructions stand from the word number k of a code on.
pub stand-at : (code : List ℕ) (k : ℕ) (instrs : List Instr) → k ≤ 1000 → length instrs ≤ 1000 → AreWordsOf (drop k code) instrs →
    StandAt code (kernel_address + 4 * k) instrs
stand-at code k instrs low few are = record {
  aligned = omega arith;
  high = omega arith;
  few = few;
  each = λ i instr e.
      let w = word-at (drop k code) instrs i instr are e in
      let same : kernel_address + 4 * (k + i) ≡ kernel_address + 4 * k + 4 * i = omega arith in
      record {
        word = w.word;
        is_word = ap (kernel_word_at code) (sym same) ∙ word-of-code code (k + i) ∙ get-after k code i w.word w.is_word;
        is_instr = w.is_instr;
      };
}

-- words are those of their instructions, whatever words follow
words-before : (words rest : List ℕ) (instrs : List Instr) → map instr_of words ≡ map (λ x. Some x) instrs → AreWordsOf (words ++ rest) instrs
words-before words rest [] e = refl
words-before [] rest (first ∷ instrs) e = absurd (cc e)
words-before (word ∷ words) rest (first ∷ instrs) e =
    let t = head-of (instr_of word) (Some first) (map instr_of words) (map (λ x. Some x) instrs) e in
    ap (λ o. o ∷ map instr_of (take (length instrs) (words ++ rest))) t.0 ∙ ap (λ os. Some first ∷ os) (words-before words rest instrs t.1)

-- Their instructions stand among other code.
pub stand-among : (front words rest : List ℕ) (instrs : List Instr) → length front ≤ 1000 → length instrs ≤ 1000
    → map instr_of words ≡ map (λ x. Some x) instrs → StandAt (front ++ (words ++ rest)) (kernel_address + 4 * length front) instrs
stand-among front words rest instrs low few decode =
    let P : List ℕ → Type 0 = λ later. AreWordsOf later instrs in
    stand-at (front ++ (words ++ rest)) (length front) instrs low few
    (subst P (sym (drop-append_seam front (words ++ rest))) (words-before words rest instrs decode))
