-- The words of a chain's code, and the operations among them.
use Rattle.std.proofs.Common.{◌≡◌, ℕ, ◌+◌, ◌*◌, ◌^◌, ◌<◌, ◌≤◌, Bool, true, ltb, List, [], ◌∷◌, ◌++◌, map, length, pos, refl, sym, ap, ◌∙◌, arith}
use Rattle.std.specs.Fmt.{digits}
use Rattle.std.specs.List.{AllByRecursion, list_all, flat_map}
use Rattle.std.proofs.lemmas.Bool.{and_parts, ltb-true}
use Rattle.isa_model.specs.declared.instr.Instr.{Instr}
use Rattle.isa_model.specs.declared.instr.Instr.TheVariants.{AluImm, AluReg}
use Rattle.isa_model.specs.declared.instr.Alu.TheVariants as alu
use Rattle.isa_model.specs.Encoding.{word_of}
use Rattle.rv_asm.specs.Assembly.{Assembles, assembly}
use Rattle.rv_asm.specs.Disassembly.{lines_of_words, one_per_line}
use Rattle.rv_asm.proofs.OnePerLine.{lines_assemble}
use Rattle.masked_gen.specs.Code.{start_lines, gate_lines, end_lines, code_lines}
use Rattle.masked_gen.specs.declared.gate.Gate.{Gate}
use Rattle.masked_gen.specs.declared.gate.Gate.TheVariants.{Xor, And}

-- a word of the tape in a0 comes to a register
abbrev pub taken_into : ℕ → List Instr
taken_into register = AluImm alu.Add register 10 (pos 0) ∷ AluImm alu.Add 10 0 (pos 0) ∷ []

abbrev pub cleared : Instr → List Instr
cleared operation = operation ∷ AluReg alu.Add 0 0 0 ∷ []

abbrev pub xor_alus : List Instr
xor_alus = flat_map cleared (AluReg alu.Xor 1 1 3 ∷ AluReg alu.Xor 2 2 4 ∷ [])

abbrev pub and_alus : List Instr
and_alus =
    taken_into 5
    ++ (flat_map cleared
    (AluReg alu.And 6 1 4 ∷ AluReg alu.Xor 6 6 5 ∷ AluReg alu.And 7 1 3 ∷ AluReg alu.Xor 7 7 6 ∷ AluReg alu.And 8 2 3 ∷ AluReg alu.Xor 8 8 5
    ∷ AluReg alu.And 9 2 4 ∷ AluReg alu.Xor 9 9 8 ∷ AluImm alu.Add 1 7 (pos 0) ∷ AluImm alu.Add 2 9 (pos 0) ∷ [])
    ++ (AluImm alu.Add 5 0 (pos 0) ∷ AluImm alu.Add 6 0 (pos 0) ∷ AluImm alu.Add 7 0 (pos 0) ∷ AluImm alu.Add 8 0 (pos 0) ∷ AluImm alu.Add 9 0 (pos 0) ∷ []))

abbrev pub first_alus : List Instr
first_alus = AluImm alu.Add 17 0 (pos 2) ∷ []

abbrev pub out_alus : List Instr
out_alus = AluImm alu.Add 17 0 (pos 1) ∷ AluImm alu.Add 10 1 (pos 0) ∷ []

abbrev pub next_alus : List Instr
next_alus = AluImm alu.Add 10 0 (pos 0) ∷ AluReg alu.Add 0 0 0 ∷ AluImm alu.Add 10 2 (pos 0) ∷ []

abbrev pub last_alus : List Instr
last_alus = AluImm alu.Add 10 0 (pos 0) ∷ AluImm alu.Add 17 0 (pos 0) ∷ []

-- ---- words

abbrev pub start_words : List ℕ
start_words =
    map word_of first_alus
    ++ (0x73 ∷ (map word_of (taken_into 1) ++ (0x73 ∷ (map word_of (taken_into 2) ++ (0x73 ∷ (map word_of (taken_into 3) ++ (0x73 ∷ map word_of (taken_into 4))))))))

abbrev pub gate_words : Gate → List ℕ
gate_words Xor = map word_of xor_alus
gate_words And = 0x73 ∷ map word_of and_alus

abbrev pub end_words : List ℕ
end_words = map word_of out_alus ++ (0x73 ∷ (map word_of next_alus ++ (0x73 ∷ (map word_of last_alus ++ (0x73 ∷ [])))))

abbrev pub code_words : List Gate → List ℕ
code_words gates = start_words ++ (flat_map gate_words gates ++ end_words)

-- ---- their lines

lines_of_rest : (gates : List Gate) → lines_of_words (flat_map gate_words gates ++ end_words) ≡ flat_map gate_lines gates ++ end_lines
unfolding digits
lines_of_rest [] = refl
lines_of_rest (Xor ∷ gates) = ap (λ lines. gate_lines Xor ++ lines) (lines_of_rest gates)
lines_of_rest (And ∷ gates) = ap (λ lines. gate_lines And ++ lines) (lines_of_rest gates)

lines_of_code : (gates : List Gate) → lines_of_words (code_words gates) ≡ code_lines gates
unfolding digits
lines_of_code gates = ap (λ lines. start_lines ++ lines) (lines_of_rest gates)

-- ---- they are few, and words

rest_count : (gates : List Gate) → length (flat_map gate_words gates ++ end_words) ≤ 10 + 28 * length gates
rest_count [] = omega arith
rest_count (Xor ∷ gates) = let few = rest_count gates in omega arith
rest_count (And ∷ gates) = let few = rest_count gates in omega arith

pub word_count : (gates : List Gate) → length (code_words gates) ≤ 23 + 28 * length gates
word_count gates = let few = rest_count gates in omega arith

abbrev is_word : ℕ → Bool
is_word word = ltb word (2 ^ 32)

rest_tested : (gates : List Gate) → list_all is_word (flat_map gate_words gates ++ end_words) ≡ true
rest_tested [] = refl
rest_tested (Xor ∷ gates) = rest_tested gates
rest_tested (And ∷ gates) = rest_tested gates

by_test : (words : List ℕ) → list_all is_word words ≡ true → AllByRecursion (λ word. word < 2 ^ 32) words
by_test [] e = tt
by_test (word ∷ words) e = let p = and_parts (is_word word) (list_all is_word words) e in (ltb-true word (2 ^ 32) p.0, by_test words p.1)

-- ---- they are what the lines assemble to

pub code_assembles : (gates : List Gate) → length gates ≤ 8 → (first_line : ℕ) → Assembles (code_lines gates) first_line (one_per_line (code_words gates) first_line)
code_assembles gates few first_line =
    let count = word_count gates in
    ap (λ lines. assembly lines first_line) (sym (lines_of_code gates))
    ∙ lines_assemble (code_words gates) (by_test (code_words gates) (rest_tested gates)) (omega arith) first_line
