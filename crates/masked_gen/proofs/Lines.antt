-- The lines of code of every chain of gates are lines that a bundle may have.
use Rattle.std.proofs.Common.{◌≡◌, ℕ, ◌+◌, ◌*◌, ◌^◌, ◌≤◌, Bool, true, not, ltb, eqb, ◌&&◌, List, [], ◌∷◌, length, refl, ◌∙◌, ap, arith, length-append}
use Rattle.std.specs.List.{AllByRecursion, list_all, flat_map}
use Rattle.std.proofs.lemmas.Bool.{and_parts, ltb-true, not-true}
use Rattle.std.proofs.lemmas.List.Folds.{list_all-append}
use Rattle.bundle_text.specs.Pieces.{is_text, tokens}
use Rattle.bundle_text.specs.Lines.{is_endcode}
use Rattle.bundle_text.specs.Range.{IsByte, IsLineInRange, IsCodeLine}
use Rattle.bundle_text.specs.Form.{carriage_return}
use Rattle.bundle_text.proofs.RoundTrip.Tokens.{raw_by_test}
use Rattle.masked_gen.specs.Code.{gate_lines, end_lines, code_lines}
use Rattle.masked_gen.specs.declared.gate.Gate.{Gate}
use Rattle.masked_gen.specs.declared.gate.Gate.TheVariants.{Xor, And}

-- ---- one line, by a test that computes

abbrev is_short : List ℕ → Bool
is_short line = list_all (λ b. ltb b 256) line && ltb (length line) (2 ^ 32)

abbrev is_line : List ℕ → Bool
is_line line = is_text line && (list_all (λ b. not (eqb b carriage_return)) line && (not (is_endcode (tokens line)) && is_short line))

bytes_by_test : (bytes : List ℕ) → list_all (λ b. ltb b 256) bytes ≡ true → AllByRecursion IsByte bytes
bytes_by_test [] e = tt
bytes_by_test (b ∷ bs) e = let p = and_parts (ltb b 256) (list_all (λ c. ltb c 256) bs) e in (ltb-true b 256 p.0, bytes_by_test bs p.1)

record IsLine (line : List ℕ) : Type 0 where
  code : IsCodeLine line
  range : IsLineInRange line

line_by_test : (line : List ℕ) → is_line line ≡ true → IsLine line
line_by_test line e =
    let text = and_parts (is_text line) (list_all (λ b. not (eqb b carriage_return)) line && (not (is_endcode (tokens line)) && is_short line)) e in
    let no_cr = and_parts (list_all (λ b. not (eqb b carriage_return)) line) (not (is_endcode (tokens line)) && is_short line) text.1 in
    let goes_on = and_parts (not (is_endcode (tokens line))) (is_short line) no_cr.1 in
    let short = and_parts (list_all (λ b. ltb b 256) line) (ltb (length line) (2 ^ 32)) goes_on.1 in
    let raw = raw_by_test line text.0 no_cr.0 in
    record {
      code = record { text = raw.text; no_cr = raw.no_cr; goes_on = not-true (is_endcode (tokens line)) goes_on.0 };
      range = record { bytes = bytes_by_test line short.0; short = ltb-true (length line) (2 ^ 32) short.1 };
    }

-- ---- all lines

tested_gates : (gates : List Gate) → list_all is_line (flat_map gate_lines gates) ≡ true
tested_gates [] = refl
tested_gates (Xor ∷ gates) = tested_gates gates
tested_gates (And ∷ gates) = tested_gates gates

tested : (gates : List Gate) → list_all is_line (code_lines gates) ≡ true
tested gates =
    list_all-append is_line (flat_map gate_lines gates) end_lines ∙ ap (λ t. t && list_all is_line end_lines) (tested_gates gates)

code_by_test : (lines : List (List ℕ)) → list_all is_line lines ≡ true → AllByRecursion IsCodeLine lines
code_by_test [] e = tt
code_by_test (line ∷ lines) e =
    let p = and_parts (is_line line) (list_all is_line lines) e in ((line_by_test line p.0).code, code_by_test lines p.1)

range_by_test : (lines : List (List ℕ)) → list_all is_line lines ≡ true → AllByRecursion IsLineInRange lines
range_by_test [] e = tt
range_by_test (line ∷ lines) e =
    let p = and_parts (is_line line) (list_all is_line lines) e in ((line_by_test line p.0).range, range_by_test lines p.1)

pub code_lines_are_code : (gates : List Gate) → AllByRecursion IsCodeLine (code_lines gates)
code_lines_are_code gates = code_by_test (code_lines gates) (tested gates)

pub code_lines_in_range : (gates : List Gate) → AllByRecursion IsLineInRange (code_lines gates)
code_lines_in_range gates = range_by_test (code_lines gates) (tested gates)

-- ---- how many they are

gate_count : (gates : List Gate) → length (flat_map gate_lines gates) ≤ 28 * length gates
gate_count [] = omega arith
gate_count (Xor ∷ gates) = let few = gate_count gates in omega arith
gate_count (And ∷ gates) = let few = gate_count gates in omega arith

pub code_count : (gates : List Gate) → length (code_lines gates) ≤ 23 + 28 * length gates
code_count gates =
    let few = gate_count gates in
    omega (arith, length-append (flat_map gate_lines gates) end_lines)
