-- The definitions tried on texts: what the first bytes of a text with one task read as, and refusals by each kind.
use Rattle.std.specs.Prelude.{◌≡◌, ℕ, List, [], ◌∷◌, ◌++◌, take, length, codes, refl, Result, Ok, Err}
use Rattle.bundle_text.specs.Pieces.{lines, tokens}
use Rattle.bundle_text.specs.Numbers.{word_of}
use Rattle.bundle_text.specs.Lines.{with_line, bundle_of}
use Rattle.bundle_text.specs.declared.bundle.Bundle.{Bundle}
use Rattle.bundle_text.specs.declared.bundle.BundleFault.{BundleFault}
use Rattle.bundle_text.specs.declared.bundle.BundleKind.{BundleKind}
use Rattle.bundle_text.specs.declared.bundle.BundleKind.TheVariants.{NotText, UnknownWord, Misplaced, Operands, BadNumber, OutOfRange, Repeated, Missing}
use Rattle.bundle_text.specs.declared.bundle.Code.TheVariants.{Words, Text}

abbrev lf : List (List ℕ) → List ℕ
lf [] = []
lf (l ∷ ls) = l ++ 10 ∷ lf ls

-- a task that puts out a word and exits
abbrev five_lines : List ℕ
five_lines =
    lf (codes "bundle 1" ∷ codes "slots 1" ∷ codes "task fuel 5 out 4 data 0" ∷ codes "words 02a00513 00100893 00000073 00000893 00000073" ∷ codes "endtask" ∷ [])

abbrev fault : ℕ → BundleKind → Result Bundle BundleFault
fault line kind = Err (record { line = line; kind = kind })

abbrev whole : Result Bundle BundleFault
whole = Ok (record {
  slots = 1;
  plans = [];
  tasks = record {
    fuel = 5;
    out_max = 4;
    data_len = 0;
    band = 0;
    tape = [];
    code = Words (0x02a00513 ∷ 0x00100893 ∷ 0x00000073 ∷ 0x00000893 ∷ 0x00000073 ∷ []);
  } ∷ [];
  worlds = [];
  events = [];
  order = [];
})

size : length five_lines ≡ 101
size = refl

kept_0 : bundle_of (take 0 five_lines) ≡ fault 1 Missing
unfolding with_line
kept_0 = refl

kept_3 : bundle_of (take 3 five_lines) ≡ fault 1 UnknownWord
unfolding with_line
kept_3 = refl

kept_6 : bundle_of (take 6 five_lines) ≡ fault 1 Operands
unfolding with_line
kept_6 = refl

kept_7 : bundle_of (take 7 five_lines) ≡ fault 1 Operands
unfolding with_line
kept_7 = refl

kept_8 : bundle_of (take 8 five_lines) ≡ fault 2 Missing
unfolding with_line
kept_8 = refl

kept_9 : bundle_of (take 9 five_lines) ≡ fault 2 Missing
unfolding with_line
kept_9 = refl

kept_15 : bundle_of (take 15 five_lines) ≡ fault 2 Operands
unfolding with_line
kept_15 = refl

kept_41 : bundle_of (take 41 five_lines) ≡ fault 4 Missing
unfolding with_line
kept_41 = refl

kept_42 : bundle_of (take 42 five_lines) ≡ fault 4 Missing
unfolding with_line
kept_42 = refl

kept_56 : bundle_of (take 56 five_lines) ≡ fault 5 Missing
unfolding with_line
kept_56 = refl

kept_92 : bundle_of (take 92 five_lines) ≡ fault 5 Missing
unfolding with_line
kept_92 = refl

kept_99 : bundle_of (take 99 five_lines) ≡ fault 5 UnknownWord
unfolding with_line
kept_99 = refl

kept_100 : bundle_of (take 100 five_lines) ≡ whole
unfolding with_line
kept_100 = refl

kept_101 : bundle_of (take 101 five_lines) ≡ whole
unfolding with_line
kept_101 = refl

lines_1 : lines (codes "a" ++ 13 ∷ 10 ∷ codes "b" ++ 10 ∷ 10 ∷ codes "c" ++ 13 ∷ []) ≡ codes "a" ∷ codes "b" ∷ [] ∷ (codes "c" ++ 13 ∷ []) ∷ []
lines_1 = refl

tokens_1 : tokens (codes "  a b  cd ") ≡ codes "a" ∷ codes "b" ∷ codes "cd" ∷ []
tokens_1 = refl

word_1 : word_of (codes "0xAbCdEf37") ≡ Ok 0xabcdef37
word_1 = refl

word_2 : word_of (codes "000000001") ≡ Err OutOfRange
word_2 = refl

word_3 : word_of (codes "0x") ≡ Err BadNumber
word_3 = refl

word_4 : word_of (codes "00000000g") ≡ Err BadNumber
word_4 = refl

-- two plans for a hart, the second one after a comment
repeated : bundle_of (lf (codes "bundle 1" ∷ codes "slots 1" ∷ codes "plan 0 tail 5" ∷ codes "# again" ∷ codes "plan 0 tail 6 quanta" ∷ [])) ≡ fault 5 Repeated
unfolding with_line
repeated = refl

-- code, whose end is a line with `endcode` alone
text : bundle_of (lf (codes "bundle 1" ∷ codes "slots 2" ∷ codes "task fuel 1 out 0 data 0" ∷ codes "code" ∷ codes "endcode # not yet" ∷ codes " endcode" ∷ codes "endtask" ∷ []))
    ≡ Ok (record {
      slots = 2;
      plans = [];
      tasks = record { fuel = 1; out_max = 0; data_len = 0; band = 0; tape = []; code = Text 5 (codes "endcode # not yet" ∷ []) } ∷ [];
      worlds = [];
      events = [];
      order = [];
    })
unfolding with_line
text = refl

-- a plan after a task
misplaced : bundle_of (lf (codes "bundle 1" ∷ codes "slots 1" ∷ codes "task fuel 1 out 0 data 0" ∷ codes "endtask" ∷ codes "plan x" ∷ [])) ≡ fault 5 Misplaced
unfolding with_line
misplaced = refl

-- a comment with a byte that isn't of text
not_text : bundle_of (codes "bundle 1" ++ 10 ∷ codes "#" ++ 127 ∷ 10 ∷ []) ≡ fault 2 NotText
unfolding with_line
not_text = refl

-- worlds of two lengths, judged before the number
uneven : bundle_of (lf (codes "bundle 1" ∷ codes "slots 1" ∷ codes "world 0 1 2" ∷ codes "world x 1" ∷ [])) ≡ fault 4 Operands
unfolding with_line
uneven = refl

-- a number of its form out of its range before one that isn't of its form
from_the_left : bundle_of (lf (codes "bundle 1" ∷ codes "slots 1" ∷ codes "task fuel 0 out x data 0" ∷ [])) ≡ fault 3 OutOfRange
unfolding with_line
from_the_left = refl

-- ---- bands

abbrev text_with : List ℕ → List ℕ → List ℕ
text_with version task = lf (version ∷ codes "slots 1" ∷ task ∷ codes "endtask" ∷ [])

abbrev one_task : ℕ → Result Bundle BundleFault
one_task band = Ok (record {
  slots = 1;
  plans = [];
  tasks = record { fuel = 1; out_max = 2; data_len = 3; band = band; tape = []; code = Words [] } ∷ [];
  worlds = [];
  events = [];
  order = [];
})

band_1 : bundle_of (text_with (codes "bundle 2") (codes "task fuel 1 out 2 data 3 band 1")) ≡ one_task 1
unfolding with_line
band_1 = refl

band_0 : bundle_of (text_with (codes "bundle 02") (codes "task fuel 1 out 2 data 3 band 00")) ≡ one_task 0
unfolding with_line
band_0 = refl

no_band : bundle_of (text_with (codes "bundle 1") (codes "task fuel 1 out 2 data 3")) ≡ one_task 0
unfolding with_line
no_band = refl

version_0 : bundle_of (lf (codes "bundle 0" ∷ [])) ≡ fault 1 OutOfRange
unfolding with_line
version_0 = refl

version_3 : bundle_of (lf (codes "bundle 3" ∷ [])) ≡ fault 1 OutOfRange
unfolding with_line
version_3 = refl

-- a band in a text without bands
band_of_version_1 : bundle_of (text_with (codes "bundle 1") (codes "task fuel 1 out 2 data 3 band 0")) ≡ fault 3 Operands
unfolding with_line
band_of_version_1 = refl

-- a task of which a text with bands doesn't say the band
no_band_of_version_2 : bundle_of (text_with (codes "bundle 2") (codes "task fuel 1 out 2 data 3")) ≡ fault 3 Operands
unfolding with_line
no_band_of_version_2 = refl

band_twice : bundle_of (text_with (codes "bundle 2") (codes "task fuel 1 out 2 data 3 band 0 band 0")) ≡ fault 3 Operands
unfolding with_line
band_twice = refl

other_word : bundle_of (text_with (codes "bundle 2") (codes "task fuel 0 out 2 data 3 bands 0")) ≡ fault 3 Operands
unfolding with_line
other_word = refl

band_2 : bundle_of (text_with (codes "bundle 2") (codes "task fuel 1 out 2 data 3 band 2")) ≡ fault 3 OutOfRange
unfolding with_line
band_2 = refl

-- the band is judged after the other numbers
band_last : bundle_of (text_with (codes "bundle 2") (codes "task fuel 1 out 2 data 1025 band x")) ≡ fault 3 OutOfRange
unfolding with_line
band_last = refl
