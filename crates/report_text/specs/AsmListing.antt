-- The listing of the code of tasks: for each word its address, its four bytes as they lie in memory, and its text.
use Rattle.std.specs.Prelude.{ℕ, ◌+◌, List, [], ◌∷◌, ◌++◌, codes, decimal}
use Rattle.std.specs.Int.{to_le_bytes, w32}
use Rattle.hex.specs.Hex.{encode_lower}
use Rattle.isa_model.specs.declared.task.Task.{Task}
use Rattle.rv_asm.specs.Disassembly.{line_of_word}
use Rattle.report_text.specs.Texts.{hex_word}

-- the bytes of a word in memory, the least significant first
abbrev pub memory_bytes : ℕ → List ℕ
memory_bytes word = encode_lower (to_le_bytes w32 word)

-- the line of the word at an address
unfoldable pub word_line : ℕ → ℕ → List ℕ
word_line at word = hex_word at ++ (codes " " ++ (memory_bytes word ++ (codes " " ++ (line_of_word word ++ codes "\n"))))

-- the lines of words that stand from an address on
abbrev pub word_lines : ℕ → List ℕ → List ℕ
word_lines at [] = []
word_lines at (word ∷ words) = word_line at word ++ word_lines (at + 4) words

-- the lines of task number t
abbrev pub code_lines : ℕ → Task → List ℕ
code_lines t task = (codes "task " ++ (decimal t ++ codes "\n")) ++ word_lines task.code_at task.code

-- the lines of the tasks that have the numbers from t on
abbrev pub listing_from : ℕ → List Task → List ℕ
listing_from t [] = []
listing_from t (task ∷ others) = code_lines t task ++ listing_from (t + 1) others

-- the listing of the tasks, numbered from 0
abbrev pub asm_text_of : List Task → List ℕ
asm_text_of tasks = listing_from 0 tasks
