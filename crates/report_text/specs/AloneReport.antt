-- The report of tasks that ran alone.
use Rattle.std.specs.Prelude.{ℕ, ◌+◌, List, [], ◌∷◌, ◌++◌, codes, decimal}
use Rattle.std.specs.List.{flat_map}
use Rattle.isa_model.specs.declared.ends.End.{End}
use Rattle.alone_run.specs.declared.running.Ended.{Ended}
use Rattle.report_text.specs.Texts.{hex_word, end_text}

-- a blank and the word
abbrev pub output_word : ℕ → List ℕ
output_word word = codes " " ++ hex_word word

abbrev pub output_words : List ℕ → List ℕ
output_words words = flat_map output_word words

-- the line of how task number t ended, and what follows it
abbrev pub end_line : ℕ → End → ℕ → List ℕ → List ℕ
end_line t end count rest = codes "task " ++ (decimal t ++ (codes ": " ++ (end_text end ++ (codes " count " ++ (decimal count ++ (codes "\n" ++ rest))))))

-- the line of the output of task number t
abbrev pub out_line : ℕ → List ℕ → List ℕ
out_line t output = codes "out " ++ (decimal t ++ (codes ":" ++ (output_words output ++ codes "\n")))

-- the two lines of task number t
unfoldable pub task_lines : ℕ → Ended → List ℕ
task_lines t ended = end_line t ended.end ended.count (out_line t ended.output)

-- the lines of the tasks that have the numbers from t on
abbrev pub report_from : ℕ → List Ended → List ℕ
report_from t [] = []
report_from t (ended ∷ others) = task_lines t ended ++ report_from (t + 1) others

-- the report of the tasks, numbered from 0
abbrev pub alone_report_of : List Ended → List ℕ
alone_report_of ends = report_from 0 ends
