-- The entries of a log that aren't public, with the values of the undisturbed runs that they name (this project's own).
use Rattle.std.specs.Prelude.{ℕ, List, [], ◌++◌, codes, if◌then◌else◌}
use Rattle.std.specs.List.{flat_map}
use Rattle.isa_model.specs.declared.task.Task.{Task}
use Rattle.hart_model.specs.declared.probe.Probe.{Probe}
use Rattle.probe_log.specs.Counts.{is_public}
use Rattle.probe_inspect.specs.declared.shown.Shown.{Shown}
use Rattle.probe_inspect.specs.declared.shown.Shown.TheVariants.{Nothing, Value, Pair}
use Rattle.probe_inspect.specs.Shown.{shown_of}
use Rattle.report_text.specs.Texts.{hex_word}
use Rattle.report_text.specs.Listing.{entry_text}

-- what the undisturbed run shows
abbrev pub shown_text : Shown → List ℕ
shown_text Nothing = []
shown_text (Value value) = codes " alone " ++ hex_word value
shown_text (Pair was now) = codes " alone " ++ (hex_word was ++ (codes " " ++ hex_word now))

-- the line of an entry, and nothing for one that is public
unfoldable pub explanation_of : List Task → Probe → List ℕ
explanation_of tasks p = if is_public p.why then [] else entry_text p ++ (shown_text (shown_of tasks p) ++ codes "\n")

-- the lines of a log
abbrev pub explain_text_of : List Task → List Probe → List ℕ
explain_text_of tasks log = flat_map (explanation_of tasks) log
