-- What the program answers: a status and a text.
use Rattle.std.specs.Prelude.{ℕ, List, Option, Some, None, codes}
use Rattle.kernel_cli.specs.declared.status.Status.{Status}
use Rattle.kernel_cli.specs.declared.status.Status.TheVariants.{Fine, Verdict, BadWords, BadInput, LogFull}

pub record Answer : Type 0 where
  pub status : Status
  pub text : List ℕ

abbrev pub words_refused : Answer
words_refused = record { status = BadWords; text = codes "bad words\n" }

-- the input is refused with this line
abbrev pub refused : List ℕ → Answer
refused text = record { status = BadInput; text = text }

abbrev pub too_large : Answer
too_large = refused (codes "too large\n")

abbrev pub log_full : Answer
log_full = record { status = LogFull; text = codes "log full\n" }

-- the command is done, with this text
abbrev pub done : List ℕ → Answer
done text = record { status = Fine; text = text }

-- the answer of the text of a log with the report, if the log has room for every event
abbrev pub answer_of_text : Option (List ℕ) → Answer
answer_of_text (Some text) = done text
answer_of_text None = log_full

-- the answer to what is judged of a task, or of a routine
abbrev pub judged : List ℕ → Answer
judged text = record { status = Verdict; text = text }
