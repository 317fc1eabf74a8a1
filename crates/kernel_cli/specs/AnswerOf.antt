-- The answer to a work over the bytes of its input, and over what it finds beside them: a status and a text. `run` and `drill` find an order,
-- `certify` and `certify 2` a verdict, `lint` what holds of a routine, and `lint SEED N` an order too; the other commands find nothing. The answers to
-- `gen` and `drill` don't hang on the bytes. It is a function, so it says of each of its statuses exactly where it comes:
--
-- - BadWords, with `bad words`: exactly where there is no command.
-- - BadInput: exactly where the input is refused. In this order, `too large` where it has more bytes than the limit; a line that
--   isn't of the form of a bundle; a line of code that doesn't assemble; a number outside its limits; a plan for a hart that
--   isn't there; a run that may be too long; for `replay` an entry of the order that isn't legal; for `certify` no worlds, too many of them,
--   or secrets with different numbers of them, and for `certify 2` after these too many pairs of places. Of `lint`: `too large`; a line with a byte that isn't of text; a line that doesn't assemble.
-- - LogFull, with `log full`: exactly where a command that keeps the log has no room for the next event. Whichever of this and of an entry
--   that isn't legal the run by an order comes to first is its answer.
-- - Verdict, with the line that says so: of `certify`, exactly where two worlds take different courses, and where a latch write tells something
--   of the secret; of `certify 2` there too, and where two of them together do; and of `lint`, exactly where the words break a rule.
-- - Fine, with the text of the command: everywhere else.
use Rattle.std.specs.Prelude.{◌≡◌, ℕ, Bool, ◌&&◌, List, length, Option, Some, None, nat_lt, if◌then◌else◌}
use Rattle.core_model.specs.declared.loaded.Loaded.{Loaded}
use Rattle.bundle_text.specs.Lines.{bundle_of}
use Rattle.kernel_cli.specs.Answer.{Answer, words_refused, too_large}
use Rattle.kernel_cli.specs.Bundles.{LoadAs, bundle_answer, loaded_answer, IsFoundIn}
use Rattle.kernel_cli.specs.Findings.{Finding, Nothing}
use Rattle.kernel_cli.specs.Generated.{generated_answer, IsFoundOfGenerated}
use Rattle.kernel_cli.specs.Lints.{words_in, words_answer, code_answer, IsFoundOfCode}
use Rattle.kernel_cli.specs.Runs.{run_answer, IsFoundByThreads}
use Rattle.kernel_cli.specs.Works.{harts_of, threads_of, reads, limit_of}
use Rattle.kernel_cli.specs.declared.work.Work.{Work}
use Rattle.kernel_cli.specs.declared.work.Work.TheVariants.{Bundle, Code, Generated, Threads}

-- the answer to a work over an input within its limit
abbrev pub work_answer : Work → Finding → List ℕ → Answer
work_answer (Bundle work) found bytes = bundle_answer (loaded_answer work found) (harts_of work) (bundle_of bytes)
work_answer (Code work) found bytes = words_answer (words_in bytes) (code_answer work found)
work_answer (Generated work) found bytes = generated_answer work found
work_answer (Threads work) found bytes = bundle_answer (run_answer work found) (threads_of work) (bundle_of bytes)

-- The work reads, and there are more bytes than it reads.
abbrev pub is_too_large : Work → List ℕ → Bool
is_too_large work bytes = reads work && nat_lt (limit_of (Some work)) (length bytes)

abbrev pub answer_of : Option Work → Finding → List ℕ → Answer
answer_of None found bytes = words_refused
answer_of (Some work) found bytes = if is_too_large work bytes then too_large else work_answer work found bytes

-- what it finds of whatever it loads or assembles
abbrev pub IsFound : Option Work → List ℕ → Finding → Type 0
IsFound None bytes found = found ≡ Nothing
IsFound (Some (Bundle work)) bytes found = (loaded : Loaded) → LoadAs (harts_of work) bytes loaded → IsFoundIn work loaded found
IsFound (Some (Code work)) bytes found = IsFoundOfCode work bytes found
IsFound (Some (Generated work)) bytes found = IsFoundOfGenerated work found
IsFound (Some (Threads work)) bytes found = (loaded : Loaded) → LoadAs (threads_of work) bytes loaded → IsFoundByThreads work loaded found
