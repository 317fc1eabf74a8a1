-- What the top call promises, for each status that it may have.
use Rattle.std.specs.Prelude.{◌≡◌, ◌⊎◌, true, false, ⊤, ℕ, ◌+◌, ◌<◌, ◌≤◌, List, ◌++◌, Option, Some, None, IfSome, length, take, drop, slice_get}
use Rattle.std.specs.Io.KnownBytes.{IsAtEnd}
use Rattle.io_edge.specs.Causes.{Rose, ConsumesAtMost}
use Rattle.io_edge.specs.Gone.{SourceTells, SinkTells, Gave, Took}
use Rattle.isa_model.specs.declared.task.Task.{Task}
use Rattle.core_model.specs.declared.event.Event.{Event}
use Rattle.core_model.specs.declared.loaded.Loaded.{Loaded}
use Rattle.core_invariant.specs.KernelStates.{emitted_parts, linked_parts}
use Rattle.scrub_rules.specs.Parts.{Parts}
use Rattle.scrub_rules.specs.Broken.{AreAcceptedParts}
use Rattle.kernel_cli.specs.Answer.{words_refused}
use Rattle.kernel_cli.specs.AnswerOf.{answer_of, IsFound}
use Rattle.kernel_cli.specs.Bundles.{LoadAs}
use Rattle.kernel_cli.specs.Findings.{Finding}
use Rattle.kernel_cli.specs.Generated.{IsGenerated}
use Rattle.kernel_cli.specs.Lints.{AssembleAs}
use Rattle.kernel_cli.specs.Security.{IsSecureFor}
use Rattle.kernel_cli.specs.Soundness.{IsRunSound}
use Rattle.kernel_cli.specs.Statuses.{IsRefusal}
use Rattle.kernel_cli.specs.Works.{harts_of, threads_of, reads_source, limit_of, HasCounts}
use Rattle.kernel_cli.specs.declared.status.Status.{Status}
use Rattle.kernel_cli.specs.declared.status.Status.TheVariants.{Fine, Verdict, BadWords, BadInput, ReadFault, WriteFault, Memory, LogFull}
use Rattle.kernel_cli.specs.declared.work.Work.{Work}
use Rattle.kernel_cli.specs.declared.work.Work.TheVariants.{Bundle, Code, Generated, Threads}
use Rattle.kernel_cli.specs.declared.work.BundleWork.{BundleWork}
use Rattle.kernel_cli.specs.declared.work.CodeWork.TheVariants.{Lint, LintDrill}
use Rattle.kernel_cli.specs.declared.work.GeneratedWork.TheVariants.{Gen, Drill}

-- The bytes are those that were left, where the source tells them.
abbrev pub WereLeft : List ℕ → SourceTells → Type 0
WereLeft bytes src = IfSome src.left (λ told. bytes ≡ told)

-- A work that reads was given these bytes in this call, and of more bytes than its limit one more than the limit.
abbrev pub WereGiven : Option Work → List ℕ → SourceTells → SourceTells → Type 0
WereGiven work bytes src src' = reads_source work ≡ true → src'.given ≡ src.given ++ take (limit_of work + 1) bytes

-- The answer to the work, over the bytes that were left and that it was given, has this status, and the sink took its text. So it is over the
-- bytes that the source gave in this call, whether or not it tells what is left. It is the answer over what the work finds: for `run` and
-- `drill` an order that its harts may make, for `certify` and `certify 2` the verdict, for `lint` what holds of the routine, and for `lint SEED N` an order too.
abbrev pub Answers : Option Work → Status → SourceTells → SourceTells → SinkTells → SinkTells → Type 0
Answers work status src src' sink sink' =
    (bytes : List ℕ) × (found : Finding) × WereLeft bytes src × WereGiven work bytes src src' × IsFound work bytes found
    × ((answer_of work found bytes).status ≡ status) × Took sink sink' (answer_of work found bytes).text

-- The sink took a front of the text that isn't all of it.
abbrev pub TookPart : SinkTells → SinkTells → List ℕ → Type 0
TookPart sink sink' text = (gone : ℕ) × (gone < length text) × Took sink sink' (take gone text)

-- A text was written with the status that was asked for it, or a part of it with a write fault, which the sink counted.
abbrev pub WritesOrFails : Status → SinkTells → SinkTells → ℕ → ℕ → List ℕ → Status → Type 0
WritesOrFails asked sink sink' faults faults' text status =
    ((status ≡ asked) × Took sink sink' text) ⊎ ((status ≡ WriteFault) × Rose faults faults' × TookPart sink sink' text)

-- The sink took a part of the answer's text. That of words that are no command doesn't hang on the source.
abbrev pub BeginsToAnswer : Option Work → SourceTells → SourceTells → SinkTells → SinkTells → Type 0
BeginsToAnswer None src src' sink sink' = TookPart sink sink' words_refused.text
BeginsToAnswer (Some work) src src' sink sink' =
    (bytes : List ℕ) × (found : Finding) × WereLeft bytes src × WereGiven (Some work) bytes src src' × IsFound (Some work) bytes found
    × TookPart sink sink' (answer_of (Some work) found bytes).text

-- No byte is left, where the source tells them, and the last read met the end.
pub record HasEnded (src' : SourceTells) : Type 0 where
  pub told : IsAtEnd src'.left
  pub met : src'.ended ≡ true

-- More bytes than the limit were left, and one more than the limit was taken.
pub record IsTooLarge (limit : ℕ) (src src' : SourceTells) : Type 0 where
  pub told : IfSome src.left (λ bytes. (limit < length bytes) × (src'.left ≡ Some (drop (limit + 1) bytes)))
  pub gave : (bytes : List ℕ) × (length bytes ≡ limit + 1) × Gave src src' bytes

-- The source was read to its end, or past the limit of the work.
abbrev pub WasRead : Option Work → SourceTells → SourceTells → Type 0
WasRead work src src' = HasEnded src' ⊎ IsTooLarge (limit_of work) src src'

-- So it was, if the work reads it: to its end, and to its end or past the limit.
abbrev pub IsReadOut : Option Work → SourceTells → Type 0
IsReadOut work src' = reads_source work ≡ true → HasEnded src'

abbrev pub WasReadFor : Option Work → SourceTells → SourceTells → Type 0
WasReadFor work src src' = reads_source work ≡ true → WasRead work src src'

-- At most one byte past the limit was taken.
pub record TakesAtMost (limit : ℕ) (src src' : SourceTells) : Type 0 where
  pub told : ConsumesAtMost src.left src'.left (limit + 1)
  pub gave : (bytes : List ℕ) × (length bytes ≤ limit + 1) × Gave src src' bytes

-- Whatever bytes were left that load for so many harts: the core that they load as is sound after any number of any events, and so of those
-- that a work runs it by, whatever it finds.
abbrev pub IsLoadedCoreSound : ℕ → SourceTells → Type 0
IsLoadedCoreSound harts src = (bytes : List ℕ) (loaded : Loaded) → WereLeft bytes src → LoadAs harts bytes loaded
    → (events : List Event) → IsRunSound emitted_parts loaded events

-- So is the core of the bundle of a number.
abbrev pub IsGeneratedCoreSound : ℕ → ℕ → Type 0
IsGeneratedCoreSound seed tasks = (loaded : Loaded) → IsGenerated seed tasks loaded → (events : List Event) → IsRunSound emitted_parts loaded events

-- Whatever bytes were left that assemble to a routine which is accepted: so is the core of the bundle of a number under the kernel with its two
-- parts.
abbrev pub IsLintedCoreSound : ℕ → ℕ → SourceTells → Type 0
IsLintedCoreSound seed tasks src = (bytes words : List ℕ) (parts : Parts) (loaded : Loaded) → WereLeft bytes src → AssembleAs bytes words
    → AreAcceptedParts words parts.save parts.restore → IsGenerated seed tasks loaded
    → (events : List Event) → IsRunSound (linked_parts parts.save parts.restore) loaded events

-- the core of a work, where it has one
abbrev pub IsCoreSoundFor : Option Work → SourceTells → Type 0
IsCoreSoundFor None src = ⊤
IsCoreSoundFor (Some (Bundle work)) src = IsLoadedCoreSound (harts_of work) src
IsCoreSoundFor (Some (Code Lint)) src = ⊤
IsCoreSoundFor (Some (Code (LintDrill seed tasks))) src = IsLintedCoreSound seed tasks src
IsCoreSoundFor (Some (Generated (Gen seed tasks))) src = ⊤
IsCoreSoundFor (Some (Generated (Drill seed tasks))) src = IsGeneratedCoreSound seed tasks
IsCoreSoundFor (Some (Threads work)) src = IsLoadedCoreSound (threads_of work) src

-- So it is of every work of words, whatever the source.
abbrev pub AreWorksSound : Type 0
AreWorksSound = (work : Work) → HasCounts work → (src : SourceTells) → IsCoreSoundFor (Some work) src

-- Where these bytes load, the first task is as secure in the bundle's worlds as the work says: alone and in every core.
abbrev pub IsFirstTaskSecure : BundleWork → List ℕ → Type 0
IsFirstTaskSecure work bytes = (loaded : Loaded) → LoadAs (harts_of work) bytes loaded
    → (T : Task) → slice_get loaded.tasks 0 ≡ Some T → IsSecureFor work T loaded.worlds

-- So it is in the bytes that were left, where the source tells them, and in those that the source gave in this call.
pub record IsInputSecure (work : BundleWork) (src src' : SourceTells) : Type 0 where
  pub told : IfSome src.left (IsFirstTaskSecure work)
  pub gave : (bytes : List ℕ) → src'.given ≡ src.given ++ bytes → IsFirstTaskSecure work bytes

-- These bytes were left, no more of them than the limit, and the source gave them all and was read to its end.
pub record WasInput (limit : ℕ) (src src' : SourceTells) (bytes : List ℕ) : Type 0 where
  pub were : WereLeft bytes src
  pub gave : Gave src src' bytes
  pub within : length bytes ≤ limit
  pub end : HasEnded src'
  pub taken : TakesAtMost limit src src'

-- The call has ended with this status. It found the source and the sink as `src` and `sink` and leaves them as `src'` and
-- `sink'`. `source` says what a source tells of its bytes, and `kept` what a sink tells of its; both count their faults. The work is that of the
-- words, or none, where they are no command.
pub record IsAnswered {S K : Type 0} (source : S → SourceTells) (read_faults : S → ℕ) (kept : K → SinkTells) (write_faults : K → ℕ)
    (work : Option Work) (src src' : S) (sink sink' : K) (status : Status) : Type 0 where
  -- words that are no command are refused before the source is touched
  pub refused : work ≡ None → (src' ≡ src) × IsRefusal status
  -- a work that doesn't read leaves the source as it is
  pub unread : reads_source work ≡ false → src' ≡ src
  pub bad_words : status ≡ BadWords → (work ≡ None) × Took (kept sink) (kept sink') words_refused.text
  -- The answer is written. The source was read to its end, but for input that is too large, and for a work that doesn't read, which ends
  -- fine whatever the bytes are.
  pub fine : status ≡ Fine → IsReadOut work (source src') × Answers work Fine (source src) (source src') (kept sink) (kept sink')
  pub bad_input : status ≡ BadInput
      → WasRead work (source src) (source src') × Answers work BadInput (source src) (source src') (kept sink) (kept sink')
  pub log_full : status ≡ LogFull → HasEnded (source src') × Answers work LogFull (source src) (source src') (kept sink) (kept sink')
  pub verdict : status ≡ Verdict → HasEnded (source src') × Answers work Verdict (source src) (source src') (kept sink) (kept sink')
  -- a fault comes only where the source or the sink counted one, a read fault only of a work that reads; the whole text is made before any
  -- of it is written
  pub read_fault : status ≡ ReadFault → Rose (read_faults src) (read_faults src') × (reads_source work ≡ true) × (sink' ≡ sink)
  pub write_fault : status ≡ WriteFault → Rose (write_faults sink) (write_faults sink')
      × BeginsToAnswer work (source src) (source src') (kept sink) (kept sink') × WasReadFor work (source src) (source src')
  pub memory : status ≡ Memory → sink' ≡ sink
  -- A core that the work runs is sound all the way. This is a law about the definitions, whatever the call does; by the answer above it
  -- is said of the core whose report and log are written.
  pub cores_sound : IsCoreSoundFor work (source src)
  -- where `certify` ends fine, its task tells nothing of the secret by one probe, and where `certify 2` does, by two: alone, and in the log of
  -- every core that runs it
  pub certified : (judging : BundleWork) → work ≡ Some (Bundle judging) → status ≡ Fine → IsInputSecure judging (source src) (source src')
  -- whatever the status, at most one byte past the limit is taken
  pub taken : TakesAtMost (limit_of work) (source src) (source src')
