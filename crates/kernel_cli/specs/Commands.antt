-- The words of the command line, and the command that they are.
use Rattle.std.specs.Prelude.{◌≡◌, ℕ, ◌-◌, ◌≤◌, Bool, true, false, ◌&&◌, List, [], ◌∷◌, Option, Some, None, length, codes, decimal, nat_lt, nat_le, if◌then◌else◌}
use Rattle.std.specs.Str.{bytes_eq}
use Rattle.timer_plan.specs.Tokens.{IsDecimal}
use Rattle.bundle_text.specs.Numbers.{decimal_of}
use Rattle.kernel_cli.specs.declared.command.Command.{Command}
use Rattle.kernel_cli.specs.declared.command.Command.TheVariants.{Alone, Asm, Run, Script, Replay, Explain, Certify, CertifyTwo, Gen, Drill, Lint, LintDrill}

-- how many harts a command may ask for
abbrev pub IsHartCount : ℕ → Type 0
IsHartCount harts = (1 ≤ harts) × (harts ≤ 8)

-- The word is 1 to `most` decimal digits of this number, from `low` to `high`. Zeros may stand first.
pub record IsNumberIn (most low high : ℕ) (word : List ℕ) (number : ℕ) : Type 0 where
  pub decimal : IsDecimal word number
  pub few : length word ≤ most
  pub least : low ≤ number
  pub greatest : number ≤ high

-- a number of 64 bits: 1 to 20 digits
abbrev pub IsSeed : List ℕ → ℕ → Type 0
IsSeed = IsNumberIn 20 0 18446744073709551615

-- how many tasks a bundle of a number may have, 1 to 32: one digit or two
abbrev pub IsTaskCount : List ℕ → ℕ → Type 0
IsTaskCount = IsNumberIn 2 1 32

-- The words are this one and two such numbers.
pub record SpellsNumbers (name : List ℕ) (words : List (List ℕ)) (seed tasks : ℕ) : Type 0 where
  pub seed_word : List ℕ
  pub tasks_word : List ℕ
  pub words_are : words ≡ name ∷ seed_word ∷ tasks_word ∷ []
  pub seed_is : IsSeed seed_word seed
  pub tasks_are : IsTaskCount tasks_word tasks

-- The words spell this command. A number of harts is one decimal digit, so each command has one spelling, but for those with a seed and a
-- number of tasks, which may begin with zeros.
abbrev pub SpellsCommand : List (List ℕ) → Command → Type 0
SpellsCommand words Alone = words ≡ codes "alone" ∷ []
SpellsCommand words Asm = words ≡ codes "asm" ∷ []
SpellsCommand words (Run harts) = IsHartCount harts × (words ≡ codes "run" ∷ decimal harts ∷ [])
SpellsCommand words (Script false) = words ≡ codes "script" ∷ []
SpellsCommand words (Script true) = words ≡ codes "script" ∷ codes "probes" ∷ []
SpellsCommand words (Replay harts false) = IsHartCount harts × (words ≡ codes "replay" ∷ decimal harts ∷ [])
SpellsCommand words (Replay harts true) = IsHartCount harts × (words ≡ codes "replay" ∷ decimal harts ∷ codes "probes" ∷ [])
SpellsCommand words Explain = words ≡ codes "explain" ∷ []
SpellsCommand words Certify = words ≡ codes "certify" ∷ []
SpellsCommand words CertifyTwo = words ≡ codes "certify" ∷ codes "2" ∷ []
SpellsCommand words (Gen seed tasks) = SpellsNumbers (codes "gen") words seed tasks
SpellsCommand words (Drill seed tasks) = SpellsNumbers (codes "drill") words seed tasks
SpellsCommand words Lint = words ≡ codes "lint" ∷ []
SpellsCommand words (LintDrill seed tasks) = SpellsNumbers (codes "lint") words seed tasks

-- the command of one word
abbrev pub command_named : List ℕ → Option Command
command_named word =
    if bytes_eq word (codes "alone") then Some Alone
    else if bytes_eq word (codes "asm") then Some Asm
    else if bytes_eq word (codes "script") then Some (Script false)
    else if bytes_eq word (codes "explain") then Some Explain
    else if bytes_eq word (codes "certify") then Some Certify
    else if bytes_eq word (codes "lint") then Some Lint
    else None

-- the number of harts of a word: of `1` to `8`, whose codes are 49 to 56
abbrev pub count_of_code : ℕ → Option ℕ
count_of_code code = if nat_lt 48 code && nat_lt code 57 then Some (code - 48) else None

abbrev pub hart_count : List ℕ → Option ℕ
hart_count (code ∷ []) = count_of_code code
hart_count _ = None

-- a run and a replay by so many harts
abbrev pub run_by : Option ℕ → Option Command
run_by None = None
run_by (Some harts) = Some (Run harts)

abbrev pub replay_by : Option ℕ → Bool → Option Command
replay_by None probes = None
replay_by (Some harts) probes = Some (Replay harts probes)

-- the command of two words
abbrev pub command_detailed : List ℕ → List ℕ → Option Command
command_detailed word detail =
    if bytes_eq word (codes "run") then run_by (hart_count detail)
    else if bytes_eq word (codes "replay") then replay_by (hart_count detail) false
    else if bytes_eq word (codes "script") && bytes_eq detail (codes "probes") then Some (Script true)
    else if bytes_eq word (codes "certify") && bytes_eq detail (codes "2") then Some CertifyTwo
    else None

-- the number, if it is one and in the range
abbrev pub within : ℕ → ℕ → Option ℕ → Option ℕ
within low high None = None
within low high (Some number) = if nat_le low number && nat_le number high then Some number else None

-- the number of a word of at most so many decimal digits, if it is in the range
abbrev pub number_in : ℕ → ℕ → ℕ → List ℕ → Option ℕ
number_in most low high word = if nat_lt most (length word) then None else within low high (decimal_of word)

-- a command about the bundle of a number: the bundle, its run, and its run with a routine of one's own
abbrev pub numbered : List ℕ → ℕ → ℕ → Option Command
numbered word seed tasks =
    if bytes_eq word (codes "gen") then Some (Gen seed tasks)
    else if bytes_eq word (codes "drill") then Some (Drill seed tasks)
    else if bytes_eq word (codes "lint") then Some (LintDrill seed tasks)
    else None

-- where both are numbers
abbrev pub numbered_by : List ℕ → Option ℕ → Option ℕ → Option Command
numbered_by word None tasks = None
numbered_by word (Some seed) None = None
numbered_by word (Some seed) (Some tasks) = numbered word seed tasks

abbrev pub command_with_numbers : List ℕ → List ℕ → List ℕ → Option Command
command_with_numbers word seed tasks = numbered_by word (number_in 20 0 18446744073709551615 seed) (number_in 2 1 32 tasks)

-- the command of three words
abbrev pub command_of_three : List ℕ → List ℕ → List ℕ → Option Command
command_of_three word detail more =
    if bytes_eq word (codes "replay") && bytes_eq more (codes "probes") then replay_by (hart_count detail) true
    else command_with_numbers word detail more

-- the command of the words, if they spell one
abbrev pub command_of : List (List ℕ) → Option Command
command_of (word ∷ []) = command_named word
command_of (word ∷ detail ∷ []) = command_detailed word detail
command_of (word ∷ detail ∷ more ∷ []) = command_of_three word detail more
command_of _ = None
