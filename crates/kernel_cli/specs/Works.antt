-- The work of a command, by what it takes: what it reads, for how many harts, and whether threads do it.
use Rattle.std.specs.Prelude.{ℕ, ◌≤◌, Bool, true, false, ⊤, List, Option, Some, None, option_map}
use Rattle.kernel_cli.specs.Commands.{IsHartCount, command_of}
use Rattle.kernel_cli.specs.declared.command.Command.{Command}
use Rattle.kernel_cli.specs.declared.command.Command.TheVariants as commands
use Rattle.kernel_cli.specs.declared.work.Work.{Work}
use Rattle.kernel_cli.specs.declared.work.Work.TheVariants.{Bundle, Code, Generated, Threads}
use Rattle.kernel_cli.specs.declared.work.BundleWork.{BundleWork}
use Rattle.kernel_cli.specs.declared.work.BundleWork.TheVariants.{Alone, Asm, Script, Replay, Explain, Certify, CertifyTwo}
use Rattle.kernel_cli.specs.declared.work.CodeWork.TheVariants.{Lint, LintDrill}
use Rattle.kernel_cli.specs.declared.work.GeneratedWork.TheVariants.{Gen, Drill}
use Rattle.kernel_cli.specs.declared.work.ThreadWork.{ThreadWork}
use Rattle.kernel_cli.specs.declared.work.ThreadWork.TheVariants.{Run}

-- the work of a command
abbrev pub work_of : Command → Work
work_of commands.Alone = Bundle Alone
work_of commands.Asm = Bundle Asm
work_of (commands.Run harts) = Threads (Run harts)
work_of (commands.Script probes) = Bundle (Script probes)
work_of (commands.Replay harts probes) = Bundle (Replay harts probes)
work_of commands.Explain = Bundle Explain
work_of commands.Certify = Bundle Certify
work_of commands.CertifyTwo = Bundle CertifyTwo
work_of (commands.Gen seed tasks) = Generated (Gen seed tasks)
work_of (commands.Drill seed tasks) = Generated (Drill seed tasks)
work_of commands.Lint = Code Lint
work_of (commands.LintDrill seed tasks) = Code (LintDrill seed tasks)

-- the work of the words, if they spell a command
abbrev pub work_in : List (List ℕ) → Option Work
work_in words = option_map work_of (command_of words)

-- how many harts a bundle is loaded for, by one thread and by threads
abbrev pub harts_of : BundleWork → ℕ
harts_of (Replay harts probes) = harts
harts_of work = 8

abbrev pub threads_of : ThreadWork → ℕ
threads_of (Run harts) = harts

-- how many tasks the bundle of a number has
abbrev pub IsTaskNumber : ℕ → Type 0
IsTaskNumber tasks = (1 ≤ tasks) × (tasks ≤ 32)

-- The work of words asks for 1 to 8 harts, and for the bundle of a number with 1 to 32 tasks.
abbrev pub HasCounts : Work → Type 0
HasCounts (Bundle work) = IsHartCount (harts_of work)
HasCounts (Code Lint) = ⊤
HasCounts (Code (LintDrill seed tasks)) = IsTaskNumber tasks
HasCounts (Generated (Gen seed tasks)) = IsTaskNumber tasks
HasCounts (Generated (Drill seed tasks)) = IsTaskNumber tasks
HasCounts (Threads work) = IsHartCount (threads_of work)

-- whether a work reads the source; words that are no command don't
abbrev pub reads : Work → Bool
reads (Generated work) = false
reads work = true

abbrev pub reads_source : Option Work → Bool
reads_source None = false
reads_source (Some work) = reads work

-- how many bytes of input are read at most as a bundle, or as code, and of a work
abbrev pub text_limit : ℕ
text_limit = 4194304

abbrev pub limit_of : Option Work → ℕ
limit_of None = 0
limit_of (Some (Generated work)) = 0
limit_of (Some work) = text_limit

-- The work of the words, if one thread does it, and if threads do it, one for each hart.
abbrev pub served_by_one : Option Work → Option Work
served_by_one (Some (Threads work)) = None
served_by_one work = work

abbrev pub served_by_threads : Option Work → Option Work
served_by_threads (Some (Threads work)) = Some (Threads work)
served_by_threads work = None
