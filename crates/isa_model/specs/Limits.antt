-- The limits of what can be run (this project's own): the greatest number of each thing, or the greatest value of a number.
use Rattle.std.specs.Prelude.{ℕ}

-- of a task: its words of code, of data, of its tape and of its output, and the instructions that it may execute
abbrev pub max_code_words : ℕ
max_code_words = 4096

abbrev pub max_data_words : ℕ
max_data_words = 1024

-- of a world too
abbrev pub max_tape_words : ℕ
max_tape_words = 4096

abbrev pub max_output_words : ℕ
max_output_words = 4096

abbrev pub max_fuel : ℕ
max_fuel = 100000

-- of a bundle
abbrev pub max_tasks : ℕ
max_tasks = 32

abbrev pub max_worlds : ℕ
max_worlds = 65536

-- of a core; the bands are 0 and 1
abbrev pub max_harts : ℕ
max_harts = 8

abbrev pub max_slots : ℕ
max_slots = 8

abbrev pub max_band : ℕ
max_band = 1

-- of a plan: the greatest quantum and the greatest tail, and how many quanta there are
abbrev pub max_quantum : ℕ
max_quantum = 4096

abbrev pub max_quanta : ℕ
max_quanta = 1024

-- of a core, and of a core's order, both written out
abbrev pub max_events : ℕ
max_events = 1048576

abbrev pub max_order_entries : ℕ
max_order_entries = 1048576

-- the greatest bound of the queue actions
abbrev pub max_action_bound : ℕ
max_action_bound = 1048576
