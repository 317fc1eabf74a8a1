-- The report of a core (this project's own).
use Rattle.std.specs.Prelude.{◌≡◌, ◌↔◌, ℕ, ◌+◌, List, [], ◌∷◌, ◌++◌, codes, decimal, slice_index, Option, Some, None, IsSome}
use Rattle.isa_model.specs.declared.ends.End.{End}
use Rattle.core_model.specs.declared.home.Home.{Home}
use Rattle.core_model.specs.declared.home.Home.TheVariants.{Waiting, Slot, Hart, Ended}
use Rattle.timer_plan.specs.OrderText.{order_text_of}
use Rattle.probe_log.specs.Counts.{Counts, total_of}
use Rattle.kernel_core.specs.declared.snapshot.TaskState.{TaskState}
use Rattle.kernel_core.specs.declared.snapshot.Snapshot.{Snapshot}
use Rattle.report_text.specs.Texts.{end_text}
use Rattle.report_text.specs.AloneReport.{out_line}

-- a task has an end exactly where it has ended
abbrev pub EndsAtHome : TaskState → Type 0
EndsAtHome s = IsSome s.end ↔ (s.home ≡ Ended)

-- where a task is; one that has ended has its end in place of this
abbrev pub place_text : Home → List ℕ
place_text Waiting = codes "waiting"
place_text (Slot slot) = codes "slot " ++ decimal slot
place_text (Hart hart slot) = codes "hart " ++ (decimal hart ++ (codes " slot " ++ decimal slot))
place_text Ended = []

-- how a task ended, else where it is
abbrev pub state_text : Option End → Home → List ℕ
state_text (Some end) home = end_text end
state_text None home = place_text home

-- the two lines of task number t
unfoldable pub state_lines : ℕ → TaskState → List ℕ
state_lines t s =
    codes "task " ++ (decimal t ++ (codes ": " ++ (state_text s.end s.home ++ (codes " count " ++ (decimal s.count ++ (codes "\n" ++ out_line t s.output))))))

-- the lines of the tasks that have the numbers from t on
abbrev pub states_from : ℕ → List TaskState → List ℕ
states_from t [] = []
states_from t (s ∷ others) = state_lines t s ++ states_from (t + 1) others

-- a name and a number
abbrev pub count_text : List ℕ → ℕ → List ℕ
count_text name count = name ++ decimal count

-- how many entries the log has, and how many of each why
unfoldable pub probes_line : Counts → List ℕ
probes_line c =
    count_text (codes "probes ") (total_of c) ++ (count_text (codes " public ") c.public ++ (count_text (codes " value ") c.value
    ++ (count_text (codes " step ") c.step ++ (count_text (codes " unexplained ") c.unexplained ++ codes "\n"))))

-- how many entries are of each kind of latch
unfoldable pub latches_line : List ℕ → List ℕ
latches_line kinds =
    count_text (codes "latches reg ") (slice_index kinds 0) ++ (count_text (codes " portA ") (slice_index kinds 1)
    ++ (count_text (codes " portB ") (slice_index kinds 2) ++ (count_text (codes " res ") (slice_index kinds 3)
    ++ (count_text (codes " load ") (slice_index kinds 4) ++ (count_text (codes " store ") (slice_index kinds 5)
    ++ (count_text (codes " scr ") (slice_index kinds 6) ++ (count_text (codes " mem ") (slice_index kinds 7) ++ codes "\n")))))))

-- the line of an order
abbrev pub order_line_of : List ℕ → List ℕ
order_line_of order = codes "order" ++ (order_text_of order ++ codes "\n")

-- the report of a core
abbrev pub report_of : Snapshot → List ℕ
report_of s =
    count_text (codes "harts ") s.harts ++ (codes "\n" ++ (order_line_of s.order ++ (states_from 0 s.tasks
    ++ (probes_line s.tally ++ latches_line s.tally.latches))))
