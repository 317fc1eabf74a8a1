-- Where a task is, read off the lists of a board (this project's own).
use Rattle.std.specs.Prelude.{ℕ, Option, Some, None, option_map, find, ◌==◌}
use Rattle.core_model.specs.declared.home.Home.{Home}
use Rattle.core_model.specs.declared.home.Home.TheVariants.{Waiting, Slot, Hart, Ended}
use Rattle.core_model.specs.Board.{BoardState, all_ready}

abbrev pub waiting_home : BoardState → ℕ → Option Home
waiting_home b task = option_map (λ body. Waiting) (find (λ body. body.task_no == task) b.waiting)

abbrev pub slot_home : BoardState → ℕ → Option Home
slot_home b task = option_map (λ c. Slot c.slot) (find (λ c. c.body.task_no == task) (all_ready b.ready))

abbrev pub hart_home : BoardState → ℕ → Option Home
hart_home b task = option_map (λ o. Hart o.hart o.slot) (find (λ o. o.task_no == task) b.out)

abbrev pub ended_home : BoardState → ℕ → Option Home
ended_home b task = option_map (λ done. Ended) (find (λ done. done.task_no == task) b.ended)

-- a home, else this
abbrev pub home_or : Option Home → Option Home → Option Home
home_or (Some home) other = Some home
home_or None other = other

-- The home of a task by its number, in the list that has it; None for a number that no task has.
abbrev pub home_of : BoardState → ℕ → Option Home
home_of b task = home_or (waiting_home b task) (home_or (slot_home b task) (home_or (hart_home b task) (ended_home b task)))
