-- The text of an order: its maximal runs (this project's own).
use Rattle.std.specs.Prelude.{◌≢◌, ℕ, ◌+◌, ◌≤◌, ◌==◌, if◌then◌else◌, List, [], ◌∷◌, ◌++◌, codes, decimal}
use Rattle.std.specs.List.{flat_map}
use Rattle.core_model.specs.declared.event.OrderRun.{OrderRun}

-- the runs with a hart before them, which joins the first one where that is of the same hart
abbrev pub with_hart : ℕ → List OrderRun → List OrderRun
with_hart hart [] = record { hart = hart; times = 1 } ∷ []
with_hart hart (run ∷ runs) =
    if run.hart == hart
    then record { hart = hart; times = run.times + 1 } ∷ runs
    else record { hart = hart; times = 1 } ∷ run ∷ runs

-- the maximal runs of an order
abbrev pub runs_of : List ℕ → List OrderRun
runs_of [] = []
runs_of (hart ∷ others) = with_hart hart (runs_of others)

-- the first of the runs, if there is one, is of another hart
abbrev pub BeginsOtherwise : ℕ → List OrderRun → Type 0
BeginsOtherwise hart [] = Unit {0}
BeginsOtherwise hart (run ∷ runs) = run.hart ≢ hart

-- each run comes at least once, and no two neighbours are of one hart
abbrev pub IsMaximal : List OrderRun → Type 0
IsMaximal [] = Unit {0}
IsMaximal (run ∷ runs) = (1 ≤ run.times) × BeginsOtherwise run.hart runs × IsMaximal runs

-- `*` and how often, and nothing for once
abbrev pub times_text : ℕ → List ℕ
times_text times = if times == 1 then [] else codes "*" ++ decimal times

-- the token of a run
abbrev pub run_token : OrderRun → List ℕ
run_token run = decimal run.hart ++ times_text run.times

-- a blank and the token of a run
abbrev pub run_text : OrderRun → List ℕ
run_text run = codes " " ++ run_token run

-- the text of runs
abbrev pub runs_text : List OrderRun → List ℕ
runs_text runs = flat_map run_text runs

-- the text of an order
abbrev pub order_text_of : List ℕ → List ℕ
order_text_of order = runs_text (runs_of order)
