-- What queue actions do to where tasks and slots are, and what tasks begin with (this project's own).
use Rattle.std.specs.Prelude.{◌≡◌, ℕ, ◌≤◌, [], ◌∷◌, filter, slice_get, option_map, ◌==◌}
use Rattle.isa_model.specs.declared.ends.End.{End}
use Rattle.hart_model.specs.Context.{ContextState, fresh_body}
use Rattle.core_model.specs.Board.{BoardState, OutEntry, out_entry, take_of, give_ready_of, give_done_of}
use Rattle.core_model.specs.declared.loaded.Loaded.{Loaded}
use Rattle.core_model.specs.Core.{boot_bodies}
use Rattle.core_model.specs.Soundness.{home_count, slot_count}

-- just this context is out on a hart
abbrev pub IsOutAlone : BoardState → ℕ → ContextState → Type 0
IsOutAlone b hart c = filter (λ (o : OutEntry). o.hart == hart) b.out ≡ out_entry hart c ∷ []

-- A take leaves each task, and each slot, in as many places as it was: what goes out is in the queue no more.
pub record TakeConserves (b : BoardState) (hart : ℕ) : Type 0 where
  pub tasks : (t : ℕ) → home_count (take_of b hart).board t ≡ home_count b t
  pub slots : (s : ℕ) → slot_count (take_of b hart).board s ≡ slot_count b s

-- So does the give of what is out, as ready or with an end; of an ended task's slot there may be a place less.
pub record GiveConserves (b : BoardState) (hart : ℕ) (c : ContextState) : Type 0 where
  pub tasks_ready : (t : ℕ) → home_count (give_ready_of b hart c) t ≡ home_count b t
  pub slots_ready : (s : ℕ) → slot_count (give_ready_of b hart c) s ≡ slot_count b s
  pub tasks_done : (end : End) (t : ℕ) → home_count (give_done_of b hart c end) t ≡ home_count b t
  pub slots_done : (end : End) (s : ℕ) → slot_count (give_done_of b hart c end) s ≤ slot_count b s

-- Queue actions move tasks and slots, and copy none.
pub record ActionsConserve : Type 0 where
  pub takes : (b : BoardState) (hart : ℕ) → TakeConserves b hart
  pub gives : (b : BoardState) (hart : ℕ) (c : ContextState) → IsOutAlone b hart c → GiveConserves b hart c

-- At boot each task begins with what is its own: its code, its tape, its limits.
abbrev pub TasksBeginOwn : Type 0
TasksBeginOwn = (loaded : Loaded) (i : ℕ) → slice_get (boot_bodies loaded) i ≡ option_map (fresh_body i) (slice_get loaded.tasks i)
