-- What a report is of, and that the tasks of a loaded bundle are valid, as explanations ask.
use Rattle.std.proofs.Common.{◌≡◌, ℕ, suc, ◌<◌, List, [], ◌∷◌, length, slice_index_or, slice_get, Some, Result, Ok, Err, IfOk, sym, subst, arith}
use Rattle.std.specs.Prelude.{Vec}
use Rattle.std.specs.declared.alloc.Global.{Global}
use Rattle.std.specs.declared.alloc.AllocError.{AllocError}
use Rattle.std.specs.List.{AllByRecursion}
use Rattle.isa_model.specs.declared.task.Task.{Task}
use Rattle.isa_model.specs.TaskPlaces.{IsValidTask}
use Rattle.core_model.specs.declared.loaded.Loaded.{Loaded}
use Rattle.core_model.specs.Loaded.{IsLoaded}
use Rattle.core_model.proofs.Lists.{some-is}

-- of tasks, each by its index
each_valid : (tasks : List Task) → ((t : ℕ) (task : Task) → t < length tasks → IsValidTask (slice_index_or tasks t task)) → AllByRecursion IsValidTask tasks
each_valid [] h = tt
each_valid (task ∷ tasks) h = (h 0 task (omega arith), each_valid tasks (λ t other low. h (suc t) other (omega arith)))

pub tasks_valid : (loaded : Loaded) (tasks : List Task) → tasks ≡ loaded.tasks → IsLoaded loaded → AllByRecursion IsValidTask tasks
tasks_valid loaded tasks same is_loaded =
    let P : List Task → Type 0 = λ tasks. AllByRecursion IsValidTask tasks in
    subst P (sym same) (each_valid loaded.tasks (λ t task low. (is_loaded.limits.tasks t task low).valid))

-- what holds of a text for each of several things that it may be the text of
pub each_text : {X : Type 0} {Is : X → Type 0} (text : Result (Vec ℕ Global) AllocError) (text_of : X → List ℕ)
    → ((x : X) → Is x → IfOk text (λ written. written.items ≡ text_of x)) → IfOk text (λ written. (x : X) → Is x → written.items ≡ text_of x)
each_text (Ok written) text_of each = each
each_text (Err error) text_of each = tt

-- the first of the tasks
pub first_is : (tasks : List Task) (other T : Task) → slice_get tasks 0 ≡ Some T → slice_index_or tasks 0 other ≡ T
first_is [] other T at = absurd (cc at)
first_is (task ∷ tasks) other T at = some-is at
