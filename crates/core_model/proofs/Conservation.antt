-- Queue actions move tasks and slots, and each task begins with what is its own.
use Rattle.std.proofs.Common.{◌≡◌, ℕ, zero, suc, ◌+◌, List, [], ◌∷◌, slice_get, option_map, refl, ap, ◌∙◌, arith}
use Rattle.isa_model.specs.declared.task.Task.{Task}
use Rattle.hart_model.specs.Context.{fresh_body}
use Rattle.core_model.specs.Board.{front_of}
use Rattle.core_model.specs.Core.{bodies_from}
use Rattle.core_model.specs.Conservation.{ActionsConserve, TasksBeginOwn}
use Rattle.core_model.proofs.Counts.{homes-take, slots-take, homes-give_ready, slots-give_ready, homes-give_done, slots-give_done}

pub actions-conserve : ActionsConserve
actions-conserve = record {
  takes = λ b hart. record {
    tasks = λ t. homes-take t hart b (front_of b.ready.first b.ready.second) refl;
    slots = λ s. slots-take s hart b (front_of b.ready.first b.ready.second) refl;
  };
  gives = λ b hart c alone. record {
    tasks_ready = λ t. homes-give_ready t hart b c alone;
    slots_ready = λ s. slots-give_ready s hart b c alone;
    tasks_done = λ end t. homes-give_done t hart b c end alone;
    slots_done = λ end s. slots-give_done s hart b c end alone;
  };
}

own-from : (first : ℕ) (tasks : List Task) (i : ℕ) → slice_get (bodies_from first tasks) i ≡ option_map (fresh_body (first + i)) (slice_get tasks i)
own-from first [] i = refl
own-from first (task ∷ tasks) zero =
    let same : first ≡ first + zero = omega arith in
    ap (λ n. option_map (fresh_body n) (slice_get (task ∷ tasks) zero)) same
own-from first (task ∷ tasks) (suc i) =
    let same : first + 1 + i ≡ first + suc i = omega arith in
    own-from (first + 1) tasks i ∙ ap (λ n. option_map (fresh_body n) (slice_get tasks i)) same

pub tasks-begin-own : TasksBeginOwn
tasks-begin-own loaded i =
    let same : 0 + i ≡ i = omega arith in
    own-from 0 loaded.tasks i ∙ ap (λ n. option_map (fresh_body n) (slice_get loaded.tasks i)) same
