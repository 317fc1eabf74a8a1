-- Tasks at their places, one after another.
use Rattle.std.proofs.Common.{◌≡◌, ℕ, suc, ◌+◌, List, [], ◌∷◌, ◌++◌, length, map, ap, ◌∙◌, arith}
use Rattle.std.specs.List.{enumerate_from}
use Rattle.std.proofs.lemmas.List.{map-append, length-map}
use Rattle.std.proofs.lemmas.List.FromFn.{length-enumerate_from}
use Rattle.rv_loader.specs.declared.coding.CodedTask.{CodedTask}
use Rattle.rv_loader.specs.Loading.{task_at, placed_tasks}

enumerate_from-push : {X : Type 0} (n : ℕ) (xs : List X) (x : X) → enumerate_from n (xs ++ x ∷ []) ≡ enumerate_from n xs ++ (n + length xs, x) ∷ []
enumerate_from-push n [] x = ap (λ k. (k, x) ∷ []) (let e : n ≡ n + 0 = omega arith in e)
enumerate_from-push n (y ∷ ys) x =
    ap (λ l. (n, y) ∷ l) (enumerate_from-push (n + 1) ys x)
    ∙ ap (λ k. (n, y) ∷ (enumerate_from (n + 1) ys ++ (k, x) ∷ [])) (let e : n + 1 + length ys ≡ n + suc (length ys) = omega arith in e)

pub length-placed : (tasks : List CodedTask) → length (placed_tasks tasks) ≡ length tasks
length-placed tasks = length-map (enumerate_from 0 tasks) task_at ∙ length-enumerate_from 0 tasks

-- a task more
pub placed-push : (tasks : List CodedTask) (task : CodedTask) (n : ℕ) → n ≡ length tasks → placed_tasks (tasks ++ task ∷ []) ≡ placed_tasks tasks ++ task_at (n, task) ∷ []
placed-push tasks task n h =
    ap (map task_at) (enumerate_from-push 0 tasks task)
    ∙ map-append task_at (enumerate_from 0 tasks) ((0 + length tasks, task) ∷ [])
    ∙ ap (λ k. placed_tasks tasks ++ task_at (k, task) ∷ []) (let e : 0 + length tasks ≡ n = omega arith in e)
