-- When the latches of a task's run alone tell nothing of a secret (this project's own): probing security. A world is a choice of the words
-- that the task takes, and the secret that they share. Probability is counting: the worlds of a secret are its equally likely choices.
use Rattle.std.specs.Prelude.{◌≡◌, ℕ, ◌&&◌, Bool, true, List, Any, All, filter, count_by, ◌==◌}
use Rattle.isa_model.specs.declared.task.Task.{Task}
use Rattle.isa_model.specs.declared.latch.Latch.{Latch}
use Rattle.isa_model.specs.AloneValue.{alone_change}
use Rattle.isa_model.specs.Course.{TakeOneCourse}
use Rattle.core_model.specs.declared.world.World.{World}

-- the task with the words of a world on its tape
abbrev pub task_in : Task → World → Task
task_in T world = record T { tape = world.tape }

-- the worlds of a secret
abbrev pub worlds_of : ℕ → List World → List World
worlds_of secret worlds = filter (λ (world : World). world.secret == secret) worlds

-- in how many worlds of a secret something is so
abbrev pub count_in : List World → ℕ → (World → Bool) → ℕ
count_in worlds secret is_so = count_by is_so (worlds_of secret worlds)

-- some world has this secret
abbrev pub IsSecret : List World → ℕ → Type 0
IsSecret worlds secret = Any (λ (world : World). world.secret ≡ secret) worlds

-- Something is independent of the secret: it is so in equally many worlds of every two secrets.
abbrev pub IsIndependent : List World → (World → Bool) → Type 0
IsIndependent worlds is_so = (a b : ℕ) → IsSecret worlds a → IsSecret worlds b → count_in worlds a is_so ≡ count_in worlds b is_so

-- whether two pairs have the same parts
abbrev pub same_pair : ℕ × ℕ → ℕ × ℕ → Bool
same_pair p q = (p.0 == q.0) && (p.1 == q.1)

-- in a world latch l changes like this by instruction n
abbrev pub changes_so : Task → ℕ → Latch → ℕ × ℕ → World → Bool
changes_so T n l change world = same_pair (alone_change (task_in T world) n l) change

-- Secure by one probe: the secrets have equally many worlds, all worlds take one course, and each change of each latch by each
-- instruction is independent of the secret.
pub record IsSecureByOne (T : Task) (worlds : List World) : Type 0 where
  pub even : IsIndependent worlds (λ world. true)
  pub course : All (λ v. All (λ w. TakeOneCourse (task_in T v) (task_in T w)) worlds) worlds
  pub changes : (n : ℕ) (l : Latch) (change : ℕ × ℕ) → IsIndependent worlds (changes_so T n l change)

-- Secure by two probes: and so are each two changes together.
pub record IsSecureByTwo (T : Task) (worlds : List World) : Type 0 where
  pub by_one : IsSecureByOne T worlds
  pub changes : (n : ℕ) (l : Latch) (change : ℕ × ℕ) (m : ℕ) (k : Latch) (other : ℕ × ℕ)
      → IsIndependent worlds (λ world. changes_so T n l change world && changes_so T m k other world)
