-- What makes an entry of a log explained (this project's own): its values are public, or those of a task's undisturbed run.
use Rattle.std.specs.Prelude.{◌≡◌, ⊤, ℕ, List, All, slice_get, Some}
use Rattle.isa_model.specs.declared.task.Task.{Task}
use Rattle.isa_model.specs.declared.latch.Latch.{Latch}
use Rattle.isa_model.specs.AloneValue.{alone_value, alone_change}
use Rattle.hart_model.specs.declared.probe.Probe.{Probe}
use Rattle.hart_model.specs.declared.probe.Why.{Why}
use Rattle.hart_model.specs.declared.probe.Why.TheVariants as whys
use Rattle.hart_model.specs.declared.probe.Side.TheVariants.{Was, Now}

-- There is a task of this number, and this is the value of its latch l in its run alone after n instructions.
pub record IsValueOf (tasks : List Task) (task_no n : ℕ) (l : Latch) (value : ℕ) : Type 0 where
  pub task : Task
  pub is_task : slice_get tasks task_no ≡ Some task
  pub is_value : value ≡ alone_value task n l

-- There is a task of this number, and these are the values of its latch l in its run alone before and after instruction n.
pub record IsChangeOf (tasks : List Task) (task_no n : ℕ) (l : Latch) (change : ℕ × ℕ) : Type 0 where
  pub task : Task
  pub is_task : slice_get tasks task_no ≡ Some task
  pub is_change : change ≡ alone_change task n l

-- An entry is explained by this why. Public: as it stands. Value: the value on the named side is that of the named task, number of
-- instructions and latch. Step: the latch is the entry's own, and both values are its change in the named instruction.
abbrev pub IsExplainedBy : List Task → Probe → Why → Type 0
IsExplainedBy tasks p whys.Public = ⊤
IsExplainedBy tasks p (whys.Value task_no n l Was) = IsValueOf tasks task_no n l p.was
IsExplainedBy tasks p (whys.Value task_no n l Now) = IsValueOf tasks task_no n l p.now
IsExplainedBy tasks p (whys.Step task_no n l) = (l ≡ p.latch) × IsChangeOf tasks task_no n l (p.was, p.now)
IsExplainedBy tasks p whys.Unexplained = ⊥

-- An entry is explained by its own why.
abbrev pub IsExplained : List Task → Probe → Type 0
IsExplained tasks p = IsExplainedBy tasks p p.why

-- Each entry of a log is.
abbrev pub IsLogExplained : List Task → List Probe → Type 0
IsLogExplained tasks log = All (IsExplained tasks) log
