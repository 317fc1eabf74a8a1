-- A task at its start that is admitted into a slot stands for itself.
use Rattle.std.proofs.Common.{◌≡◌, ℕ, ◌∙◌, get_or, refl, ap}
use Rattle.std.proofs.lemmas.List.{length-replicate, get_or-replicate}
use Rattle.isa_model.specs.declared.task.Task.{Task}
use Rattle.isa_model.specs.Alone.{alone_at}
use Rattle.hart_model.specs.declared.tag.Cell.{Cell}
use Rattle.hart_model.specs.Cells.{blank}
use Rattle.hart_model.specs.Pmp.{bounds_of}
use Rattle.hart_model.specs.Context.{task_of, fresh_body}
use Rattle.context_slot.specs.Laws.{AdmittedStandsForTask}
use Rattle.context_slot.proofs.StartWords.{length-start, start-pc, start-register, start-bound}

pub task-fresh : (task_no : ℕ) (T : Task) → task_of (fresh_body task_no T) ≡ T
task-fresh task_no T = ap (λ n. record T { data_len = n }) (length-replicate T.data_len blank)

pub admitted-stands : AdmittedStandsForTask
unfolding alone_at
admitted-stands task_no slot T words len registers =
    let T' = task_of (fresh_body task_no T) in
    let same = task-fresh task_no T in
    record {
      task = same;
      words = length-start T' words ∙ len;
      pc = ap (λ (c : Cell). c.value) (start-pc T' words len);
      registers = λ i least lt. ap (λ (c : Cell). c.value) (start-register T' words i least lt ∙ registers i least lt);
      bounds = λ i lt. ap (λ (c : Cell). c.value) (start-bound T' words i len lt) ∙ ap (λ U. get_or (bounds_of U) i 0) same;
      data_words = λ i lt. ap (λ (c : Cell). c.value) (get_or-replicate T.data_len i blank blank lt);
      output = refl;
      tape_at = refl;
    }
