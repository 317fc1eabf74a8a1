-- There are as many harts as were to be read; and the parts are those of the board.
use Rattle.std.proofs.Common.{ℕ, List, [], length, sym, ap, ◌∙◌, arith}
use Rattle.std.specs.List.{sum_by}
use Rattle.std.proofs.lemmas.Result.{err_from_is_err_and}
use Rattle.saved_form.specs.Saved.{SavedHart, SavedTask}
use Rattle.saved_form.specs.Spelling.{of_hart}
use Rattle.saved_form.specs.Fields.{items}
use Rattle.saved_form.specs.Reading.{Known, hart, task}
use Rattle.saved_form.specs.InRange.{IsHartIn}
use Rattle.saved_form.proofs.Forms.{items-form}
use Rattle.saved_form.proofs.PartForms.{hart-form}
use Rattle.saved_form.proofs.Onward.{fault-along}
use Rattle.saved_form.proofs.BoardSteps.{after_tasks, tasks-fault, lists-fault, board-read}
use Rattle.saved_form.proofs.reading.board.Goals as goal

pub quanta_of-requires : goal.quanta_of-requires
quanta_of-requires c =
    let count = c.in_ok-hart_count.hart_count in
    let said = (items-form hart of_hart IsHartIn hart-form count []).said _ _ c.in_ok-harts.harts c.in_ok-harts.ensures.value in
    let len = said.0.0 in
    let few = c.in_ok-hart_count.ensures.bound in
    let same = ap length c.as_slice.ensures.items in
    record { few = omega (arith, len, few, same) }

pub returns-in_err-tasks : goal.returns-in_err-tasks
returns-in_err-tasks c =
    let r = err_from_is_err_and c.from_residual-in_err-tasks.result c.from_residual-in_err-tasks.ensures.1 in
    let quanta = c.quanta_of.ensures.sum ∙ ap (λ (hs : List SavedHart). sum_by (λ (h : SavedHart). length h.quanta) hs) c.as_slice.ensures.items in
    let hart_count = c.in_ok-hart_count.hart_count in
    let slots = c.in_ok-slots.slots in
    let task_count = c.in_ok-task_count.task_count in
    let known : ℕ → Known = λ quanta. record { quanta = quanta; tasks = task_count; harts = hart_count; slots = slots } in
    let same = ap (λ n. items (task (known n)) [] task_count c.harts.new.numbers) (sym quanta) in
    rw (r.1, r.2) record {
      value = tasks-fault c.args.numbers.now c.magic.new.numbers c.between.new.self c.between-2.new.self c.between-3.new.self c.harts.new.numbers
          c.in_ok-magic.field-0 hart_count slots task_count c.in_ok-harts.harts c.in_ok-magic.ensures.value c.in_ok-hart_count.ensures.value
          c.in_ok-slots.ensures.value c.in_ok-task_count.ensures.value c.in_ok-harts.ensures.value
          c.in_err-tasks.field-0.0 (fault-along c.in_err-tasks.field-0.0 _ _ same c.in_err-tasks.ensures.value);
    }

pub returns-in_err-waiting : goal.returns-in_err-waiting
returns-in_err-waiting c =
    let r = err_from_is_err_and c.from_residual-in_err-waiting.result c.from_residual-in_err-waiting.ensures.1 in
    let quanta = c.quanta_of.ensures.sum ∙ ap (λ (hs : List SavedHart). sum_by (λ (h : SavedHart). length h.quanta) hs) c.as_slice.ensures.items in
    let hart_count = c.in_ok-hart_count.hart_count in
    let slots = c.in_ok-slots.slots in
    let task_count = c.in_ok-task_count.task_count in
    let known : ℕ → Known = λ quanta. record { quanta = quanta; tasks = task_count; harts = hart_count; slots = slots } in
    let same = ap (λ n. items (task (known n)) [] task_count c.harts.new.numbers) (sym quanta) in
    let listed = ap (λ (ts : List SavedTask). after_tasks hart_count ts c.tasks.new.numbers) (sym c.as_slice-2.ensures.items) in
    rw (r.1, r.2) record {
      value = lists-fault c.args.numbers.now c.magic.new.numbers c.between.new.self c.between-2.new.self c.between-3.new.self c.harts.new.numbers
          c.in_ok-magic.field-0 hart_count slots task_count c.in_ok-harts.harts c.in_ok-magic.ensures.value c.in_ok-hart_count.ensures.value
          c.in_ok-slots.ensures.value c.in_ok-task_count.ensures.value c.in_ok-harts.ensures.value
          c.tasks.new.numbers c.in_ok-tasks.tasks (same ∙ c.in_ok-tasks.ensures.value)
          c.in_err-waiting.field-0.0 (fault-along c.in_err-waiting.field-0.0 _ _ listed c.in_err-waiting.ensures.value);
    }

pub returns : goal.returns
returns c =
    let quanta = c.quanta_of.ensures.sum ∙ ap (λ (hs : List SavedHart). sum_by (λ (h : SavedHart). length h.quanta) hs) c.as_slice.ensures.items in
    let hart_count = c.in_ok-hart_count.hart_count in
    let slots = c.in_ok-slots.slots in
    let task_count = c.in_ok-task_count.task_count in
    let known : ℕ → Known = λ quanta. record { quanta = quanta; tasks = task_count; harts = hart_count; slots = slots } in
    let same = ap (λ n. items (task (known n)) [] task_count c.harts.new.numbers) (sym quanta) in
    let listed = ap (λ (ts : List SavedTask). after_tasks hart_count ts c.tasks.new.numbers) (sym c.as_slice-2.ensures.items) in
    let l = c.in_ok-waiting in
    record {
      value = board-read c.args.numbers.now c.magic.new.numbers c.between.new.self c.between-2.new.self c.between-3.new.self c.harts.new.numbers
          c.in_ok-magic.field-0 hart_count slots task_count c.in_ok-harts.harts c.in_ok-magic.ensures.value c.in_ok-hart_count.ensures.value
          c.in_ok-slots.ensures.value c.in_ok-task_count.ensures.value c.in_ok-harts.ensures.value
          c.tasks.new.numbers c.in_ok-tasks.tasks (same ∙ c.in_ok-tasks.ensures.value)
          (l.waiting, (l.ready_first, (l.ready_second, (l.ended, l.order)))) c.lists.new.numbers (listed ∙ l.ensures.value);
    }
