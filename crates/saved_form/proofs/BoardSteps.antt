-- A board is read part by part.
use Rattle.std.proofs.Common.{◌≡◌, ℕ, List, [], Result, ap, ◌∙◌, ◌==◌}
use Rattle.isa_model.specs.Limits.{max_tasks, max_harts, max_slots, max_order_entries}
use Rattle.core_model.specs.declared.event.OrderRun.{OrderRun}
use Rattle.saved_form.specs.declared.numbers.ReadError.{ReadError}
use Rattle.saved_form.specs.Saved.{SavedHart, SavedTask}
use Rattle.saved_form.specs.Spelling.{magic}
use Rattle.saved_form.specs.Fields.{FieldFault, Place, Reader, ◌>>=◌, got, field, pair, items, counted_items}
use Rattle.saved_form.specs.Ranges.{up_to, between, waits, is_ready_in, ended}
use Rattle.saved_form.specs.Reading.{hart, known_of, task, task_list, run, board_from, board_parts, board}
use Rattle.saved_form.specs.Answer.{IsFault}
use Rattle.saved_form.proofs.Onward.{fault-along, fault-through}

-- One part, and the others after it.
module _ {A B : Type 0} (first : Reader A) (second : A → Reader B) (p : Place) where
  abbrev ends : A → Result (B × Place) FieldFault → Result ((A × B) × Place) FieldFault
  ends x r = r >>= (λ y. got (x, y.0) y.1)

  abbrev goes_on : Result (A × Place) FieldFault → Result ((A × B) × Place) FieldFault
  goes_on r = r >>= (λ x. ends x.0 (second x.0 x.1))

  module _ (x : A) (q : Place) (is : first p ≡ got x q) where
    pub second-fault : (error : ReadError) → IsFault error (second x q) → IsFault error (pair first second p)
    second-fault error fault =
        fault-along error (pair first second p) (ends x (second x q)) (ap goes_on is) (fault-through error (second x q) (λ y. got (x, y.0) y.1) fault)

    pub both : (y : B) (r : Place) → second x q ≡ got y r → pair first second p ≡ got (x, y) r
    both y r also = ap goes_on is ∙ ap (ends x) also

  pub first-fault : (error : ReadError) → IsFault error (first p) → IsFault error (pair first second p)
  first-fault error fault = fault-through error (first p) (λ x. ends x.0 (second x.0 x.1)) fault

-- What stands after the tasks, after the harts, and so on.
abbrev pub Lists : Type 0
Lists = List ℕ × (List ℕ × (List ℕ × (List ℕ × List OrderRun)))

abbrev pub after_tasks : ℕ → List SavedTask → Reader Lists
after_tasks hart_count tasks =
    pair (task_list waits tasks) (λ waiting.
    pair (task_list (is_ready_in 0) tasks) (λ ready_first.
    pair (task_list (is_ready_in 1) tasks) (λ ready_second.
    pair (task_list ended tasks) (λ has_ended.
    counted_items (up_to max_order_entries) (run hart_count)))))

abbrev tasks_of : ℕ → ℕ → ℕ → List SavedHart → Reader (List SavedTask)
tasks_of hart_count slots task_count harts = items (task (known_of harts task_count hart_count slots)) [] task_count

abbrev after_harts : ℕ → ℕ → ℕ → List SavedHart → Reader (List SavedTask × Lists)
after_harts hart_count slots task_count harts = pair (tasks_of hart_count slots task_count harts) (after_tasks hart_count)

abbrev after_task_count : ℕ → ℕ → ℕ → Reader (List SavedHart × (List SavedTask × Lists))
after_task_count hart_count slots task_count = pair (items hart [] hart_count) (after_harts hart_count slots task_count)

abbrev after_slots : ℕ → ℕ → Reader (ℕ × (List SavedHart × (List SavedTask × Lists)))
after_slots hart_count slots = pair (field (between 1 max_tasks)) (after_task_count hart_count slots)

abbrev after_hart_count : ℕ → Reader (ℕ × (ℕ × (List SavedHart × (List SavedTask × Lists))))
after_hart_count hart_count = pair (field (between 1 max_slots)) (after_slots hart_count)

abbrev after_magic : ℕ → Reader (ℕ × (ℕ × (ℕ × (List SavedHart × (List SavedTask × Lists)))))
after_magic first = pair (field (between 1 max_harts)) after_hart_count

abbrev is_magic : Reader ℕ
is_magic = field (λ n. n == magic)

module _ (p0 p1 p2 p3 p4 p5 : Place) (first hart_count slots task_count : ℕ) (harts : List SavedHart)
    (a : is_magic p0 ≡ got first p1) (b : field (between 1 max_harts) p1 ≡ got hart_count p2) (c : field (between 1 max_slots) p2 ≡ got slots p3)
    (d : field (between 1 max_tasks) p3 ≡ got task_count p4) (e : items hart [] hart_count p4 ≡ got harts p5) where
  harts-fault : (error : ReadError) → IsFault error (after_harts hart_count slots task_count harts p5) → IsFault error (board p0)
  harts-fault error fault =
      fault-through error (board_parts p0) (λ x. got (board_from x.0) x.1)
      (second-fault is_magic after_magic p0 first p1 a error
      (second-fault (field (between 1 max_harts)) after_hart_count p1 hart_count p2 b error
      (second-fault (field (between 1 max_slots)) (after_slots hart_count) p2 slots p3 c error
      (second-fault (field (between 1 max_tasks)) (after_task_count hart_count slots) p3 task_count p4 d error
      (second-fault (items hart [] hart_count) (after_harts hart_count slots task_count) p4 harts p5 e error fault)))))

  pub tasks-fault : (error : ReadError) → IsFault error (tasks_of hart_count slots task_count harts p5) → IsFault error (board p0)
  tasks-fault error fault =
      harts-fault error (first-fault (tasks_of hart_count slots task_count harts) (after_tasks hart_count) p5 error fault)

  module _ (p6 : Place) (tasks : List SavedTask) (f : tasks_of hart_count slots task_count harts p5 ≡ got tasks p6) where
    pub lists-fault : (error : ReadError) → IsFault error (after_tasks hart_count tasks p6) → IsFault error (board p0)
    lists-fault error fault =
        harts-fault error (second-fault (tasks_of hart_count slots task_count harts) (after_tasks hart_count) p5 tasks p6 f error fault)

    pub board-read : (lists : Lists) (p7 : Place) → after_tasks hart_count tasks p6 ≡ got lists p7
        → board p0 ≡ got (board_from (first, (hart_count, (slots, (task_count, (harts, (tasks, lists))))))) p7
    board-read lists p7 g =
        let last = both (tasks_of hart_count slots task_count harts) (after_tasks hart_count) p5 tasks p6 f lists p7 g in
        let with_harts = both (items hart [] hart_count) (after_harts hart_count slots task_count) p4 harts p5 e (tasks, lists) p7 last in
        let with_task_count =
        both (field (between 1 max_tasks)) (after_task_count hart_count slots) p3 task_count p4 d (harts, (tasks, lists)) p7 with_harts in
        let with_slots =
        both (field (between 1 max_slots)) (after_slots hart_count) p2 slots p3 c (task_count, (harts, (tasks, lists))) p7 with_task_count in
        let with_hart_count =
        both (field (between 1 max_harts)) after_hart_count p1 hart_count p2 b (slots, (task_count, (harts, (tasks, lists)))) p7 with_slots in
        let all = both is_magic after_magic p0 first p1 a (hart_count, (slots, (task_count, (harts, (tasks, lists))))) p7 with_hart_count in
        ap (λ r. r >>= (λ x. got (board_from x.0) x.1)) all
