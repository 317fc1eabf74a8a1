-- A context whose words and body are its task's at its count is ready.
use Rattle.std.proofs.Common.{◌≡◌, ℕ, ◌+◌, ◌*◌, ◌≤◌, ◌<◌, List, length, None, refl, ap}
use Rattle.isa_model.specs.declared.task.Task.{Task}
use Rattle.isa_model.specs.declared.latch.Latch.TheVariants as latches
use Rattle.isa_model.specs.TaskPlaces.{IsValidTask}
use Rattle.isa_model.specs.Alone.{alone_at}
use Rattle.hart_model.specs.Csrs.{public}
use Rattle.hart_model.specs.Context.{ContextState, slot_len, pc_word, slot_word, data_word, task_of}
use Rattle.core_model.specs.Soundness.{IsOwn, IsBodyCase, HasBounds}
use Rattle.core_model.specs.Routines.{IsReadyContext}
use Rattle.core_invariant.proofs.OwnCells.{own-value}

-- A context with its task's body, pc, registers and bounds is ready.
pub ready-of : (tasks : List Task) (d : ContextState) → IsBodyCase tasks d.body → d.end ≡ None → length d.words ≡ slot_len
    → slot_word d pc_word ≡ public (alone_at (task_of d.body) d.body.count).pc
    → ((i : ℕ) → 1 ≤ i → i < 32 → IsOwn d.body.task_no (task_of d.body) d.body.count (latches.Reg i) (slot_word d i))
    → HasBounds d → d.slot < 8 → IsValidTask (task_of d.body) → d.body.count ≤ d.body.fuel → IsReadyContext tasks d
ready-of tasks d body no_end words pc registers bounds slot valid within = record {
  ready = record {
    stands = record {
      task = refl;
      words = words;
      pc = ap (λ x. x.value) pc;
      registers = λ i low high. own-value (task_of d.body) d.body.task_no d.body.count (latches.Reg i) (slot_word d i) (registers i low high);
      bounds = λ i low. ap (λ x. x.value) (bounds i low);
      data_words = λ i low.
          own-value (task_of d.body) d.body.task_no d.body.count (latches.Mem (d.body.data_at + 4 * i)) (data_word d.body i) (body.data_words i low);
      output = body.output;
      tape_at = body.tape_at;
    };
    body = body;
    no_end = no_end;
    saved_pc = ap (λ x. x.tag) pc;
    saved_registers = registers;
    bounds = bounds;
  };
  slot = slot;
  valid = valid;
  within = within;
}
