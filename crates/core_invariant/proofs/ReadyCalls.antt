-- What the services have in common that a task goes on after.
use Rattle.std.proofs.Common.{◌≡◌, ℕ, suc, ◌+◌, ◌-◌, ◌*◌, ◌≤◌, ◌<◌, false, ◌==◌, List, None, sym, ap, subst, ◌∙◌, arith, ne_eqb}
use Rattle.isa_model.specs.declared.task.Task.{Task}
use Rattle.isa_model.specs.declared.latch.Latch.{Latch}
use Rattle.isa_model.specs.declared.latch.Latch.TheVariants as latches
use Rattle.isa_model.specs.Bits.{low_word}
use Rattle.isa_model.specs.Alone.{AloneState, alone_at, after_call}
use Rattle.isa_model.specs.AloneValue.{alone_value}
use Rattle.hart_model.specs.declared.tag.Cell.{Cell}
use Rattle.hart_model.specs.Context.{ContextState, BodyState, data_word, task_of}
use Rattle.hart_model.specs.HartState.{HartState}
use Rattle.core_model.specs.Soundness.{IsOwn, IsBodyCase}
use Rattle.core_invariant.specs.CutPoints.{IsCallTrap}
use Rattle.core_invariant.proofs.OwnCells.{own-later}
use Rattle.core_invariant.proofs.AloneServices.{GoesOnAs, goes-on-as}

-- where a number is below another one, something is left
pub left-over : (a b : ℕ) → a < b → (b - a == 0) ≡ false
left-over a b low = ne_eqb (b - a) 0 (omega arith)

-- the body of the task after the service
abbrev pub body_with : BodyState → List ℕ → ℕ → BodyState
body_with b output tape_at = record b { output = output; tape_at = tape_at }

-- the state of the run alone after the service that a task calls after n instructions
abbrev pub called : ContextState → ℕ → AloneState
called c n = let T = task_of c.body in (after_call T (alone_value T n (latches.Reg 17)) (alone_value T n (latches.Reg 10)) (alone_at T n)).state

module _ {tasks : List Task} {number n : ℕ} {h : HartState} {c : ContextState} (call : IsCallTrap tasks number n h c) where
  -- the count is one more than before the call
  pub count-is : suc n ≡ c.body.count
  count-is = let e : c.body.count ≡ n + 1 = call.count in omega arith

  module _ (state : AloneState) (is_state : called c n ≡ state) (no_end : state.end ≡ None) where
    -- the run alone goes on as the service says
    pub service-goes-on : GoesOnAs (alone_at (task_of c.body) c.body.count) state
    service-goes-on =
        let P : ℕ → Type 0 = λ m. GoesOnAs (alone_at (task_of c.body) m) state in
        subst P count-is (goes-on-as (task_of c.body) n state call.went_on (ap (λ x. x.state) call.serves ∙ is_state) no_end)

    -- a cell of a latch that the service leaves stays the task's own
    pub own-after : (l : Latch) (cell : Cell) → state.value l ≡ alone_value (task_of c.body) n l → IsOwn c.body.task_no (task_of c.body) n l cell
        → IsOwn c.body.task_no (task_of c.body) c.body.count l cell
    own-after l cell same own =
        let P : ℕ → Type 0 = λ m. IsOwn c.body.task_no (task_of c.body) m l cell in
        let Q : ℕ → Type 0 = λ m. alone_value (task_of c.body) m l ≡ alone_value (task_of c.body) n l in
        subst P count-is (own-later (task_of c.body) c.body.task_no n l cell (subst Q (sym count-is) (service-goes-on.value l ∙ same)) own)

    -- the pc of the slot is that of the run alone
    pub pc-after : state.pc ≡ low_word ((alone_at (task_of c.body) n).pc + 4) → low_word (h.csrs.mepc + 4) ≡ (alone_at (task_of c.body) c.body.count).pc
    pc-after is_pc = ap (λ pc. low_word (pc + 4)) call.trap.mepc ∙ sym is_pc ∙ sym service-goes-on.pc

    -- the body is as far as the run alone
    pub body-after : (output : List ℕ) (tape_at : ℕ) → output ≡ state.output → tape_at ≡ state.tape_at
        → ((at : ℕ) → state.value (latches.Mem at) ≡ alone_value (task_of c.body) n (latches.Mem at))
        → IsBodyCase tasks (body_with c.body output tape_at)
    body-after output tape_at is_output is_tape memory = record {
      is_task = call.trap.is_task;
      is_running = service-goes-on.running;
      output = is_output ∙ sym service-goes-on.output;
      tape_at = is_tape ∙ sym service-goes-on.tape_at;
      data_words = λ i low.
          own-after (latches.Mem (c.body.data_at + 4 * i)) (data_word c.body i) (memory (c.body.data_at + 4 * i)) (call.trap.data_words i low);
    }

    -- no more instructions are executed than the fuel allows
    pub within-after : c.body.count ≤ c.body.fuel
    within-after = let e : c.body.count ≡ n + 1 = call.count in let low : n < c.body.fuel = call.fuel_left in omega arith
