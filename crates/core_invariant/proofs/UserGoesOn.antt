-- An instruction in user mode that goes on keeps the user case at the next count.
use Rattle.std.proofs.Common.{◌≡◌, ℕ, ◌+◌, ◌*◌, ◌<◌, inl, List, length, get_or, Option, Some, None, slice_get, refl, ap, sym, ◌∙◌, subst, arith}
use Rattle.isa_model.specs.declared.task.Task.{Task}
use Rattle.isa_model.specs.declared.latch.Latch.{Latch}
use Rattle.isa_model.specs.declared.latch.Latch.TheVariants as latches
use Rattle.isa_model.specs.TaskPlaces.{IsValidTask}
use Rattle.isa_model.specs.Alone.{AloneState, alone_at}
use Rattle.isa_model.specs.AloneValue.{alone_value}
use Rattle.hart_model.specs.declared.calls.Did.TheVariants.{Ran}
use Rattle.hart_model.specs.declared.place.Place.TheVariants as places
use Rattle.hart_model.specs.declared.tag.Cell.{Cell}
use Rattle.hart_model.specs.Cells.{blank}
use Rattle.hart_model.specs.Pmp.{bounds_of}
use Rattle.hart_model.specs.Csrs.{CsrFile, public}
use Rattle.hart_model.specs.Traps.{interrupt_of}
use Rattle.hart_model.specs.Context.{ContextState, bound_word, slot_word, data_word, task_of}
use Rattle.hart_model.specs.HartState.{HartState, hart_cell, held_data}
use Rattle.hart_model.specs.UserStep.{is_fuel_used}
use Rattle.hart_model.specs.UserLaws.{IsTaskLatch, IsRunLatch, alone_effect, written_value, GoesOnAlone}
use Rattle.hart_model.proofs.UserWritesOwn.{run_place}
use Rattle.core_model.specs.Soundness.{AreCsrsSound, IsTruthful, IsOwn, IsOwnOrPublic, IsRunning, IsUserCase}
use Rattle.core_model.specs.Routines.{IsUserState}
use Rattle.core_invariant.specs.UserLeads.{UserStepLeads}
use Rattle.core_invariant.proofs.AloneNext.{next-state}
use Rattle.core_invariant.proofs.OwnCells.{IsNext, own-next, public-next, truthful-next}
use Rattle.core_invariant.proofs.UserTruth.{HasStepped, all-truthful, word-latch, word-index}
use Rattle.core_invariant.proofs.UserAfter.{writes-own, value-written, latch-next, all-explained}
use Rattle.core_invariant.proofs.UserTraps.{user-mode-step}
use Rattle.core_invariant.proofs.UserFaults.{other-now, step-explained}

-- what the user case of a hart says of its task
record IsOfTask (T : Task) (tasks : List Task) (g : HartState) (d : ContextState) : Type 0 where
  valid : IsValidTask T
  is_task : slice_get tasks d.body.task_no ≡ Some T
  is_running : IsRunning T d.body.count
  output : d.body.output ≡ (alone_at T d.body.count).output
  tape_at : d.body.tape_at ≡ (alone_at T d.body.count).tape_at
  data_words : (i : ℕ) → i < length d.body.data_words → IsOwn d.body.task_no T d.body.count (latches.Mem (d.body.data_at + 4 * i)) (data_word d.body i)
  pc : g.pc ≡ (alone_at T d.body.count).pc
  registers : (i : ℕ) → i < 32 → IsOwn d.body.task_no T d.body.count (latches.Reg i) (hart_cell g (places.Reg i))
  port_a : IsOwnOrPublic d.body.task_no T d.body.count latches.PortA g.port_a
  port_b : IsOwnOrPublic d.body.task_no T d.body.count latches.PortB g.port_b
  res : IsOwnOrPublic d.body.task_no T d.body.count latches.Res g.res
  load : IsOwnOrPublic d.body.task_no T d.body.count latches.Load g.load
  store : IsOwnOrPublic d.body.task_no T d.body.count latches.Store g.store
  mul : IsOwnOrPublic d.body.task_no T d.body.count latches.Mul g.mul
  bound_registers : g.csrs.pmp.addrs ≡ bounds_of T
  bounds : (i : ℕ) → i < 4 → slot_word d (bound_word i) ≡ public (get_or (bounds_of T) i 0)

module _ (tasks : List Task) (number : ℕ) (h : HartState) (c : ContextState) (is : IsUserState tasks number h c)
    (none : interrupt_of h.csrs (is_fuel_used h.held) ≡ None) (runs : (alone_at (task_of c.body) c.body.count).end ≡ None)
    (left : c.body.count < c.body.fuel) (goes : GoesOnAlone (task_of c.body) (alone_at (task_of c.body) c.body.count) h c) where
  abbrev T : Task
  T = task_of c.body

  abbrev n : ℕ
  n = c.body.count

  abbrev s : AloneState
  s = alone_at T n

  abbrev g : HartState
  g = goes.hart

  abbrev d : ContextState
  d = record c { body = record c.body { data_words = goes.context.body.data_words; count = n + 1 } }

  same_task : task_of d.body ≡ T
  same_task = sym (ap (λ (x : ContextState). task_of x.body) goes.rest) ∙ goes.alone.task

  stepped : HasStepped h c g d
  stepped = record {
    held = goes.alone.held ∙ ap (λ (x : ContextState). Some x) goes.rest;
    task = same_task;
    slot = refl;
    words = refl;
    scratch = ap (λ (x : CsrFile). x.mscratch) goes.csrs;
    zero_word = goes.zero_word;
    registers = goes.alone.registers;
  }

  -- the run alone has what is written
  task_now : (l : Latch) → IsTaskLatch T l → IsRunLatch T l → alone_value T (n + 1) l ≡ written_value T s l
  task_now l task run =
      (next-state T n runs).value l ∙ sym (goes.alone.values l task)
      ∙ value-written tasks number h c is none g d goes.probes Ran goes.step stepped l task run

  run_now : (l : Latch) → IsRunLatch T l → alone_value T (n + 1) l ≡ written_value T s l
  run_now (latches.Reg r) run = task_now (latches.Reg r) run run
  run_now latches.PortA run = other-now tasks number h c is none runs latches.PortA tt
  run_now latches.PortB run = other-now tasks number h c is none runs latches.PortB tt
  run_now latches.Res run = other-now tasks number h c is none runs latches.Res tt
  run_now latches.Load run = other-now tasks number h c is none runs latches.Load tt
  run_now latches.Store run = other-now tasks number h c is none runs latches.Store tt
  run_now latches.Scr run = absurd run
  run_now latches.Mul run = other-now tasks number h c is none runs latches.Mul tt
  run_now (latches.Mem at) run = task_now (latches.Mem at) run run

  next : (l : Latch) → IsRunLatch T l → IsNext T c.body.task_no n l (hart_cell h (run_place T l)) (hart_cell g (run_place T l))
  next l run = latch-next tasks number h c is none g d goes.probes Ran goes.step stepped l run (run_now l run)

  run_truthful : (l : Latch) → IsRunLatch T l → IsTruthful tasks (hart_cell g (run_place T l))
  run_truthful l run =
      truthful-next T c.body.task_no n l tasks is.user.body.is_task (hart_cell h (run_place T l)) (hart_cell g (run_place T l)) (next l run)
      (is.sound.truthful (run_place T l))

  -- the latches of the task at the next count
  port_next : (l : Latch) → IsRunLatch T l → IsOwnOrPublic c.body.task_no T n l (hart_cell h (run_place T l))
      → IsOwnOrPublic c.body.task_no T (n + 1) l (hart_cell g (run_place T l))
  port_next l run own = public-next T c.body.task_no n l (hart_cell h (run_place T l)) (hart_cell g (run_place T l)) (next l run) own

  reg_next : (i : ℕ) → i < 32 → IsOwn c.body.task_no T (n + 1) (latches.Reg i) (hart_cell g (places.Reg i))
  reg_next i low =
      own-next T c.body.task_no n (latches.Reg i) (hart_cell h (places.Reg i)) (hart_cell g (places.Reg i)) (next (latches.Reg i) low) (is.user.registers i low)

  data_cell : (o : Option ContextState) (e : ContextState) (i : ℕ) → o ≡ Some e → get_or (held_data o) i blank ≡ data_word e.body i
  data_cell o e i held = ap (λ (x : Option ContextState). get_or (held_data x) i blank) held

  word_next : (i : ℕ) → i < T.data_len → IsOwn c.body.task_no T (n + 1) (latches.Mem (T.data_at + 4 * i)) (data_word d.body i)
  word_next i low =
      let l : Latch = latches.Mem (T.data_at + 4 * i) in
      let there : IsNext T c.body.task_no n l (hart_cell h (places.DataWord i)) (hart_cell g (places.DataWord i)) =
      subst (λ (k : ℕ). IsNext T c.body.task_no n l (hart_cell h (places.DataWord k)) (hart_cell g (places.DataWord k))) (word-index T i)
      (next l (word-latch T i is.valid low)) in
      let cells : IsNext T c.body.task_no n l (data_word c.body i) (data_word d.body i) =
      subst (λ (x : Cell). IsNext T c.body.task_no n l x (data_word d.body i)) (data_cell h.held c i is.user.held)
      (subst (λ (x : Cell). IsNext T c.body.task_no n l (hart_cell h (places.DataWord i)) x) (data_cell g.held d i stepped.held) there) in
      own-next T c.body.task_no n l (data_word c.body i) (data_word d.body i) cells (is.user.body.data_words i low)

  checked_running : IsRunning T (n + 1)
  checked_running = (next-state T n runs).end (goes.end_stays ∙ runs)

  of_task : IsOfTask T tasks g d
  of_task = record {
    valid = is.valid;
    is_task = is.user.body.is_task;
    is_running = checked_running;
    output = sym (ap (λ (x : ContextState). x.body.output) goes.rest) ∙ goes.alone.output ∙ sym (next-state T n runs).output;
    tape_at = sym (ap (λ (x : ContextState). x.body.tape_at) goes.rest) ∙ goes.alone.tape_at ∙ sym (next-state T n runs).tape_at;
    data_words = λ i low. word_next i (subst (λ (t : Task). i < t.data_len) same_task low);
    pc = goes.alone.pc ∙ sym (next-state T n runs).pc;
    registers = reg_next;
    port_a = port_next latches.PortA tt is.user.port_a;
    port_b = port_next latches.PortB tt is.user.port_b;
    res = port_next latches.Res tt is.user.res;
    load = port_next latches.Load tt is.user.load;
    store = port_next latches.Store tt is.user.store;
    mul = port_next latches.Mul tt is.user.mul;
    bound_registers = ap (λ (x : CsrFile). x.pmp.addrs) goes.csrs ∙ is.user.bound_registers;
    bounds = is.user.bounds;
  }

  of_its_task : IsOfTask (task_of d.body) tasks g d
  of_its_task = subst (λ (t : Task). IsOfTask t tasks g d) (sym same_task) of_task

  user_case : IsUserCase tasks g d
  user_case =
      let of = of_its_task in
      record {
        mode = ap (λ (x : CsrFile). x.mode) goes.csrs ∙ is.user.mode;
        held = stepped.held;
        body = record { is_task = of.is_task; is_running = of.is_running; output = of.output; tape_at = of.tape_at; data_words = of.data_words };
        no_end = is.user.no_end;
        pc = of.pc;
        registers = of.registers;
        port_a = of.port_a;
        port_b = of.port_b;
        res = of.res;
        load = of.load;
        store = of.store;
        mul = of.mul;
        scratch = ap (λ (x : CsrFile). x.mscratch) goes.csrs ∙ is.user.scratch;
        bound_registers = of.bound_registers;
        words = is.user.words;
        saved_pc = is.user.saved_pc;
        saved_registers = is.user.saved_registers;
        bounds = of.bounds;
      }

  user_state : IsUserState tasks number g d
  user_state = record {
    sound = record {
      csrs = subst (λ (x : CsrFile). AreCsrsSound number x) (sym goes.csrs) is.sound.csrs;
      registers = stepped.registers;
      zero = goes.zero_word ∙ is.sound.zero;
      truthful = all-truthful tasks number h g c d is stepped run_truthful;
      public_alone = λ nothing. absurd (let held = stepped.held in cc (nothing, held));
      user = λ mode. (d, user_case);
    };
    user = user_case;
    slot = is.slot;
    valid = of_its_task.valid;
    within = omega (arith, left);
  }

  -- An instruction that goes on.
  pub goes-leads : (code : List ℕ) → UserStepLeads tasks code number h c
  goes-leads code =
      let own = writes-own tasks number h c is none in
      record {
        hart = g;
        probes = goes.probes;
        did = Ran;
        context = d;
        step = user-mode-step tasks number h c is code ∙ goes.step;
        explained = step-explained tasks number h c is none runs g goes.probes Ran goes.step
            (all-explained tasks number h c is none is.user.body.is_task run_now (alone_effect T s).writes own.latches own.values);
        held = stepped.held;
        task_no = refl;
        slot = refl;
        outcome = inl user_state;
        at_trap = λ cause e. absurd (cc e);
      }
