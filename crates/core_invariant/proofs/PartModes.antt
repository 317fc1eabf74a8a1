-- A save part or a restore part stays in machine mode: in user mode the step at one of its words would trap.
use Rattle.std.proofs.Common.{◌≡◌, ℕ, suc, ◌+◌, ◌*◌, ◌/◌, ◌-◌, ◌≤◌, ◌<◌, Bool, true, false, List, [], ◌∷◌, length, slice_get, nat_le, Option, Some, None, refl, sym, ap, subst, ◌∙◌, arith}
use Rattle.std.proofs.lemmas.Bool.{cond_both, cond-false, lt-leb}
use Rattle.isa_model.specs.declared.task.Task.{Task}
use Rattle.isa_model.specs.TaskPlaces.{IsValidTask}
use Rattle.isa_model.specs.Alone.{code_word_at}
use Rattle.hart_model.specs.declared.access.Access.TheVariants.{Fetch}
use Rattle.hart_model.specs.declared.calls.Did.{Did}
use Rattle.hart_model.specs.declared.probe.Probe.{Probe}
use Rattle.hart_model.specs.declared.tag.Mode.{Mode}
use Rattle.hart_model.specs.declared.tag.Mode.TheVariants.{User, Machine}
use Rattle.hart_model.specs.Pmp.{is_allowed}
use Rattle.hart_model.specs.Traps.{interrupt_of}
use Rattle.hart_model.specs.Context.{ContextState, task_of}
use Rattle.hart_model.specs.HartState.{HartState, tick_of}
use Rattle.hart_model.specs.StepResult.{StepResult, Steps}
use Rattle.hart_model.specs.Writes.{HartAndProbes}
use Rattle.hart_model.specs.UserStep.{user_step, by_interrupt, user_instr_step, user_code_word, user_effect_of_word, after_user_effect, is_fuel_used}
use Rattle.hart_model.specs.MachineStep.{kernel_address}
use Rattle.hart_model.specs.HartStep.{step_by_mode}
use Rattle.core_model.specs.Soundness.{IsHartSound}
use Rattle.core_model.specs.Routines.{ticked_if, HoldsSame, part_step, run_of_part, ComesTo, IsPartSound, IsRestoring}
use Rattle.symbolic_run.proofs.PartRuns.{comes-map, after_probes, then-came, step-of-part}
use Rattle.core_invariant.specs.KernelStates.{KernelParts, IsKernel, restore_at}
use Rattle.core_invariant.specs.CutPoints.{IsAtTrap}

-- A step of a hart in user mode that ends at mtvec.
record GoesToTrap (h : HartState) (step : StepResult) : Type 0 where
  after : HartState
  probes : List Probe
  did : Did
  step_is : step ≡ Steps after probes did
  pc : after.pc ≡ h.csrs.mtvec

-- no word of a task's code stands below it
no-word : (h : HartState) (c : ContextState) → h.pc < c.body.code_at → user_code_word h c.body ≡ None
no-word h c low =
    cond_both (is_allowed User h.csrs.pmp h.pc 4 Fetch) (code_word_at (task_of c.body) h.pc) None (λ (o : Option ℕ). o ≡ None)
    (λ t. cond-false (nat_le c.body.code_at h.pc) (slice_get c.body.code ((h.pc - c.body.code_at) / 4)) None (lt-leb c.body.code_at h.pc low)) (λ f. refl)

-- so a step in user mode traps there
traps-below : (h : HartState) (c : ContextState) → h.held ≡ Some c → h.pc < c.body.code_at → (cause : Option ℕ) → GoesToTrap h (by_interrupt h cause)
traps-below h c held low (Some cause) = record { after = _; probes = _; did = _; step_is = refl; pc = refl }
traps-below h c held low None =
    let fetch = no-word h c low in
    let P : Option ContextState → Type 0 = λ o. GoesToTrap h (user_instr_step h o) in
    let Q : Option ℕ → Type 0 = λ w. GoesToTrap h (after_user_effect h c.body (user_effect_of_word h c.body w)) in
    subst P (sym held) (subst Q (sym fetch) (record { after = _; probes = _; did = _; step_is = refl; pc = refl }))

user-traps : (h : HartState) (c : ContextState) → h.held ≡ Some c → h.pc < c.body.code_at → GoesToTrap h (user_step h)
unfolding user_step
user-traps h c held low = traps-below h c held low (interrupt_of h.csrs (is_fuel_used h.held))

module _ (tasks : List Task) (code : List ℕ) (number : ℕ) (c : ContextState) where
  -- a sound hart that holds the same task
  abbrev IsHolder : HartState → Type 0
  IsHolder h = IsHartSound tasks number h × HoldsSame (Some c) h.held

  -- A hart with so many words of a part before it: it holds a valid task of the list, and at each of these words it is sound and holds the
  -- same, whatever ticks come.
  pub record IsInPart (words : ℕ) (h : HartState) : Type 0 where
    pub is_task : slice_get tasks c.body.task_no ≡ Some (task_of c.body)
    pub valid : IsValidTask (task_of c.body)
    pub low : kernel_address ≤ h.pc
    pub high : h.pc + 4 * words ≤ 0x100000
    pub sound : (ticks : List Bool) → length ticks ≤ words → ComesTo (λ a. IsHolder a.hart) (run_of_part code ticks h)

  -- the task that a hart of a part holds in user mode is above the part
  task-above : (words : ℕ) (h : HartState) (d : ContextState) → IsInPart words h → h.held ≡ Some d → slice_get tasks d.body.task_no ≡ Some (task_of d.body)
      → HoldsSame (Some c) h.held → IsValidTask (task_of d.body)
  task-above words h d at held is_task same =
      let P : Option ContextState → Type 0 = λ o. HoldsSame (Some c) o in
      let one = (subst P held same).task_no in
      let both : Some (task_of c.body) ≡ Some (task_of d.body) = sym at.is_task ∙ ap (slice_get tasks) (sym one) ∙ is_task in
      let task : task_of c.body ≡ task_of d.body = cc both in
      subst IsValidTask task at.valid

  -- Before a word that it does, such a hart is in machine mode.
  pub part-machine : (words : ℕ) (ticked : Bool) (h : HartState) (a : HartAndProbes) → IsInPart (suc words) h → part_step code (ticked_if ticked h) ≡ Some a
      → h.csrs.mode ≡ Machine
  part-machine words ticked h a at is = by-mode h.csrs.mode refl
    where
      holder : IsHolder h
      holder = at.sound [] (omega arith)

      goes-on : (d : ContextState) (x : HartState) → IsValidTask (task_of d.body) → x.csrs.mode ≡ User → x.held ≡ Some d → x.pc ≡ h.pc → x.csrs.mtvec ≡ kernel_address
          → part_step code x ≡ Some a → ⊥
      goes-on d x valid mode held pc mtvec step_is =
          let above = valid.code_above in
          let low = at.low in
          let high = at.high in
          let trap = user-traps x d held (omega (arith, above, pc, high)) in
          let step = step-of-part code x a step_is in
          let same : Steps trap.after trap.probes trap.did ≡ Steps a.hart a.probes step.did =
          sym trap.step_is ∙ sym (ap (λ (m : Mode). step_by_mode code x m) mode) ∙ step.step_is in
          let one : trap.after ≡ a.hart = cc same in
          let there = ap (λ (g : HartState). g.pc) one in
          let next = step.next in
          let trapped = trap.pc in
          omega (arith, low, pc, there, next, trapped, mtvec)

      by-ticked : (d : ContextState) (b : Bool) → IsValidTask (task_of d.body) → h.csrs.mode ≡ User → h.held ≡ Some d → part_step code (ticked_if b h) ≡ Some a → ⊥
      by-ticked d true valid mode held step_is = goes-on d (tick_of h) valid mode held refl holder.0.csrs.mtvec step_is
      by-ticked d false valid mode held step_is = goes-on d h valid mode held refl holder.0.csrs.mtvec step_is

      by-mode : (mode : Mode) → h.csrs.mode ≡ mode → mode ≡ Machine
      by-mode Machine mode = refl
      by-mode User mode =
          let user = holder.0.user mode in
          let valid = task-above (suc words) h user.0 at user.1.held user.1.body.is_task holder.1 in
          absurd (by-ticked user.0 ticked valid mode user.1.held is)

  -- After it, it has one word less before it.
  pub part-next : (words : ℕ) (ticked : Bool) (h : HartState) (a : HartAndProbes) → IsInPart (suc words) h → part_step code (ticked_if ticked h) ≡ Some a
      → IsInPart words a.hart
  part-next words ticked h a at is =
      let step = step-of-part code (ticked_if ticked h) a is in
      let next : a.hart.pc ≡ h.pc + 4 = step.next ∙ ap (λ pc. pc + 4) (same-pc ticked) in
      let low = at.low in
      let high = at.high in
      record {
        is_task = at.is_task;
        valid = at.valid;
        low = omega (arith, low, next);
        high = omega (arith, high, next);
        sound = λ ticks le. (let Sound : HartAndProbes → Type 0 = λ x. IsHolder x.hart in
            let t = then-came Sound (part_step code (ticked_if ticked h)) (λ g. run_of_part code ticks g) (at.sound (ticked ∷ ticks) (omega (arith, le))) in
            let both : Some t.0 ≡ Some a = sym t.1 ∙ is in
            let same : t.0 ≡ a = cc both in
            let P : HartAndProbes → Type 0 = λ x. ComesTo Sound (run_of_part code ticks x.hart) in
            subst P same (comes-map (λ x. Sound (after_probes t.0.probes x)) Sound (run_of_part code ticks t.0.hart) (λ x ok. ok) t.2));
      }
    where
      same-pc : (b : Bool) → (ticked_if b h).pc ≡ h.pc
      same-pc true = refl
      same-pc false = refl

-- At a trap the words of the save part are before a hart,
pub in-save : {tasks : List Task} {number n cause : ℕ} {h : HartState} {c : ContextState} (k : KernelParts) → IsKernel k → IsAtTrap tasks number n cause h c
    → IsInPart tasks k.code.words number c k.save h
in-save {tasks = tasks} {number = number} {n = n} {h = h} {c = c} k kernel trap =
    let pc = trap.pc in
    let few = kernel.linked.save_limit in
    record {
      is_task = trap.is_task;
      valid = trap.valid;
      low = omega (arith, pc);
      high = omega (arith, pc, few);
      sound = λ ticks le. comes-map (IsPartSound tasks number c) (λ a. IsHartSound tasks number a.hart × HoldsSame (Some c) a.hart.held)
          (run_of_part k.code.words ticks h) (λ a ok. (ok.sound, ok.holds)) (kernel.saves_explained.sound tasks number n h c ticks trap.trapped le);
    }

-- and where it is to restore a context, those of the restore part.
pub in-restore : {tasks : List Task} {number : ℕ} {h : HartState} {c : ContextState} (k : KernelParts) → IsKernel k → IsRestoring tasks number (restore_at k) h c
    → IsInPart tasks k.code.words number c k.restore h
in-restore {tasks = tasks} {number = number} {h = h} {c = c} k kernel at =
    let pc = at.pc in
    let few = kernel.linked.restore_limit in
    let save_few = kernel.linked.save_limit in
    record {
      is_task = at.context.ready.body.is_task;
      valid = at.context.valid;
      low = omega (arith, pc);
      high = omega (arith, pc, few, save_few);
      sound = λ ticks le. comes-map (IsPartSound tasks number c) (λ a. IsHartSound tasks number a.hart × HoldsSame (Some c) a.hart.held)
          (run_of_part k.code.words ticks h) (λ a ok. (ok.sound, ok.holds)) (kernel.restores_explained.sound tasks number h c ticks at le);
    }
