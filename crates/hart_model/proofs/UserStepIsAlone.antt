-- A step in user mode is one instruction of the run alone.
use Rattle.std.proofs.Common.{◌≡◌, ℕ, ◌+◌, ◌%◌, ◌<◌, ◌⊎◌, inl, inr, Bool, true, false, List, [], Option, Some, None, if◌then◌else◌, refl, ap, sym, ◌∙◌, subst}
use Rattle.isa_model.specs.declared.task.Task.{Task}
use Rattle.isa_model.specs.declared.latch.Latch.{Latch}
use Rattle.isa_model.specs.declared.latch.Latch.TheVariants as latches
use Rattle.isa_model.specs.declared.instr.Instr.{Instr}
use Rattle.isa_model.specs.declared.control.Deed.{Deed}
use Rattle.isa_model.specs.declared.control.Deed.TheVariants.{Ran as RanDeed}
use Rattle.isa_model.specs.declared.ends.End.TheVariants.{Faulted}
use Rattle.isa_model.specs.InstrTable.{instr_of}
use Rattle.isa_model.specs.Effect.{Effect, Write, Next, Goes, Raises, Calls, Returns, effect_of}
use Rattle.isa_model.specs.TaskPlaces.{IsValidTask}
use Rattle.isa_model.specs.Alone.{AloneState, Executed, code_word_at, is_privileged, operands_of, deed_of, rs1_of, values_after, after_instr, after_fetch, after_decode, after_effect, after_writes as alone_after_writes, after_fault}
use Rattle.hart_model.specs.Csrs.{CsrFile}
use Rattle.hart_model.specs.Traps.{csrs_after_trap, interrupt_of}
use Rattle.hart_model.specs.Context.{ContextState, task_of}
use Rattle.hart_model.specs.HartState.{HartState, bases_of}
use Rattle.hart_model.specs.Writes.{HartAndProbes, cell_writes, after_writes}
use Rattle.hart_model.specs.Taint.{user_tag}
use Rattle.hart_model.specs.StepResult.{StepResult}
use Rattle.hart_model.specs.UserStep.{latch_value, exception, user_effect, user_step, is_fuel_used, user_instr_step, by_interrupt, after_user_effect, after_user_writes, held_with_next_count, with_next_count}
use Rattle.hart_model.specs.UserLaws.{IsTaskLatch, IsAtRunAlone, alone_effect_of_instr, alone_effect_of_word, alone_effect, GoesOnAlone, TrapsBy, FaultsAlone, CallsAlone, IsInstrAlone, UserStepIsRunAlone}
use Rattle.hart_model.proofs.UserEffects.{same_effect}
use Rattle.hart_model.proofs.EffectShapes.{IsRunWrite, IsPortWrite, AllTo, HasShapeBy, effect_shape}
use Rattle.hart_model.proofs.UserWrites.{data_value, data_index, ListsHave, value_of_register, value_of_word, place_of_data, write_all, OnlyPorts, write_ports, ports_keep}

-- an instruction of the run alone is what its effect says
pub record Follows (T : Task) (s : AloneState) (e : Effect) (after : Executed) : Type 0 where
  pub deed : Deed
  pub is : after ≡ after_effect T deed e s

module _ (T : Task) (s : AloneState) where
  by_privilege : (privileged : Bool) (deed : Deed) (e : Effect)
      → Follows T s (if privileged then exception 2 else e) (if privileged then after_fault 2 s else after_effect T deed e s)
  by_privilege true deed e = record { deed = RanDeed; is = refl }
  by_privilege false deed e = record { deed = deed; is = refl }

  by_instr : (found : Option Instr) → Follows T s (alone_effect_of_instr T s found) (after_decode T found s)
  by_instr None = record { deed = RanDeed; is = refl }
  by_instr (Some instr) =
      by_privilege (is_privileged instr) (deed_of instr (s.value (latches.Reg (rs1_of instr)))) (effect_of instr s.pc (operands_of T s.value instr))

  by_word : (word : Option ℕ) → Follows T s (alone_effect_of_word T s word) (after_fetch T word s)
  by_word None = record { deed = RanDeed; is = refl }
  by_word (Some word) = by_instr (instr_of word)

  pub instr_follows : Follows T s (alone_effect T s) (after_instr T s)
  unfolding after_instr
  instr_follows = by_word (code_word_at T s.pc)

-- the value of a data word of what a hart holds
word_value : (h : HartState) (c : ContextState) (T : Task) (at : ℕ) → h.held ≡ Some c → task_of c.body ≡ T → IsValidTask T → c.slot < 8
    → IsTaskLatch T (latches.Mem at) → latch_value h (latches.Mem at) ≡ data_value c.body.data_words (data_index T at)
word_value h c T at held task =
    subst (λ (U : Task). IsValidTask U → c.slot < 8 → IsTaskLatch U (latches.Mem at) → latch_value h (latches.Mem at) ≡ data_value c.body.data_words (data_index U at)) task
    (λ valid slot inside. value_of_word h c at held valid slot inside)

-- the values of registers and data words, where the lists have them
pub latch_values : (h : HartState) (c : ContextState) (T : Task) (v : Latch → ℕ) → h.held ≡ Some c → task_of c.body ≡ T → IsValidTask T → c.slot < 8
    → ListsHave T h.regs c.body.data_words v → (l : Latch) → IsTaskLatch T l → latch_value h l ≡ v l
latch_values h c T v held task valid slot lists (latches.Reg r) inside = value_of_register h r ∙ lists.in_regs r inside
latch_values h c T v held task valid slot lists (latches.Mem at) inside = word_value h c T at held task valid slot inside ∙ lists.in_words at inside
latch_values h c T v held task valid slot lists latches.PortA inside = absurd inside
latch_values h c T v held task valid slot lists latches.PortB inside = absurd inside
latch_values h c T v held task valid slot lists latches.Res inside = absurd inside
latch_values h c T v held task valid slot lists latches.Load inside = absurd inside
latch_values h c T v held task valid slot lists latches.Store inside = absurd inside
latch_values h c T v held task valid slot lists latches.Scr inside = absurd inside
latch_values h c T v held task valid slot lists latches.Mul inside = absurd inside

module _ (s : AloneState) (h : HartState) (c : ContextState) (valid : IsValidTask (task_of c.body)) (at : IsAtRunAlone (task_of c.body) s h c)
    (none : interrupt_of h.csrs (is_fuel_used h.held) ≡ None) where
  abbrev T : Task
  T = task_of c.body

  abbrev e : Effect
  e = alone_effect T s

  same : user_effect h c.body ≡ e
  same = same_effect s h c.body (record {
    valid = valid;
    pmp = at.pmp;
    pc = at.pc;
    pc_aligned = at.pc_aligned;
    values = record { registers = λ r low. at.values (latches.Reg r) low; words = λ a inside. at.values (latches.Mem a) inside };
  })

  -- the lists of cells have the values of the run alone
  pub lists : ListsHave T h.regs c.body.data_words s.value
  lists = record {
    in_regs = λ r low. sym (value_of_register h r) ∙ at.values (latches.Reg r) low;
    in_words = λ a inside. sym (value_of_word h c a at.held valid at.slot inside) ∙ at.values (latches.Mem a) inside;
    how_many_regs = at.registers;
    how_many_words = refl;
  }

  -- the hart after the writes, with its entries
  abbrev pub wrote : Effect → HartAndProbes
  wrote f = after_writes (cell_writes (bases_of (Some c)) (λ (w : Write). user_tag c.body.task_no c.body.count w.to) f.writes) h

  abbrev pub after_wrote : Effect → Next → StepResult
  after_wrote f next = after_user_writes (record { hart = with_next_count (wrote f).hart; probes = (wrote f).probes }) next

  -- the step is the one instruction by the effect of the run alone
  pub step_is : user_step h ≡ after_wrote (e) (e).next
  unfolding user_step
  step_is =
      ap (λ (o : Option ℕ). by_interrupt h o) none
      ∙ ap (λ (o : Option ContextState). user_instr_step h o) at.held
      ∙ ap (λ (f : Effect). after_user_effect h c.body f) same
      ∙ ap (λ (o : Option ContextState). after_by_bases o (e)) at.held
    where
      after_by_bases : Option ContextState → Effect → StepResult
      after_by_bases o f =
          let a = after_writes (cell_writes (bases_of o) (λ (w : Write). user_tag c.body.task_no c.body.count w.to) f.writes) h in
          after_user_writes (record { hart = with_next_count a.hart; probes = a.probes }) f.next

  -- what the run alone leaves, by what follows its writes
  alone_state : (next : Next) (after : AloneState) → e.next ≡ next → ((deed : Deed) → (alone_after_writes T deed next (record s { value = values_after e.writes s.value })).state ≡ after)
      → (after_instr T s).state ≡ after
  alone_state next after is state =
      let f = instr_follows T s in
      ap (λ (d : Executed). d.state) f.is
      ∙ ap (λ (n : Next). (alone_after_writes T f.deed n (record s { value = values_after e.writes s.value })).state) is
      ∙ state f.deed

  -- it goes on
  goes_on : (pc : ℕ) → e.next ≡ Goes pc → pc % 4 ≡ 0 → AllTo (IsRunWrite T) e.writes → GoesOnAlone T s h c
  goes_on pc is even run =
      let w = write_all T (bases_of (Some c)) valid (λ a inside. place_of_data c a valid at.slot inside) (λ (x : Write). user_tag c.body.task_no c.body.count x.to) e.writes h c s.value run at.held lists in
      let hart : HartState = record (with_next_count (wrote e).hart) { pc = pc } in
      let d : ContextState = w.context in
      let context : ContextState = record d { body = record d.body { count = d.body.count + 1 } } in
      let held : hart.held ≡ Some context = ap (λ (o : Option ContextState). held_with_next_count o) w.later.holds in
      let task : task_of context.body ≡ T =
      ap (λ (x : ContextState). task_of x.body) w.later.rest ∙ ap (λ (n : ℕ). record (task_of c.body) { data_len = n }) w.lists.how_many_words in
      let slot : context.slot < 8 = subst (λ (x : ContextState). x.slot < 8) (sym w.later.rest) at.slot in
      let state : AloneState = record s { value = values_after e.writes s.value; pc = pc } in
      let alone : (after_instr T s).state ≡ state = alone_state (Goes pc) state is (λ deed. refl) in
      record {
        hart = hart;
        context = context;
        probes = (wrote e).probes;
        step = step_is ∙ ap (λ (n : Next). after_wrote e n) is;
        alone = subst (λ (x : AloneState). IsAtRunAlone T x hart context) (sym alone) (record {
          held = held;
          task = task;
          slot = slot;
          registers = w.lists.how_many_regs;
          mode = ap (λ (x : CsrFile). x.mode) w.later.csrs ∙ at.mode;
          pmp = ap (λ (x : CsrFile). x.pmp) w.later.csrs ∙ at.pmp;
          pc = refl;
          pc_aligned = even;
          values = latch_values hart context T (values_after e.writes s.value) held task valid slot (record {
            in_regs = w.lists.in_regs;
            in_words = w.lists.in_words;
            how_many_regs = w.lists.how_many_regs;
            how_many_words = w.lists.how_many_words;
          });
          output = ap (λ (x : ContextState). x.body.output) w.later.rest ∙ at.output;
          tape_at = ap (λ (x : ContextState). x.body.tape_at) w.later.rest ∙ at.tape_at;
        });
        end_stays = ap (λ (x : AloneState). x.end) alone;
        csrs = w.later.csrs;
        zero_word = w.later.zero_word;
        rest = ap (λ (x : ContextState). record x { body = record x.body { count = x.body.count + 1 } }) w.later.rest;
      }

  -- a trap after writes of ports and Res alone
  traps_by : (cause : ℕ) → OnlyPorts h (wrote e).hart → user_step h ≡ after_wrote e (Raises cause) → TrapsBy cause h c
  traps_by cause only step = record {
    hart = record (with_next_count (wrote e).hart) { csrs = csrs_after_trap (wrote e).hart.csrs cause (wrote e).hart.pc; pc = (wrote e).hart.csrs.mtvec };
    probes = (wrote e).probes;
    step = step;
    pc = ap (λ (x : CsrFile). x.mtvec) only.csrs;
    csrs = ap (λ (x : CsrFile). csrs_after_trap x cause (wrote e).hart.pc) only.csrs ∙ ap (λ (n : ℕ). csrs_after_trap h.csrs cause n) only.pc;
    registers = only.regs;
    zero_word = only.zero_word;
    held = ap (λ (o : Option ContextState). held_with_next_count o) (only.held ∙ at.held);
  }

  -- it faults
  faults : (cause : ℕ) → e.next ≡ Raises cause → cause < 8 → AllTo IsPortWrite e.writes → FaultsAlone T s h c cause
  faults cause is low ports =
      let only = write_ports (bases_of (Some c)) (λ (x : Write). user_tag c.body.task_no c.body.count x.to) e.writes h ports in
      let state : AloneState = record s { value = values_after e.writes s.value; end = Some (Faulted cause s.pc) } in
      let alone : (after_instr T s).state ≡ state = alone_state (Raises cause) state is (λ deed. refl) in
      record {
        traps = traps_by cause only (step_is ∙ ap (λ (n : Next). after_wrote e n) is);
        is_low = low;
        ends = ap (λ (x : AloneState). x.end) alone;
        values = λ l inside. ap (λ (x : AloneState). x.value l) alone ∙ ports_keep T e.writes l s.value ports inside;
        pc = ap (λ (x : AloneState). x.pc) alone;
        output = ap (λ (x : AloneState). x.output) alone;
        tape_at = ap (λ (x : AloneState). x.tape_at) alone;
      }

  -- it calls a service
  calls : e.next ≡ Calls → e.writes ≡ [] → CallsAlone T s h c
  calls is nothing =
      let f = instr_follows T s in
      let only = write_ports (bases_of (Some c)) (λ (x : Write). user_tag c.body.task_no c.body.count x.to) e.writes h (subst (λ (ws : List Write). AllTo IsPortWrite ws) (sym nothing) tt) in
      record {
        traps = traps_by 8 only (step_is ∙ ap (λ (n : Next). after_wrote e n) is);
        serves = f.is
            ∙ ap (λ (n : Next). alone_after_writes T f.deed n (record s { value = values_after e.writes s.value })) is
            ∙ ap (λ (ws : List Write). alone_after_writes T f.deed Calls (record s { value = values_after ws s.value })) nothing;
      }

  by_next : (next : Next) → e.next ≡ next → HasShapeBy T e.writes next → GoesOnAlone T s h c ⊎ ((cause : ℕ) × FaultsAlone T s h c cause) ⊎ CallsAlone T s h c
  by_next (Goes pc) is shape = inl (goes_on pc is shape.0 shape.1)
  by_next (Raises cause) is shape = inr (inl (cause, faults cause is shape.0 shape.1))
  by_next Calls is shape = inr (inr (calls is shape))
  by_next Returns is shape = absurd shape

  is_instr_alone : IsInstrAlone T s h c
  is_instr_alone = record { effect = same; follows = by_next e.next refl (effect_shape T s valid at.pc_aligned) }

pub user_step_is_alone : UserStepIsRunAlone
user_step_is_alone T valid s h c at none =
    subst (λ (U : Task). IsValidTask U → IsAtRunAlone U s h c → IsInstrAlone U s h c) at.task (λ v a. is_instr_alone s h c v a none) valid at
