-- A step in user mode writes its own values.
use Rattle.std.proofs.Common.{◌≡◌, ℕ, zero, suc, ◌+◌, ◌<◌, inl, inr, true, List, [], ◌∷◌, map, get_or, All, Option, Some, None, refl, ap, sym, ◌∙◌, subst, arith}
use Rattle.std.proofs.lemmas.Bool.{cond_both}
use Rattle.std.proofs.lemmas.Grind.{common_steps}
use Rattle.std.proofs.lemmas.List.Elements.{All-nil, All-cons}
use Rattle.isa_model.specs.declared.task.Task.{Task}
use Rattle.isa_model.specs.declared.latch.Latch.{Latch}
use Rattle.isa_model.specs.declared.latch.Latch.TheVariants as latches
use Rattle.isa_model.specs.declared.instr.Instr.{Instr}
use Rattle.isa_model.specs.InstrTable.{instr_of}
use Rattle.isa_model.specs.Effect.{Effect, Write, Operands, Next, Goes, Raises, Calls, Returns, effect_of, has_no_repetition}
use Rattle.isa_model.specs.TaskPlaces.{IsValidTask}
use Rattle.isa_model.specs.Alone.{AloneState, code_word_at, is_privileged, operands_of}
use Rattle.hart_model.specs.declared.place.Place.TheVariants as places
use Rattle.hart_model.specs.declared.probe.Probe.{Probe}
use Rattle.hart_model.specs.declared.tag.Cell.{Cell}
use Rattle.hart_model.specs.declared.tag.Mode.{Mode}
use Rattle.hart_model.specs.declared.tag.Tag.{Tag}
use Rattle.hart_model.specs.Cells.{blank, place_of}
use Rattle.hart_model.specs.Taint.{user_tag}
use Rattle.hart_model.specs.Probes.{probe_of}
use Rattle.hart_model.specs.Traps.{interrupt_of}
use Rattle.hart_model.specs.Context.{ContextState, task_of}
use Rattle.hart_model.specs.HartState.{HartState, bases_of, held_data, hart_cell, latch_cell}
use Rattle.hart_model.specs.Writes.{HartAndProbes}
use Rattle.hart_model.specs.StepResult.{StepResult, hart_after, probes_of}
use Rattle.hart_model.specs.UserStep.{exception, user_step, is_fuel_used, after_user_writes, held_with_next_count, with_next_count}
use Rattle.hart_model.specs.UserLaws.{IsTaskLatch, IsRunLatch, IsAtRunAlone, alone_effect_of_instr, alone_effect_of_word, alone_effect, cell_or_blank, user_entry, IsOwnOrKept, WritesOwn, UserStepWritesOwn}
use Rattle.hart_model.proofs.EffectShapes.{IsRunWrite, IsPortWrite, AllTo, HasShapeBy, effect_shape}
use Rattle.hart_model.proofs.UserWrites.{data_index, place_of_data, write_all}
use Rattle.hart_model.proofs.UserStepIsAlone.{step_is, lists, wrote, after_wrote}
use Rattle.hart_model.proofs.UserWritesOwn.{run_place, cell_of_run, run_of_write, last_cell, HoldBefore, own_or_kept, values_written, all_fresh, cells_after, entries_after}

written_once : (instr : Instr) (pc : ℕ) (o : Operands) → has_no_repetition (effect_of instr pc o).writes ≡ true
written_once instr pc o = grind (arith, common_steps)

-- the effect of the run alone's instruction writes no latch twice
module _ (T : Task) (s : AloneState) where
  instr_once : (found : Option Instr) → has_no_repetition (alone_effect_of_instr T s found).writes ≡ true
  instr_once None = refl
  instr_once (Some instr) =
      cond_both (is_privileged instr) (exception 2) (effect_of instr s.pc (operands_of T s.value instr)) (λ (e : Effect). has_no_repetition e.writes ≡ true)
      (λ t. refl) (λ f. written_once instr s.pc (operands_of T s.value instr))

  word_once : (word : Option ℕ) → has_no_repetition (alone_effect_of_word T s word).writes ≡ true
  word_once None = refl
  word_once (Some word) = instr_once (instr_of word)

  effect_once : has_no_repetition (alone_effect T s).writes ≡ true
  effect_once = word_once (code_word_at T s.pc)

-- and writes latches of the run alone
port_is_run : (T : Task) (l : Latch) → IsPortWrite l → IsRunWrite T l
port_is_run T latches.PortA port = tt
port_is_run T latches.PortB port = tt
port_is_run T latches.Res port = tt
port_is_run T (latches.Reg r) port = absurd port
port_is_run T (latches.Mem at) port = absurd port
port_is_run T latches.Load port = absurd port
port_is_run T latches.Store port = absurd port
port_is_run T latches.Scr port = absurd port
port_is_run T latches.Mul port = absurd port

ports_are_run : (T : Task) (ws : List Write) → AllTo IsPortWrite ws → AllTo (IsRunWrite T) ws
ports_are_run T [] ports = tt
ports_are_run T (w ∷ ws) ports = (port_is_run T w.to ports.0, ports_are_run T ws ports.1)

all_run : (T : Task) (writes : List Write) (next : Next) → HasShapeBy T writes next → AllTo (IsRunWrite T) writes
all_run T writes (Goes pc) shape = shape.1
all_run T writes (Raises cause) shape = ports_are_run T writes shape.1
all_run T writes Calls shape = subst (λ (ws : List Write). AllTo (IsRunWrite T) ws) (sym shape) tt
all_run T writes Returns shape = absurd shape

all_latches : (T : Task) (ws : List Write) → AllTo (IsRunWrite T) ws → All (λ (w : Write). IsRunLatch T w.to) ws
all_latches T [] run = All-nil _
all_latches T (w ∷ ws) run = All-cons (λ (u : Write). IsRunLatch T u.to) w ws (run_of_write T w.to run.0) (all_latches T ws run.1)

-- harts with the same cells of the run
record SameCells (g f : HartState) : Type 0 where
  regs : f.regs ≡ g.regs
  port_a : f.port_a ≡ g.port_a
  port_b : f.port_b ≡ g.port_b
  res : f.res ≡ g.res
  load : f.load ≡ g.load
  store : f.store ≡ g.store
  mul : f.mul ≡ g.mul
  words : held_data f.held ≡ held_data g.held

same_cell : (T : Task) (g f : HartState) (l : Latch) → SameCells g f → IsRunLatch T l → hart_cell f (run_place T l) ≡ hart_cell g (run_place T l)
same_cell T g f (latches.Reg zero) same run = refl
same_cell T g f (latches.Reg (suc r)) same run = ap (λ (cs : List Cell). get_or cs (suc r) blank) same.regs
same_cell T g f latches.PortA same run = same.port_a
same_cell T g f latches.PortB same run = same.port_b
same_cell T g f latches.Res same run = same.res
same_cell T g f latches.Load same run = same.load
same_cell T g f latches.Store same run = same.store
same_cell T g f latches.Scr same run = absurd run
same_cell T g f latches.Mul same run = same.mul
same_cell T g f (latches.Mem at) same run = ap (λ (cs : List Cell). get_or cs (data_index T at) blank) same.words

-- what follows the writes leaves the cells, and what is held with one more instruction
record LeavesCells (g f : HartState) : Type 0 where
  cells : SameCells g f
  counts : f.held ≡ held_with_next_count g.held

counted_data : (o : Option ContextState) → held_data (held_with_next_count o) ≡ held_data o
counted_data None = refl
counted_data (Some c) = refl

leaves_cells : (h g : HartState) (probes : List Probe) (next : Next) → LeavesCells g (hart_after h (after_user_writes (record { hart = with_next_count g; probes = probes }) next))
leaves_cells h g probes (Goes pc) = record { cells = record { regs = refl; port_a = refl; port_b = refl; res = refl; load = refl; store = refl; mul = refl; words = counted_data g.held }; counts = refl }
leaves_cells h g probes (Raises cause) = record { cells = record { regs = refl; port_a = refl; port_b = refl; res = refl; load = refl; store = refl; mul = refl; words = counted_data g.held }; counts = refl }
leaves_cells h g probes Calls = record { cells = record { regs = refl; port_a = refl; port_b = refl; res = refl; load = refl; store = refl; mul = refl; words = counted_data g.held }; counts = refl }
leaves_cells h g probes Returns = record { cells = record { regs = refl; port_a = refl; port_b = refl; res = refl; load = refl; store = refl; mul = refl; words = counted_data g.held }; counts = refl }

leaves_probes : (a : HartAndProbes) (next : Next) → probes_of (after_user_writes a next) ≡ a.probes
leaves_probes a (Goes pc) = refl
leaves_probes a (Raises cause) = refl
leaves_probes a Calls = refl
leaves_probes a Returns = refl

module _ (s : AloneState) (h : HartState) (c : ContextState) (valid : IsValidTask (task_of c.body)) (at : IsAtRunAlone (task_of c.body) s h c)
    (none : interrupt_of h.csrs (is_fuel_used h.held) ≡ None) where
  abbrev T : Task
  T = task_of c.body

  abbrev e : Effect
  e = alone_effect T s

  abbrev tag : Write → Tag
  tag w = user_tag c.body.task_no c.body.count w.to

  run : AllTo (IsRunWrite T) e.writes
  run = all_run T e.writes e.next (effect_shape T s valid at.pc_aligned)

  data_place : (a : ℕ) → IsTaskLatch T (latches.Mem a) → place_of (bases_of (Some c)) (latches.Mem a) ≡ Some (places.DataWord (data_index T a))
  data_place a inside = place_of_data c a valid at.slot inside

  hold : (ws : List Write) → AllTo (IsRunWrite T) ws → HoldBefore T (λ l. cell_or_blank (latch_cell h l)) h ws
  hold [] writes = tt
  hold (w ∷ ws) writes =
      (ap (λ (o : Option Cell). cell_or_blank o) (sym (cell_of_run h c T w.to at.held refl valid at.slot (run_of_write T w.to writes.0))), hold ws writes.1)

  -- the entries
  entries : probes_of (user_step h) ≡ map (user_entry h c.body) e.writes
  entries =
      ap (λ (r : StepResult). probes_of r) (step_is s h c valid at none)
      ∙ leaves_probes (record { hart = with_next_count (wrote s h c valid at none e).hart; probes = (wrote s h c valid at none e).probes }) e.next
      ∙ entries_after T (bases_of (Some c)) valid refl data_place (λ l. cell_or_blank (latch_cell h l)) tag e.writes h c s.value run (all_fresh e.writes (effect_once T s)) (hold e.writes run) at.held refl
      (lists s h c valid at none)
      ∙ ap (λ (m : Mode). map (λ (w : Write). probe_of h.csrs.hart h.pc m w.to (cell_or_blank (latch_cell h w.to)) (record { value = w.value; tag = tag w })) e.writes) at.mode

  -- the cells
  cells : (l : Latch) → IsRunLatch T l → IsOwnOrKept T s h c (hart_after h (user_step h)) l
  cells l latch =
      let a = wrote s h c valid at none e in
      let w = write_all T (bases_of (Some c)) valid data_place tag e.writes h c s.value run at.held (lists s h c valid at none) in
      let g : HartState = hart_after h (after_wrote s h c valid at none e e.next) in
      let leaves = leaves_cells h a.hart a.probes e.next in
      let d : ContextState = record w.context { body = record w.context.body { count = w.context.body.count + 1 } } in
      let held : g.held ≡ Some d = leaves.counts ∙ ap (λ (o : Option ContextState). held_with_next_count o) w.later.holds in
      let task : task_of d.body ≡ T = ap (λ (x : ContextState). task_of x.body) w.later.rest ∙ ap (λ (n : ℕ). record (task_of c.body) { data_len = n }) w.lists.how_many_words in
      let slot : d.slot < 8 = subst (λ (x : ContextState). x.slot < 8) (sym w.later.rest) at.slot in
      let now : latch_cell g l ≡ Some (last_cell tag e.writes (hart_cell h (run_place T l)) l) =
      cell_of_run g d T l held task valid slot latch
      ∙ ap (λ (x : Cell). Some x) (same_cell T a.hart g l leaves.cells latch
      ∙ cells_after T (bases_of (Some c)) valid data_place tag e.writes h c s.value run at.held (lists s h c valid at none) l latch) in
      let was : latch_cell h l ≡ Some (hart_cell h (run_place T l)) = cell_of_run h c T l at.held refl valid at.slot latch in
      subst (λ (r : StepResult). IsOwnOrKept T s h c (hart_after h r) l) (sym (step_is s h c valid at none))
      (elim (own_or_kept c.body.task_no c.body.count e.writes (hart_cell h (run_place T l)) s.value l) [
        | inl own ↦ inl (now ∙ ap (λ (x : Cell). Some x) own)
        | inr kept ↦ inr (now ∙ ap (λ (x : Cell). Some x) kept.0 ∙ sym was, kept.1)
      ])

  writes_own : WritesOwn T s h c
  writes_own = record {
    latches = all_latches T e.writes run;
    values = values_written e.writes s.value (all_fresh e.writes (effect_once T s));
    entries = entries;
    cells = cells;
  }

pub user_step_writes_own : UserStepWritesOwn
user_step_writes_own T valid s h c at none =
    subst (λ (U : Task). IsValidTask U → IsAtRunAlone U s h c → WritesOwn U s h c) at.task (λ v a. writes_own s h c v a none) valid at
