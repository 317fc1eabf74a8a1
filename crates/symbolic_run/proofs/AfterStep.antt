-- After a step of a path the hart is as the path says then.
use Rattle.std.proofs.Common.{◌≡◌, ℕ, ◌+◌, ◌*◌, Bool, List, length, All, Option, Some, None, option_map, refl, sym, ap, ◌∙◌, subst}
use Rattle.isa_model.specs.declared.instr.Instr.{Instr}
use Rattle.hart_model.specs.declared.tag.Cell.{Cell}
use Rattle.hart_model.specs.Csrs.{CsrFile}
use Rattle.hart_model.specs.Context.{ContextState, data_word}
use Rattle.hart_model.specs.Ports.{SideEffect, Nothing, Outputs, AdvancesTape, Ends, ClearsTimer}
use Rattle.hart_model.specs.HartState.{HartState, cells_of, held_words}
use Rattle.hart_model.specs.Writes.{HartAndProbes, after_writes}
use Rattle.hart_model.specs.MachineStep.{held_after_side, after_side}
use Rattle.core_model.specs.Soundness.{AreCsrsSound, IsTruthful}
use Rattle.core_model.specs.Explained.{IsExplained}
use Rattle.symbolic_run.specs.AbstractCell.{AbstractState}
use Rattle.symbolic_run.specs.AbstractRun as run
use Rattle.symbolic_run.specs.Concretization.{Valuation, IsSound, Denotes, AllDenote, RegsDenote, IsDenotedBy}
use Rattle.symbolic_run.specs.SymbolicPath.{PathState, PathStep, IsAsPathSays, TakesStep}
use Rattle.symbolic_run.specs.Writes.{IsDoneBy}
use Rattle.core_model.specs.Routines.{IsSameTask, HoldsSame}
use Rattle.symbolic_run.proofs.Writes.{writes-denoted}
use Rattle.symbolic_run.proofs.WritesKeepStates.{Keeps, writes-keep}

side-same : (side : SideEffect) (c : ContextState) → IsSameTask c (held_after_side side c)
side-same Nothing c = record { task_no = refl; slot = refl; count = refl }
side-same (Outputs word) c = record { task_no = refl; slot = refl; count = refl }
side-same AdvancesTape c = record { task_no = refl; slot = refl; count = refl }
side-same (Ends end) c = record { task_no = refl; slot = refl; count = refl }
side-same ClearsTimer c = record { task_no = refl; slot = refl; count = refl }

side-data : (side : SideEffect) (c : ContextState) (i : ℕ) → data_word (held_after_side side c).body i ≡ data_word c.body i
side-data Nothing c i = refl
side-data (Outputs word) c i = refl
side-data AdvancesTape c i = refl
side-data (Ends end) c i = refl
side-data ClearsTimer c i = refl

-- what is held after a side effect
held-side : (side : SideEffect) (c : ContextState) (o : Option ContextState) → o ≡ Some (record c { words = held_words o }) →
    option_map (held_after_side side) o ≡ Some (record (held_after_side side c) { words = held_words (option_map (held_after_side side) o) })
held-side side c None e = absurd (cc e)
held-side Nothing c (Some d) e = ap (option_map (held_after_side Nothing)) e
held-side (Outputs word) c (Some d) e = ap (option_map (held_after_side (Outputs word))) e
held-side AdvancesTape c (Some d) e = ap (option_map (held_after_side AdvancesTape)) e
held-side (Ends end) c (Some d) e = ap (option_map (held_after_side (Ends end))) e
held-side ClearsTimer c (Some d) e = ap (option_map (held_after_side ClearsTimer)) e

-- the words of the slot stay
words-side : (side : SideEffect) (o : Option ContextState) → held_words (option_map (held_after_side side) o) ≡ held_words o
words-side side None = refl
words-side Nothing (Some c) = refl
words-side (Outputs word) (Some c) = refl
words-side AdvancesTape (Some c) = refl
words-side (Ends end) (Some c) = refl
words-side ClearsTimer (Some c) = refl

-- what a side effect leaves of a hart
record LeavesHart (side : SideEffect) (g k : HartState) : Type 0 where
  regs : k.regs ≡ g.regs
  port_a : k.port_a ≡ g.port_a
  port_b : k.port_b ≡ g.port_b
  res : k.res ≡ g.res
  load : k.load ≡ g.load
  store : k.store ≡ g.store
  mul : k.mul ≡ g.mul
  zero_word : k.zero_word ≡ g.zero_word
  csrs : k.csrs ≡ record g.csrs { is_timer_pending = k.csrs.is_timer_pending }
  held : (c : ContextState) → g.held ≡ Some (record c { words = held_words g.held }) →
      k.held ≡ Some (record (held_after_side side c) { words = held_words k.held })
  words : held_words k.held ≡ held_words g.held

held-leaves : (side : SideEffect) (g : HartState) (pc : ℕ) → LeavesHart side g (record g { held = option_map (held_after_side side) g.held; pc = pc })
held-leaves side g pc = record {
  regs = refl;
  port_a = refl;
  port_b = refl;
  res = refl;
  load = refl;
  store = refl;
  mul = refl;
  zero_word = refl;
  csrs = refl;
  held = λ c e. held-side side c g.held e;
  words = words-side side g.held;
}

side-leaves : (side : SideEffect) (g : HartState) (pc : ℕ) → LeavesHart side g (record (after_side side g) { pc = pc })
side-leaves Nothing g pc = held-leaves Nothing g pc
side-leaves (Outputs word) g pc = held-leaves (Outputs word) g pc
side-leaves AdvancesTape g pc = held-leaves AdvancesTape g pc
side-leaves (Ends end) g pc = held-leaves (Ends end) g pc
side-leaves ClearsTimer g pc = record {
  regs = refl;
  port_a = refl;
  port_b = refl;
  res = refl;
  load = refl;
  store = refl;
  mul = refl;
  zero_word = refl;
  csrs = refl;
  held = λ c e. e;
  words = refl;
}

-- sound CSRs stay so when mscratch or the pending timer changes
csrs-sound-as : (number : ℕ) (c d : CsrFile) (scratch : Cell) (pending : Bool) → c ≡ record d { mscratch = scratch; is_timer_pending = pending } →
    AreCsrsSound number d → AreCsrsSound number c
csrs-sound-as number c d scratch pending e ok =
    subst (AreCsrsSound number) (sym e)
    (record { hart = ok.hart; timer = ok.timer; fuel = ok.fuel; mtvec = ok.mtvec; pmpcfg = ok.pmpcfg; mstatus = ok.mstatus })

-- the cells of a hart that are as before are denoted as before
cells-left : (s : Valuation) (z : AbstractState) (side : SideEffect) (g k : HartState) → LeavesHart side g k → k.csrs.mscratch ≡ g.csrs.mscratch →
    IsDenotedBy s z (cells_of g) → IsDenotedBy s z (cells_of k)
cells-left s z side g k left scratch d =
    record {
      regs = subst (λ x. RegsDenote s z.regs x) (sym left.regs) d.regs;
      port_a = subst (λ x. Denotes s z.port_a x) (sym left.port_a) d.port_a;
      port_b = subst (λ x. Denotes s z.port_b x) (sym left.port_b) d.port_b;
      res = subst (λ x. Denotes s z.res x) (sym left.res) d.res;
      load = subst (λ x. Denotes s z.load x) (sym left.load) d.load;
      store = subst (λ x. Denotes s z.store x) (sym left.store) d.store;
      scr = subst (λ x. Denotes s z.scr x) (sym scratch) d.scr;
      mul = subst (λ x. Denotes s z.mul x) (sym left.mul) d.mul;
      zero = subst (λ x. Denotes s z.zero x) (sym left.zero_word) d.zero;
      slot = subst (λ x. AllDenote s z.slot x) (sym left.words) d.slot;
      no_data = d.no_data;
    }

module _ (s : Valuation) (ok : IsSound s) (number base : ℕ) (p : PathState) (step : PathStep) (z : AbstractState) (h : HartState) (instr : Instr)
    (mode_kept : step.csrs.mode ≡ p.csrs.mode) (cells_are : run.after_writes step.writes p.cells ≡ Some z)
    (says : IsAsPathSays s number base p h) (t : TakesStep s number base p step h instr) where
  -- the hart with the CSR file of the step, after the writes, and where it goes on
  abbrev begun : HartState
  begun = record h { csrs = t.csrs }

  abbrev written : HartAndProbes
  written = after_writes t.writes begun

  abbrev reached : HartState
  reached = record (after_side t.side written.hart) { pc = base + 4 * step.index }

  scratch-kept : t.csrs.mscratch ≡ h.csrs.mscratch
  scratch-kept = ap (λ (c : CsrFile). c.mscratch) t.csrs_are

  -- its cells are denoted as before the step
  begun-denoted : IsDenotedBy s p.cells (cells_of begun)
  begun-denoted = record {
    regs = says.cells.regs;
    port_a = says.cells.port_a;
    port_b = says.cells.port_b;
    res = says.cells.res;
    load = says.cells.load;
    store = says.cells.store;
    scr = subst (λ x. Denotes s p.cells.scr x) (sym scratch-kept) says.cells.scr;
    mul = says.cells.mul;
    zero = says.cells.zero;
    slot = says.cells.slot;
    no_data = says.cells.no_data;
  }

  -- the writes leave cells that are denoted, and keep the rest
  done : IsDoneBy s z written
  done = writes-denoted s ok step.writes t.writes p.cells z begun begun-denoted t.denote cells_are

  kept : Keeps begun written.hart
  kept = writes-keep s ok step.writes t.writes p.cells z begun t.denote cells_are

  -- and what the side effect leaves
  left : LeavesHart t.side written.hart reached
  left = side-leaves t.side written.hart (base + 4 * step.index)

  scratch-left : reached.csrs.mscratch ≡ written.hart.csrs.mscratch
  scratch-left = ap (λ (c : CsrFile). c.mscratch) left.csrs

  -- the CSRs of the hart then
  csrs-then : reached.csrs ≡ record step.csrs { mscratch = reached.csrs.mscratch; is_timer_pending = reached.csrs.is_timer_pending }
  csrs-then = left.csrs
      ∙ ap (λ (c : CsrFile). record c { is_timer_pending = reached.csrs.is_timer_pending }) kept.csrs
      ∙ ap (λ (c : CsrFile). record c { mscratch = written.hart.csrs.mscratch; is_timer_pending = reached.csrs.is_timer_pending }) t.csrs_are
      ∙ ap (λ m. record step.csrs { mscratch = m; is_timer_pending = reached.csrs.is_timer_pending }) (sym scratch-left)

  file-then : reached.csrs ≡ record t.csrs { mscratch = written.hart.csrs.mscratch; is_timer_pending = reached.csrs.is_timer_pending }
  file-then = left.csrs ∙ ap (λ (c : CsrFile). record c { is_timer_pending = reached.csrs.is_timer_pending }) kept.csrs

  -- what it holds then
  held-then : reached.held ≡ Some (record step.held { words = held_words reached.held })
  held-then = left.held p.held (kept.held p.held says.held) ∙ ap (λ (c : ContextState). Some (record c { words = held_words reached.held })) t.held

  -- so it is as the path says
  says-then : IsAsPathSays s number base (record { cells = z; index = step.index; csrs = step.csrs; held = step.held }) reached
  says-then = record {
    mode = ap (λ (c : CsrFile). c.mode) csrs-then ∙ mode_kept ∙ sym (ap (λ (c : CsrFile). c.mode) says.csrs) ∙ says.mode;
    csrs = csrs-then;
    csrs_sound = csrs-sound-as number reached.csrs t.csrs written.hart.csrs.mscratch reached.csrs.is_timer_pending file-then t.csrs_sound;
    pc = refl;
    held = held-then;
    slot = ap (λ (c : ContextState). c.slot) (sym t.held) ∙ (side-same t.side p.held).slot ∙ says.slot;
    cells = cells-left s z t.side written.hart reached left scratch-left done.denoted;
    registers = ap (λ (xs : List Cell). length xs) left.regs ∙ kept.registers ∙ says.registers;
    zero_word = left.zero_word ∙ kept.zero_word says.zero_word;
    data_words = λ i. subst (IsTruthful s.tasks) (sym (ap (λ (c : ContextState). data_word c.body i) (sym t.held) ∙ side-data t.side p.held i))
        (says.data_words i);
  }

  -- it holds the same task
  holds-then : HoldsSame h.held reached.held
  holds-then =
      let same = side-same t.side p.held in
      let P : Option ContextState → Option ContextState → Type 0 = λ a b. HoldsSame a b in
      let Q : ContextState → Type 0 = λ c. IsSameTask p.held c in
      let there = subst Q t.held same in
      subst (λ a. P a reached.held) (sym says.held) (subst (λ b. P (Some (record p.held { words = held_words h.held })) b) (sym held-then)
      (record { task_no = there.task_no; slot = there.slot; count = there.count }))

  -- After the step: as the path says, with the same task, and with explained entries.
  pub after-step : IsAsPathSays s number base (record { cells = z; index = step.index; csrs = step.csrs; held = step.held }) reached
      × HoldsSame h.held reached.held × All (IsExplained s.tasks) written.probes
  after-step = (says-then, holds-then, done.explained)
