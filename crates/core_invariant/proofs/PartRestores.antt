-- Words restore a task, whatever code stands before and after them, where the run over abstract cells from a task that is to be restored
-- ends with the task restored.
use Rattle.std.proofs.Common.{◌≡◌, ℕ, zero, suc, ◌+◌, ◌*◌, ◌≤◌, ◌<◌, Bool, false, List, ◌++◌, length, get_or, Option, Some, refl, sym, ap, subst, ◌∙◌, ◌||◌, arith}
use Rattle.isa_model.specs.declared.task.Task.{Task}
use Rattle.isa_model.specs.declared.latch.Latch.TheVariants as latches
use Rattle.hart_model.specs.declared.place.Place.{Place}
use Rattle.hart_model.specs.declared.place.Place.TheVariants.{Reg, PortA, PortB, Res, Load, Store, Mul, SlotWord, DataWord}
use Rattle.hart_model.specs.declared.tag.Cell.{Cell}
use Rattle.hart_model.specs.declared.tag.Tag.TheVariants.{Public}
use Rattle.hart_model.specs.Cells.{blank}
use Rattle.hart_model.specs.Context.{ContextState, slot_word, task_of}
use Rattle.hart_model.specs.HartState.{HartState, hart_cell, held_words}
use Rattle.hart_model.specs.MachineStep.{kernel_address}
use Rattle.core_model.specs.Soundness.{IsOwn}
use Rattle.core_model.specs.Routines.{IsRestoring, IsOtherLatch, IsPartSound, HasRestored, HasRestoredTags, RestoresValues, RestoresExplained, ComesTo, run_of_part, has_tick, part_limit, before_restore_limit}
use Rattle.symbolic_run.specs.AbstractCell.{AbstractCell, AbstractState, AnyTagged, SlotAddress, PublicNumber, TaskReg, is_tagged, abstract_cell_at}
use Rattle.symbolic_run.specs.AbstractRun.{run_of, instrs_of}
use Rattle.symbolic_run.specs.Concretization.{Valuation, IsSound, AllDenote}
use Rattle.symbolic_run.specs.SymbolicPath.{PathState, StandAt, IsAsPathSays}
use Rattle.symbolic_run.proofs.Stand.{stand-among}
use Rattle.symbolic_run.proofs.PartRuns.{comes-map, IsOnPath}
use Rattle.symbolic_run.proofs.StraightRuns.{run-of-part, run-sound, run-ends}
use Rattle.core_invariant.proofs.KernelCells.{reached, saved_cells, at_start}
use Rattle.core_invariant.proofs.OwnCells.{own-value}
use Rattle.core_invariant.proofs.PathStates.{register-denoted}
use Rattle.core_invariant.proofs.ReadyEnd.{reg-is}
use Rattle.core_invariant.proofs.TakenStands.{taken_setting, taken-setting-sound, pc_of, words-stand, kernel-regs-stand, data-truthful}
use Rattle.core_invariant.proofs.TakenPath.{held-as-before}
use Rattle.core_invariant.proofs.PartSaves.{address-is, latch-untagged}

-- Where a run that restores ends: the registers are the task's, the slot is as before, no other latch is tagged, and mscratch has the
-- slot's address.
pub record IsRestoredState (a b : AbstractState) : Type 0 where
  pub registers : (i : ℕ) → 1 ≤ i → i < 32 → abstract_cell_at b (Reg i) ≡ TaskReg i
  pub slot : b.slot ≡ a.slot
  pub scratch : b.scr ≡ SlotAddress
  pub latches : (q : Place) → IsOtherLatch q → is_tagged (abstract_cell_at b q) ≡ false

-- what is asked of words that restore: from each task that is to be restored the run ends so
pub record RunsRestore (words : List ℕ) : Type 0 where
  pub few : length words ≤ part_limit
  pub ends : (s : Valuation) (pc : ℕ)
      → (b : AbstractState) × (run_of reached words (saved_cells s (PublicNumber pc)) ≡ Some b) × IsRestoredState (saved_cells s (PublicNumber pc)) b

-- the words stand among other code
pub restore-stands : (words : List ℕ) → RunsRestore words → (s : Valuation) (front rest : List ℕ) → length front ≤ before_restore_limit
    → StandAt (front ++ (words ++ rest)) (kernel_address + 4 * length front) (instrs_of words)
restore-stands words runs s front rest low =
    let ends = runs.ends s 0 in
    let part = run-of-part reached words (saved_cells s (PublicNumber 0)) ends.0 ends.1 in
    let few = runs.few in
    let count = part.count in
    stand-among front words rest (instrs_of words) (omega (arith, low)) (omega (arith, few, count)) part.decode

module _ (tasks : List Task) (number at : ℕ) (h : HartState) (c : ContextState) (is : IsRestoring tasks number at h c) where
  abbrev setting : Valuation
  setting = taken_setting tasks c

  sound : IsSound setting
  sound = taken-setting-sound tasks c is.context

  abbrev start : AbstractState
  start = saved_cells setting (PublicNumber (pc_of c))

  -- a hart that is to restore is as the start of the run says
  pub restoring-says : IsAsPathSays setting number at (at_start start h.csrs c) h
  restoring-says = record {
    mode = is.mode;
    csrs = refl;
    csrs_sound = is.sound.csrs;
    pc = is.pc ∙ omega arith;
    held = is.held ∙ ap (λ (o : Option ContextState). Some (record c { words = held_words o })) (sym is.held);
    slot = refl;
    cells = record {
      regs = kernel-regs-stand setting h.regs is.sound.registers register-public is.x5;
      port_a = is.latches PortA tt;
      port_b = is.latches PortB tt;
      res = is.latches Res tt;
      load = is.latches Load tt;
      store = is.latches Store tt;
      scr = is.scratch;
      mul = is.latches Mul tt;
      zero = is.sound.zero;
      slot = subst (λ (o : Option ContextState). AllDenote setting start.slot (held_words o)) (sym is.held) (words-stand tasks c is.context);
      no_data = refl;
    };
    registers = is.sound.registers;
    zero_word = is.sound.zero;
    data_words = data-truthful tasks c.body is.context.ready.body;
  }
    where
      register-public : (i : ℕ) → 1 ≤ i → (get_or h.regs i blank).tag ≡ Public
      register-public zero low = absurd (omega arith)
      register-public (suc i) low = is.latches (Reg (suc i)) tt

  module _ (words : List ℕ) (runs : RunsRestore words) where
    abbrev left : AbstractState
    left = (runs.ends setting (pc_of c)).0

    is-restored : IsRestoredState start left
    is-restored = (runs.ends setting (pc_of c)).2

    abbrev end : PathState
    end = record (at_start start h.csrs c) { cells = left; index = length words }

    -- what is so of a hart at the end of the run
    module _ (ticks : List Bool) (g : HartState) (says : IsAsPathSays setting number at end g)
        (pending : g.csrs.is_timer_pending ≡ h.csrs.is_timer_pending || has_tick ticks) where
      reg-same : (i : ℕ) → 1 ≤ i → i < 32 → hart_cell g (Reg i) ≡ slot_word c i
      reg-same zero low high = absurd (omega arith)
      reg-same (suc i) low high =
          reg-is setting (suc i) (get_or left.regs (suc i) AnyTagged) (hart_cell g (Reg (suc i))) (is-restored.registers (suc i) low high)
          (register-denoted says i)

      other-public : (q : Place) → IsOtherLatch q → (hart_cell g q).tag ≡ Public
      other-public (Reg i) other = absurd other
      other-public (SlotWord i) other = absurd other
      other-public (DataWord i) other = absurd other
      other-public q other = latch-untagged setting left g q tt says.cells (is-restored.latches q tt)

      slot-same : AllDenote setting start.slot (held_words g.held)
      slot-same = subst (λ (x : List AbstractCell). AllDenote setting x (held_words g.held)) is-restored.slot says.cells.slot

      restored : HasRestored ticks h c g
      restored = record {
        held = held-as-before tasks c is.context g.held says.held slot-same;
        registers = λ i low high. ap (λ (x : Cell). x.value) (reg-same i low high)
            ∙ own-value (task_of c.body) c.body.task_no c.body.count (latches.Reg i) (slot_word c i) (is.context.ready.saved_registers i low high);
        scratch = ap (λ (x : Cell). x.value) (address-is setting left.scr g.csrs.mscratch is-restored.scratch says.cells.scr);
        zero = ap (λ (x : Cell). x.value) says.zero_word;
        csrs = says.csrs ∙ ap (λ b. record h.csrs { mscratch = g.csrs.mscratch; is_timer_pending = b }) pending;
      }

      tags : HasRestoredTags c g
      tags = record {
        registers = λ i low high. subst (IsOwn c.body.task_no (task_of c.body) c.body.count (latches.Reg i)) (sym (reg-same i low high))
            (is.context.ready.saved_registers i low high);
        latches = other-public;
      }

    -- runs of the words, where they stand
    module _ (code : List ℕ) (stand : StandAt code at (instrs_of words)) (ticks : List Bool) where
      runs-end : length ticks ≡ length words → ComesTo (IsOnPath setting number at ticks h end) (run_of_part code ticks h)
      runs-end same =
          run-ends reached setting sound number at code words stand (at_start start h.csrs c) left refl (runs.ends setting (pc_of c)).1 ticks h
          restoring-says same

      runs-restore : length ticks ≡ length words → ComesTo (λ a. HasRestored ticks h c a.hart) (run_of_part code ticks h)
      runs-restore same =
          comes-map (IsOnPath setting number at ticks h end) (λ a. HasRestored ticks h c a.hart) (run_of_part code ticks h)
          (λ a on. restored ticks a.hart on.says on.pending) (runs-end same)

      runs-tag : length ticks ≡ length words → ComesTo (λ a. HasRestoredTags c a.hart) (run_of_part code ticks h)
      runs-tag same =
          comes-map (IsOnPath setting number at ticks h end) (λ a. HasRestoredTags c a.hart) (run_of_part code ticks h)
          (λ a on. tags ticks a.hart on.says on.pending) (runs-end same)

      runs-sound : length ticks ≤ length words → ComesTo (IsPartSound tasks number c) (run_of_part code ticks h)
      runs-sound le =
          run-sound reached setting sound number at code words stand (at_start start h.csrs c) left refl (runs.ends setting (pc_of c)).1 ticks h
          restoring-says c is.held le

-- Such words restore, whatever code stands before and after them.
module _ (words : List ℕ) (runs : RunsRestore words) (front rest : List ℕ) (few : length front ≤ before_restore_limit) where
  abbrev code : List ℕ
  code = front ++ (words ++ rest)

  abbrev base : ℕ
  base = kernel_address + 4 * length front

  stands : (tasks : List Task) (c : ContextState) → StandAt code base (instrs_of words)
  stands tasks c = restore-stands words runs (taken_setting tasks c) front rest few

  pub restore-values : RestoresValues code base (length words)
  restore-values tasks number h c ticks is same = runs-restore tasks number base h c is words runs code (stands tasks c) ticks same

  pub restore-explained : RestoresExplained code base (length words)
  restore-explained = record {
    sound = λ tasks number h c ticks is le. runs-sound tasks number base h c is words runs code (stands tasks c) ticks le;
    tags = λ tasks number h c ticks is same. runs-tag tasks number base h c is words runs code (stands tasks c) ticks same;
  }
