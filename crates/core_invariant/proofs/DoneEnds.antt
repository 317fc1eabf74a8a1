-- From a trap to the give of an ended task, by a way through the kernel's code.
use Rattle.std.proofs.Common.{◌≡◌, ℕ, zero, suc, ◌+◌, ◌*◌, ◌<◌, ◌≤◌, Bool, true, List, length, get_or, replicate, Some, None, refl, ap, subst, ◌∙◌, arith}
use Rattle.std.proofs.lemmas.List.{get_or_append_left, get_or-replicate}
use Rattle.isa_model.specs.declared.task.Task.{Task}
use Rattle.isa_model.specs.declared.ends.End.{End}
use Rattle.isa_model.specs.declared.ends.EndKind.{EndKind}
use Rattle.isa_model.specs.Control.{kind_of}
use Rattle.isa_model.specs.Alone.{alone_at}
use Rattle.hart_model.specs.declared.tag.Cell.{Cell}
use Rattle.hart_model.specs.Cells.{blank}
use Rattle.hart_model.specs.Csrs.{CsrFile}
use Rattle.hart_model.specs.Context.{ContextState, IsScrubbed, done_of, slot_word, task_of}
use Rattle.hart_model.specs.HartState.{HartState}
use Rattle.core_model.specs.Soundness.{IsEndedCase}
use Rattle.symbolic_run.specs.AbstractCell.{AbstractCell, Zero, AnyTagged}
use Rattle.symbolic_run.specs.Concretization.{Valuation, IsSound, Denotes}
use Rattle.symbolic_run.specs.SymbolicPath.{PathCondition, AreSo, path_of, IsAsPathSays}
use Rattle.symbolic_run.specs.Ways.{Leads}
use Rattle.symbolic_run.specs.Laws.{PathsLead}
use Rattle.symbolic_run.proofs.ComputedPaths.{every_word}
use Rattle.core_invariant.specs.KernelStates.{KernelParts, IsKernel, middle_instrs, middle_len, middle_at, give_done_index}
use Rattle.core_invariant.proofs.KernelCells.{bound_cells}
use Rattle.core_invariant.specs.CutPoints.{IsAtTrap, IsGivingDone}
use Rattle.core_invariant.proofs.Trapped.{trapped_setting, trap-setting-sound, AreOwn}
use Rattle.core_invariant.proofs.Saved.{EndsThere, trap-leads}
use Rattle.core_invariant.proofs.PathStates.{are_latches_public, held-context, held-is, has-public-latches, slot-denoted, slot-len, register-denoted, path-truthful}
use Rattle.core_invariant.proofs.DonePaths.{done_cells, done_state, done_path, trap_csrs, trap_state}

-- the registers in the slot of a scrubbed task are known as 0
scrubbed-zero : (s : Valuation) (x7 load pc : AbstractCell) (i : ℕ) → 1 ≤ i → i < 32 → get_or (done_cells s x7 load pc).slot i AnyTagged ≡ Zero
scrubbed-zero s x7 load pc zero low high = absurd (omega arith)
scrubbed-zero s x7 load pc (suc i) low high =
    get_or_append_left (replicate 31 Zero) (bound_cells s.task) AnyTagged i (omega arith) ∙ get_or-replicate 31 i Zero AnyTagged (omega arith)

-- A hart at the end of such a way is about to give an ended task.
module _ (s : Valuation) (sound : IsSound s) (number base : ℕ) (x7 load pc : AbstractCell) (csrs : CsrFile) (c : ContextState) (end : End)
    (untagged : are_latches_public (done_cells s x7 load pc) ≡ true) (four : length csrs.pmp.addrs ≡ 4) (slot : c.slot < 8)
    (ended : IsEndedCase s.tasks (done_of c end)) where
  module _ (g : HartState) (says : IsAsPathSays s number base (done_state (done_cells s x7 load pc) csrs c end) g) where
    scrubbed : IsScrubbed (held-context says)
    scrubbed i low high =
        let P : AbstractCell → Type 0 = λ a. Denotes s a (slot_word (held-context says) i) in
        subst P (scrubbed-zero s x7 load pc i low high) (slot-denoted says i)

    pub gives-done : IsGivingDone s.tasks number (base + 4 * give_done_index) g (held-context says)
    gives-done = record {
      hart = has-public-latches says four untagged;
      held = held-is says;
      truthful = path-truthful says sound;
      given = record { end = end; has_end = refl; ended = ended; scrubbed = scrubbed; words = slot-len says; slot = slot };
      x6 = register-denoted says 5;
    }

-- a hart that is about to give some ended task, and one that is led there
abbrev pub GivesEnded : List Task → KernelParts → ℕ → HartState → Type 0
GivesEnded tasks k number g = (d : ContextState) × IsGivingDone tasks number (middle_at k + 4 * give_done_index) g d

abbrev pub LeadsToDone : List Task → KernelParts → ℕ → HartState → Type 0
LeadsToDone tasks k number h = (steps : ℕ) × Leads tasks k.code.words number steps (GivesEnded tasks k number) h

-- A trapped hart is led there by a way from the saved task on, where what the way asks is so.
module _ (paths-lead : PathsLead) (k : KernelParts) (kernel : IsKernel k) {tasks : List Task} {number n cause : ℕ} {h : HartState} {c : ContextState}
    (trap : IsAtTrap tasks number n cause h c) where
  abbrev pub setting_with : (ℕ → Cell) → Valuation
  setting_with regs = trapped_setting tasks n regs c blank

  abbrev pub pc-of-trap : ℕ
  pc-of-trap = (alone_at (task_of c.body) n).pc

  abbrev pub idle-index : ℕ
  idle-index = middle_len + k.restore + 1

  pub csrs-are : h.csrs ≡ trap_csrs h.csrs cause pc-of-trap
  csrs-are =
      ap (λ m. record h.csrs { mcause = m; mepc = h.csrs.mepc }) trap.mcause ∙ ap (λ e. record h.csrs { mcause = cause; mepc = e }) trap.mepc

  pub held-is-saved : c ≡ record c { end = None }
  held-is-saved = ap (λ e. record c { end = e }) trap.no_end

  -- such a way, with these registers of the task, that ends it so
  pub record EndsDone (regs : ℕ → Cell) (answers : List Bool) (kind : EndKind) : Type 0 where
    pub conditions : List PathCondition
    pub x7 : AbstractCell
    pub load : AbstractCell
    pub pc : AbstractCell
    pub end : End
    pub path : path_of every_word (setting_with regs) (middle_instrs idle-index) answers (trap_state (setting_with regs) (trap_csrs h.csrs cause pc-of-trap) c)
        ≡ Some (done_path (done_state (done_cells (setting_with regs) x7 load pc) (trap_csrs h.csrs cause pc-of-trap) c end) conditions)
    pub so : AreSo conditions
    pub untagged : are_latches_public (done_cells (setting_with regs) x7 load pc) ≡ true
    pub ended : IsEndedCase tasks (done_of c end)
    pub kind_is : kind_of end ≡ kind

  -- it is a path from the saved task to where it ends
  abbrev pub done-end : (answers : List Bool) (kind : EndKind) (regs : ℕ → Cell) → AreOwn n c regs → EndsDone regs answers kind
      → EndsThere trap blank tt regs k (trap_csrs h.csrs cause pc-of-trap) (record c { end = None }) answers (GivesEnded tasks k number)
  done-end answers kind regs own e =
      let s : Valuation = setting_with regs in
      let csrs : CsrFile = trap_csrs h.csrs cause pc-of-trap in
      record {
        path = done_path (done_state (done_cells s e.x7 e.load e.pc) csrs c e.end) e.conditions;
        is_path = e.path;
        so = e.so;
        there = λ g at. (
          held-context at,
          gives-done s (trap-setting-sound trap blank tt regs own) number (middle_at k) e.x7 e.load e.pc csrs c e.end e.untagged trap.bound_registers
              trap.slot e.ended g at,
        );
      }

  pub done-leads : (answers : List Bool) (kind : EndKind) → ((regs : ℕ → Cell) → AreOwn n c regs → EndsDone regs answers kind)
      → LeadsToDone tasks k number h
  done-leads answers kind ends =
      let csrs : CsrFile = trap_csrs h.csrs cause pc-of-trap in
      let There : HartState → Type 0 = GivesEnded tasks k number in (
        k.save + length answers,
        trap-leads trap blank tt k kernel paths-lead csrs (record c { end = None }) csrs-are held-is-saved answers There
            (λ regs own. done-end answers kind regs own (ends regs own)),
      )
