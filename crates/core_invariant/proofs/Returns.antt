-- The return to a task: MRET after the restore part brings the hart into user mode with the task's context.
use Rattle.std.proofs.Common.{◌≡◌, ℕ, zero, suc, ◌+◌, ◌*◌, ◌^◌, ◌<◌, inl, inr, Bool, true, false, List, [], ◌∷◌, length, Option, Some, is_none, if◌then◌else◌, refl, ap, sym, ◌∙◌, subst, arith}
use Rattle.std.proofs.lemmas.List.Elements.{All-nil}
use Rattle.isa_model.specs.declared.task.Task.{Task}
use Rattle.isa_model.specs.declared.instr.Instr.TheVariants.{Mret}
use Rattle.isa_model.specs.declared.latch.Latch.TheVariants as latches
use Rattle.isa_model.specs.Arithmetic.{bit_of}
use Rattle.isa_model.proofs.RunLaws.{always_aligned, always_zero}
use Rattle.hart_model.specs.declared.calls.Did.TheVariants.{Ran}
use Rattle.hart_model.specs.declared.place.Place.{Place}
use Rattle.hart_model.specs.declared.place.Place.TheVariants.{Reg, PortA, PortB, Res, Load, Store, Mul}
use Rattle.hart_model.specs.declared.tag.Cell.{Cell}
use Rattle.hart_model.specs.declared.tag.Mode.{Mode}
use Rattle.hart_model.specs.declared.tag.Mode.TheVariants.{User, Machine}
use Rattle.hart_model.specs.Csrs.{CsrFile, mode_bits}
use Rattle.hart_model.specs.Pmp.{bounds_of}
use Rattle.hart_model.specs.Traps.{csrs_after_mret}
use Rattle.hart_model.specs.Context.{ContextState, slot_word, task_of}
use Rattle.hart_model.specs.HartState.{HartState, hart_cell}
use Rattle.hart_model.specs.StepResult.{Steps}
use Rattle.hart_model.specs.HartStep.{hart_step}
use Rattle.hart_model.specs.MachineStep.{by_reach, enters_nothing, Refused, finds_nothing}
use Rattle.core_model.specs.Explained.{IsExplained}
use Rattle.core_model.specs.Soundness.{AreCsrsSound, IsUserCase, IsTruthful, IsOwn, mstatus_in}
use Rattle.core_model.specs.Routines.{ticked_if, HoldsSame, IsUserState, IsReadyContext}
use Rattle.symbolic_run.specs.Ways.{GoesOnTo, Leads}
use Rattle.symbolic_run.proofs.PartRuns.{held-ticked}
use Rattle.symbolic_run.proofs.Ways.{holds-same, sound-tick}
use Rattle.symbolic_run.proofs.PathSays.{not-none}
use Rattle.symbolic_run.proofs.Paths.{machine-step-at}
use Rattle.core_invariant.specs.KernelStates.{KernelParts, IsLinked, mret_at}
use Rattle.core_invariant.specs.CutPoints.{IsAtCutPoint}
use Rattle.core_invariant.proofs.OwnCells.{own-old}
use Rattle.core_invariant.proofs.TakenStands.{pc_of}
use Rattle.core_invariant.proofs.TakenPath.{IsRestored, task_csrs, with_bounds}
use Rattle.core_invariant.proofs.Waiting.{cell-ticked}

-- MRET isn't refused where something is held
enters-some : (mode : Mode) (o : Option ContextState) (c : ContextState) → o ≡ Some c → enters_nothing mode o ≡ false
enters-some User o c held = ap (λ (x : Option ContextState). is_none x) held
enters-some Machine o c held = refl

-- mstatus 0 says that interrupts were off and the mode before was user
record WasUser (b : Bool) (mode : Mode) : Type 0 where
  off : b ≡ false
  user : mode ≡ User

was-user : (a b : Bool) (mode : Mode) → 2 ^ 3 * bit_of a + 2 ^ 7 * bit_of b + 2 ^ 11 * mode_bits mode ≡ 0 → WasUser b mode
was-user true true User e = absurd (omega (arith, e))
was-user true true Machine e = absurd (omega (arith, e))
was-user true false User e = absurd (omega (arith, e))
was-user true false Machine e = absurd (omega (arith, e))
was-user false true User e = absurd (omega (arith, e))
was-user false true Machine e = absurd (omega (arith, e))
was-user false false User e = record { off = refl; user = refl }
was-user false false Machine e = absurd (omega (arith, e))

-- the CSRs after MRET
pub record AreUserCsrs (number : ℕ) (csrs : CsrFile) : Type 0 where
  pub mode : csrs.mode ≡ User
  pub sound : AreCsrsSound number csrs

pub mret-csrs : (number : ℕ) (c : CsrFile) → c.mode ≡ Machine → AreCsrsSound number c → AreUserCsrs number (csrs_after_mret c)
mret-csrs number c mode ok =
    let was = was-user c.is_enabled c.was_enabled c.previous (ok.mstatus ∙ ap mstatus_in mode) in
    record {
      mode = was.user;
      sound = record {
        hart = ok.hart;
        timer = ok.timer;
        fuel = ok.fuel;
        mtvec = ok.mtvec;
        pmpcfg = ok.pmpcfg;
        mstatus = ap (λ (b : Bool). 2 ^ 3 * bit_of b + 2 ^ 7 * bit_of true + 2 ^ 11 * mode_bits User) was.off ∙ sym (ap mstatus_in was.user);
      };
    }

-- four bounds are those of the task
four-bounds : (T : Task) (addrs : List ℕ) → length addrs ≡ 4 → with_bounds T addrs ≡ bounds_of T
four-bounds T [] len = absurd (omega (arith, len))
four-bounds T (a ∷ []) len = absurd (omega (arith, len))
four-bounds T (a ∷ b ∷ []) len = absurd (omega (arith, len))
four-bounds T (a ∷ b ∷ c ∷ []) len = absurd (omega (arith, len))
four-bounds T (a ∷ b ∷ c ∷ d ∷ []) len = refl
four-bounds T (a ∷ b ∷ c ∷ d ∷ e ∷ more) len = absurd (omega (arith, len))

-- no cell changes
cell-returned : (g : HartState) (place : Place) → hart_cell (record g { csrs = csrs_after_mret g.csrs; pc = g.csrs.mepc }) place ≡ hart_cell g place
cell-returned g (Reg zero) = refl
cell-returned g place = refl

abbrev pub returned : HartState → HartState
returned g = record g { csrs = csrs_after_mret g.csrs; pc = g.csrs.mepc }

-- a hart that is restored is so after a tick too
pub restored-ticked : (tasks : List Task) (number at : ℕ) (csrs : CsrFile) (c : ContextState) (ticked : Bool) (g : HartState)
    → IsRestored tasks number at csrs c g → IsRestored tasks number at csrs c (ticked_if ticked g)
restored-ticked tasks number at csrs c false g is = is
restored-ticked tasks number at csrs c true g is = record {
  mode = is.mode;
  csrs_are = ap (λ (x : CsrFile). record x { is_timer_pending = true }) is.csrs_are;
  pc = is.pc;
  sound = sound-tick tasks number g is.sound;
  held = is.held;
  scratch = is.scratch;
  registers = λ i low high. subst (IsOwn c.body.task_no (task_of c.body) c.body.count (latches.Reg i)) (sym (cell-ticked g (Reg i))) (is.registers i low high);
  latches = λ p other. ap (λ (x : Cell). x.tag) (cell-ticked g p) ∙ is.latches p other;
}

module _ (k : KernelParts) (linked : IsLinked k) (tasks : List Task) (number : ℕ) (c : ContextState) (r : IsReadyContext tasks c) (csrs : CsrFile)
    (four : length csrs.pmp.addrs ≡ 4) where
  -- restored, with the task's bounds and pc in the CSRs
  abbrev Restored : HartState → Type 0
  Restored g = IsRestored tasks number (mret_at k) (task_csrs (task_of c.body) (pc_of c) csrs) c g

  pub mret-step : (g : HartState) → Restored g → hart_step k.code.words g ≡ Steps (returned g) [] Ran
  mret-step g at =
      machine-step-at k.code.words g (mret_at k) Mret at.mode at.pc linked.mret
      ∙ ap (λ (b : Bool). by_reach g Mret (if b then Refused else finds_nothing)) (enters-some g.csrs.previous g.held c at.held)

  own-register : (g : HartState) → Restored g → (i : ℕ) → i < 32
      → IsOwn c.body.task_no (task_of c.body) c.body.count (latches.Reg i) (hart_cell (returned g) (Reg i))
  own-register g at zero low = inl (record { tag = refl; value = refl; never = λ j le. always_zero (task_of c.body) j })
  own-register g at (suc i) low = at.registers (suc i) (omega arith) low

  pc-is : (g : HartState) → Restored g → g.csrs.mepc ≡ pc_of c
  pc-is g at =
      let aligned = always_aligned (task_of c.body) c.body.count r.valid.code_aligned in
      ap (λ (x : CsrFile). x.mepc) at.csrs_are ∙ omega (arith, aligned)

  user-case : (g : HartState) → Restored g → IsUserCase tasks (returned g) c
  user-case g at = record {
    mode = (mret-csrs number g.csrs at.mode at.sound.csrs).mode;
    held = at.held;
    body = r.ready.body;
    no_end = r.ready.no_end;
    pc = pc-is g at;
    registers = own-register g at;
    port_a = inl (at.latches PortA tt);
    port_b = inl (at.latches PortB tt);
    res = inl (at.latches Res tt);
    load = inl (at.latches Load tt);
    store = inl (at.latches Store tt);
    mul = inl (at.latches Mul tt);
    scratch = at.scratch;
    bound_registers = ap (λ (x : CsrFile). x.pmp.addrs) at.csrs_are ∙ four-bounds (task_of c.body) csrs.pmp.addrs four;
    words = r.ready.stands.words;
    saved_pc = r.ready.saved_pc;
    saved_registers = λ i some low. own-old (task_of c.body) c.body.task_no c.body.count i (slot_word c i) (r.ready.saved_registers i some low);
    bounds = r.ready.bounds;
  }

  pub user-state : (g : HartState) → Restored g → IsUserState tasks number (returned g) c
  user-state g at = record {
    sound = record {
      csrs = (mret-csrs number g.csrs at.mode at.sound.csrs).sound;
      registers = at.sound.registers;
      zero = at.sound.zero;
      truthful = λ place. subst (IsTruthful tasks) (sym (cell-returned g place)) (at.sound.truthful place);
      public_alone = λ none place. absurd (not-none g.held c at.held none);
      user = λ user. (c, user-case g at);
    };
    user = user-case g at;
    slot = r.slot;
    valid = r.valid;
    within = r.within;
  }

  -- one step, with a tick before it or without
  pub returns : (g : HartState) → Restored g → Leads tasks k.code.words number 1 (IsAtCutPoint tasks k number) g
  returns g at = inr (at.sound, goes)
    where
      goes : (ticked : Bool) → GoesOnTo tasks g (IsAtCutPoint tasks k number) (hart_step k.code.words (ticked_if ticked g))
      goes ticked =
          let f = ticked_if ticked g in
          let there = restored-ticked tasks number (mret_at k) (task_csrs (task_of c.body) (pc_of c) csrs) c ticked g at in
          record {
            after = returned f;
            probes = [];
            did = Ran;
            step_is = mret-step f there;
            explained = All-nil (IsExplained tasks);
            holds = subst (λ (o : Option ContextState). HoldsSame g.held o) (sym (held-ticked ticked g)) (holds-same g.held);
            there = inl (c, user-state f there);
          }
