-- Steps of a hart that holds nothing: the jump after the give of an ended task, the branch after an empty take, and the idle loop.
use Rattle.std.proofs.Common.{◌≡◌, ℕ, suc, ◌+◌, ◌*◌, ◌-◌, ◌%◌, ◌≤◌, ◌==◌, Bool, ℤ, pos, ◌-ℤ◌, List, [], ◌∷◌, All, Option, None, option_map, if◌then◌else◌, refl, ap, sym, ◌∙◌, subst, arith}
use Rattle.std.proofs.lemmas.Bool.{eq-eqb, le-ltb}
use Rattle.isa_model.specs.declared.task.Task.{Task}
use Rattle.isa_model.specs.declared.instr.Instr.TheVariants.{Jal, Branch}
use Rattle.isa_model.specs.declared.instr.Cmp.TheVariants.{Beq}
use Rattle.isa_model.specs.declared.latch.Latch.TheVariants as latches
use Rattle.isa_model.specs.Bits.{low_word, two_complement}
use Rattle.isa_model.specs.Effect.{Effect, Write, Raises, Goes, Constant, Moved, Rs1, Rs2, does, effect_of}
use Rattle.hart_model.specs.declared.calls.Did.TheVariants.{Ran}
use Rattle.hart_model.specs.declared.place.Place.TheVariants as places
use Rattle.hart_model.specs.declared.probe.Probe.{Probe}
use Rattle.hart_model.specs.declared.tag.Cell.{Cell}
use Rattle.hart_model.specs.Cells.{blank}
use Rattle.hart_model.specs.Csrs.{public}
use Rattle.hart_model.specs.Context.{ContextState}
use Rattle.hart_model.specs.Ports.{Nothing}
use Rattle.hart_model.specs.HartState.{HartState, hart_cell}
use Rattle.hart_model.specs.Writes.{CellWrite, after_writes}
use Rattle.hart_model.specs.StepResult.{StepResult, Steps}
use Rattle.hart_model.specs.HartStep.{hart_step}
use Rattle.hart_model.specs.MachineStep.{OperandCells, machine_instr_step, operand_values, after_machine_effect, after_machine_writes, held_after_side}
use Rattle.core_model.specs.Explained.{IsExplained}
use Rattle.core_model.specs.Routines.{HoldsSame}
use Rattle.symbolic_run.specs.Ways.{GoesOnTo}
use Rattle.symbolic_run.proofs.Paths.{machine-step-at}
use Rattle.core_invariant.specs.KernelStates.{KernelParts, IsLinked, middle_at, idle_at, middle_len, give_done_index, take_index}
use Rattle.core_invariant.specs.CutPoints.{IsEmptyHanded}
use Rattle.core_invariant.proofs.PublicWrites.{ArePublic, after-public, moved}

-- a difference of numbers is one where the first isn't the lower one
pub difference : (a b : ℕ) → suc b ≤ a → two_complement 32 (pos a -ℤ pos (suc b)) ≡ a - suc b
difference a b low = let test = le-ltb a (suc b) low in rw test refl

-- what these instructions write: a jump the next address to Res, a branch that compares zeros both ports
abbrev pub jump_writes : ℕ → List CellWrite
jump_writes next = record { at = places.Res; cell = public next } ∷ []

abbrev pub branch_writes : List CellWrite
branch_writes = record { at = places.PortA; cell = public 0 } ∷ record { at = places.PortB; cell = public 0 } ∷ []

-- a jump to an aligned address goes on there
abbrev jump_effect : Write → ℕ → Bool → Effect
jump_effect w target aligned = if aligned then does (w ∷ []) (Goes target) else does [] (Raises 0)

pub jal-step : (h : HartState) (off : ℤ) (target : ℕ) → low_word (h.pc + two_complement 32 off) ≡ target → target % 4 ≡ 0
    → machine_instr_step h (Jal 0 off) ≡ after_machine_writes Nothing target (after_writes (jump_writes (low_word (h.pc + 4))) h)
jal-step h off target there aligned =
    let o : OperandCells = record { rs1 = blank; rs2 = blank; word = None; old_csr = blank } in
    let w : Write = record { to = latches.Res; value = low_word (h.pc + 4); flow = Constant } in
    ap (λ (t : ℕ). after_machine_effect h o Nothing (jump_effect w t (t % 4 == 0))) there
    ∙ ap (λ (b : Bool). after_machine_effect h o Nothing (jump_effect w target b)) (eq-eqb (target % 4) 0 aligned)

-- a branch that compares x5 with x0 is taken where x5 is 0
abbrev branch_effect : List Write → ℕ → Bool → Effect
branch_effect ws target aligned = if aligned then does ws (Goes target) else does ws (Raises 0)

abbrev branch_cells : Cell → OperandCells
branch_cells cell = record { rs1 = cell; rs2 = blank; word = None; old_csr = blank }

pub branch-step : (h : HartState) (off : ℤ) (target : ℕ) → hart_cell h (places.Reg 5) ≡ public 0 → low_word (h.pc + two_complement 32 off) ≡ target
    → target % 4 ≡ 0
    → machine_instr_step h (Branch Beq 5 0 off)
    ≡ after_machine_writes Nothing target (after_writes branch_writes h)
branch-step h off target x5 there aligned =
    let ws : List Write = record { to = latches.PortA; value = 0; flow = Moved Rs1 } ∷ record { to = latches.PortB; value = 0; flow = Moved Rs2 } ∷ [] in
    ap (λ (cell : Cell). after_machine_effect h (branch_cells cell) Nothing (effect_of (Branch Beq 5 0 off) h.pc (operand_values (branch_cells cell)))) x5
    ∙ ap (λ (t : ℕ). after_machine_effect h (branch_cells (public 0)) Nothing (branch_effect ws t (t % 4 == 0))) there
    ∙ ap (λ (b : Bool). after_machine_effect h (branch_cells (public 0)) Nothing (branch_effect ws target b)) (eq-eqb (target % 4) 0 aligned)

-- a step that goes on to an address and holds nothing before and after
pub record GoesEmpty (tasks : List Task) (number at : ℕ) (step : StepResult) : Type 0 where
  pub after : HartState
  pub probes : List Probe
  pub step_is : step ≡ Steps after probes Ran
  pub hart : IsEmptyHanded tasks number at after
  pub explained : All (IsExplained tasks) probes

goes-empty : (tasks : List Task) (number at next : ℕ) (h : HartState) (ws : List CellWrite) (step : StepResult) → ArePublic ws → IsEmptyHanded tasks number at h
    → step ≡ after_machine_writes Nothing next (after_writes ws h) → GoesEmpty tasks number next step
goes-empty tasks number at next h ws step are e step_is =
    let done = after-public tasks number at ws h are e.hart in
    let g = (after_writes ws h).hart in
    record {
      after = record g { pc = next; held = option_map (held_after_side Nothing) g.held };
      probes = (after_writes ws h).probes;
      step_is = step_is;
      hart = record {
        hart = moved tasks number at next g (option_map (held_after_side Nothing) g.held) done.hart;
        held = ap (λ (o : Option ContextState). option_map (held_after_side Nothing) o) (done.held ∙ e.held);
      };
      explained = done.explained;
    }

-- it is a step that leads on
pub goes-on-empty : (tasks : List Task) (number before at : ℕ) (h : HartState) (step : StepResult) (There : HartState → Type 0)
    → IsEmptyHanded tasks number before h → GoesEmpty tasks number at step
    → ((g : HartState) → IsEmptyHanded tasks number at g → There g) → GoesOnTo tasks h There step
goes-on-empty tasks number before at h step There e goes there = record {
  after = goes.after;
  probes = goes.probes;
  did = Ran;
  step_is = goes.step_is;
  explained = goes.explained;
  holds = subst (λ (o : Option ContextState). HoldsSame o goes.after.held) (sym e.held)
      (subst (λ (o : Option ContextState). HoldsSame None o) (sym goes.hart.held) tt);
  there = there goes.after goes.hart;
}

module _ (k : KernelParts) (linked : IsLinked k) (tasks : List Task) (number : ℕ) where
  -- after the give of an ended task the hart comes to the take
  pub jumps-to-take : (h : HartState) → IsEmptyHanded tasks number (middle_at k + 4 * (give_done_index + 1)) h
      → GoesEmpty tasks number (middle_at k + 4 * take_index) (hart_step k.code.words h)
  jumps-to-take h e =
      let at = middle_at k + 4 * (give_done_index + 1) in
      let low = linked.save_limit in
      let aligned = linked.middle.aligned in
      goes-empty tasks number at (middle_at k + 4 * take_index) h (jump_writes (low_word (h.pc + 4))) (hart_step k.code.words h)
      (record { plain = tt; tag = refl }, tt) e
      (machine-step-at k.code.words h at (Jal 0 (pos 8)) e.hart.mode e.hart.pc (linked.middle.each (give_done_index + 1) (Jal 0 (pos 8)) refl)
      ∙ jal-step h (pos 8) (middle_at k + 4 * take_index) (ap (λ (n : ℕ). low_word (n + 8)) e.hart.pc ∙ omega (arith, low)) (omega (arith, aligned)))

  -- the idle loop
  pub idles : (h : HartState) → IsEmptyHanded tasks number (idle_at k) h → GoesEmpty tasks number (idle_at k) (hart_step k.code.words h)
  idles h e =
      let low = linked.save_limit in
      let few = linked.restore_limit in
      let aligned = linked.middle.aligned in
      goes-empty tasks number (idle_at k) (idle_at k) h (jump_writes (low_word (h.pc + 4))) (hart_step k.code.words h)
      (record { plain = tt; tag = refl }, tt) e
      (machine-step-at k.code.words h (idle_at k) (Jal 0 (pos 0)) e.hart.mode e.hart.pc linked.idle
      ∙ jal-step h (pos 0) (idle_at k) (ap (λ (n : ℕ). low_word (n + 0)) e.hart.pc ∙ omega (arith, low, few)) (omega (arith, aligned)))

  -- a hart that took nothing comes to the idle loop
  pub branches-to-idle : (h : HartState) → IsEmptyHanded tasks number (middle_at k + 4 * (take_index + 1)) h → hart_cell h (places.Reg 5) ≡ public 0
      → GoesEmpty tasks number (idle_at k) (hart_step k.code.words h)
  branches-to-idle h e x5 =
      let at = middle_at k + 4 * (take_index + 1) in
      let off = pos (4 * (middle_len + k.restore + 1)) -ℤ pos (4 * 101) in
      let low = linked.save_limit in
      let few = linked.restore_limit in
      let aligned = linked.middle.aligned in
      goes-empty tasks number at (idle_at k) h branch_writes (hart_step k.code.words h)
      (record { plain = tt; tag = refl }, (record { plain = tt; tag = refl }, tt)) e
      (machine-step-at k.code.words h at (Branch Beq 5 0 off) e.hart.mode e.hart.pc (linked.middle.each (take_index + 1) (Branch Beq 5 0 off) refl)
      ∙ branch-step h off (idle_at k) x5 (ap (λ (n : ℕ). low_word (n + two_complement 32 off)) e.hart.pc
      ∙ ap (λ (n : ℕ). low_word (at + n)) (difference (4 * (middle_len + k.restore + 1)) 403 (omega arith)) ∙ omega (arith, low, few)) (omega (arith, aligned)))
