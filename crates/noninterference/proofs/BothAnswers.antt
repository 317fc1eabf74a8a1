-- Answers of the queue on two harts that are alike: both are led to where they start again, and at boot both start alike.
use Rattle.std.proofs.Common.{◌≡◌, ℕ, ◌+◌, ◌*◌, ◌-ℤ◌, inl, inr, pos, Bool, List, ◌++◌, Option, Some, None, refl, sym, ap, ◌∙◌, subst}
use Rattle.isa_model.specs.declared.task.Task.{Task}
use Rattle.isa_model.specs.declared.instr.Instr.{Instr}
use Rattle.isa_model.specs.declared.instr.Instr.TheVariants.{Jal, Branch}
use Rattle.isa_model.specs.declared.instr.Cmp.TheVariants.{Beq}
use Rattle.isa_model.specs.Arithmetic.{is_taken}
use Rattle.hart_model.specs.declared.place.Place.TheVariants as places
use Rattle.hart_model.specs.declared.tag.Cell.{Cell}
use Rattle.hart_model.specs.Csrs.{public}
use Rattle.hart_model.specs.Context.{ContextState, slot_address}
use Rattle.hart_model.specs.HartState.{HartState, hart_cell}
use Rattle.hart_model.specs.Writes.{CellWrite, after_writes}
use Rattle.hart_model.specs.MachineStep.{machine_instr_step}
use Rattle.hart_model.specs.HartStep.{hart_step, answer_take, answer_give, take_cell, loaded_writes}
use Rattle.core_model.specs.LowEquivalence.{ArePairwise}
use Rattle.core_model.specs.Routines.{ticked_if}
use Rattle.symbolic_run.proofs.Paths.{machine-step-at}
use Rattle.core_invariant.specs.KernelStates.{KernelParts, IsKernel, middle_at, idle_at, middle_len, give_done_index, take_index}
use Rattle.core_invariant.specs.CutPoints.{IsEmptyHanded}
use Rattle.core_invariant.proofs.Waiting.{empty-ticked}
use Rattle.core_invariant.proofs.Idle.{GoesEmpty, jumps-to-take, branches-to-idle}
use Rattle.core_invariant.proofs.Takes.{x5-ticked}
use Rattle.core_model.specs.AlikeHarts.{AreHeldAlike, AreHartsAlike}
use Rattle.noninterference.specs.AlikeSteps.{AreWritesAlike, AreLeftAlike, DecidesAlike, GoOnAlike}
use Rattle.noninterference.specs.AlikeCores.{LedBoth}
use Rattle.noninterference.proofs.Pairs.{pairwise-same}
use Rattle.noninterference.proofs.CellsAlike.{cell-refl}
use Rattle.noninterference.proofs.CellsWrites.{writes-leave-alike}
use Rattle.noninterference.proofs.MachineAlike.{machine-alike}
use Rattle.noninterference.proofs.BothPaths.{alike-ticked, went-alike}
use Rattle.noninterference.proofs.BothOutcomes.{AreAtStarts}
use Rattle.noninterference.proofs.BothSteps.{alike-as}

-- the same writes on both
same-writes : (ws : List CellWrite) → ArePairwise AreWritesAlike ws ws
same-writes ws = pairwise-same AreWritesAlike (λ w. record { at = refl; cell = cell-refl w.cell }) ws

-- a give leaves both alike
pub given-alike : (ws : List CellWrite) (next : ℕ) (h g : HartState) → AreHartsAlike h g → AreLeftAlike (answer_give ws next h) (answer_give ws next g)
given-alike ws next h g alike =
    let left = writes-leave-alike ws ws h g (same-writes ws) alike in
    record {
      harts = record {
        regs = left.harts.regs;
        port_a = left.harts.port_a;
        port_b = left.harts.port_b;
        res = left.harts.res;
        load = left.harts.load;
        store = left.harts.store;
        mul = left.harts.mul;
        zero_word = left.harts.zero_word;
        csrs = left.harts.csrs;
        pc = refl;
        held = tt;
      };
      probes = left.probes;
    }

-- what a take loads is the same
same-loaded : (got other : Option ContextState) → AreHeldAlike got other → take_cell got ≡ take_cell other
same-loaded None None a = refl
same-loaded None (Some d) a = absurd a
same-loaded (Some c) None a = absurd a
same-loaded (Some c) (Some d) a = ap (λ n. public (slot_address n)) a.slot

-- and so does a take of what is alike
pub taken-alike : (early_writes : List CellWrite) (rd next : ℕ) (got other : Option ContextState) (h g : HartState) → AreHeldAlike got other → AreHartsAlike h g
    → AreLeftAlike (answer_take early_writes rd next got h) (answer_take early_writes rd next other g)
taken-alike early_writes rd next got other h g held alike =
    let ws = early_writes ++ loaded_writes rd (take_cell got) in
    let vs = early_writes ++ loaded_writes rd (take_cell other) in
    let same : ws ≡ vs = ap (λ c. early_writes ++ loaded_writes rd c) (same-loaded got other held) in
    let P : List CellWrite → Type 0 = λ us. AreLeftAlike (after_writes ws h) (after_writes us g) in
    let left : AreLeftAlike (after_writes ws h) (after_writes vs g) = subst P same (writes-leave-alike ws ws h g (same-writes ws) alike) in
    record {
      harts = record {
        regs = left.harts.regs;
        port_a = left.harts.port_a;
        port_b = left.harts.port_b;
        res = left.harts.res;
        load = left.harts.load;
        store = left.harts.store;
        mul = left.harts.mul;
        zero_word = left.harts.zero_word;
        csrs = left.harts.csrs;
        pc = refl;
        held = held;
      };
      probes = left.probes;
    }

module _ (k : KernelParts) (kernel : IsKernel k) (tasks others : List Task) (number : ℕ) where
  abbrev There : HartState → HartState → Type 0
  There h g = AreAtStarts tasks others k number h g

  -- a step of an instruction, by which both come to one place with nothing held
  empties-go : (at : ℕ) (instr : Instr) (h g : HartState) → hart_step k.code.words h ≡ machine_instr_step h instr → hart_step k.code.words g ≡ machine_instr_step g instr
      → AreHartsAlike h g → DecidesAlike h g instr → GoesEmpty tasks number at (hart_step k.code.words h) → GoesEmpty others number at (hart_step k.code.words g)
      → ((x y : HartState) → IsEmptyHanded tasks number at x → IsEmptyHanded others number at y → AreHartsAlike x y → There x y)
      → GoOnAlike There (hart_step k.code.words h) (hart_step k.code.words g)
  empties-go at instr h g by by_too alike decided one two there =
      went-alike There (hart_step k.code.words h) (hart_step k.code.words g) one.after two.after one.probes two.probes _ _ one.step_is two.step_is
      (alike-as _ _ (hart_step k.code.words h) (hart_step k.code.words g) (sym by) (sym by_too) (machine-alike h g instr alike decided))
      (λ left. there one.after two.after one.hart two.hart left)

  -- after the give of an ended task both come to the take
  pub both-to-take : (h g : HartState) → IsEmptyHanded tasks number (middle_at k + 4 * (give_done_index + 1)) h
      → IsEmptyHanded others number (middle_at k + 4 * (give_done_index + 1)) g → AreHartsAlike h g → LedBoth (AreAtStarts tasks others k) k number h g
  both-to-take h g e f alike = (1, inr ((e.hart.mode, f.hart.mode), goes))
    where
      goes : (ticked : Bool) → GoOnAlike There (hart_step k.code.words (ticked_if ticked h)) (hart_step k.code.words (ticked_if ticked g))
      goes ticked =
          let at = middle_at k + 4 * (give_done_index + 1) in
          let a = ticked_if ticked h in
          let b = ticked_if ticked g in
          let one = empty-ticked tasks number at ticked h e in
          let two = empty-ticked others number at ticked g f in
          empties-go (middle_at k + 4 * take_index) (Jal 0 (pos 8)) a b
          (machine-step-at k.code.words a at (Jal 0 (pos 8)) one.hart.mode one.hart.pc (kernel.linked.middle.each (give_done_index + 1) (Jal 0 (pos 8)) refl))
          (machine-step-at k.code.words b at (Jal 0 (pos 8)) two.hart.mode two.hart.pc (kernel.linked.middle.each (give_done_index + 1) (Jal 0 (pos 8)) refl))
          (alike-ticked ticked h g alike) tt (jumps-to-take k kernel.linked tasks number a one) (jumps-to-take k kernel.linked others number b two)
          (λ x y p q left. record { start = inr (inr (inr (inl p))); other = inr (inr (inr (inl q))); alike = left })

  -- after an empty take both come to the idle loop
  pub both-to-idle : (h g : HartState) → IsEmptyHanded tasks number (middle_at k + 4 * (take_index + 1)) h
      → IsEmptyHanded others number (middle_at k + 4 * (take_index + 1)) g → hart_cell h (places.Reg 5) ≡ public 0 → hart_cell g (places.Reg 5) ≡ public 0
      → AreHartsAlike h g → LedBoth (AreAtStarts tasks others k) k number h g
  both-to-idle h g e f x5 x5_too alike = (1, inr ((e.hart.mode, f.hart.mode), goes))
    where
      goes : (ticked : Bool) → GoOnAlike There (hart_step k.code.words (ticked_if ticked h)) (hart_step k.code.words (ticked_if ticked g))
      goes ticked =
          let at = middle_at k + 4 * (take_index + 1) in
          let off = pos (4 * (middle_len + k.restore + 1)) -ℤ pos (4 * 101) in
          let a = ticked_if ticked h in
          let b = ticked_if ticked g in
          let one = empty-ticked tasks number at ticked h e in
          let two = empty-ticked others number at ticked g f in
          let zero = x5-ticked ticked h (public 0) x5 in
          let zero_too = x5-ticked ticked g (public 0) x5_too in
          empties-go (idle_at k) (Branch Beq 5 0 off) a b
          (machine-step-at k.code.words a at (Branch Beq 5 0 off) one.hart.mode one.hart.pc (kernel.linked.middle.each (take_index + 1) (Branch Beq 5 0 off) refl))
          (machine-step-at k.code.words b at (Branch Beq 5 0 off) two.hart.mode two.hart.pc (kernel.linked.middle.each (take_index + 1) (Branch Beq 5 0 off) refl))
          (alike-ticked ticked h g alike) (ap (λ (x : Cell). is_taken Beq x.value 0) (zero ∙ sym zero_too))
          (branches-to-idle k kernel.linked tasks number a one zero) (branches-to-idle k kernel.linked others number b two zero_too)
          (λ x y p q left. record { start = inr (inr (inr (inr p))); other = inr (inr (inr (inr q))); alike = left })
