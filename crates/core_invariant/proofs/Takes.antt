-- The take: what a hart wants that takes, and how it stands after the answer.
use Rattle.std.proofs.Common.{◌≡◌, ℕ, ◌+◌, ◌*◌, Bool, true, false, pos, List, [], ◌∷◌, ◌++◌, All, length, get_or-set_same, Option, Some, None, refl, ap, ◌∙◌, arith}
use Rattle.isa_model.specs.declared.task.Task.{Task}
use Rattle.isa_model.specs.declared.instr.Instr.TheVariants.{Load}
use Rattle.isa_model.specs.declared.instr.LoadKind.TheVariants as loads
use Rattle.isa_model.specs.Bits.{low_word}
use Rattle.hart_model.specs.declared.calls.QueueCall.TheVariants.{Take}
use Rattle.hart_model.specs.declared.place.Place.TheVariants as places
use Rattle.hart_model.specs.declared.tag.Cell.{Cell}
use Rattle.hart_model.specs.Cells.{blank}
use Rattle.hart_model.specs.Csrs.{public}
use Rattle.hart_model.specs.Context.{ContextState, slot_address}
use Rattle.hart_model.specs.HartState.{HartState, hart_cell}
use Rattle.hart_model.specs.Writes.{CellWrite, after_writes}
use Rattle.hart_model.specs.StepResult.{Wants}
use Rattle.hart_model.specs.HartStep.{hart_step, answer_take, take_cell, loaded_writes}
use Rattle.hart_model.specs.MachineStep.{machine_instr_step, NeedsQueue, reach_of, by_reach, load_reach, target_of}
use Rattle.core_model.specs.Explained.{IsExplained}
use Rattle.core_model.specs.Routines.{ticked_if}
use Rattle.symbolic_run.proofs.Paths.{machine-step-at}
use Rattle.core_invariant.specs.KernelStates.{KernelParts, IsLinked, middle_at, take_index}
use Rattle.core_invariant.specs.CutPoints.{HasPublicLatches, IsEmptyHanded}
use Rattle.core_invariant.proofs.PublicWrites.{ArePublic, after-public, moved}
use Rattle.core_invariant.proofs.Gives.{next-after}

-- what a take has written before its answer, and all that it writes
abbrev pub take_early_writes : List CellWrite
take_early_writes = record { at = places.PortA; cell = public 0 } ∷ record { at = places.Res; cell = public 0x700 } ∷ []

abbrev pub take_writes : Cell → List CellWrite
take_writes cell = take_early_writes ++ loaded_writes 5 cell

-- a load from the port of takes where nothing is held
take-step : (h : HartState) → h.held ≡ None → machine_instr_step h (Load loads.W 5 0 (pos 0x700)) ≡ Wants Take take_early_writes 5 (low_word (h.pc + 4))
take-step h held =
    let reach : reach_of h (Load loads.W 5 0 (pos 0x700)) ≡ NeedsQueue Take None =
    ap (λ (o : Option ContextState). load_reach (record h { held = o }) loads.W (target_of o 0x700)) held in
    ap (by_reach h (Load loads.W 5 0 (pos 0x700))) reach

-- what is loaded is public, and so is all that a take writes
take-public : (value : ℕ) → ArePublic (take_writes (public value))
take-public value =
    (record { plain = tt; tag = refl }, (record { plain = tt; tag = refl }, (record { plain = tt; tag = refl }, (record { plain = tt; tag = refl }, tt))))

pub taken-public : (got : Option ContextState) → ArePublic (take_writes (take_cell got))
taken-public None = take-public 0
taken-public (Some c) = take-public (slot_address c.slot)

-- x5 is what is loaded
pub taken-x5 : (h : HartState) (cell : Cell) → length h.regs ≡ 32 → hart_cell (after_writes (take_writes cell) h).hart (places.Reg 5) ≡ cell
taken-x5 h cell len = get_or-set_same h.regs 5 cell blank (omega (arith, len))

pub x5-ticked : (ticked : Bool) (h : HartState) (cell : Cell) → hart_cell h (places.Reg 5) ≡ cell → hart_cell (ticked_if ticked h) (places.Reg 5) ≡ cell
x5-ticked true h cell x5 = x5
x5-ticked false h cell x5 = x5

module _ (k : KernelParts) (linked : IsLinked k) (tasks : List Task) (number : ℕ) where
  pub wants-take : (h : HartState) → IsEmptyHanded tasks number (middle_at k + 4 * take_index) h
      → hart_step k.code.words h ≡ Wants Take take_early_writes 5 (middle_at k + 4 * (take_index + 1))
  wants-take h e =
      machine-step-at k.code.words h (middle_at k + 4 * take_index) (Load loads.W 5 0 (pos 0x700)) e.hart.mode e.hart.pc
      (linked.middle.each take_index (Load loads.W 5 0 (pos 0x700)) refl)
      ∙ take-step h e.held
      ∙ ap (λ (n : ℕ). Wants Take take_early_writes 5 (low_word (n + 4))) e.hart.pc
      ∙ ap (λ (n : ℕ). Wants Take take_early_writes 5 n) (next-after k take_index linked.save_limit (omega arith))

  -- the latches of a hart that has its answer, whatever it got, are public; and its entries are explained
  pub after-take : (h : HartState) (got : Option ContextState) → IsEmptyHanded tasks number (middle_at k + 4 * take_index) h
      → HasPublicLatches tasks number (middle_at k + 4 * (take_index + 1)) (answer_take take_early_writes 5 (middle_at k + 4 * (take_index + 1)) got h).hart
      × All (IsExplained tasks) (answer_take take_early_writes 5 (middle_at k + 4 * (take_index + 1)) got h).probes
  after-take h got e =
      let at = middle_at k + 4 * take_index in
      let done = after-public tasks number at (take_writes (take_cell got)) h (taken-public got) e.hart in
      (moved tasks number at (middle_at k + 4 * (take_index + 1)) (after_writes (take_writes (take_cell got)) h).hart got done.hart, done.explained)
