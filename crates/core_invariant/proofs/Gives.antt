-- The gives: what a hart wants that gives what it holds, and how it stands after the answer.
use Rattle.std.proofs.Common.{◌≡◌, ℕ, ◌+◌, ◌*◌, ◌<◌, ◌≤◌, pos, List, [], ◌∷◌, ◌++◌, All, Option, Some, None, is_some, refl, ap, ◌∙◌, arith}
use Rattle.isa_model.specs.declared.task.Task.{Task}
use Rattle.isa_model.specs.declared.ends.End.{End}
use Rattle.isa_model.specs.declared.instr.Instr.TheVariants.{Store}
use Rattle.isa_model.specs.declared.instr.StoreKind.TheVariants as stores
use Rattle.isa_model.specs.declared.latch.Latch.TheVariants.{Mem}
use Rattle.isa_model.specs.Bits.{low_word}
use Rattle.hart_model.specs.declared.calls.QueueCall.{QueueCall}
use Rattle.hart_model.specs.declared.calls.QueueCall.TheVariants.{GiveReady, GiveDone}
use Rattle.hart_model.specs.declared.port.Port.TheVariants.{Give}
use Rattle.hart_model.specs.declared.place.Place.{Place}
use Rattle.hart_model.specs.declared.place.Place.TheVariants as places
use Rattle.hart_model.specs.declared.tag.Cell.{Cell}
use Rattle.hart_model.specs.Cells.{blank, place_of}
use Rattle.hart_model.specs.Csrs.{public}
use Rattle.hart_model.specs.Context.{ContextState}
use Rattle.hart_model.specs.HartState.{HartState, hart_cell}
use Rattle.hart_model.specs.Ports.{AsksQueue, port_at, port_store, give_answer}
use Rattle.hart_model.specs.Writes.{CellWrite, placed}
use Rattle.hart_model.specs.StepResult.{Wants}
use Rattle.hart_model.specs.HartStep.{hart_step, answer_give}
use Rattle.hart_model.specs.MachineStep.{machine_bases, machine_instr_step, NeedsQueue, reach_of, by_reach, store_reach, store_by_port, place_or_port}
use Rattle.core_model.specs.Explained.{IsExplained}
use Rattle.symbolic_run.proofs.PortsReached.{port-place}
use Rattle.symbolic_run.proofs.Paths.{machine-step-at}
use Rattle.core_invariant.specs.KernelStates.{KernelParts, IsLinked, middle_at, give_done_index, give_ready_index, take_index}
use Rattle.core_invariant.specs.CutPoints.{IsEmptyHanded, IsGivingReady, IsGivingDone}
use Rattle.core_invariant.proofs.PublicWrites.{ArePublic, after-public, moved}

-- what a give of a cell has written
abbrev pub give_writes : Cell → List CellWrite
give_writes cell =
    record { at = places.PortA; cell = public 0 }
    ∷ record { at = places.PortB; cell = cell }
    ∷ record { at = places.Res; cell = public 0x704 }
    ∷ record { at = places.Store; cell = cell }
    ∷ []

-- a store to the port of gives, where the port asks the queue
give-step : (h : HartState) (rs2 : ℕ) (call : QueueCall) → place_of (machine_bases h.held) (Mem 0x704) ≡ None
    → port_store Give (hart_cell h (places.Reg rs2)) h.held ≡ AsksQueue call
    → machine_instr_step h (Store stores.W rs2 0 (pos 0x704)) ≡ Wants call (give_writes (hart_cell h (places.Reg rs2))) 0 (low_word (h.pc + 4))
give-step h rs2 call none asks =
    let cell = hart_cell h (places.Reg rs2) in
    let reach : reach_of h (Store stores.W rs2 0 (pos 0x704)) ≡ NeedsQueue call (Some cell) =
    ap (λ (o : Option Place). store_reach h stores.W cell (place_or_port o (port_at 0x704))) none ∙ ap (store_by_port cell) asks in
    ap (by_reach h (Store stores.W rs2 0 (pos 0x704))) reach
    ∙ ap (λ (o : Option Place). Wants call (give_writes cell ++ placed o cell []) 0 (low_word (h.pc + 4))) none

-- the word of a port is none of what a hart holds
port-word : (h : HartState) (c : ContextState) → h.held ≡ Some c → c.slot < 8 → place_of (machine_bases h.held) (Mem 0x704) ≡ None
port-word h c held slot = ap (λ (o : Option ContextState). place_of (machine_bases o) (Mem 0x704)) held ∙ port-place c 0x704 Give slot refl

-- the next address
pub next-after : (k : KernelParts) (i : ℕ) → k.save ≤ 300 → i < 1000 → low_word (middle_at k + 4 * i + 4) ≡ middle_at k + 4 * (i + 1)
next-after k i low few = omega arith

module _ (k : KernelParts) (linked : IsLinked k) (tasks : List Task) (number : ℕ) where
  pub wants-give-ready : (h : HartState) (c : ContextState) → IsGivingReady tasks number (middle_at k + 4 * give_ready_index) h c
      → hart_step k.code.words h ≡ Wants GiveReady (give_writes (public 0)) 0 (middle_at k + 4 * take_index)
  wants-give-ready h c g =
      machine-step-at k.code.words h (middle_at k + 4 * give_ready_index) (Store stores.W 0 0 (pos 0x704)) g.hart.mode g.hart.pc
      (linked.middle.each give_ready_index (Store stores.W 0 0 (pos 0x704)) refl)
      ∙ give-step h 0 GiveReady (port-word h c g.held g.given.slot)
      (ap (port_store Give blank) g.held ∙ ap (λ (o : Option End). give_answer 0 (is_some o)) g.given.ready.no_end)
      ∙ ap (λ (n : ℕ). Wants GiveReady (give_writes (public 0)) 0 (low_word (n + 4))) g.hart.pc
      ∙ ap (λ (n : ℕ). Wants GiveReady (give_writes (public 0)) 0 n) (next-after k give_ready_index linked.save_limit (omega arith))

  pub wants-give-done : (h : HartState) (c : ContextState) → IsGivingDone tasks number (middle_at k + 4 * give_done_index) h c
      → hart_step k.code.words h ≡ Wants GiveDone (give_writes (public 1)) 0 (middle_at k + 4 * (give_done_index + 1))
  wants-give-done h c g =
      machine-step-at k.code.words h (middle_at k + 4 * give_done_index) (Store stores.W 6 0 (pos 0x704)) g.hart.mode g.hart.pc
      (linked.middle.each give_done_index (Store stores.W 6 0 (pos 0x704)) refl)
      ∙ give-step h 6 GiveDone (port-word h c g.held g.given.slot)
      (ap (λ (cell : Cell). port_store Give cell h.held) g.x6 ∙ ap (port_store Give (public 1)) g.held
      ∙ ap (λ (o : Option End). give_answer 1 (is_some o)) g.given.has_end)
      ∙ ap (λ (cell : Cell). Wants GiveDone (give_writes cell) 0 (low_word (h.pc + 4))) g.x6
      ∙ ap (λ (n : ℕ). Wants GiveDone (give_writes (public 1)) 0 (low_word (n + 4))) g.hart.pc
      ∙ ap (λ (n : ℕ). Wants GiveDone (give_writes (public 1)) 0 n) (next-after k give_done_index linked.save_limit (omega arith))

  -- a give writes public cells
  pub give-public : (value : ℕ) → ArePublic (give_writes (public value))
  give-public value =
      (record { plain = tt; tag = refl }, (record { plain = tt; tag = refl }, (record { plain = tt; tag = refl }, (record { plain = tt; tag = refl }, tt))))

  -- after a give a hart holds nothing, and its entries are explained
  pub given-ready : (h : HartState) (c : ContextState) → IsGivingReady tasks number (middle_at k + 4 * give_ready_index) h c
      → IsEmptyHanded tasks number (middle_at k + 4 * take_index) (answer_give (give_writes (public 0)) (middle_at k + 4 * take_index) h).hart
      × All (IsExplained tasks) (answer_give (give_writes (public 0)) (middle_at k + 4 * take_index) h).probes
  given-ready h c g =
      let at = middle_at k + 4 * give_ready_index in
      let done = after-public tasks number at (give_writes (public 0)) h (give-public 0) g.hart in
      (record { hart = moved tasks number at (middle_at k + 4 * take_index) _ None done.hart; held = refl }, done.explained)

  pub given-done : (h : HartState) (c : ContextState) → IsGivingDone tasks number (middle_at k + 4 * give_done_index) h c
      → IsEmptyHanded tasks number (middle_at k + 4 * (give_done_index + 1))
      (answer_give (give_writes (public 1)) (middle_at k + 4 * (give_done_index + 1)) h).hart
      × All (IsExplained tasks) (answer_give (give_writes (public 1)) (middle_at k + 4 * (give_done_index + 1)) h).probes
  given-done h c g =
      let at = middle_at k + 4 * give_done_index in
      let done = after-public tasks number at (give_writes (public 1)) h (give-public 1) g.hart in
      (record { hart = moved tasks number at (middle_at k + 4 * (give_done_index + 1)) _ None done.hart; held = refl }, done.explained)
