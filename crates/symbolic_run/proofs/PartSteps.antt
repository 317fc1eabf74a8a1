-- An instruction of a kernel's part that is followed over abstract cells, and reaches no port, is one step to the word after it.
use Rattle.std.proofs.Common.{◌≡◌, ℕ, zero, suc, ◌+◌, ◌*◌, ◌≤◌, Bool, true, false, ℤ, List, [], ◌∷◌, All, slice_get, Option, Some, None, is_none, refl, sym, ap, subst, ◌∙◌, ◌==◌, if◌then◌else◌, arith, eq-eqb}
use Rattle.std.specs.List.{list_all}
use Rattle.std.proofs.lemmas.Bool.{and_parts}
use Rattle.std.proofs.lemmas.Option.{slice_get_within}
use Rattle.isa_model.specs.declared.instr.Instr.{Instr}
use Rattle.isa_model.specs.declared.instr.Instr.TheVariants.{Lui, Auipc, Jal, Jalr, Branch, Load, Store, AluImm, AluReg, Fence, Ecall, Ebreak, Mret, Csr, CsrImm}
use Rattle.isa_model.specs.declared.instr.LoadKind.TheVariants as loads
use Rattle.isa_model.specs.declared.instr.StoreKind.TheVariants as stores
use Rattle.isa_model.specs.declared.instr.CsrOp.{CsrOp}
use Rattle.isa_model.specs.declared.latch.Latch.TheVariants.{Mem}
use Rattle.isa_model.specs.Bits.{word_address}
use Rattle.isa_model.specs.Effect.{address, is_mscratch}
use Rattle.hart_model.specs.declared.calls.Did.TheVariants.{Ran}
use Rattle.hart_model.specs.declared.place.Place.{Place}
use Rattle.hart_model.specs.declared.place.Place.TheVariants as places
use Rattle.hart_model.specs.declared.port.Port.{Port}
use Rattle.hart_model.specs.declared.probe.Probe.{Probe}
use Rattle.hart_model.specs.Cells.{place_of}
use Rattle.hart_model.specs.Csrs.{CsrFile}
use Rattle.hart_model.specs.Ports.{Nothing, port_at}
use Rattle.hart_model.specs.HartState.{HartState, hart_cell, held_words}
use Rattle.hart_model.specs.StepResult.{StepResult, Steps}
use Rattle.hart_model.specs.Writes.{HartAndProbes, after_writes}
use Rattle.hart_model.specs.MachineStep.{kernel_word_at, machine_bases, place_or_port, after_side, after_machine_writes}
use Rattle.hart_model.specs.HartStep.{hart_step}
use Rattle.core_model.specs.Explained.{IsExplained}
use Rattle.core_model.specs.Routines.{HoldsSame, is_port, reaches_port, port_by_instr, port_by_word, is_at_port, next_word, part_step}
use Rattle.symbolic_run.specs.AbstractCell.{AbstractState}
use Rattle.symbolic_run.specs.AbstractEffect.{AbstractWrite, stand_in, place_from, word_at_place, by_word, reg_cell, abstract_effect}
use Rattle.symbolic_run.specs.AbstractRun as run
use Rattle.symbolic_run.specs.Concretization.{Valuation, IsSound}
use Rattle.symbolic_run.specs.SymbolicPath.{PathState, PathStep, goes_on, plain_step, load_step, store_step, csr_step, port_from, path_step, StandAt, HasInstrAt, IsAsPathSays, TakesStep}
use Rattle.symbolic_run.proofs.Followed.{IsFollowed, reg}
use Rattle.symbolic_run.proofs.Reached.{reached}
use Rattle.symbolic_run.proofs.Plain.{followed, next-address}
use Rattle.symbolic_run.proofs.WritesKeepStates.{writes-keep}
use Rattle.symbolic_run.proofs.AfterStep.{after-step}
use Rattle.symbolic_run.proofs.Paths.{machine-step-at}

-- An instruction that only writes, and reaches no port from x0.
abbrev pub is_of_part : Instr → Bool
is_of_part (Jal rd off) = false
is_of_part (Branch op rs1 rs2 off) = false
is_of_part (Load kind rd rs1 imm) = is_none (port_from rs1 imm)
is_of_part (Store kind rs2 rs1 imm) = is_none (port_from rs1 imm)
is_of_part (Csr op rd rs1 csr) = is_mscratch csr
is_of_part instr = true

-- each of some instructions is of a part
pub is-of-part : (instrs : List Instr) (i : ℕ) (instr : Instr) → list_all is_of_part instrs ≡ true → slice_get instrs i ≡ Some instr → is_of_part instr ≡ true
is-of-part [] i instr all e = absurd (cc e)
is-of-part (x ∷ instrs) zero instr all e =
    let same : x ≡ instr = cc e in
    ap is_of_part (sym same) ∙ (and_parts (is_of_part x) (list_all is_of_part instrs) all).0
is-of-part (x ∷ instrs) (suc i) instr all e = is-of-part instrs i instr ((and_parts (is_of_part x) (list_all is_of_part instrs) all).1) e

-- its step in a path is that of an instruction that only writes
module _ (may_reach : ℕ → Bool) (s : Valuation) (p : PathState) where
  load-plain : (rd rs1 : ℕ) (imm : ℤ) (o : Option Port) → is_none o ≡ true
      → load_step may_reach s p rd rs1 imm (address 0 imm) o ≡ plain_step p (abstract_effect may_reach p.cells (Load loads.W rd rs1 imm))
  load-plain rd rs1 imm None e = refl
  load-plain rd rs1 imm (Some port) e = absurd (cc e)

  store-plain : (rs2 rs1 : ℕ) (imm : ℤ) (o : Option Port) → is_none o ≡ true
      → store_step may_reach s p rs2 rs1 imm (address 0 imm) o ≡ plain_step p (abstract_effect may_reach p.cells (Store stores.W rs2 rs1 imm))
  store-plain rs2 rs1 imm None e = refl
  store-plain rs2 rs1 imm (Some port) e = absurd (cc e)

  csr-plain : (op : CsrOp) (rd rs1 csr : ℕ) (b : Bool) → b ≡ true
      → csr_step may_reach p (Csr op rd rs1 csr) csr b ≡ plain_step p (abstract_effect may_reach p.cells (Csr op rd rs1 csr))
  csr-plain op rd rs1 csr true e = refl
  csr-plain op rd rs1 csr false e = absurd (cc e)

  pub part-plain : (taken : Bool) (instr : Instr) → is_of_part instr ≡ true
      → path_step may_reach s p taken instr ≡ plain_step p (abstract_effect may_reach p.cells instr)
  part-plain taken (Branch op rs1 rs2 off) e = absurd (cc e)
  part-plain taken (Jal rd off) e = absurd (cc e)
  part-plain taken (Load loads.W rd rs1 imm) e = load-plain rd rs1 imm (port_from rs1 imm) e
  part-plain taken (Store stores.W rs2 rs1 imm) e = store-plain rs2 rs1 imm (port_from rs1 imm) e
  part-plain taken (Csr op rd rs1 csr) e = csr-plain op rd rs1 csr (is_mscratch csr) e
  part-plain taken (Load loads.B rd rs1 imm) e = refl
  part-plain taken (Load loads.H rd rs1 imm) e = refl
  part-plain taken (Load loads.Bu rd rs1 imm) e = refl
  part-plain taken (Load loads.Hu rd rs1 imm) e = refl
  part-plain taken (Store stores.B rs2 rs1 imm) e = refl
  part-plain taken (Store stores.H rs2 rs1 imm) e = refl
  part-plain taken (Lui rd imm20) e = refl
  part-plain taken (Auipc rd imm20) e = refl
  part-plain taken (Jalr rd rs1 imm) e = refl
  part-plain taken (AluImm op rd rs1 imm) e = refl
  part-plain taken (AluReg op rd rs1 rs2) e = refl
  part-plain taken (Fence word) e = refl
  part-plain taken Ecall e = refl
  part-plain taken Ebreak e = refl
  part-plain taken Mret e = refl
  part-plain taken (CsrImm op rd uimm csr) e = refl

  -- and so it only writes
  pub record OnlyWrites (instr : Instr) (step : PathStep) : Type 0 where
    pub writes : List AbstractWrite
    pub effect : abstract_effect may_reach p.cells instr ≡ Some writes
    pub step_is : step ≡ goes_on p writes

  writes-by : (instr : Instr) (o : Option (List AbstractWrite)) (step : PathStep) → abstract_effect may_reach p.cells instr ≡ o
      → plain_step p o ≡ Some step → OnlyWrites instr step
  writes-by instr None step is e = absurd (cc e)
  writes-by instr (Some writes) step is e = record { writes = writes; effect = is; step_is = sym (cc e) }

  pub only-writes : (taken : Bool) (instr : Instr) (step : PathStep) → is_of_part instr ≡ true → path_step may_reach s p taken instr ≡ Some step
      → OnlyWrites instr step
  only-writes taken instr step of e =
      writes-by instr (abstract_effect may_reach p.cells instr) step refl (sym (part-plain taken instr of) ∙ e)

-- what it reaches is a place, and no port
place-no-port : (o : Option Place) (port : Option Port) (place : Place) → o ≡ Some place → is_port (place_or_port o port) ≡ false
place-no-port None port place e = absurd (cc e)
place-no-port (Some x) port place e = refl

module _ (s : Valuation) (ok : IsSound s) (may_reach : ℕ → Bool) (number base : ℕ) (p : PathState) (h : HartState) (says : IsAsPathSays s number base p h) where
  at-place : (rs1 : ℕ) (imm : ℤ) (place : Place) → place_from may_reach (reg_cell p.cells rs1) (address (stand_in (reg_cell p.cells rs1)) imm) ≡ Some place
      → is_port (place_or_port (place_of (machine_bases h.held) (Mem (word_address (address (hart_cell h (places.Reg rs1)).value imm))))
      (port_at (address (hart_cell h (places.Reg rs1)).value imm)))
      ≡ false
  at-place rs1 imm place e =
      let r = reached s ok may_reach h.held (record p.held { words = held_words h.held }) says.held says.slot (reg_cell p.cells rs1)
      (hart_cell h (places.Reg rs1)) (reg s p.cells h says.cells rs1) imm place e in
      place-no-port (place_of (machine_bases h.held) (Mem (word_address (address (hart_cell h (places.Reg rs1)).value imm))))
      (port_at (address (hart_cell h (places.Reg rs1)).value imm)) place r.is_place

  by-place : (instr : Instr) (rs1 : ℕ) (imm : ℤ) (o : Option Place) (all : List AbstractWrite)
      → place_from may_reach (reg_cell p.cells rs1) (address (stand_in (reg_cell p.cells rs1)) imm) ≡ o
      → by_word p.cells instr (word_at_place o) ≡ Some all
      → is_port (place_or_port (place_of (machine_bases h.held) (Mem (word_address (address (hart_cell h (places.Reg rs1)).value imm))))
      (port_at (address (hart_cell h (places.Reg rs1)).value imm)))
      ≡ false
  by-place instr rs1 imm None all e f = absurd (cc f)
  by-place instr rs1 imm (Some place) all e f = at-place rs1 imm place e

  pub no-port : (instr : Instr) (all : List AbstractWrite) → abstract_effect may_reach p.cells instr ≡ Some all → reaches_port h instr ≡ false
  no-port (Load loads.W rd rs1 imm) all e =
      by-place (Load loads.W rd rs1 imm) rs1 imm (place_from may_reach (reg_cell p.cells rs1) (address (stand_in (reg_cell p.cells rs1)) imm)) all refl e
  no-port (Store stores.W rs2 rs1 imm) all e =
      by-place (Store stores.W rs2 rs1 imm) rs1 imm (place_from may_reach (reg_cell p.cells rs1) (address (stand_in (reg_cell p.cells rs1)) imm)) all refl e
  no-port (Load loads.B rd rs1 imm) all e = absurd (cc e)
  no-port (Load loads.H rd rs1 imm) all e = absurd (cc e)
  no-port (Load loads.Bu rd rs1 imm) all e = absurd (cc e)
  no-port (Load loads.Hu rd rs1 imm) all e = absurd (cc e)
  no-port (Store stores.B rs2 rs1 imm) all e = absurd (cc e)
  no-port (Store stores.H rs2 rs1 imm) all e = absurd (cc e)
  no-port (Lui rd imm20) all e = refl
  no-port (Auipc rd imm20) all e = refl
  no-port (Jal rd off) all e = refl
  no-port (Jalr rd rs1 imm) all e = refl
  no-port (Branch op rs1 rs2 off) all e = refl
  no-port (AluImm op rd rs1 imm) all e = refl
  no-port (AluReg op rd rs1 rs2) all e = refl
  no-port (Fence word) all e = refl
  no-port Ecall all e = refl
  no-port Ebreak all e = refl
  no-port Mret all e = refl
  no-port (Csr op rd rs1 csr) all e = refl
  no-port (CsrImm op rd uimm csr) all e = refl

-- The step of a hart of which a path's state speaks: it is the part's step, and the hart is then as the path says.
pub record IsPartStepped (s : Valuation) (number base : ℕ) (code : List ℕ) (p : PathState) (step : PathStep) (z : AbstractState) (h : HartState) : Type 0 where
  pub after : HartState
  pub probes : List Probe
  pub hart_is : hart_step code h ≡ Steps after probes Ran
  pub part_is : part_step code h ≡ Some (record { hart = after; probes = probes })
  pub pending : after.csrs.is_timer_pending ≡ h.csrs.is_timer_pending
  pub explained : All (IsExplained s.tasks) probes
  pub holds : HoldsSame h.held after.held
  pub says : IsAsPathSays s number base (record { cells = z; index = step.index; csrs = step.csrs; held = step.held }) after

-- a step to the next word that reaches no port
to-next : (h : HartState) (port : Bool) (step : StepResult) (after : HartState) (probes : List Probe) → port ≡ false → step ≡ Steps after probes Ran
    → (after.pc == h.pc + 4) ≡ true
    → (if port then None else next_word h.pc step) ≡ Some (record { hart = after; probes = probes })
to-next h port step after probes e f g = rw (e, f, g) refl

module _ (may_reach : ℕ → Bool) (s : Valuation) (ok : IsSound s) (number base : ℕ) (code : List ℕ) (instrs : List Instr) (stand : StandAt code base instrs) where
  pub part-steps : (p : PathState) (taken : Bool) (instr : Instr) (step : PathStep) (z : AbstractState) (h : HartState)
      → slice_get instrs p.index ≡ Some instr → is_of_part instr ≡ true → path_step may_reach s p taken instr ≡ Some step
      → run.after_writes step.writes p.cells ≡ Some z → IsAsPathSays s number base p h → IsPartStepped s number base code p step z h
  part-steps p taken instr step z h found of is cells says =
      let w = only-writes may_reach s p taken instr step of is in
      let few : p.index ≤ 1000 = omega (arith, slice_get_within instrs p.index instr found, stand.few) in
      let f : IsFollowed s h instr w.writes = followed s ok may_reach p.cells h says.cells (record p.held { words = held_words h.held }) says.held says.slot instr w.writes w.effect in
      let next = next-address base p.index h.pc stand.high few says.pc in
      let has : HasInstrAt code (base + 4 * p.index) instr = stand.each p.index instr found in
      let t : TakesStep s number base p (goes_on p w.writes) h instr = record {
        writes = f.writes;
        denote = f.denote;
        csrs = h.csrs;
        csrs_are = says.csrs;
        csrs_sound = says.csrs_sound;
        side = Nothing;
        held = refl;
        step_is = f.step ∙ ap (λ pc. after_machine_writes Nothing pc (after_writes f.writes h)) next;
      } in
      let written : HartAndProbes = after_writes f.writes h in
      let after : HartState = record (after_side Nothing written.hart) { pc = base + 4 * (p.index + 1) } in
      let W : PathStep → Type 0 = λ x. run.after_writes x.writes p.cells ≡ Some z in
      let cells_are : run.after_writes w.writes p.cells ≡ Some z = subst W w.step_is cells in
      let a = after-step s ok number base p (goes_on p w.writes) z h instr refl cells_are says t in
      let kept = writes-keep s ok w.writes f.writes p.cells z h f.denote cells_are in
      let hart_is : hart_step code h ≡ Steps after written.probes Ran =
      machine-step-at code h (base + 4 * p.index) instr says.mode says.pc has ∙ t.step_is in
      let port_is : is_at_port code h ≡ false =
      ap (port_by_word h) (ap (kernel_word_at code) says.pc ∙ has.is_word) ∙ ap (port_by_instr h) has.is_instr
      ∙ no-port s ok may_reach number base p h says instr w.writes w.effect in
      let pc = says.pc in
      record {
        after = after;
        probes = written.probes;
        hart_is = hart_is;
        part_is = to-next h (is_at_port code h) (hart_step code h) after written.probes port_is hart_is
            (eq-eqb (base + 4 * (p.index + 1)) (h.pc + 4) (omega (arith, pc)));
        pending = ap (λ (c : CsrFile). c.is_timer_pending) kept.csrs;
        explained = a.2;
        holds = a.1;
        says = subst (λ (x : PathStep). IsAsPathSays s number base (record { cells = z; index = x.index; csrs = x.csrs; held = x.held }) after) (sym w.step_is) a.0;
      }
