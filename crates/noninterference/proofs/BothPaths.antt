-- Two harts that are alike, at the same instruction of paths of the same answers: the instruction decides alike.
use Rattle.std.proofs.Common.{◌≡◌, ℕ, Bool, true, false, ℤ, List, get_or, Option, Some, option_map, refl, sym, ap, ◌∙◌, subst, zero, suc}
use Rattle.isa_model.specs.declared.instr.Instr.{Instr}
use Rattle.isa_model.specs.declared.instr.Instr.TheVariants.{Lui, Auipc, Jal, Jalr, Branch, Load, Store, AluImm, AluReg, Fence, Ecall, Ebreak, Mret, Csr, CsrImm}
use Rattle.isa_model.specs.declared.instr.LoadKind.TheVariants as loads
use Rattle.isa_model.specs.declared.instr.StoreKind.TheVariants as stores
use Rattle.isa_model.specs.declared.ends.End.{End}
use Rattle.isa_model.specs.declared.ends.End.TheVariants.{BadCall}
use Rattle.isa_model.specs.declared.ends.EndKind.TheVariants as kinds
use Rattle.isa_model.specs.Control.{kind_of}
use Rattle.isa_model.specs.Effect.{address}
use Rattle.hart_model.specs.declared.place.Place.TheVariants as places
use Rattle.hart_model.specs.declared.port.Port.TheVariants.{Fault}
use Rattle.hart_model.specs.declared.calls.Did.{Did}
use Rattle.hart_model.specs.declared.probe.Probe.{Probe}
use Rattle.hart_model.specs.declared.tag.Tag.TheVariants.{Public}
use Rattle.hart_model.specs.Cells.{blank}
use Rattle.hart_model.specs.Csrs.{CsrFile}
use Rattle.hart_model.specs.Context.{ContextState}
use Rattle.hart_model.specs.Ports.{port_at}
use Rattle.hart_model.specs.HartState.{HartState, held_words, hart_cell}
use Rattle.hart_model.specs.StepResult.{StepResult, Steps}
use Rattle.symbolic_run.specs.AbstractEffect.{reg_cell}
use Rattle.symbolic_run.specs.Concretization.{Valuation, IsSound, number_of}
use Rattle.symbolic_run.specs.SymbolicPath.{PathState, PathStep, AreSo, branch_index, port_from, path_step, IsAsPathSays}
use Rattle.core_model.specs.Routines.{ticked_if}
use Rattle.core_model.specs.AlikeHarts.{AreCellsAlike, AreHartsAlike}
use Rattle.noninterference.specs.AlikeSteps.{AreStepsAlike, SameNumber, DecidesAlike, GoOnAlike}
use Rattle.noninterference.proofs.Pairs.{pairwise-get}
use Rattle.noninterference.proofs.CellsAlike.{cell-refl}
use Rattle.noninterference.proofs.PathDecides.{branch-answered, load-public, store-public, bad-call}

-- harts that are alike are so after a tick of both
pub alike-ticked : (ticked : Bool) (h g : HartState) → AreHartsAlike h g → AreHartsAlike (ticked_if ticked h) (ticked_if ticked g)
alike-ticked false h g alike = alike
alike-ticked true h g alike = record {
  regs = alike.regs;
  port_a = alike.port_a;
  port_b = alike.port_b;
  res = alike.res;
  load = alike.load;
  store = alike.store;
  mul = alike.mul;
  zero_word = alike.zero_word;
  csrs = record { scratch = alike.csrs.scratch; others = ap (λ (c : CsrFile). record c { is_timer_pending = true }) alike.csrs.others };
  pc = alike.pc;
  held = alike.held;
}

-- their registers are
pub reg-alike : (h g : HartState) → AreHartsAlike h g → (r : ℕ) → AreCellsAlike (hart_cell h (places.Reg r)) (hart_cell g (places.Reg r))
reg-alike h g alike zero = cell-refl blank
reg-alike h g alike (suc r) = pairwise-get AreCellsAlike blank (cell-refl blank) h.regs g.regs alike.regs (suc r)

-- steps that are alike go on to harts that are alike
pub went-alike : (There : HartState → HartState → Type 0) (step to : StepResult) (after other : HartState) (probes entries : List Probe) (did done : Did)
    → step ≡ Steps after probes did → to ≡ Steps other entries done → AreStepsAlike step to → (AreHartsAlike after other → There after other)
    → GoOnAlike There step to
went-alike There step to after other probes entries did done e f alike there =
    let P : StepResult → Type 0 = λ x. AreStepsAlike x to → GoOnAlike There x to in
    let Q : StepResult → Type 0 = λ x. AreStepsAlike (Steps after probes did) x → GoOnAlike There (Steps after probes did) x in
    subst P (sym e) (subst Q (sym f) (λ same. (same.0.probes, there same.0.harts))) alike

-- Two harts, each as a state of a path says by a setting of its own, that are alike.
pub record AreAsPathsSay (s t : Valuation) (number base : ℕ) (p q : PathState) (h g : HartState) : Type 0 where
  pub says : IsAsPathSays s number base p h
  pub other : IsAsPathSays t number base q g
  pub alike : AreHartsAlike h g

-- where bad calls end two tasks, they are of one number
abbrev pub SameBadCall : Option End → Option End → Type 0
SameBadCall end other = (n m : ℕ) → end ≡ Some (BadCall n) → other ≡ Some (BadCall m) → n ≡ m

-- two ends of one kind
pub kinds-called : (end other : Option End) → option_map kind_of end ≡ option_map kind_of other → SameBadCall end other
kinds-called end other same n m e f =
    let g : option_map kind_of (Some (BadCall n)) ≡ option_map kind_of (Some (BadCall m)) = ap (option_map kind_of) (sym e) ∙ same ∙ ap (option_map kind_of) f in
    let h : Some (kinds.BadCall n) ≡ Some (kinds.BadCall m) = g in
    cc h

module _ (may_reach : ℕ → Bool) (s t : Valuation) (ok : IsSound s) (ok_too : IsSound t) (number base : ℕ) where
  -- An instruction of both paths decides alike.
  module _ (p q : PathState) (h g : HartState) (both : AreAsPathsSay s t number base p q h g) where
    same-address : (rs1 : ℕ) → (hart_cell h (places.Reg rs1)).tag ≡ Public → (hart_cell h (places.Reg rs1)).value ≡ (hart_cell g (places.Reg rs1)).value
    same-address rs1 is = (reg-alike h g both.alike rs1).value is

    same-numbers : (a b : ℕ) → (get_or (held_words h.held) 17 blank).value ≡ a → (get_or (held_words g.held) 17 blank).value ≡ b → a ≡ b → SameNumber h.held g.held
    same-numbers a b e f same =
        let c : ContextState = record p.held { words = held_words h.held } in
        let d : ContextState = record q.held { words = held_words g.held } in
        let P : Option ContextState → Type 0 = λ o. SameNumber o g.held in
        let Q : Option ContextState → Type 0 = λ o. SameNumber (Some c) o in
        subst P (sym both.says.held) (subst Q (sym both.other.held) (e ∙ same ∙ sym f))

    -- a store, also of the code of a bad call to the fault port
    store-decides : (rs2 rs1 : ℕ) (imm : ℤ) (taken : Bool) (step to : PathStep) → path_step may_reach s p taken (Store stores.W rs2 rs1 imm) ≡ Some step
        → path_step may_reach t q taken (Store stores.W rs2 rs1 imm) ≡ Some to → SameBadCall step.held.end to.held.end
        → DecidesAlike h g (Store stores.W rs2 rs1 imm)
    store-decides rs2 rs1 imm taken step to e f called =
        let same = same-address rs1 (store-public may_reach s ok number base p h both.says rs2 rs1 imm (port_from rs1 imm) step refl e) in (
          same,
          λ port code.
              let one = bad-call may_reach s ok number base p h both.says rs2 rs1 imm (port_from rs1 imm) step refl e port code in
              let P : ℕ → Type 0 = λ v. port_at (address v imm) ≡ Some Fault in
              let code_too = sym ((reg-alike h g both.alike rs2).value one.stored) ∙ code in
              let two = bad-call may_reach t ok_too number base q g both.other rs2 rs1 imm (port_from rs1 imm) to refl f (subst P same port) code_too in
              same-numbers one.called two.called one.word two.word (called one.called two.called one.end two.end),
        )

    pub decides : (taken : Bool) (instr : Instr) (step to : PathStep) → path_step may_reach s p taken instr ≡ Some step → path_step may_reach t q taken instr ≡ Some to
        → AreSo step.conditions → AreSo to.conditions → SameBadCall step.held.end to.held.end → DecidesAlike h g instr
    decides taken (Branch op rs1 rs2 off) step to e f so so_too called =
        branch-answered may_reach s ok number base p h both.says op rs1 rs2 taken step (number_of s (reg_cell p.cells rs1)) (number_of s (reg_cell p.cells rs2))
        (branch_index p off taken) refl refl e so
        ∙ sym (branch-answered may_reach t ok_too number base q g both.other op rs1 rs2 taken to (number_of t (reg_cell q.cells rs1)) (number_of t (reg_cell q.cells rs2))
        (branch_index q off taken) refl refl f so_too)
    decides taken (Load loads.W rd rs1 imm) step to e f so so_too called =
        same-address rs1 (load-public may_reach s ok number base p h both.says rd rs1 imm (port_from rs1 imm) step refl e)
    decides taken (Load loads.B rd rs1 imm) step to e f so so_too called = absurd (cc e)
    decides taken (Load loads.H rd rs1 imm) step to e f so so_too called = absurd (cc e)
    decides taken (Load loads.Bu rd rs1 imm) step to e f so so_too called = absurd (cc e)
    decides taken (Load loads.Hu rd rs1 imm) step to e f so so_too called = absurd (cc e)
    decides taken (Store stores.W rs2 rs1 imm) step to e f so so_too called = store-decides rs2 rs1 imm taken step to e f called
    decides taken (Store stores.B rs2 rs1 imm) step to e f so so_too called = absurd (cc e)
    decides taken (Store stores.H rs2 rs1 imm) step to e f so so_too called = absurd (cc e)
    decides taken (Lui rd imm20) step to e f so so_too called = tt
    decides taken (Auipc rd imm20) step to e f so so_too called = tt
    decides taken (Jal rd off) step to e f so so_too called = tt
    decides taken (Jalr rd rs1 imm) step to e f so so_too called = tt
    decides taken (AluImm op rd rs1 imm) step to e f so so_too called = tt
    decides taken (AluReg op rd rs1 rs2) step to e f so so_too called = tt
    decides taken (Fence word) step to e f so so_too called = tt
    decides taken Ecall step to e f so so_too called = tt
    decides taken Ebreak step to e f so so_too called = tt
    decides taken Mret step to e f so so_too called = tt
    decides taken (Csr op rd rs1 csr) step to e f so so_too called = tt
    decides taken (CsrImm op rd uimm csr) step to e f so so_too called = tt
