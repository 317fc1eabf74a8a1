-- Each instruction that is followed over abstract cells does, on a hart of which they speak, what its step says.
use Rattle.std.proofs.Common.{◌≡◌, ℕ, ◌+◌, ◌*◌, ◌%◌, ◌≤◌, Bool, true, false, ℤ, List, Option, Some, None, refl, ap, subst, ◌∙◌, arith, sym, eqb-true}
use Rattle.isa_model.specs.declared.instr.Instr.{Instr}
use Rattle.isa_model.specs.declared.instr.Instr.TheVariants.{Lui, Auipc, Jal, Jalr, Branch, Load, Store, AluImm, AluReg, Fence, Ecall, Ebreak, Mret, Csr, CsrImm}
use Rattle.isa_model.specs.declared.instr.LoadKind.TheVariants as loads
use Rattle.isa_model.specs.declared.instr.StoreKind.TheVariants as stores
use Rattle.isa_model.specs.declared.instr.CsrOp.{CsrOp}
use Rattle.isa_model.specs.Bits.{low_word}
use Rattle.isa_model.specs.Effect.{address, is_mscratch}
use Rattle.hart_model.specs.declared.place.Place.{Place}
use Rattle.hart_model.specs.declared.place.Place.TheVariants as places
use Rattle.hart_model.specs.Csrs.{mscratch}
use Rattle.hart_model.specs.Context.{ContextState}
use Rattle.hart_model.specs.Ports.{Nothing}
use Rattle.hart_model.specs.HartState.{HartState, cells_of, hart_cell, held_words}
use Rattle.hart_model.specs.Writes.{after_writes}
use Rattle.hart_model.specs.MachineStep.{after_machine_writes}
use Rattle.symbolic_run.specs.AbstractCell.{AbstractState}
use Rattle.symbolic_run.specs.AbstractEffect.{AbstractWrite, stand_in, place_from, word_at_place, unless_reached, reg_cell, by_word, abstract_effect}
use Rattle.symbolic_run.specs.Concretization.{Valuation, IsSound, IsDenotedBy}
use Rattle.symbolic_run.specs.SymbolicPath.{PathState, IsAsPathSays, TakesStep, goes_on}
use Rattle.symbolic_run.proofs.Reached.{reached}
use Rattle.symbolic_run.proofs.Followed.{IsFollowed, reg}
use Rattle.symbolic_run.proofs.PlainForms.{follow-lui, follow-alu-imm, follow-alu-reg}
use Rattle.symbolic_run.proofs.ScratchForms.{follow-mscratch}
use Rattle.symbolic_run.proofs.WordForms.{follow-load, follow-store}

module _ (s : Valuation) (ok : IsSound s) (may_reach : ℕ → Bool) (a : AbstractState) (h : HartState) (d : IsDenotedBy s a (cells_of h)) where
  module _ (c : ContextState) (is_held : h.held ≡ Some c) (is_slot : c.slot ≡ s.slot) where
    -- a load and a store, by the place that they reach
    load-by : (rd rs1 : ℕ) (imm : ℤ) (o : Option Place) (all : List AbstractWrite) →
        place_from may_reach (reg_cell a rs1) (address (stand_in (reg_cell a rs1)) imm) ≡ o →
        by_word a (Load loads.W rd rs1 imm) (word_at_place o) ≡ Some all → IsFollowed s h (Load loads.W rd rs1 imm) all
    load-by rd rs1 imm None all e t = absurd (cc t)
    load-by rd rs1 imm (Some place) all e t =
        follow-load s a h d rd rs1 imm place all
        (reached s ok may_reach h.held c is_held is_slot (reg_cell a rs1) (hart_cell h (places.Reg rs1)) (reg s a h d rs1) imm place e)
        t

    store-by : (rs2 rs1 : ℕ) (imm : ℤ) (o : Option Place) (all : List AbstractWrite) →
        place_from may_reach (reg_cell a rs1) (address (stand_in (reg_cell a rs1)) imm) ≡ o →
        by_word a (Store stores.W rs2 rs1 imm) (word_at_place o) ≡ Some all → IsFollowed s h (Store stores.W rs2 rs1 imm) all
    store-by rs2 rs1 imm None all e t = absurd (cc t)
    store-by rs2 rs1 imm (Some place) all e t =
        follow-store s a h d rs2 rs1 imm place all
        (reached s ok may_reach h.held c is_held is_slot (reg_cell a rs1) (hart_cell h (places.Reg rs1)) (reg s a h d rs1) imm place e)
        t

    -- of the CSRs mscratch alone
    csr-by : (op : CsrOp) (rd rs1 csr : ℕ) (b : Bool) (all : List AbstractWrite) → is_mscratch csr ≡ b →
        by_word a (Csr op rd rs1 csr) (unless_reached b) ≡ Some all → IsFollowed s h (Csr op rd rs1 csr) all
    csr-by op rd rs1 csr false all e t = absurd (cc t)
    csr-by op rd rs1 csr true all e t =
        let same : csr ≡ mscratch = eqb-true csr mscratch e in
        let P : ℕ → Type 0 = λ n. by_word a (Csr op rd rs1 n) (unless_reached true) ≡ Some all → IsFollowed s h (Csr op rd rs1 n) all in
        subst P (sym same) (follow-mscratch s a h d op rd rs1 all) t

    -- each instruction that is followed makes writes of which the abstract ones speak, and does nothing else
    pub followed : (instr : Instr) (all : List AbstractWrite) → abstract_effect may_reach a instr ≡ Some all → IsFollowed s h instr all
    followed (Lui rd imm20) all e = follow-lui s a h d rd imm20 all e
    followed (AluImm op rd rs1 imm) all e = follow-alu-imm s a h d op rd rs1 imm all e
    followed (AluReg op rd rs1 rs2) all e = follow-alu-reg s a h d op rd rs1 rs2 all e
    followed (Load loads.W rd rs1 imm) all e =
        load-by rd rs1 imm (place_from may_reach (reg_cell a rs1) (address (stand_in (reg_cell a rs1)) imm)) all refl e
    followed (Store stores.W rs2 rs1 imm) all e =
        store-by rs2 rs1 imm (place_from may_reach (reg_cell a rs1) (address (stand_in (reg_cell a rs1)) imm)) all refl e
    followed (Csr op rd rs1 csr) all e = csr-by op rd rs1 csr (is_mscratch csr) all refl e
    followed (Load loads.B rd rs1 imm) all e = absurd (cc e)
    followed (Load loads.H rd rs1 imm) all e = absurd (cc e)
    followed (Load loads.Bu rd rs1 imm) all e = absurd (cc e)
    followed (Load loads.Hu rd rs1 imm) all e = absurd (cc e)
    followed (Store stores.B rs2 rs1 imm) all e = absurd (cc e)
    followed (Store stores.H rs2 rs1 imm) all e = absurd (cc e)
    followed (Auipc rd imm20) all e = absurd (cc e)
    followed (Jal rd off) all e = absurd (cc e)
    followed (Jalr rd rs1 imm) all e = absurd (cc e)
    followed (Branch op rs1 rs2 off) all e = absurd (cc e)
    followed (Fence word) all e = absurd (cc e)
    followed Ecall all e = absurd (cc e)
    followed Ebreak all e = absurd (cc e)
    followed Mret all e = absurd (cc e)
    followed (CsrImm op rd uimm csr) all e = absurd (cc e)

-- the next instruction's address
pub next-address : (base index pc : ℕ) → base ≤ 8192 → index ≤ 1000 → pc ≡ base + 4 * index → low_word (pc + 4) ≡ base + 4 * (index + 1)
next-address base index pc high few e =
    let goal : (pc + 4) % 4294967296 ≡ base + 4 * (index + 1) = omega (arith, high, few, e) in
    goal

-- and so takes a hart of which a state of a path speaks to the next instruction
pub plain-taken : (may_reach : ℕ → Bool) (s : Valuation) (number base : ℕ) (p : PathState) (instr : Instr) (writes : List AbstractWrite) (h : HartState) →
    IsSound s → base % 4 ≡ 0 → base ≤ 8192 → p.index ≤ 1000 → abstract_effect may_reach p.cells instr ≡ Some writes → IsAsPathSays s number base p h →
    TakesStep s number base p (goes_on p writes) h instr
plain-taken may_reach s number base p instr writes h ok aligned high few e says =
    let f = followed s ok may_reach p.cells h says.cells (record p.held { words = held_words h.held }) says.held says.slot instr writes e in
    record {
      writes = f.writes;
      denote = f.denote;
      csrs = h.csrs;
      csrs_are = says.csrs;
      csrs_sound = says.csrs_sound;
      side = Nothing;
      held = refl;
      step_is = f.step ∙ ap (λ pc. after_machine_writes Nothing pc (after_writes f.writes h)) (next-address base p.index h.pc high few says.pc);
    }
