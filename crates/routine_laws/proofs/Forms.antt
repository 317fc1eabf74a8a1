-- Each form that a routine may have is followed over abstract cells, with the writes that the contents say.
use Rattle.std.proofs.Common.{◌≡◌, ℕ, zero, suc, ◌*◌, ◌^◌, ◌%◌, Bool, true, false, ◌==◌, if◌then◌else◌, ℤ, pos, negsuc, List, [], ◌∷◌, ◌++◌, Option, Some, None, refl, sym, ap, subst, ◌∙◌, eqb-true}
use Rattle.isa_model.specs.declared.instr.Instr.{Instr}
use Rattle.isa_model.specs.declared.instr.Instr.TheVariants as instrs
use Rattle.isa_model.specs.declared.instr.Alu.TheVariants.{Add, Mul}
use Rattle.isa_model.specs.declared.instr.LoadKind.TheVariants as loads
use Rattle.isa_model.specs.declared.instr.StoreKind.TheVariants as stores
use Rattle.isa_model.specs.declared.instr.CsrOp.TheVariants.{Rw, Rs}
use Rattle.isa_model.specs.declared.latch.Latch.TheVariants as latches
use Rattle.isa_model.specs.Bits.{two_complement, word_address}
use Rattle.isa_model.specs.Arithmetic.{alu_of, csr_result}
use Rattle.isa_model.specs.Effect.{Write, Flow, Constant, Moved, Mixed, Rs1, Rs2, Word, OldCsr, Goes, Raises, does, address, is_mscratch}
use Rattle.hart_model.specs.declared.place.Place.{Place}
use Rattle.hart_model.specs.declared.place.Place.TheVariants as places
use Rattle.hart_model.specs.Cells.{place_of}
use Rattle.symbolic_run.specs.AbstractCell.{AbstractCell, AbstractState, abstract_cell_at}
use Rattle.symbolic_run.specs.AbstractCell as cells
use Rattle.symbolic_run.specs.AbstractEffect.{AbstractOperands, AbstractWrite, stand_in, stand_in_bases, operands_of, mixed_cell, cell_of_flow, with_write, abstract_writes, by_effect, by_word, word_at_place, reg_cell, abstract_effect}
use Rattle.core_invariant.proofs.KernelCells.{reached}
use Rattle.routine_laws.specs.declared.content.Content.{Content}
use Rattle.routine_laws.specs.Contents.{Contents, ContentWrite, is_zero, content_at, register, to, constant_of, lui_writes, addi_writes, add_writes, mul_writes, load_writes, store_writes, swap_writes, read_writes, reached_by}
use Rattle.routine_laws.specs.declared.content.Content.TheVariants as contents
use Rattle.routine_laws.specs.Rules.{WordOutcome, Leaves, if_taken, if_mscratch, may_take, after_load, after_store, after_instr}
use Rattle.routine_laws.specs.Rules as rules
use Rattle.routine_laws.proofs.Fits.{Fits, FitState, fit-at}
use Rattle.routine_laws.proofs.WriteFits.{MayWrite, WriteFits, WritesFit, LeavesBoth, writes-leave}
use Rattle.routine_laws.proofs.Places.{access, may-store, place-spoken}

-- an instruction that is followed, with writes of which contents speak
pub record Follows (a : AbstractState) (instr : Instr) (ws : List ContentWrite) : Type 0 where
  pub writes : List AbstractWrite
  pub effect : abstract_effect reached a instr ≡ Some writes
  pub fit : WritesFit ws writes

-- one write, and a content that speaks of it
abbrev goes : Place → AbstractCell → AbstractWrite
goes at cell = record { at = at; cell = cell }

says : {p : Place} {k : Content} {x : AbstractCell} → Fits k x → MayWrite p k → WriteFits (record { at = p; content = k }) (goes p x)
says fits may = record { at = refl; cell = fits; may = may }

-- a register's write, which x0 hasn't
abbrev reg_write : Bool → ℕ → ℕ → Flow → List Write
reg_write is_x0 rd v flow = if is_x0 then [] else record { to = latches.Reg rd; value = v; flow = flow } ∷ []

abbrev reg_goes : Bool → ℕ → AbstractCell → List AbstractWrite
reg_goes is_x0 rd x = if is_x0 then [] else goes (places.Reg rd) x ∷ []

reg-written : (ao : AbstractOperands) (b : Bool) (rd v : ℕ) (flow : Flow) (x : AbstractCell) → cell_of_flow ao flow v ≡ Some x
    → abstract_writes ao (reg_write b rd v flow) ≡ Some (reg_goes b rd x)
reg-written ao true rd v flow x e = refl
reg-written ao false rd v flow x e = ap (λ o. with_write (Some (places.Reg rd)) o (Some [])) e

reg-fits : (b : Bool) (rd : ℕ) (k : Content) (x : AbstractCell) → Fits k x → WritesFit (if b then [] else to (places.Reg rd) k) (reg_goes b rd x)
reg-fits true rd k x f = tt
reg-fits false rd k x f = (says f tt, tt)

-- what is computed of one untagged cell is untagged
pub record IsMixed (x : AbstractCell) (v : ℕ) : Type 0 where
  pub cell : AbstractCell
  pub is : mixed_cell (x ∷ []) v ≡ Some cell
  pub untagged : cells.is_tagged cell ≡ false

of-zero : (b : Bool) (v : ℕ)
    → (y : AbstractCell) × ((if b then Some cells.Zero else Some (cells.PublicNumber v)) ≡ Some y) × (cells.is_tagged y ≡ false)
of-zero true v = (cells.Zero, refl, refl)
of-zero false v = (cells.PublicNumber v, refl, refl)

mixed-untagged : (x : AbstractCell) (v : ℕ) → cells.is_tagged x ≡ false → IsMixed x v
mixed-untagged cells.Zero v e = let y = of-zero (v == 0) v in record { cell = y.0; is = y.1; untagged = y.2 }
mixed-untagged cells.SlotAddress v e = record { cell = cells.PublicAny; is = refl; untagged = refl }
mixed-untagged cells.PublicAny v e = record { cell = cells.PublicAny; is = refl; untagged = refl }
mixed-untagged (cells.PublicNumber n) v e = record { cell = cells.PublicNumber v; is = refl; untagged = refl }
mixed-untagged (cells.TaskReg n) v e = absurd (cc e)
mixed-untagged (cells.OldSlotWord n) v e = absurd (cc e)
mixed-untagged cells.GivenCell v e = absurd (cc e)
mixed-untagged cells.AnyTagged v e = absurd (cc e)

module _ (c : Contents) (a : AbstractState) (f : FitState c a) where
  reg-fit : (r : ℕ) → Fits (register c r) (reg_cell a r)
  reg-fit r = fit-at c a (places.Reg r) tt f

  -- LUI
  follow-lui : (rd imm20 : ℕ) → Follows a (instrs.Lui rd imm20) (lui_writes rd)
  follow-lui rd imm20 =
      let ao = operands_of a (instrs.Lui rd imm20) None in
      let v = 2 ^ 12 * imm20 in
      record {
        writes = goes places.Res (cells.PublicNumber v) ∷ reg_goes (rd == 0) rd (cells.PublicNumber v);
        effect = ap (λ o. with_write (Some places.Res) (Some (cells.PublicNumber v)) o)
            (reg-written ao (rd == 0) rd v Constant (cells.PublicNumber v) refl);
        fit = (says refl tt, reg-fits (rd == 0) rd contents.Public (cells.PublicNumber v) refl);
      }

  -- ADDI from x0
  addi-by : (rd : ℕ) (imm : ℤ) (k : Content) (x : AbstractCell) → mixed_cell (cells.Zero ∷ []) (alu_of Add 0 (two_complement 32 imm)) ≡ Some x
      → Fits k x → Follows a (instrs.AluImm Add rd 0 imm) (addi_writes rd k)
  addi-by rd imm k x e fits =
      let ao = operands_of a (instrs.AluImm Add rd 0 imm) None in
      let v = alu_of Add 0 (two_complement 32 imm) in
      record {
        writes = goes places.PortA cells.Zero ∷ goes places.Res x ∷ reg_goes (rd == 0) rd x;
        effect = ap (λ o. with_write (Some places.PortA) (Some cells.Zero) (with_write (Some places.Res) o
            (abstract_writes ao (reg_write (rd == 0) rd v (Mixed (Rs1 ∷ [])))))) e
            ∙ ap (λ o. with_write (Some places.PortA) (Some cells.Zero) (with_write (Some places.Res) (Some x) o))
            (reg-written ao (rd == 0) rd v (Mixed (Rs1 ∷ [])) x e);
        fit = (says refl tt, (says fits tt, reg-fits (rd == 0) rd k x fits));
      }

  follow-addi : (rd : ℕ) (imm : ℤ) → Follows a (instrs.AluImm Add rd 0 imm) (addi_writes rd (constant_of imm))
  follow-addi rd (pos zero) = addi-by rd (pos 0) contents.Zero cells.Zero refl refl
  follow-addi rd (pos (suc n)) =
      let m = mixed-untagged cells.Zero (alu_of Add 0 (two_complement 32 (pos (suc n)))) refl in
      addi-by rd (pos (suc n)) contents.Public m.cell m.is m.untagged
  follow-addi rd (negsuc n) =
      let m = mixed-untagged cells.Zero (alu_of Add 0 (two_complement 32 (negsuc n))) refl in
      addi-by rd (negsuc n) contents.Public m.cell m.is m.untagged

  -- ADD of x0 to itself
  follow-add : Follows a (instrs.AluReg Add 0 0 0) add_writes
  follow-add = record {
    writes = goes places.PortA cells.Zero ∷ goes places.PortB cells.Zero ∷ goes places.Res cells.Zero ∷ [];
    effect = refl;
    fit = (says refl tt, (says refl tt, (says refl tt, tt)));
  }

  -- MUL of x0 and x0
  follow-mul : Follows a (instrs.AluReg Mul 0 0 0) mul_writes
  follow-mul = record {
    writes = goes places.PortA cells.Zero ∷ goes places.PortB cells.Zero ∷ goes places.Mul cells.Zero ∷ goes places.Res cells.Zero ∷ [];
    effect = refl;
    fit = (says refl tt, (says refl tt, (says refl tt, (says refl tt, tt))));
  }

  -- an aligned access goes on
  goes-true : (ao : AbstractOperands) (b : Bool) (ws us : List Write) (pc cause : ℕ) → b ≡ true
      → by_effect ao (if b then does ws (Goes pc) else does us (Raises cause)) ≡ abstract_writes ao ws
  goes-true ao true ws us pc cause e = refl
  goes-true ao false ws us pc cause e = absurd (cc e)

  -- what is at the place of an access
  place-fit : (rs1 : ℕ) (imm : ℤ) (place : Place) → reached_by c rs1 imm ≡ Some place → Fits (content_at c place) (abstract_cell_at a place)
  place-fit rs1 imm place e = fit-at c a place (place-spoken c rs1 imm place e) f

  abbrev load_early_writes : ℕ → ℕ → List Write
  load_early_writes rs1 at =
      record { to = latches.PortA; value = rs1; flow = Moved Rs1 } ∷ record { to = latches.Res; value = at; flow = Mixed (Rs1 ∷ []) } ∷ []

  -- LW
  follow-load : (rd rs1 : ℕ) (imm : ℤ) (place : Place) → reached_by c rs1 imm ≡ Some place
      → Follows a (instrs.Load loads.W rd rs1 imm) (load_writes c rd rs1 place)
  follow-load rd rs1 imm place e =
      let is = access c a rs1 imm place f e in
      let instr = instrs.Load loads.W rd rs1 imm in
      let base = reg_cell a rs1 in
      let at = address (stand_in base) imm in
      let word = abstract_cell_at a place in
      let ao : AbstractOperands = operands_of a instr (Some word) in
      let m = mixed-untagged base at is.untagged in
      let fits = place-fit rs1 imm place e in
      let row : List Write = load_early_writes (stand_in base) at ++ record { to = latches.Load; value = stand_in word; flow = Moved Word }
      ∷ reg_write (rd == 0) rd (stand_in word) (Moved Word) in
      record {
        writes = goes places.PortA base ∷ goes places.Res m.cell ∷ goes places.Load word ∷ reg_goes (rd == 0) rd word;
        effect = ap (λ o. by_word a instr (word_at_place o)) is.found
            ∙ goes-true ao (at % 4 == 0) row (load_early_writes (stand_in base) at) 4 4 is.aligned
            ∙ ap (λ o. with_write (Some places.PortA) (Some base) (with_write (Some places.Res) o (with_write (Some places.Load) (Some word)
            (abstract_writes ao (reg_write (rd == 0) rd (stand_in word) (Moved Word)))))) m.is
            ∙ ap (λ o. with_write (Some places.PortA) (Some base) (with_write (Some places.Res) (Some m.cell)
            (with_write (Some places.Load) (Some word) o)))
            (reg-written ao (rd == 0) rd (stand_in word) (Moved Word) word refl);
        fit = (says (reg-fit rs1) tt, (says m.untagged tt, (says fits tt, reg-fits (rd == 0) rd (content_at c place) word fits)));
      }

  abbrev store_early_writes : ℕ → ℕ → ℕ → List Write
  store_early_writes rs1 rs2 at =
      record { to = latches.PortA; value = rs1; flow = Moved Rs1 }
      ∷ record { to = latches.PortB; value = rs2; flow = Moved Rs2 }
      ∷ record { to = latches.Res; value = at; flow = Mixed (Rs1 ∷ []) }
      ∷ []

  -- SW
  follow-store : (rs2 rs1 : ℕ) (imm : ℤ) (place : Place) → reached_by c rs1 imm ≡ Some place → (place ≡ places.Zero → register c rs2 ≡ contents.Zero)
      → Follows a (instrs.Store stores.W rs2 rs1 imm) (store_writes c rs2 rs1 place)
  follow-store rs2 rs1 imm place e if_zero =
      let is = access c a rs1 imm place f e in
      let instr = instrs.Store stores.W rs2 rs1 imm in
      let base = reg_cell a rs1 in
      let at = address (stand_in base) imm in
      let new = reg_cell a rs2 in
      let word = abstract_cell_at a place in
      let ao : AbstractOperands = operands_of a instr (Some word) in
      let m = mixed-untagged base at is.untagged in
      let row : List Write = store_early_writes (stand_in base) (stand_in new) at ++ record { to = latches.Store; value = stand_in new; flow = Moved Rs2 }
      ∷ record { to = latches.Mem (word_address at); value = stand_in new; flow = Moved Rs2 } ∷ [] in
      record {
        writes = goes places.PortA base ∷ goes places.PortB new ∷ goes places.Res m.cell ∷ goes places.Store new ∷ goes place new ∷ [];
        effect = ap (λ o. by_word a instr (word_at_place o)) is.found
            ∙ goes-true ao (at % 4 == 0) row (store_early_writes (stand_in base) (stand_in new) at) 4 6 is.aligned
            ∙ ap (λ o. with_write (Some places.PortA) (Some base) (with_write (Some places.PortB) (Some new) (with_write (Some places.Res) o
            (with_write (Some places.Store) (Some new)
            (with_write (place_of stand_in_bases (latches.Mem (word_address at))) (Some new) (Some [])))))) m.is
            ∙ ap (λ o. with_write (Some places.PortA) (Some base) (with_write (Some places.PortB) (Some new)
            (with_write (Some places.Res) (Some m.cell) (with_write (Some places.Store) (Some new) (with_write o (Some new) (Some []))))))
            is.stand_in_place;
        fit = (
          says (reg-fit rs1) tt,
          (
            says (reg-fit rs2) tt,
            (says m.untagged tt, (says (reg-fit rs2) tt, (says (reg-fit rs2) (may-store c rs1 imm place (register c rs2) e if_zero), tt))),
          ),
        );
      }

  -- CSRRW of mscratch
  abbrev swapped : Bool → ℕ → ℕ → List AbstractWrite
  swapped true rd rs1 = goes places.PortA (reg_cell a rs1) ∷ goes places.Scr (reg_cell a rs1) ∷ []
  swapped false rd rs1 =
      goes places.PortA (reg_cell a rs1) ∷ goes places.Res a.scr ∷ goes places.Scr (reg_cell a rs1) ∷ goes (places.Reg rd) a.scr ∷ []

  abbrev old_write : Bool → List Write
  old_write b = if b then [] else record { to = latches.Res; value = stand_in a.scr; flow = Moved OldCsr } ∷ []

  swap-written : (b : Bool) (rd rs1 : ℕ)
      → abstract_writes (operands_of a (instrs.Csr Rw rd rs1 0x340) None)
      ((record { to = latches.PortA; value = stand_in (reg_cell a rs1); flow = Moved Rs1 } ∷ []) ++ old_write b
      ++ (record { to = latches.Scr; value = csr_result Rw (stand_in a.scr) (stand_in (reg_cell a rs1)); flow = Moved Rs1 } ∷ [])
      ++ reg_write b rd (stand_in a.scr) (Moved OldCsr))
      ≡ Some (swapped b rd rs1)
  swap-written true rd rs1 = refl
  swap-written false rd rs1 = refl

  swap-fits : (b : Bool) (rd rs1 : ℕ)
      → WritesFit (to places.PortA (register c rs1) ++ (if b then [] else to places.Res c.scr) ++ to places.Scr (register c rs1)
      ++ (if b then [] else to (places.Reg rd) c.scr))
      (swapped b rd rs1)
  swap-fits true rd rs1 = (says (reg-fit rs1) tt, (says (reg-fit rs1) tt, tt))
  swap-fits false rd rs1 = (says (reg-fit rs1) tt, (says f.scr tt, (says (reg-fit rs1) tt, (says f.scr tt, tt))))

  follow-swap : (rd rs1 : ℕ) → Follows a (instrs.Csr Rw rd rs1 0x340) (swap_writes c rd rs1)
  follow-swap rd rs1 = record {
    writes = swapped (rd == 0) rd rs1;
    effect = swap-written (rd == 0) rd rs1;
    fit = swap-fits (rd == 0) rd rs1;
  }

  -- CSRRS of mscratch that only reads
  abbrev read_cells : Bool → ℕ → List AbstractWrite
  read_cells true rd = goes places.PortA cells.Zero ∷ []
  read_cells false rd = goes places.PortA cells.Zero ∷ goes places.Res a.scr ∷ goes (places.Reg rd) a.scr ∷ []

  read-written : (b : Bool) (rd : ℕ)
      → abstract_writes (operands_of a (instrs.Csr Rs rd 0 0x340) None)
      ((record { to = latches.PortA; value = 0; flow = Moved Rs1 } ∷ []) ++ old_write b ++ []
      ++ reg_write b rd (stand_in a.scr) (Moved OldCsr))
      ≡ Some (read_cells b rd)
  read-written true rd = refl
  read-written false rd = refl

  read-fits : (b : Bool) (rd : ℕ)
      → WritesFit (to places.PortA contents.Zero ++ (if b then [] else to places.Res c.scr) ++ (if b then [] else to (places.Reg rd) c.scr))
      (read_cells b rd)
  read-fits true rd = (says refl tt, tt)
  read-fits false rd = (says refl tt, (says f.scr tt, (says f.scr tt, tt)))

  follow-read : (rd : ℕ) → Follows a (instrs.Csr Rs rd 0 0x340) (read_writes c rd)
  follow-read rd = record {
    writes = read_cells (rd == 0) rd;
    effect = read-written (rd == 0) rd;
    fit = read-fits (rd == 0) rd;
  }

  -- An instruction that breaks no rule is followed, and what it leaves fits.
  pub record GoesOn (instr : Instr) (d : Contents) : Type 0 where
    pub writes : List AbstractWrite
    pub effect : abstract_effect reached a instr ≡ Some writes
    pub left : LeavesBoth writes a d

  goes-on : (d : Contents) (instr : Instr) (ws : List ContentWrite) → Follows a instr ws → rules.after_writes ws c ≡ Leaves d → GoesOn instr d
  goes-on d instr ws follows e =
      record { writes = follows.writes; effect = follows.effect; left = writes-leave ws follows.writes c d a follows.fit f e }

  load-by : (d : Contents) (rd rs1 : ℕ) (imm : ℤ) (o : Option Place) → reached_by c rs1 imm ≡ o → after_load c rd rs1 o ≡ Leaves d
      → GoesOn (instrs.Load loads.W rd rs1 imm) d
  load-by d rd rs1 imm None is e = absurd (cc e)
  load-by d rd rs1 imm (Some place) is e = goes-on d (instrs.Load loads.W rd rs1 imm) (load_writes c rd rs1 place) (follow-load rd rs1 imm place is) e

  -- a store that is taken stores 0 alone in the word that is always 0
  taken-parts : (b : Bool) (outcome : WordOutcome) (d : Contents) → if_taken b outcome ≡ Leaves d → (b ≡ true) × (outcome ≡ Leaves d)
  taken-parts true outcome d e = (refl, e)
  taken-parts false outcome d e = absurd (cc e)

  zero-is : (k : Content) → is_zero k ≡ true → k ≡ contents.Zero
  zero-is contents.Zero e = refl
  zero-is contents.SlotAddress e = absurd (cc e)
  zero-is contents.Public e = absurd (cc e)
  zero-is (contents.TaskReg n) e = absurd (cc e)
  zero-is (contents.OldSlotWord n) e = absurd (cc e)
  zero-is contents.Unknown e = absurd (cc e)

  store-by : (d : Contents) (rs2 rs1 : ℕ) (imm : ℤ) (o : Option Place) → reached_by c rs1 imm ≡ o → after_store c rs2 rs1 o ≡ Leaves d
      → GoesOn (instrs.Store stores.W rs2 rs1 imm) d
  store-by d rs2 rs1 imm None is e = absurd (cc e)
  store-by d rs2 rs1 imm (Some place) is e =
      let t = taken-parts (may_take place (register c rs2)) (rules.after_writes (store_writes c rs2 rs1 place) c) d e in
      goes-on d (instrs.Store stores.W rs2 rs1 imm) (store_writes c rs2 rs1 place)
      (follow-store rs2 rs1 imm place is (λ there. zero-is (register c rs2) (ap (λ p. may_take p (register c rs2)) (sym there) ∙ t.0))) t.1

  scratch-parts : (b : Bool) (outcome : WordOutcome) (d : Contents) → if_mscratch b outcome ≡ Leaves d → (b ≡ true) × (outcome ≡ Leaves d)
  scratch-parts true outcome d e = (refl, e)
  scratch-parts false outcome d e = absurd (cc e)

  swap-by : (d : Contents) (rd rs1 csr : ℕ) → if_mscratch (is_mscratch csr) (rules.after_writes (swap_writes c rd rs1) c) ≡ Leaves d
      → GoesOn (instrs.Csr Rw rd rs1 csr) d
  swap-by d rd rs1 csr e =
      let t = scratch-parts (is_mscratch csr) (rules.after_writes (swap_writes c rd rs1) c) d e in
      let same : csr ≡ 0x340 = eqb-true csr 0x340 t.0 in
      subst (λ n. GoesOn (instrs.Csr Rw rd rs1 n) d) (sym same)
      (goes-on d (instrs.Csr Rw rd rs1 0x340) (swap_writes c rd rs1) (follow-swap rd rs1) t.1)

  read-by : (d : Contents) (rd csr : ℕ) → if_mscratch (is_mscratch csr) (rules.after_writes (read_writes c rd) c) ≡ Leaves d
      → GoesOn (instrs.Csr Rs rd 0 csr) d
  read-by d rd csr e =
      let t = scratch-parts (is_mscratch csr) (rules.after_writes (read_writes c rd) c) d e in
      let same : csr ≡ 0x340 = eqb-true csr 0x340 t.0 in
      subst (λ n. GoesOn (instrs.Csr Rs rd 0 n) d) (sym same) (goes-on d (instrs.Csr Rs rd 0 0x340) (read_writes c rd) (follow-read rd) t.1)

  pub instr-goes-on : (d : Contents) (instr : Instr) → after_instr c instr ≡ Leaves d → GoesOn instr d
  instr-goes-on d (instrs.Lui rd imm20) e = goes-on d (instrs.Lui rd imm20) (lui_writes rd) (follow-lui rd imm20) e
  instr-goes-on d (instrs.AluImm Add rd zero imm) e = goes-on d (instrs.AluImm Add rd 0 imm) (addi_writes rd (constant_of imm)) (follow-addi rd imm) e
  instr-goes-on d (instrs.AluReg Add zero zero zero) e = goes-on d (instrs.AluReg Add 0 0 0) add_writes follow-add e
  instr-goes-on d (instrs.AluReg Mul zero zero zero) e = goes-on d (instrs.AluReg Mul 0 0 0) mul_writes follow-mul e
  instr-goes-on d (instrs.Load loads.W rd rs1 imm) e = load-by d rd rs1 imm (reached_by c rs1 imm) refl e
  instr-goes-on d (instrs.Store stores.W rs2 rs1 imm) e = store-by d rs2 rs1 imm (reached_by c rs1 imm) refl e
  instr-goes-on d (instrs.Csr Rw rd rs1 csr) e = swap-by d rd rs1 csr e
  instr-goes-on d (instrs.Csr Rs rd zero csr) e = read-by d rd csr e
  instr-goes-on d instr e = absurd (cc e)
