-- The effect of an instruction, by its row, on operands that are alike: its writes, its CSR and what follows are alike.
use Rattle.std.proofs.Common.{◌≡◌, ℕ, ◌+◌, ◌*◌, ◌/◌, ◌%◌, ◌==◌, Bool, true, false, ◌&&◌, not, List, [], ◌∷◌, ◌++◌, Option, Some, None, option_map, refl, sym, subst, ap, ◌∙◌, if◌then◌else◌}
use Rattle.isa_model.specs.declared.latch.Latch.{Latch}
use Rattle.isa_model.specs.declared.latch.Latch.TheVariants as latches
use Rattle.isa_model.specs.declared.instr.Instr.{Instr}
use Rattle.isa_model.specs.declared.instr.Instr.TheVariants.{Lui, Auipc, Jal, Jalr, Branch, Load, Store, AluImm, AluReg, Fence, Ecall, Ebreak, Mret, Csr, CsrImm}
use Rattle.isa_model.specs.declared.instr.LoadKind.{LoadKind}
use Rattle.isa_model.specs.declared.instr.LoadKind.TheVariants as loads
use Rattle.isa_model.specs.declared.instr.StoreKind.{StoreKind}
use Rattle.isa_model.specs.declared.instr.StoreKind.TheVariants as stores
use Rattle.isa_model.specs.declared.instr.Alu.{Alu}
use Rattle.isa_model.specs.declared.instr.CsrOp.{CsrOp}
use Rattle.isa_model.specs.declared.instr.CsrOp.TheVariants.{Rw, Rs, Rc}
use Rattle.isa_model.specs.Bits.{low_word, word_address, two_complement}
use Rattle.isa_model.specs.Arithmetic.{alu_of, is_taken, load_size, store_size, load_result, store_result, csr_result}
use Rattle.isa_model.specs.Effect.{Effect, Write, Flow, Constant, Moved, Mixed, Rs1, Rs2, Word, OldCsr, Next, Goes, Raises, Calls, Returns, effect_of, address, load_word, store_word, loaded_flow, stored_flow, csr_flow, csr_effect, is_csr_written, is_mscratch, to, to_reg, result, is_of_multiplier, multiplier, jump, does}
use Rattle.hart_model.specs.declared.tag.Cell.{Cell}
use Rattle.hart_model.specs.declared.tag.Tag.{Tag}
use Rattle.hart_model.specs.declared.tag.Tag.TheVariants.{Public, Of, Many}
use Rattle.hart_model.specs.Taint.{machine_tag, mixture_of}
use Rattle.hart_model.specs.MachineStep.{OperandCells, operand_tag, operand_values, tag_of_word}
use Rattle.core_model.specs.LowEquivalence.{ArePairwise}
use Rattle.noninterference.proofs.MachineRows.{AreOptionsAlike, AreOperandsAlike, AreRowWritesAlike, AreCsrOptionsAlike, AreEffectsAlike}

-- a public mixture has public parts
pub mixed-one : (t : Tag) → mixture_of (t ∷ []) ≡ Public → t ≡ Public
mixed-one Public e = refl
mixed-one (Of task n l) e = absurd (cc e)
mixed-one Many e = absurd (cc e)

pub mixed-first : (s t : Tag) → mixture_of (s ∷ t ∷ []) ≡ Public → s ≡ Public
mixed-first Public t e = refl
mixed-first (Of task n l) t e = absurd (cc e)
mixed-first Many t e = absurd (cc e)

pub mixed-second : (s t : Tag) → mixture_of (s ∷ t ∷ []) ≡ Public → t ≡ Public
mixed-second Public t e = mixed-one t e
mixed-second (Of task n l) t e = absurd (cc e)
mixed-second Many t e = absurd (cc e)

-- what an instruction decides by the values of its operands
abbrev pub DecidesBy : OperandCells → OperandCells → Instr → Type 0
DecidesBy o p (Branch op rs1 rs2 off) = is_taken op o.rs1.value o.rs2.value ≡ is_taken op p.rs1.value p.rs2.value
DecidesBy o p (Load kind rd rs1 imm) = o.rs1.value ≡ p.rs1.value
DecidesBy o p (Store kind rs2 rs1 imm) = o.rs1.value ≡ p.rs1.value
DecidesBy o p (Jalr rd rs1 imm) = o.rs1.value ≡ p.rs1.value
DecidesBy o p instr = Unit {0}

module _ (o p : OperandCells) (a : AreOperandsAlike o p) where
  -- lists of rows, one after another
  rows-append : (ws vs xs ys : List Write) → ArePairwise (AreRowWritesAlike o) ws vs → ArePairwise (AreRowWritesAlike o) xs ys
      → ArePairwise (AreRowWritesAlike o) (ws ++ xs) (vs ++ ys)
  rows-append [] [] xs ys s t = t
  rows-append [] (v ∷ vs) xs ys s t = absurd s
  rows-append (w ∷ ws) [] xs ys s t = absurd s
  rows-append (w ∷ ws) (v ∷ vs) xs ys s t = (s.0, rows-append ws vs xs ys s.1 t)

  -- one row, by its flow
  row : (latch : Latch) (flow : Flow) (v w : ℕ) → (machine_tag (operand_tag o) flow ≡ Public → v ≡ w)
      → AreRowWritesAlike o (record { to = latch; value = v; flow = flow }) (record { to = latch; value = w; flow = flow })
  row latch flow v w f = record { to = refl; flow = refl; value = f }

  reg-row : (rd : ℕ) (flow : Flow) (v w : ℕ) → (machine_tag (operand_tag o) flow ≡ Public → v ≡ w)
      → ArePairwise (AreRowWritesAlike o) (to_reg rd v flow) (to_reg rd w flow)
  reg-row rd flow v w f = go (rd == 0)
    where
      go : (b : Bool) → ArePairwise (AreRowWritesAlike o) (if b then [] else to (latches.Reg rd) v flow) (if b then [] else to (latches.Reg rd) w flow)
      go true = tt
      go false = (row (latches.Reg rd) flow v w f, tt)

  result-rows : (rd : ℕ) (flow : Flow) (v w : ℕ) → (machine_tag (operand_tag o) flow ≡ Public → v ≡ w)
      → ArePairwise (AreRowWritesAlike o) (result rd v flow) (result rd w flow)
  result-rows rd flow v w f = (row latches.Res flow v w f, reg-row rd flow v w f)

  multiplier-rows : (op : Alu) (flow : Flow) (v w : ℕ) → (machine_tag (operand_tag o) flow ≡ Public → v ≡ w)
      → ArePairwise (AreRowWritesAlike o) (multiplier op v flow) (multiplier op w flow)
  multiplier-rows op flow v w f = go (is_of_multiplier op)
    where
      go : (b : Bool) → ArePairwise (AreRowWritesAlike o) (if b then to latches.Mul v flow else []) (if b then to latches.Mul w flow else [])
      go true = (row latches.Mul flow v w f, tt)
      go false = tt

  first-row : AreRowWritesAlike o (record { to = latches.PortA; value = o.rs1.value; flow = Moved Rs1 })
      (record { to = latches.PortA; value = p.rs1.value; flow = Moved Rs1 })
  first-row = row latches.PortA (Moved Rs1) o.rs1.value p.rs1.value a.rs1.value

  second-row : AreRowWritesAlike o (record { to = latches.PortB; value = o.rs2.value; flow = Moved Rs2 })
      (record { to = latches.PortB; value = p.rs2.value; flow = Moved Rs2 })
  second-row = row latches.PortB (Moved Rs2) o.rs2.value p.rs2.value a.rs2.value

  -- effects without a CSR
  does-alike : (ws vs : List Write) (next : Next) → ArePairwise (AreRowWritesAlike o) ws vs → AreEffectsAlike o (does ws next) (does vs next)
  does-alike ws vs next s = record { writes = s; csr = tt; next = refl }

  -- one of two effects, by one test
  chosen-alike : (b c : Bool) (e f d k : Effect) → b ≡ c → AreEffectsAlike o e f → AreEffectsAlike o d k
      → AreEffectsAlike o (if b then e else d) (if c then f else k)
  chosen-alike true true e f d k s t u = t
  chosen-alike true false e f d k s t u = absurd (cc s)
  chosen-alike false true e f d k s t u = absurd (cc s)
  chosen-alike false false e f d k s t u = u

  jump-alike : (before after others beyond : List Write) (target at : ℕ) → target ≡ at → ArePairwise (AreRowWritesAlike o) before others
      → ArePairwise (AreRowWritesAlike o) after beyond → AreEffectsAlike o (jump before after target) (jump others beyond at)
  jump-alike before after others beyond target at e s t =
      let P : ℕ → Type 0 = λ x. AreEffectsAlike o (jump before after target) (jump others beyond x) in
      subst P e (chosen-alike (target % 4 == 0) (target % 4 == 0) _ _ _ _ refl
      (does-alike (before ++ after) (others ++ beyond) (Goes target) (rows-append before others after beyond s t)) (does-alike before others (Raises 0) s))

  -- the word of a load or a store
  load-alike : (kind : LoadKind) (rd pc at : ℕ) (ws vs : List Write) (x y : Option Cell) → o.word ≡ x → AreOptionsAlike x y
      → ArePairwise (AreRowWritesAlike o) ws vs
      → AreEffectsAlike o (load_word kind rd pc at ws (option_map (λ cell. cell.value) x)) (load_word kind rd pc at vs (option_map (λ cell. cell.value) y))
  load-alike kind rd pc at ws vs None None e s t = does-alike ws vs (Raises 5) t
  load-alike kind rd pc at ws vs None (Some d) e s t = absurd s
  load-alike kind rd pc at ws vs (Some c) None e s t = absurd s
  load-alike kind rd pc at ws vs (Some c) (Some d) e s t =
      let of : tag_of_word o.word ≡ c.tag = ap tag_of_word e in
      does-alike _ _ (Goes (low_word (pc + 4))) (rows-append (ws ++ to latches.Load c.value (Moved Word)) (vs ++ to latches.Load d.value (Moved Word)) _ _
      (rows-append ws vs _ _ t (row latches.Load (Moved Word) c.value d.value (λ u. s.value (sym of ∙ u)), tt))
      (reg-row rd (loaded_flow kind) _ _ (value kind)))
    where
      value : (k : LoadKind) → machine_tag (operand_tag o) (loaded_flow k) ≡ Public → load_result k c.value at ≡ load_result k d.value at
      value loads.W u = s.value (sym (ap tag_of_word e) ∙ u)
      value loads.B u = ap (λ (v : ℕ). load_result loads.B v at) (s.value (sym (ap tag_of_word e) ∙ mixed-one _ u))
      value loads.H u = ap (λ (v : ℕ). load_result loads.H v at) (s.value (sym (ap tag_of_word e) ∙ mixed-one _ u))
      value loads.Bu u = ap (λ (v : ℕ). load_result loads.Bu v at) (s.value (sym (ap tag_of_word e) ∙ mixed-one _ u))
      value loads.Hu u = ap (λ (v : ℕ). load_result loads.Hu v at) (s.value (sym (ap tag_of_word e) ∙ mixed-one _ u))

  store-alike : (kind : StoreKind) (pc at : ℕ) (ws vs : List Write) (x y : Option Cell) → o.word ≡ x → AreOptionsAlike x y
      → ArePairwise (AreRowWritesAlike o) ws vs
      → AreEffectsAlike o (store_word kind o.rs2.value pc at ws (option_map (λ cell. cell.value) x))
      (store_word kind p.rs2.value pc at vs (option_map (λ cell. cell.value) y))
  store-alike kind pc at ws vs None None e s t = does-alike ws vs (Raises 7) t
  store-alike kind pc at ws vs None (Some d) e s t = absurd s
  store-alike kind pc at ws vs (Some c) None e s t = absurd s
  store-alike kind pc at ws vs (Some c) (Some d) e s t =
      does-alike _ _ (Goes (low_word (pc + 4))) (rows-append (ws ++ to latches.Store o.rs2.value (Moved Rs2))
      (vs ++ to latches.Store p.rs2.value (Moved Rs2)) _ _
      (rows-append ws vs _ _ t (row latches.Store (Moved Rs2) o.rs2.value p.rs2.value a.rs2.value, tt))
      (row (latches.Mem (word_address at)) (stored_flow kind) _ _ (value kind), tt))
    where
      both : (k : StoreKind) → mixture_of (tag_of_word o.word ∷ o.rs2.tag ∷ []) ≡ Public
          → store_result k c.value at o.rs2.value ≡ store_result k d.value at p.rs2.value
      both k u =
          let v = s.value (sym (ap tag_of_word e) ∙ mixed-first (tag_of_word o.word) o.rs2.tag u) in
          let w = a.rs2.value (mixed-second (tag_of_word o.word) o.rs2.tag u) in
          ap (λ (z : ℕ). store_result k z at o.rs2.value) v ∙ ap (λ (z : ℕ). store_result k d.value at z) w

      value : (k : StoreKind) → machine_tag (operand_tag o) (stored_flow k) ≡ Public
          → store_result k c.value at o.rs2.value ≡ store_result k d.value at p.rs2.value
      value stores.W u = a.rs2.value u
      value stores.B u = both stores.B u
      value stores.H u = both stores.H u

  -- a CSR instruction
  csr-alike : (ws vs : List Write) (rd csr pc : ℕ) (written : Bool) (new other : ℕ) (flow : Flow) → ArePairwise (AreRowWritesAlike o) ws vs
      → (machine_tag (operand_tag o) flow ≡ Public → new ≡ other)
      → AreEffectsAlike o (csr_effect ws rd csr pc o.old_csr.value written new flow) (csr_effect vs rd csr pc p.old_csr.value written other flow)
  csr-alike ws vs rd csr pc written new other flow s f = record {
    writes = rows-append _ _ _ _ (rows-append _ _ _ _ (rows-append ws vs _ _ s (read (rd == 0))) (scratch (written && is_mscratch csr)))
        (reg-row rd (Moved OldCsr) o.old_csr.value p.old_csr.value a.old_csr.value);
    csr = is_written (written && not (is_mscratch csr));
    next = refl;
  }
    where
      read : (b : Bool) → ArePairwise (AreRowWritesAlike o) (if b then [] else to latches.Res o.old_csr.value (Moved OldCsr)) (if b then [] else to latches.Res p.old_csr.value (Moved OldCsr))
      read true = tt
      read false = (row latches.Res (Moved OldCsr) o.old_csr.value p.old_csr.value a.old_csr.value, tt)

      scratch : (b : Bool) → ArePairwise (AreRowWritesAlike o) (if b then to latches.Scr new flow else []) (if b then to latches.Scr other flow else [])
      scratch true = (row latches.Scr flow new other f, tt)
      scratch false = tt

      is_written : (b : Bool) → AreCsrOptionsAlike o (if b then Some (record { csr = csr; value = new; flow = flow }) else None) (if b then Some (record { csr = csr; value = other; flow = flow }) else None)
      is_written true = record { csr = refl; flow = refl; value = f }
      is_written false = tt

  -- an operation on two registers
  operation-value : (op : Alu) → mixture_of (o.rs1.tag ∷ o.rs2.tag ∷ []) ≡ Public → alu_of op o.rs1.value o.rs2.value ≡ alu_of op p.rs1.value p.rs2.value
  operation-value op u =
      ap (λ (z : ℕ). alu_of op z o.rs2.value) (a.rs1.value (mixed-first o.rs1.tag o.rs2.tag u))
      ∙ ap (λ (z : ℕ). alu_of op p.rs1.value z) (a.rs2.value (mixed-second o.rs1.tag o.rs2.tag u))

  combined-value : (op : CsrOp) → machine_tag (operand_tag o) (csr_flow op (Rs1 ∷ []) (Moved Rs1)) ≡ Public
      → csr_result op o.old_csr.value o.rs1.value ≡ csr_result op p.old_csr.value p.rs1.value
  combined-value Rw u = a.rs1.value u
  combined-value Rs u =
      let v = a.old_csr.value (mixed-first o.old_csr.tag o.rs1.tag u) in
      let w = a.rs1.value (mixed-second o.old_csr.tag o.rs1.tag u) in
      ap (λ (z : ℕ). csr_result Rs z o.rs1.value) v ∙ ap (λ (z : ℕ). csr_result Rs p.old_csr.value z) w
  combined-value Rc u =
      let v = a.old_csr.value (mixed-first o.old_csr.tag o.rs1.tag u) in
      let w = a.rs1.value (mixed-second o.old_csr.tag o.rs1.tag u) in
      ap (λ (z : ℕ). csr_result Rc z o.rs1.value) v ∙ ap (λ (z : ℕ). csr_result Rc p.old_csr.value z) w

  immediate-value : (op : CsrOp) (uimm : ℕ) → machine_tag (operand_tag o) (csr_flow op [] Constant) ≡ Public
      → csr_result op o.old_csr.value uimm ≡ csr_result op p.old_csr.value uimm
  immediate-value Rw uimm u = refl
  immediate-value Rs uimm u = ap (λ (z : ℕ). csr_result Rs z uimm) (a.old_csr.value (mixed-one o.old_csr.tag u))
  immediate-value Rc uimm u = ap (λ (z : ℕ). csr_result Rc z uimm) (a.old_csr.value (mixed-one o.old_csr.tag u))

  -- the row of every form
  pub effect-alike : (instr : Instr) (pc : ℕ) → DecidesBy o p instr
      → AreEffectsAlike o (effect_of instr pc (operand_values o)) (effect_of instr pc (operand_values p))
  effect-alike (Lui rd imm20) pc d = does-alike _ _ (Goes (low_word (pc + 4))) (result-rows rd Constant _ _ (λ u. refl))
  effect-alike (Auipc rd imm20) pc d = does-alike _ _ (Goes (low_word (pc + 4))) (result-rows rd Constant _ _ (λ u. refl))
  effect-alike (Jal rd off) pc d =
      jump-alike [] (result rd (low_word (pc + 4)) Constant) [] (result rd (low_word (pc + 4)) Constant) _ _ refl tt (result-rows rd Constant _ _ (λ u. refl))
  effect-alike (Jalr rd rs1 imm) pc d =
      jump-alike (to latches.PortA o.rs1.value (Moved Rs1)) (result rd (low_word (pc + 4)) Constant) (to latches.PortA p.rs1.value (Moved Rs1))
      (result rd (low_word (pc + 4)) Constant) _ _
      (ap (λ (z : ℕ). address z imm / 2 * 2) d) (first-row, tt) (result-rows rd Constant _ _ (λ u. refl))
  effect-alike (Branch op rs1 rs2 off) pc d =
      let mine : List Write = to latches.PortA o.rs1.value (Moved Rs1) ++ to latches.PortB o.rs2.value (Moved Rs2) in
      let other : List Write = to latches.PortA p.rs1.value (Moved Rs1) ++ to latches.PortB p.rs2.value (Moved Rs2) in
      chosen-alike _ _ _ _ _ _ d (jump-alike mine [] other [] _ _ refl (first-row, (second-row, tt)) tt)
      (does-alike mine other (Goes (low_word (pc + 4))) (first-row, (second-row, tt)))
  effect-alike (Load kind rd rs1 imm) pc d =
      let mine : List Write = to latches.PortA o.rs1.value (Moved Rs1) ++ to latches.Res (address o.rs1.value imm) (Mixed (Rs1 ∷ [])) in
      let other : ℕ → List Write = λ v. to latches.PortA p.rs1.value (Moved Rs1) ++ to latches.Res (address v imm) (Mixed (Rs1 ∷ [])) in
      let P : ℕ → Type 0 = λ v. AreEffectsAlike o (effect_of (Load kind rd rs1 imm) pc (operand_values o))
      (if address v imm % load_size kind == 0 then load_word kind rd pc (address v imm) (other v) (operand_values p).word else does (other v) (Raises 4)) in
      let rows : ArePairwise (AreRowWritesAlike o) mine (other o.rs1.value) = (first-row, (row latches.Res (Mixed (Rs1 ∷ [])) _ _ (λ u. refl), tt)) in
      subst P d (chosen-alike _ _ _ _ _ _ refl (load-alike kind rd pc (address o.rs1.value imm) mine (other o.rs1.value) o.word p.word refl a.word rows)
      (does-alike mine (other o.rs1.value) (Raises 4) rows))
  effect-alike (Store kind rs2 rs1 imm) pc d =
      let mine : List Write = to latches.PortA o.rs1.value (Moved Rs1) ++ to latches.PortB o.rs2.value (Moved Rs2) ++ to latches.Res
      (address o.rs1.value imm) (Mixed (Rs1 ∷ [])) in
      let other : ℕ → List Write = λ v. to latches.PortA p.rs1.value (Moved Rs1) ++ to latches.PortB p.rs2.value (Moved Rs2) ++ to latches.Res
      (address v imm) (Mixed (Rs1 ∷ [])) in
      let P : ℕ → Type 0 = λ v. AreEffectsAlike o (effect_of (Store kind rs2 rs1 imm) pc (operand_values o))
      (if address v imm % store_size kind == 0 then store_word kind p.rs2.value pc (address v imm) (other v) (operand_values p).word else does (other v)
      (Raises 6)) in
      let rows : ArePairwise (AreRowWritesAlike o) mine (other o.rs1.value) =
      (first-row, (second-row, (row latches.Res (Mixed (Rs1 ∷ [])) _ _ (λ u. refl), tt))) in
      subst P d (chosen-alike _ _ _ _ _ _ refl (store-alike kind pc (address o.rs1.value imm) mine (other o.rs1.value) o.word p.word refl a.word rows)
      (does-alike mine (other o.rs1.value) (Raises 6) rows))
  effect-alike (AluImm op rd rs1 imm) pc d = does-alike _ _ (Goes (low_word (pc + 4)))
      (first-row, result-rows rd (Mixed (Rs1 ∷ [])) _ _ (λ u. ap (λ (z : ℕ). alu_of op z (two_complement 32 imm)) (a.rs1.value (mixed-one o.rs1.tag u))))
  effect-alike (AluReg op rd rs1 rs2) pc d = does-alike _ _ (Goes (low_word (pc + 4))) (
    first-row,
    (
      second-row,
      rows-append (multiplier op (alu_of op o.rs1.value o.rs2.value) (Mixed (Rs1 ∷ Rs2 ∷ [])))
          (multiplier op (alu_of op p.rs1.value p.rs2.value) (Mixed (Rs1 ∷ Rs2 ∷ []))) _ _
          (multiplier-rows op (Mixed (Rs1 ∷ Rs2 ∷ [])) _ _ (operation-value op))
          (result-rows rd (Mixed (Rs1 ∷ Rs2 ∷ [])) _ _ (operation-value op)),
    ),
  )
  effect-alike (Fence word) pc d = does-alike [] [] (Goes (low_word (pc + 4))) tt
  effect-alike Ecall pc d = does-alike [] [] Calls tt
  effect-alike Ebreak pc d = does-alike [] [] (Raises 3) tt
  effect-alike Mret pc d = does-alike [] [] Returns tt
  effect-alike (Csr op rd rs1 csr) pc d =
      csr-alike (to latches.PortA o.rs1.value (Moved Rs1)) (to latches.PortA p.rs1.value (Moved Rs1)) rd csr pc (is_csr_written op rs1) _ _
      (csr_flow op (Rs1 ∷ []) (Moved Rs1)) (first-row, tt) (combined-value op)
  effect-alike (CsrImm op rd uimm csr) pc d =
      csr-alike [] [] rd csr pc (is_csr_written op uimm) _ _ (csr_flow op [] Constant) tt (immediate-value op uimm)
