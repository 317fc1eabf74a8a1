-- A write of mepc or of a bound leaves the CSRs that the path says.
use Rattle.std.proofs.Common.{◌≡◌, ◌≢◌, ℕ, zero, ◌+◌, ◌≤◌, ◌⊎◌, inl, inr, Bool, true, false, ◌||◌, ◌==◌, nat_le, List, [], ◌∷◌, ◌++◌, Option, Some, None, refl, sym, ap, subst, ◌∙◌, eqb-true, leb-true, arith}
use Rattle.std.proofs.lemmas.Bool.{eqb-false, and_parts}
use Rattle.isa_model.specs.declared.instr.Instr.{Instr}
use Rattle.isa_model.specs.declared.instr.Instr.TheVariants.{Csr}
use Rattle.isa_model.specs.declared.instr.CsrOp.TheVariants.{Rw}
use Rattle.isa_model.specs.Bits.{low_word, word_address}
use Rattle.isa_model.specs.Effect.{Effect, Write, Moved, Rs1, Goes, csr_effect, is_mscratch, port_a}
use Rattle.hart_model.specs.declared.place.Place.TheVariants as places
use Rattle.hart_model.specs.declared.tag.Cell.{Cell}
use Rattle.hart_model.specs.Csrs.{CsrFile, public, csr_cell, mepc, is_pmpaddr, with_csr, with_public_csr, with_pmpaddr}
use Rattle.hart_model.specs.Pmp.{addr_of}
use Rattle.hart_model.specs.Ports.{Nothing}
use Rattle.hart_model.specs.HartState.{HartState, hart_cell}
use Rattle.hart_model.specs.Writes.{CellWrite, after_writes}
use Rattle.hart_model.specs.MachineStep.{OperandCells, operand_cells, operand_values, by_reach, csr_reach, by_csrs, after_machine_effect, after_machine_writes}
use Rattle.core_model.specs.Soundness.{AreCsrsSound}
use Rattle.symbolic_run.specs.AbstractCell.{AbstractCell, SlotAddress, PublicAny, PublicNumber, TaskReg, OldSlotWord, GivenCell, AnyTagged}
use Rattle.symbolic_run.specs.AbstractCell as abstract
use Rattle.symbolic_run.specs.AbstractEffect.{reg_cell}
use Rattle.symbolic_run.specs.Concretization.{Valuation, Denotes}
use Rattle.symbolic_run.specs.SymbolicPath.{PathState, PathStep, csrs_step, csr_write_step, IsAsPathSays, TakesStep, goes_on, port_a_write}
use Rattle.symbolic_run.proofs.OneWrite.{cell-denoted}
use Rattle.symbolic_run.proofs.Plain.{next-address}

-- mepc and the four bounds
abbrev IsWritable : ℕ → Type 0
IsWritable csr = (csr ≡ 0x341) ⊎ ((csr ≡ 0x3b0) ⊎ ((csr ≡ 0x3b1) ⊎ ((csr ≡ 0x3b2) ⊎ (csr ≡ 0x3b3))))

-- a number of four in a row is one of them
one-of-four : (csr : ℕ) (b0 b1 b2 : Bool) → (csr == 0x3b0) ≡ b0 → (csr == 0x3b1) ≡ b1 → (csr == 0x3b2) ≡ b2 → 0x3b0 ≤ csr → csr ≤ 0x3b3
    → (csr ≡ 0x3b0) ⊎ ((csr ≡ 0x3b1) ⊎ ((csr ≡ 0x3b2) ⊎ (csr ≡ 0x3b3)))
one-of-four csr true b1 b2 e0 e1 e2 low high = inl (eqb-true csr 0x3b0 e0)
one-of-four csr false true b2 e0 e1 e2 low high = inr (inl (eqb-true csr 0x3b1 e1))
one-of-four csr false false true e0 e1 e2 low high = inr (inr (inl (eqb-true csr 0x3b2 e2)))
one-of-four csr false false false e0 e1 e2 low high =
    let d0 : csr ≢ 0x3b0 = eqb-false csr 0x3b0 e0 in
    let d1 : csr ≢ 0x3b1 = eqb-false csr 0x3b1 e1 in
    let d2 : csr ≢ 0x3b2 = eqb-false csr 0x3b2 e2 in
    inr (inr (inr (omega (arith, low, high, d0, d1, d2))))

writable : (csr : ℕ) (b1 b2 : Bool) → (csr == mepc) ≡ b1 → is_pmpaddr csr ≡ b2 → (b1 || b2) ≡ true → IsWritable csr
writable csr true b2 e1 e2 e = inl (eqb-true csr 0x341 e1)
writable csr false true e1 e2 e =
    let q = and_parts (nat_le 0x3b0 csr) (nat_le csr 0x3b3) e2 in
    inr (one-of-four csr (csr == 0x3b0) (csr == 0x3b1) (csr == 0x3b2) refl refl refl (leb-true 0x3b0 csr q.0) (leb-true csr 0x3b3 q.1))
writable csr false false e1 e2 e = absurd (cc e)

-- a file with the two fields that a path doesn't know
abbrev with_own : HartState → CsrFile → CsrFile
with_own h csrs = record csrs { mscratch = h.csrs.mscratch; is_timer_pending = h.csrs.is_timer_pending }

-- What is needed of such a write: the CSR can be read, it isn't mscratch, and its write leaves a sound file.
record IsCsrWrite (number : ℕ) (h : HartState) (csr value : ℕ) (csrs : CsrFile) : Type 0 where
  old : Cell
  is_old : csr_cell h.csrs csr ≡ Some old
  no_scratch : is_mscratch csr ≡ false
  leaves : with_csr h.csrs csr (public value) ≡ Some (with_own h csrs)
  sound : AreCsrsSound number (with_own h csrs)

module _ (s : Valuation) (number base : ℕ) (p : PathState) (h : HartState) (high : base ≤ 8192) (few : p.index ≤ 1000)
    (says : IsAsPathSays s number base p h) where
  -- mepc, one of the bounds, and any of the five
  write-mepc : (value : ℕ) (csrs : CsrFile) → with_public_csr p.csrs 0x341 value ≡ Some csrs → IsCsrWrite number h 0x341 value csrs
  unfolding csr_cell with_csr
  write-mepc value csrs e =
      let new : CsrFile = record p.csrs { mepc = word_address value } in
      let same : new ≡ csrs = cc e in
      let P : CsrFile → Type 0 = λ x. IsCsrWrite number h 0x341 value x in
      let to : record h.csrs { mepc = word_address value } ≡ with_own h new = ap (λ (c : CsrFile). record c { mepc = word_address value }) says.csrs in
      let Q : CsrFile → Type 0 = λ x. AreCsrsSound number x in
      let k = says.csrs_sound in
      subst P same (record {
        old = public h.csrs.mepc;
        is_old = refl;
        no_scratch = refl;
        leaves = ap Some to;
        sound = subst Q to (record { hart = k.hart; timer = k.timer; fuel = k.fuel; mtvec = k.mtvec; pmpcfg = k.pmpcfg; mstatus = k.mstatus });
      })

  write-bound : (csr i value : ℕ) (csrs : CsrFile) → csr_cell h.csrs csr ≡ Some (public (addr_of h.csrs.pmp i)) → is_mscratch csr ≡ false
      → with_csr h.csrs csr (public value) ≡ Some (with_pmpaddr h.csrs i value) → Some (with_pmpaddr p.csrs i value) ≡ Some csrs
      → IsCsrWrite number h csr value csrs
  write-bound csr i value csrs is other leaves e =
      let new : CsrFile = with_pmpaddr p.csrs i value in
      let same : new ≡ csrs = cc e in
      let P : CsrFile → Type 0 = λ x. IsCsrWrite number h csr value x in
      let to : with_pmpaddr h.csrs i value ≡ with_own h new = ap (λ (c : CsrFile). with_pmpaddr c i value) says.csrs in
      let Q : CsrFile → Type 0 = λ x. AreCsrsSound number x in
      let k = says.csrs_sound in
      subst P same (record {
        old = public (addr_of h.csrs.pmp i);
        is_old = is;
        no_scratch = other;
        leaves = leaves ∙ ap Some to;
        sound = subst Q to (record { hart = k.hart; timer = k.timer; fuel = k.fuel; mtvec = k.mtvec; pmpcfg = k.pmpcfg; mstatus = k.mstatus });
      })

  abbrev Leaves : ℕ → CsrFile → ℕ → Type 0
  Leaves value csrs csr = with_public_csr p.csrs csr value ≡ Some csrs → IsCsrWrite number h csr value csrs

  write-at : (csr value : ℕ) (csrs : CsrFile) → IsWritable csr → with_public_csr p.csrs csr value ≡ Some csrs → IsCsrWrite number h csr value csrs
  unfolding csr_cell with_csr
  write-at csr value csrs (inl is) =
      subst (Leaves value csrs) (sym is) (write-mepc value csrs)
  write-at csr value csrs (inr (inl is)) =
      subst (Leaves value csrs) (sym is) (write-bound 0x3b0 0 value csrs refl refl refl)
  write-at csr value csrs (inr (inr (inl is))) =
      subst (Leaves value csrs) (sym is) (write-bound 0x3b1 1 value csrs refl refl refl)
  write-at csr value csrs (inr (inr (inr (inl is)))) =
      subst (Leaves value csrs) (sym is) (write-bound 0x3b2 2 value csrs refl refl refl)
  write-at csr value csrs (inr (inr (inr (inr is)))) =
      subst (Leaves value csrs) (sym is) (write-bound 0x3b3 3 value csrs refl refl refl)

  -- the effect of such a write on a CSR that isn't mscratch
  effect-is : (csr old value : ℕ) (early_writes : List Write) → is_mscratch csr ≡ false
      → csr_effect early_writes 0 csr h.pc old true value (Moved Rs1)
      ≡ record { writes = early_writes ++ [] ++ [] ++ []; csr = Some (record { csr = csr; value = value; flow = Moved Rs1 }); next = Goes (low_word (h.pc + 4)) }
  effect-is csr old value early_writes other = rw other refl

  -- a write of such a CSR, from a register whose number is known
  write-taken : (rs1 csr value : ℕ) (csrs : CsrFile) → hart_cell h (places.Reg rs1) ≡ public value
      → Denotes s (reg_cell p.cells rs1) (hart_cell h (places.Reg rs1))
      → IsCsrWrite number h csr value csrs → TakesStep s number base p (record (goes_on p (port_a_write p.cells rs1 ∷ [])) { csrs = csrs }) h (Csr Rw 0 rs1 csr)
  write-taken rs1 csr value csrs is denoted w =
      let instr : Instr = Csr Rw 0 rs1 csr in
      let c : Cell = hart_cell h (places.Reg rs1) in
      let o : OperandCells = operand_cells h instr None w.old in
      let e : Effect = record {
        writes = port_a (operand_values o);
        csr = Some (record { csr = csr; value = c.value; flow = Moved Rs1 });
        next = Goes (low_word (h.pc + 4));
      } in
      let writes : List CellWrite = record { at = places.PortA; cell = c } ∷ [] in
      let next : ℕ = low_word (h.pc + 4) in
      let finds = ap (λ found. by_reach h instr (csr_reach found)) w.is_old in
      let goes = ap (λ (f : Effect). after_machine_effect h o Nothing f) (effect-is csr w.old.value c.value (port_a (operand_values o)) w.no_scratch) in
      let known = ap (λ (x : Cell). by_csrs h o Nothing e next (with_csr h.csrs csr x)) is in
      let leaves = ap (λ found. by_csrs h o Nothing e next found) w.leaves in
      let lands = ap (λ (pc : ℕ). after_machine_writes Nothing pc (after_writes writes (record h { csrs = with_own h csrs })))
      (next-address base p.index h.pc high few says.pc) in
      record {
        writes = writes;
        denote = (refl, denoted, tt);
        csrs = with_own h csrs;
        csrs_are = refl;
        csrs_sound = w.sound;
        side = Nothing;
        held = refl;
        step_is = finds ∙ goes ∙ known ∙ leaves ∙ lands;
      }

  -- with the file of the path, if there is one
  with-file : (rs1 csr value : ℕ) (found : Option CsrFile) (step : PathStep) → hart_cell h (places.Reg rs1) ≡ public value
      → Denotes s (reg_cell p.cells rs1) (hart_cell h (places.Reg rs1))
      → IsWritable csr → with_public_csr p.csrs csr value ≡ found → csrs_step p (port_a_write p.cells rs1 ∷ []) found ≡ Some step
      → TakesStep s number base p step h (Csr Rw 0 rs1 csr)
  with-file rs1 csr value None step is denoted ok leaves e = absurd (cc e)
  with-file rs1 csr value (Some csrs) step is denoted ok leaves e =
      let done : PathStep = record (goes_on p (port_a_write p.cells rs1 ∷ [])) { csrs = csrs } in
      let same : done ≡ step = cc e in
      let P : PathStep → Type 0 = λ x. TakesStep s number base p x h (Csr Rw 0 rs1 csr) in
      subst P same (write-taken rs1 csr value csrs is denoted (write-at csr value csrs ok leaves))

  by-cell : (rs1 csr : ℕ) (b : Bool) (a : AbstractCell) (step : PathStep) → ((csr == mepc) || is_pmpaddr csr) ≡ b → reg_cell p.cells rs1 ≡ a
      → csr_write_step p rs1 csr b a ≡ Some step → TakesStep s number base p step h (Csr Rw 0 rs1 csr)
  by-cell rs1 csr true (PublicNumber value) step ok is e =
      let d = cell-denoted s p.cells h (places.Reg rs1) tt says.cells in
      let P : AbstractCell → Type 0 = λ x. Denotes s x (hart_cell h (places.Reg rs1)) in
      with-file rs1 csr value (with_public_csr p.csrs csr value) step (subst P is d) d (writable csr (csr == mepc) (is_pmpaddr csr) refl refl ok) refl e
  by-cell rs1 csr true abstract.Zero step ok is e = absurd (cc e)
  by-cell rs1 csr true SlotAddress step ok is e = absurd (cc e)
  by-cell rs1 csr true PublicAny step ok is e = absurd (cc e)
  by-cell rs1 csr true (TaskReg number) step ok is e = absurd (cc e)
  by-cell rs1 csr true (OldSlotWord index) step ok is e = absurd (cc e)
  by-cell rs1 csr true GivenCell step ok is e = absurd (cc e)
  by-cell rs1 csr true AnyTagged step ok is e = absurd (cc e)
  by-cell rs1 csr false a step ok is e = absurd (cc e)

  pub csr-write-taken : (rs1 csr : ℕ) (step : PathStep) → csr_write_step p rs1 csr ((csr == mepc) || is_pmpaddr csr) (reg_cell p.cells rs1) ≡ Some step
      → TakesStep s number base p step h (Csr Rw zero rs1 csr)
  csr-write-taken rs1 csr step e = by-cell rs1 csr ((csr == mepc) || is_pmpaddr csr) (reg_cell p.cells rs1) step refl refl e
