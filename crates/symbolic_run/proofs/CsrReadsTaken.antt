-- A read of mepc or of mcause gives what the path says.
use Rattle.std.proofs.Common.{◌≡◌, ℕ, zero, ◌≤◌, Bool, true, false, ◌==◌, if◌then◌else◌, List, [], ◌∷◌, ◌++◌, Some, None, refl, sym, ap, subst, ◌∙◌, eqb-true}
use Rattle.isa_model.specs.declared.instr.Instr.TheVariants.{Csr}
use Rattle.isa_model.specs.declared.instr.CsrOp.TheVariants.{Rs}
use Rattle.isa_model.specs.declared.latch.Latch.TheVariants as latches
use Rattle.isa_model.specs.Effect.{Moved, Rs1, OldCsr, to}
use Rattle.hart_model.specs.declared.place.Place.TheVariants as places
use Rattle.hart_model.specs.Csrs.{CsrFile, public, csr_cell, mepc, mcause}
use Rattle.hart_model.specs.Taint.{machine_tag}
use Rattle.hart_model.specs.Ports.{Nothing}
use Rattle.hart_model.specs.HartState.{HartState}
use Rattle.hart_model.specs.Writes.{CellWrite, cell_writes, after_writes}
use Rattle.hart_model.specs.MachineStep.{OperandCells, operand_cells, operand_tag, machine_bases, by_reach, csr_reach, after_machine_writes}
use Rattle.symbolic_run.specs.AbstractCell.{AbstractState, PublicNumber}
use Rattle.symbolic_run.specs.AbstractEffect.{AbstractWrite}
use Rattle.symbolic_run.specs.Concretization.{Valuation}
use Rattle.symbolic_run.specs.Writes.{WritesDenote}
use Rattle.symbolic_run.specs.SymbolicPath.{PathState, PathStep, read_step, csr_read_step, IsAsPathSays, TakesStep, goes_on, port_a_write}
use Rattle.symbolic_run.proofs.Plain.{next-address}

-- the writes of a read of a CSR, and those that the path has
abbrev read_row : HartState → ℕ → ℕ → ℕ → Bool → List CellWrite
read_row h rd csr value is_x0 =
    let o : OperandCells = operand_cells h (Csr Rs rd 0 csr) None (public value) in
    cell_writes (machine_bases h.held) (λ w. machine_tag (operand_tag o) w.flow)
    (to latches.PortA 0 (Moved Rs1) ++ (if is_x0 then [] else to latches.Res value (Moved OldCsr))
    ++ [] ++ (if is_x0 then [] else to (latches.Reg rd) value (Moved OldCsr)))

abbrev read_says : AbstractState → ℕ → ℕ → Bool → List AbstractWrite
read_says a rd value is_x0 =
    port_a_write a 0
    ∷ (if is_x0 then [] else record { at = places.Res; cell = PublicNumber value } ∷ record { at = places.Reg rd; cell = PublicNumber value } ∷ [])

read-denotes : (s : Valuation) (a : AbstractState) (h : HartState) (rd csr value : ℕ) (is_x0 : Bool)
    → WritesDenote s (read_says a rd value is_x0) (read_row h rd csr value is_x0)
read-denotes s a h rd csr value true = (refl, refl, tt)
read-denotes s a h rd csr value false = (refl, refl, (refl, refl, (refl, refl, tt)))

module _ (s : Valuation) (number base : ℕ) (p : PathState) (h : HartState) (high : base ≤ 8192) (few : p.index ≤ 1000)
    (says : IsAsPathSays s number base p h) where
  -- a read of a CSR that gives a public value
  read-taken : (rd csr value : ℕ) (step : PathStep) → csr_cell h.csrs csr ≡ Some (public value) → read_step p rd value ≡ Some step
      → TakesStep s number base p step h (Csr Rs rd 0 csr)
  read-taken rd csr value step is e =
      let same : goes_on p (read_says p.cells rd value (rd == 0)) ≡ step = cc e in
      let P : PathStep → Type 0 = λ x. TakesStep s number base p x h (Csr Rs rd 0 csr) in
      let finds = ap (λ found. by_reach h (Csr Rs rd 0 csr) (csr_reach found)) is in
      let lands = ap (λ (pc : ℕ). after_machine_writes Nothing pc (after_writes (read_row h rd csr value (rd == 0)) h))
      (next-address base p.index h.pc high few says.pc) in
      subst P same (record {
        writes = read_row h rd csr value (rd == 0);
        denote = read-denotes s p.cells h rd csr value (rd == 0);
        csrs = h.csrs;
        csrs_are = says.csrs;
        csrs_sound = says.csrs_sound;
        side = Nothing;
        held = refl;
        step_is = finds ∙ lands;
      })

  -- what is read of mepc and of mcause
  mepc-is : csr_cell h.csrs mepc ≡ Some (public p.csrs.mepc)
  unfolding csr_cell
  mepc-is = ap (λ (c : CsrFile). Some (public c.mepc)) says.csrs

  mcause-is : csr_cell h.csrs mcause ≡ Some (public p.csrs.mcause)
  unfolding csr_cell
  mcause-is = ap (λ (c : CsrFile). Some (public c.mcause)) says.csrs

  -- by the number of the CSR
  at-csr : (rd csr here value : ℕ) (step : PathStep) → csr ≡ here → csr_cell h.csrs here ≡ Some (public value)
      → read_step p rd value ≡ Some step → TakesStep s number base p step h (Csr Rs rd 0 csr)
  at-csr rd csr here value step same is e =
      let P : ℕ → Type 0 = λ n. TakesStep s number base p step h (Csr Rs rd 0 n) in subst P (sym same) (read-taken rd here value step is e)

  by-tests : (rd csr : ℕ) (step : PathStep) (b1 b2 : Bool) → (csr == mepc) ≡ b1 → (csr == mcause) ≡ b2
      → (if b1 then read_step p rd p.csrs.mepc else if b2 then read_step p rd p.csrs.mcause else None) ≡ Some step
      → TakesStep s number base p step h (Csr Rs rd 0 csr)
  by-tests rd csr step true b2 e1 e2 e = at-csr rd csr mepc p.csrs.mepc step (eqb-true csr mepc e1) mepc-is e
  by-tests rd csr step false true e1 e2 e = at-csr rd csr mcause p.csrs.mcause step (eqb-true csr mcause e2) mcause-is e
  by-tests rd csr step false false e1 e2 e = absurd (cc e)

  pub csr-read-taken : (rd csr : ℕ) (step : PathStep) → csr_read_step p rd csr ≡ Some step → TakesStep s number base p step h (Csr Rs rd zero csr)
  csr-read-taken rd csr step e = by-tests rd csr step (csr == mepc) (csr == mcause) refl refl e
