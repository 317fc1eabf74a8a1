-- Each entry that a step makes names the hart that made it.
use Rattle.std.proofs.Common.{◌≡◌, ◌≢◌, ℕ, ◌==◌, Bool, true, false, List, [], ◌∷◌, Option, Some, None, refl, sym, ap, ◌∙◌, arith, if◌then◌else◌}
use Rattle.std.specs.Prelude.{⊤}
use Rattle.std.proofs.lemmas.Bool.{cond-true, cond-false, ne_eqb, eq-eqb}
use Rattle.std.proofs.lemmas.Grind.{common_steps}
use Rattle.isa_model.specs.declared.instr.Instr.{Instr}
use Rattle.isa_model.specs.InstrTable.{instr_of}
use Rattle.isa_model.specs.Effect.{CsrWrite, Effect, Next, Goes, Raises, Calls, Returns}
use Rattle.hart_model.specs.declared.place.Place.{Place}
use Rattle.hart_model.specs.declared.place.Place.TheVariants.{Reg, PortA, PortB, Res, Load, Store, Mul, Scr, Zero, SlotWord, DataWord}
use Rattle.hart_model.specs.declared.probe.Probe.{Probe}
use Rattle.hart_model.specs.declared.tag.Cell.{Cell}
use Rattle.hart_model.specs.declared.tag.Mode.{Mode}
use Rattle.hart_model.specs.declared.tag.Mode.TheVariants.{User, Machine}
use Rattle.hart_model.specs.declared.tag.Tag.{Tag}
use Rattle.hart_model.specs.declared.tag.Tag.TheVariants.{Public, Of, Many}
use Rattle.hart_model.specs.Taint.{machine_tag}
use Rattle.hart_model.specs.Csrs.{CsrFile, mscratch, with_csr, with_csr_by_tag, with_public_csr}
use Rattle.hart_model.specs.Ports.{SideEffect}
use Rattle.hart_model.specs.Traps.{interrupt_of}
use Rattle.hart_model.specs.Context.{BodyState, ContextState}
use Rattle.hart_model.specs.HartState.{HartState, hart_with_cell}
use Rattle.hart_model.specs.Writes.{CellWrite, HartAndProbes, after_writes}
use Rattle.hart_model.specs.StepResult.{StepResult, Steps, Wants, Wedged}
use Rattle.hart_model.specs.UserStep.{user_effect, user_writes, with_next_count, is_fuel_used, after_user_writes, after_user_effect, user_instr_step, by_interrupt, user_step}
use Rattle.hart_model.specs.MachineStep.{OperandCells, operand_tag, Reach, Finds, NeedsQueue, Refused, machine_effect, machine_writes, csrs_after_effect, by_csrs, by_next, by_reach, by_instr, by_word, reach_of, operand_cells, kernel_word_at, machine_step}
use Rattle.hart_model.specs.HartStep.{hart_step, step_by_mode}
use Rattle.order_laws.specs.CoarseRuns.{entries_by}

-- all of these entries name this hart
abbrev pub AreNamed : ℕ → List Probe → Type 0
AreNamed number [] = ⊤
AreNamed number (entry ∷ log) = (entry.hart ≡ number) × AreNamed number log

-- among them are none of another hart, and all are its own
pub none-of-others : (number other : ℕ) → number ≢ other → (log : List Probe) → AreNamed number log → entries_by other log ≡ []
none-of-others number other ne [] named = refl
none-of-others number other ne (entry ∷ log) named =
    cond-false (entry.hart == other) _ _ (ne_eqb entry.hart other (λ e. ne (sym named.0 ∙ e))) ∙ none-of-others number other ne log named.1

pub all-own : (number : ℕ) (log : List Probe) → AreNamed number log → entries_by number log ≡ log
all-own number [] named = refl
all-own number (entry ∷ log) named =
    cond-true (entry.hart == number) _ _ (eq-eqb entry.hart number named.0) ∙ ap (λ more. entry ∷ more) (all-own number log named.1)

-- a write leaves the hart's number
cell-number : (h : HartState) (place : Place) (cell : Cell) → (hart_with_cell h place cell).csrs.hart ≡ h.csrs.hart
cell-number h (Reg r) cell = refl
cell-number h PortA cell = refl
cell-number h PortB cell = refl
cell-number h Res cell = refl
cell-number h Load cell = refl
cell-number h Store cell = refl
cell-number h Mul cell = refl
cell-number h Scr cell = refl
cell-number h Zero cell = refl
cell-number h (SlotWord i) cell = refl
cell-number h (DataWord i) cell = refl

-- The entries of writes.
pub writes-named : (number : ℕ) (writes : List CellWrite) (h : HartState) → h.csrs.hart ≡ number → AreNamed number (after_writes writes h).probes
writes-named number [] h is = tt
writes-named number (w ∷ writes) h is = (is, writes-named number writes (hart_with_cell h w.at w.cell) (cell-number h w.at w.cell ∙ is))

-- those of a step
abbrev pub IsStepNamed : ℕ → StepResult → Type 0
IsStepNamed number (Steps hart probes did) = AreNamed number probes
IsStepNamed number (Wants call early_writes rd next) = ⊤
IsStepNamed number Wedged = ⊤

module _ (number : ℕ) where
  follow-named : (a : HartAndProbes) (next : Next) → AreNamed number a.probes → IsStepNamed number (after_user_writes a next)
  follow-named a (Goes pc) named = named
  follow-named a (Raises cause) named = named
  follow-named a Calls named = named
  follow-named a Returns named = named

  user-effect-named : (h : HartState) (b : BodyState) (e : Effect) → h.csrs.hart ≡ number → IsStepNamed number (after_user_effect h b e)
  user-effect-named h b e is =
      let a : HartAndProbes = after_writes (user_writes h b e) h in
      follow-named (record { hart = with_next_count a.hart; probes = a.probes }) e.next (writes-named number (user_writes h b e) h is)

  user-held-named : (h : HartState) (held : Option ContextState) → h.csrs.hart ≡ number → IsStepNamed number (user_instr_step h held)
  user-held-named h None is = tt
  user-held-named h (Some c) is = user-effect-named h c.body (user_effect h c.body) is

  interrupt-named : (h : HartState) (cause : Option ℕ) → h.csrs.hart ≡ number → IsStepNamed number (by_interrupt h cause)
  interrupt-named h (Some cause) is = tt
  interrupt-named h None is = user-held-named h h.held is

  user-named : (h : HartState) → h.csrs.hart ≡ number → IsStepNamed number (user_step h)
  unfolding user_step
  user-named h is = interrupt-named h (interrupt_of h.csrs (is_fuel_used h.held)) is

  -- a write of a CSR leaves the hart's number
  written-number : (c d : CsrFile) (csr value : ℕ) → with_public_csr c csr value ≡ Some d → d.hart ≡ c.hart
  written-number c d csr value e = grind (arith, common_steps)

  by-tag-number : (c d : CsrFile) (csr value : ℕ) (tag : Tag) → with_csr_by_tag c csr value tag ≡ Some d → d.hart ≡ c.hart
  by-tag-number c d csr value Public e = written-number c d csr value e
  by-tag-number c d csr value (Of task step latch) e = absurd (cc e)
  by-tag-number c d csr value Many e = absurd (cc e)

  by-scratch-number : (c d : CsrFile) (csr : ℕ) (cell : Cell) (scratch : Bool)
      → (if scratch then Some (record c { mscratch = cell }) else with_csr_by_tag c csr cell.value cell.tag) ≡ Some d → d.hart ≡ c.hart
  by-scratch-number c d csr cell true e = let same : record c { mscratch = cell } ≡ d = cc e in ap (λ (x : CsrFile). x.hart) (sym same)
  by-scratch-number c d csr cell false e = by-tag-number c d csr cell.value cell.tag e

  csr-number : (c d : CsrFile) (csr : ℕ) (cell : Cell) → with_csr c csr cell ≡ Some d → d.hart ≡ c.hart
  unfolding with_csr
  csr-number c d csr cell e = by-scratch-number c d csr cell (csr == mscratch) e

  effect-number : (c d : CsrFile) (o : OperandCells) (w : Option CsrWrite) → csrs_after_effect c o w ≡ Some d → d.hart ≡ c.hart
  effect-number c d o None e = let same : c ≡ d = cc e in ap (λ (x : CsrFile). x.hart) (sym same)
  effect-number c d o (Some w) e = csr-number c d w.csr (record { value = w.value; tag = machine_tag (operand_tag o) w.flow }) e

  csrs-named : (h : HartState) (o : OperandCells) (side : SideEffect) (e : Effect) (pc : ℕ) (csrs : Option CsrFile)
      → csrs_after_effect h.csrs o e.csr ≡ csrs
      → h.csrs.hart ≡ number → IsStepNamed number (by_csrs h o side e pc csrs)
  csrs-named h o side e pc None known is = tt
  csrs-named h o side e pc (Some csrs) known is =
      writes-named number (machine_writes h o e) (record h { csrs = csrs }) (effect-number h.csrs csrs o e.csr known ∙ is)

  next-named : (h : HartState) (o : OperandCells) (side : SideEffect) (e : Effect) (next : Next) → h.csrs.hart ≡ number
      → IsStepNamed number (by_next h o side e next)
  next-named h o side e (Goes pc) is = csrs-named h o side e pc (csrs_after_effect h.csrs o e.csr) refl is
  next-named h o side e (Raises cause) is = tt
  next-named h o side e Calls is = tt
  next-named h o side e Returns is = tt

  reach-named : (h : HartState) (instr : Instr) (r : Reach) → h.csrs.hart ≡ number → IsStepNamed number (by_reach h instr r)
  reach-named h instr (Finds word old_csr side) is =
      let o : OperandCells = operand_cells h instr word old_csr in
      let e : Effect = machine_effect h instr o in
      next-named h o side e e.next is
  reach-named h instr (NeedsQueue call word) is = tt
  reach-named h instr Refused is = tt

  instr-named : (h : HartState) (o : Option Instr) → h.csrs.hart ≡ number → IsStepNamed number (by_instr h o)
  instr-named h None is = tt
  instr-named h (Some instr) is = reach-named h instr (reach_of h instr) is

  word-named : (h : HartState) (o : Option ℕ) → h.csrs.hart ≡ number → IsStepNamed number (by_word h o)
  word-named h None is = tt
  word-named h (Some word) is = instr-named h (instr_of word) is

  machine-named : (code : List ℕ) (h : HartState) → h.csrs.hart ≡ number → IsStepNamed number (machine_step code h)
  unfolding machine_step
  machine-named code h is = word-named h (kernel_word_at code h.pc) is

  mode-named : (code : List ℕ) (h : HartState) (mode : Mode) → h.csrs.hart ≡ number → IsStepNamed number (step_by_mode code h mode)
  mode-named code h User is = user-named h is
  mode-named code h Machine is = machine-named code h is

  -- Each entry of a step names its hart.
  pub step-named : (code : List ℕ) (h : HartState) → h.csrs.hart ≡ number → IsStepNamed number (hart_step code h)
  step-named code h is = mode-named code h h.csrs.mode is
