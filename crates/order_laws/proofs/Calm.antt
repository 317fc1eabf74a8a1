-- A step makes no timer pending.
use Rattle.std.proofs.Common.{◌≡◌, ℕ, ◌==◌, Bool, true, false, List, Option, Some, None, refl, sym, ap, subst, ◌∙◌, arith, if◌then◌else◌}
use Rattle.std.specs.Prelude.{⊤}
use Rattle.std.proofs.lemmas.Grind.{common_steps}
use Rattle.isa_model.specs.declared.instr.Instr.{Instr}
use Rattle.isa_model.specs.InstrTable.{instr_of}
use Rattle.isa_model.specs.Effect.{CsrWrite, Effect, Next, Goes, Raises, Calls, Returns}
use Rattle.hart_model.specs.declared.tag.Cell.{Cell}
use Rattle.hart_model.specs.declared.tag.Mode.{Mode}
use Rattle.hart_model.specs.declared.tag.Mode.TheVariants.{Machine}
use Rattle.hart_model.specs.declared.tag.Tag.{Tag}
use Rattle.hart_model.specs.declared.tag.Tag.TheVariants.{Public, Of, Many}
use Rattle.hart_model.specs.Taint.{machine_tag}
use Rattle.hart_model.specs.Csrs.{CsrFile, mscratch, with_csr, with_csr_by_tag, with_public_csr}
use Rattle.hart_model.specs.Ports.{SideEffect}
use Rattle.hart_model.specs.HartState.{HartState}
use Rattle.hart_model.specs.StepResult.{StepResult, Steps, Wants, Wedged}
use Rattle.hart_model.specs.Writes.{HartAndProbes, after_writes}
use Rattle.hart_model.specs.MachineStep.{OperandCells, operand_tag, Reach, Finds, NeedsQueue, Refused, machine_effect, machine_writes, csrs_after_effect, by_csrs, by_next, by_reach, by_instr, by_word, reach_of, operand_cells, kernel_word_at, machine_step}
use Rattle.hart_model.specs.HartStep.{hart_step, step_by_mode}
use Rattle.order_laws.proofs.PathArrives.{writes-calm, side-calm}

-- after a step in machine mode none is pending where none was
abbrev pub IsCalmStep : StepResult → Type 0
IsCalmStep (Steps hart probes did) = hart.csrs.is_timer_pending ≡ false
IsCalmStep (Wants call early_writes rd next) = ⊤
IsCalmStep Wedged = ⊤

written-pending : (c d : CsrFile) (csr value : ℕ) → with_public_csr c csr value ≡ Some d → d.is_timer_pending ≡ c.is_timer_pending
written-pending c d csr value e = grind (arith, common_steps)

by-tag-pending : (c d : CsrFile) (csr value : ℕ) (tag : Tag) → with_csr_by_tag c csr value tag ≡ Some d → d.is_timer_pending ≡ c.is_timer_pending
by-tag-pending c d csr value Public e = written-pending c d csr value e
by-tag-pending c d csr value (Of task step latch) e = absurd (cc e)
by-tag-pending c d csr value Many e = absurd (cc e)

by-scratch-pending : (c d : CsrFile) (csr : ℕ) (cell : Cell) (scratch : Bool)
    → (if scratch then Some (record c { mscratch = cell }) else with_csr_by_tag c csr cell.value cell.tag) ≡ Some d
    → d.is_timer_pending ≡ c.is_timer_pending
by-scratch-pending c d csr cell true e = let same : record c { mscratch = cell } ≡ d = cc e in ap (λ (x : CsrFile). x.is_timer_pending) (sym same)
by-scratch-pending c d csr cell false e = by-tag-pending c d csr cell.value cell.tag e

csr-pending : (c d : CsrFile) (csr : ℕ) (cell : Cell) → with_csr c csr cell ≡ Some d → d.is_timer_pending ≡ c.is_timer_pending
unfolding with_csr
csr-pending c d csr cell e = by-scratch-pending c d csr cell (csr == mscratch) e

effect-pending : (c d : CsrFile) (o : OperandCells) (w : Option CsrWrite) → csrs_after_effect c o w ≡ Some d → d.is_timer_pending ≡ c.is_timer_pending
effect-pending c d o None e = let same : c ≡ d = cc e in ap (λ (x : CsrFile). x.is_timer_pending) (sym same)
effect-pending c d o (Some w) e = csr-pending c d w.csr (record { value = w.value; tag = machine_tag (operand_tag o) w.flow }) e

csrs-calm : (h : HartState) (o : OperandCells) (side : SideEffect) (e : Effect) (pc : ℕ) (csrs : Option CsrFile)
    → csrs_after_effect h.csrs o e.csr ≡ csrs
    → h.csrs.is_timer_pending ≡ false → IsCalmStep (by_csrs h o side e pc csrs)
csrs-calm h o side e pc None known calm = tt
csrs-calm h o side e pc (Some csrs) known calm =
    let w : HartAndProbes = after_writes (machine_writes h o e) (record h { csrs = csrs }) in
    side-calm side w.hart (writes-calm (machine_writes h o e) (record h { csrs = csrs }) ∙ effect-pending h.csrs csrs o e.csr known ∙ calm)

next-calm : (h : HartState) (o : OperandCells) (side : SideEffect) (e : Effect) (next : Next) → h.csrs.is_timer_pending ≡ false
    → IsCalmStep (by_next h o side e next)
next-calm h o side e (Goes pc) calm = csrs-calm h o side e pc (csrs_after_effect h.csrs o e.csr) refl calm
next-calm h o side e (Raises cause) calm = tt
next-calm h o side e Calls calm = tt
next-calm h o side e Returns calm = calm

reach-calm : (h : HartState) (instr : Instr) (r : Reach) → h.csrs.is_timer_pending ≡ false → IsCalmStep (by_reach h instr r)
reach-calm h instr (Finds word old_csr side) calm =
    let o : OperandCells = operand_cells h instr word old_csr in
    let e : Effect = machine_effect h instr o in
    next-calm h o side e e.next calm
reach-calm h instr (NeedsQueue call word) calm = tt
reach-calm h instr Refused calm = tt

instr-calm : (h : HartState) (o : Option Instr) → h.csrs.is_timer_pending ≡ false → IsCalmStep (by_instr h o)
instr-calm h None calm = tt
instr-calm h (Some instr) calm = reach-calm h instr (reach_of h instr) calm

word-calm : (h : HartState) (o : Option ℕ) → h.csrs.is_timer_pending ≡ false → IsCalmStep (by_word h o)
word-calm h None calm = tt
word-calm h (Some word) calm = instr-calm h (instr_of word) calm

machine-calm : (code : List ℕ) (h : HartState) → h.csrs.is_timer_pending ≡ false → IsCalmStep (machine_step code h)
unfolding machine_step
machine-calm code h calm = word-calm h (kernel_word_at code h.pc) calm

-- A step in machine mode makes none pending.
pub step-calm : (code : List ℕ) (h : HartState) → h.csrs.mode ≡ Machine → h.csrs.is_timer_pending ≡ false → IsCalmStep (hart_step code h)
step-calm code h machine calm =
    let P : Mode → Type 0 = λ mode. IsCalmStep (step_by_mode code h mode) in
    subst P (sym machine) (machine-calm code h calm)
