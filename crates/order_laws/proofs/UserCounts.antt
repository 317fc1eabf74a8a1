-- What a step makes of the count of what is held: in user mode one more where it is no interrupt; and that it leaves the pending timer.
use Rattle.std.proofs.Common.{◌≡◌, ℕ, ◌+◌, List, [], ◌∷◌, Option, Some, None, option_map, refl, sym, ap, subst, ◌∙◌}
use Rattle.isa_model.specs.declared.instr.Instr.{Instr}
use Rattle.isa_model.specs.InstrTable.{instr_of}
use Rattle.isa_model.specs.Effect.{Effect, Next, Goes, Raises, Calls, Returns}
use Rattle.hart_model.specs.declared.place.Place.{Place}
use Rattle.hart_model.specs.declared.place.Place.TheVariants.{Reg, PortA, PortB, Res, Load, Store, Mul, Scr, Zero, SlotWord, DataWord}
use Rattle.hart_model.specs.declared.tag.Cell.{Cell}
use Rattle.hart_model.specs.declared.tag.Mode.{Mode}
use Rattle.hart_model.specs.declared.tag.Mode.TheVariants.{Machine}
use Rattle.hart_model.specs.Csrs.{CsrFile}
use Rattle.hart_model.specs.Ports.{SideEffect, Nothing, Outputs, AdvancesTape, Ends, ClearsTimer}
use Rattle.hart_model.specs.Traps.{interrupt_of}
use Rattle.hart_model.specs.Context.{BodyState, ContextState}
use Rattle.hart_model.specs.HartState.{HartState, held_with_word, held_with_data, hart_with_cell}
use Rattle.hart_model.specs.StepResult.{StepResult, Steps, Wants, Wedged}
use Rattle.hart_model.specs.Writes.{CellWrite, HartAndProbes, after_writes}
use Rattle.hart_model.specs.UserStep.{user_step, by_interrupt, user_instr_step, after_user_effect, after_user_writes, user_effect, user_writes, with_next_count, held_with_next_count, is_fuel_used}
use Rattle.hart_model.specs.MachineStep.{OperandCells, Reach, Finds, NeedsQueue, Refused, machine_effect, machine_writes, csrs_after_effect, by_csrs, by_next, by_reach, by_instr, by_word, reach_of, operand_cells, kernel_word_at, machine_step, after_side, held_after_side}
use Rattle.hart_model.specs.HartStep.{hart_step, step_by_mode}
use Rattle.order_laws.proofs.PathArrives.{writes-calm}

-- the count of what is held, if anything is
abbrev pub count_held : Option ContextState → Option ℕ
count_held held = option_map (λ (c : ContextState). c.body.count) held

abbrev pub one_more : Option ℕ → Option ℕ
one_more count = option_map (λ n. n + 1) count

word-count : (i : ℕ) (cell : Cell) (held : Option ContextState) → count_held (held_with_word i cell held) ≡ count_held held
word-count i cell None = refl
word-count i cell (Some c) = refl

data-count : (i : ℕ) (cell : Cell) (held : Option ContextState) → count_held (held_with_data i cell held) ≡ count_held held
data-count i cell None = refl
data-count i cell (Some c) = refl

cell-count : (h : HartState) (place : Place) (cell : Cell) → count_held (hart_with_cell h place cell).held ≡ count_held h.held
cell-count h (Reg r) cell = refl
cell-count h PortA cell = refl
cell-count h PortB cell = refl
cell-count h Res cell = refl
cell-count h Load cell = refl
cell-count h Store cell = refl
cell-count h Mul cell = refl
cell-count h Scr cell = refl
cell-count h Zero cell = refl
cell-count h (SlotWord i) cell = word-count i cell h.held
cell-count h (DataWord i) cell = data-count i cell h.held

pub writes-count : (ws : List CellWrite) (h : HartState) → count_held (after_writes ws h).hart.held ≡ count_held h.held
writes-count [] h = refl
writes-count (w ∷ ws) h = writes-count ws (hart_with_cell h w.at w.cell) ∙ cell-count h w.at w.cell

next-count : (held : Option ContextState) → count_held (held_with_next_count held) ≡ one_more (count_held held)
next-count None = refl
next-count (Some c) = refl

-- USER MODE
-- what a step leaves of the count and of the pending timer
pub record Counts (h : HartState) (count : Option ℕ) (g : HartState) : Type 0 where
  pub count_is : count_held g.held ≡ count
  pub pending : g.csrs.is_timer_pending ≡ h.csrs.is_timer_pending

abbrev pub StepCounts : HartState → Option ℕ → StepResult → Type 0
StepCounts h count (Steps g probes did) = Counts h count g
StepCounts h count (Wants call early_writes rd next) = Unit {0}
StepCounts h count Wedged = Unit {0}

follow-counts : (h : HartState) (count : Option ℕ) (a : HartAndProbes) (next : Next) → Counts h count a.hart
    → StepCounts h count (after_user_writes a next)
follow-counts h count a (Goes pc) is = record { count_is = is.count_is; pending = is.pending }
follow-counts h count a (Raises cause) is = record { count_is = is.count_is; pending = is.pending }
follow-counts h count a Calls is = record { count_is = is.count_is; pending = is.pending }
follow-counts h count a Returns is = record { count_is = is.count_is; pending = is.pending }

effect-counts : (h : HartState) (b : BodyState) (e : Effect) → StepCounts h (one_more (count_held h.held)) (after_user_effect h b e)
effect-counts h b e =
    let ws = user_writes h b e in
    let a : HartAndProbes = after_writes ws h in
    follow-counts h (one_more (count_held h.held)) (record { hart = with_next_count a.hart; probes = a.probes }) e.next (record {
      count_is = next-count a.hart.held ∙ ap one_more (writes-count ws h);
      pending = writes-calm ws h;
    })

instr-counts : (h : HartState) (held : Option ContextState) → h.held ≡ held → StepCounts h (one_more (count_held h.held)) (user_instr_step h held)
instr-counts h None is = record { count_is = ap count_held is ∙ sym (ap (λ o. one_more (count_held o)) is); pending = refl }
instr-counts h (Some c) is = effect-counts h c.body (user_effect h c.body)

-- Without an interrupt, and with one.
pub user-counts : (h : HartState) → interrupt_of h.csrs (is_fuel_used h.held) ≡ None → StepCounts h (one_more (count_held h.held)) (user_step h)
unfolding user_step
user-counts h none =
    let P : Option ℕ → Type 0 = λ o. StepCounts h (one_more (count_held h.held)) (by_interrupt h o) in
    subst P (sym none) (instr-counts h h.held refl)

pub interrupt-counts : (h : HartState) (cause : ℕ) → interrupt_of h.csrs (is_fuel_used h.held) ≡ Some cause
    → StepCounts h (count_held h.held) (user_step h)
unfolding user_step
interrupt-counts h cause some =
    let P : Option ℕ → Type 0 = λ o. StepCounts h (count_held h.held) (by_interrupt h o) in
    subst P (sym some) (record { count_is = refl; pending = refl })

-- MACHINE MODE: the count stays
abbrev pub KeepsCount : HartState → StepResult → Type 0
KeepsCount h (Steps g probes did) = count_held g.held ≡ count_held h.held
KeepsCount h (Wants call early_writes rd next) = Unit {0}
KeepsCount h Wedged = Unit {0}

side-context : (side : SideEffect) (held : Option ContextState) → count_held (option_map (held_after_side side) held) ≡ count_held held
side-context side None = refl
side-context (Outputs word) (Some c) = refl
side-context AdvancesTape (Some c) = refl
side-context (Ends end) (Some c) = refl
side-context Nothing (Some c) = refl
side-context ClearsTimer (Some c) = refl

side-count : (side : SideEffect) (h : HartState) → count_held (after_side side h).held ≡ count_held h.held
side-count ClearsTimer h = refl
side-count Nothing h = side-context Nothing h.held
side-count (Outputs word) h = side-context (Outputs word) h.held
side-count AdvancesTape h = side-context AdvancesTape h.held
side-count (Ends end) h = side-context (Ends end) h.held

csrs-count : (h : HartState) (o : OperandCells) (side : SideEffect) (e : Effect) (pc : ℕ) (csrs : Option CsrFile)
    → KeepsCount h (by_csrs h o side e pc csrs)
csrs-count h o side e pc None = tt
csrs-count h o side e pc (Some csrs) =
    let w : HartAndProbes = after_writes (machine_writes h o e) (record h { csrs = csrs }) in
    side-count side w.hart ∙ writes-count (machine_writes h o e) (record h { csrs = csrs })

follow-count : (h : HartState) (o : OperandCells) (side : SideEffect) (e : Effect) (next : Next) → KeepsCount h (by_next h o side e next)
follow-count h o side e (Goes pc) = csrs-count h o side e pc (csrs_after_effect h.csrs o e.csr)
follow-count h o side e (Raises cause) = tt
follow-count h o side e Calls = tt
follow-count h o side e Returns = refl

reach-count : (h : HartState) (instr : Instr) (r : Reach) → KeepsCount h (by_reach h instr r)
reach-count h instr (Finds word old_csr side) =
    let o : OperandCells = operand_cells h instr word old_csr in
    let e : Effect = machine_effect h instr o in
    follow-count h o side e e.next
reach-count h instr (NeedsQueue call word) = tt
reach-count h instr Refused = tt

instr-count : (h : HartState) (o : Option Instr) → KeepsCount h (by_instr h o)
instr-count h None = tt
instr-count h (Some instr) = reach-count h instr (reach_of h instr)

word-keeps : (h : HartState) (o : Option ℕ) → KeepsCount h (by_word h o)
word-keeps h None = tt
word-keeps h (Some word) = instr-count h (instr_of word)

machine-count : (code : List ℕ) (h : HartState) → KeepsCount h (machine_step code h)
unfolding machine_step
machine-count code h = word-keeps h (kernel_word_at code h.pc)

pub machine-counts : (code : List ℕ) (h : HartState) → h.csrs.mode ≡ Machine → KeepsCount h (hart_step code h)
machine-counts code h machine =
    let P : Mode → Type 0 = λ mode. KeepsCount h (step_by_mode code h mode) in
    subst P (sym machine) (machine-count code h)
