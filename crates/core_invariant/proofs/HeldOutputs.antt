-- No step of a hart takes anything from the output of what it holds.
use Rattle.std.proofs.Common.{◌≡◌, ℕ, List, [], ◌∷◌, Option, Some, None, option_map, refl, sym, ◌∙◌, subst}
use Rattle.std.specs.Prelude.{⊤}
use mathlib.Core.List.{IsPrefix}
use Rattle.isa_model.specs.declared.instr.Instr.{Instr}
use Rattle.isa_model.specs.InstrTable.{instr_of}
use Rattle.isa_model.specs.Effect.{Effect, Next, Goes, Raises, Calls, Returns}
use Rattle.hart_model.specs.declared.calls.Did.{Did}
use Rattle.hart_model.specs.declared.probe.Probe.{Probe}
use Rattle.hart_model.specs.declared.place.Place.{Place}
use Rattle.hart_model.specs.declared.place.Place.TheVariants.{Reg, PortA, PortB, Res, Load, Store, Scr, Mul, Zero, SlotWord, DataWord}
use Rattle.hart_model.specs.declared.tag.Cell.{Cell}
use Rattle.hart_model.specs.declared.tag.Mode.{Mode}
use Rattle.hart_model.specs.declared.tag.Mode.TheVariants.{User, Machine}
use Rattle.hart_model.specs.Csrs.{CsrFile}
use Rattle.hart_model.specs.Traps.{interrupt_of}
use Rattle.hart_model.specs.Ports.{SideEffect, Nothing, Outputs, AdvancesTape, Ends, ClearsTimer}
use Rattle.hart_model.specs.Context.{ContextState, BodyState}
use Rattle.hart_model.specs.HartState.{HartState, hart_with_cell, held_with_word, held_with_data}
use Rattle.hart_model.specs.Writes.{CellWrite, HartAndProbes, after_writes}
use Rattle.hart_model.specs.StepResult.{StepResult, Steps, Wants, Wedged}
use Rattle.hart_model.specs.UserStep.{user_step, by_interrupt, user_instr_step, after_user_effect, after_user_writes, user_effect, user_writes, with_next_count, held_with_next_count, is_fuel_used}
use Rattle.hart_model.specs.MachineStep.{OperandCells, Reach, Finds, NeedsQueue, Refused, machine_step, by_word, by_instr, by_reach, reach_of, by_next, by_csrs, csrs_after_effect, machine_effect, machine_writes, operand_cells, after_side, held_after_side, kernel_word_at}
use Rattle.hart_model.specs.HartStep.{hart_step, step_by_mode}
use Rattle.core_invariant.proofs.AloneOutputs.{prefix-self}

-- the output of what is held
abbrev pub held_output : Option ContextState → Option (List ℕ)
held_output held = option_map (λ (c : ContextState). c.body.output) held

-- an output that is the beginning of another; where nothing is held there is none
abbrev pub OutputGrows : Option (List ℕ) → Option (List ℕ) → Type 0
OutputGrows None after = ⊤
OutputGrows (Some xs) (Some ys) = IsPrefix xs ys
OutputGrows (Some xs) None = ⊥

stays : (o : Option (List ℕ)) → OutputGrows o o
stays None = tt
stays (Some xs) = prefix-self xs

same_grows : (a b : Option (List ℕ)) → a ≡ b → OutputGrows a b
same_grows a b e = subst (OutputGrows a) e (stays a)

-- a step whose hart holds at least what this output says
abbrev StepGrows : Option (List ℕ) → StepResult → Type 0
StepGrows o (Steps after probes did) = OutputGrows o (held_output after.held)
StepGrows o (Wants call early_writes rd next) = ⊤
StepGrows o Wedged = ⊤

word_keeps : (i : ℕ) (cell : Cell) (held : Option ContextState) → held_output (held_with_word i cell held) ≡ held_output held
word_keeps i cell None = refl
word_keeps i cell (Some c) = refl

data_keeps : (i : ℕ) (cell : Cell) (held : Option ContextState) → held_output (held_with_data i cell held) ≡ held_output held
data_keeps i cell None = refl
data_keeps i cell (Some c) = refl

cell_keeps : (h : HartState) (place : Place) (cell : Cell) → held_output (hart_with_cell h place cell).held ≡ held_output h.held
cell_keeps h (Reg r) cell = refl
cell_keeps h PortA cell = refl
cell_keeps h PortB cell = refl
cell_keeps h Res cell = refl
cell_keeps h Load cell = refl
cell_keeps h Store cell = refl
cell_keeps h Scr cell = refl
cell_keeps h Mul cell = refl
cell_keeps h Zero cell = refl
cell_keeps h (SlotWord i) cell = word_keeps i cell h.held
cell_keeps h (DataWord i) cell = data_keeps i cell h.held

-- writes leave the output as it is
writes_keep : (ws : List CellWrite) (h : HartState) → held_output (after_writes ws h).hart.held ≡ held_output h.held
writes_keep [] h = refl
writes_keep (w ∷ ws) h = writes_keep ws (hart_with_cell h w.at w.cell) ∙ cell_keeps h w.at w.cell

-- User mode.
count_keeps : (held : Option ContextState) → held_output (held_with_next_count held) ≡ held_output held
count_keeps None = refl
count_keeps (Some c) = refl

next_grows : (o : Option (List ℕ)) (a : HartAndProbes) (next : Next) → OutputGrows o (held_output a.hart.held) → StepGrows o (after_user_writes a next)
next_grows o a (Goes pc) grows = grows
next_grows o a (Raises cause) grows = grows
next_grows o a Calls grows = grows
next_grows o a Returns grows = grows

user_effect_grows : (h : HartState) (b : BodyState) (e : Effect) → StepGrows (held_output h.held) (after_user_effect h b e)
user_effect_grows h b e =
    let a = after_writes (user_writes h b e) h in
    let same = count_keeps a.hart.held ∙ writes_keep (user_writes h b e) h in
    next_grows (held_output h.held) (record { hart = with_next_count a.hart; probes = a.probes }) e.next
    (same_grows (held_output h.held) (held_output (held_with_next_count a.hart.held)) (sym same))

user_instr_grows : (h : HartState) (held : Option ContextState) → StepGrows (held_output h.held) (user_instr_step h held)
user_instr_grows h None = stays (held_output h.held)
user_instr_grows h (Some c) = user_effect_grows h c.body (user_effect h c.body)

interrupt_grows : (h : HartState) (cause : Option ℕ) → StepGrows (held_output h.held) (by_interrupt h cause)
interrupt_grows h (Some cause) = stays (held_output h.held)
interrupt_grows h None = user_instr_grows h h.held

user_grows : (h : HartState) → StepGrows (held_output h.held) (user_step h)
unfolding user_step
user_grows h = interrupt_grows h (interrupt_of h.csrs (is_fuel_used h.held))

-- Machine mode: the port Out puts a word at the end of the output, and nothing else changes it.
side_of_held : (side : SideEffect) (held : Option ContextState) → OutputGrows (held_output held) (held_output (option_map (held_after_side side) held))
side_of_held side None = tt
side_of_held Nothing (Some c) = prefix-self c.body.output
side_of_held (Outputs word) (Some c) = (word ∷ [], refl)
side_of_held AdvancesTape (Some c) = prefix-self c.body.output
side_of_held (Ends end) (Some c) = prefix-self c.body.output
side_of_held ClearsTimer (Some c) = prefix-self c.body.output

side_grows : (side : SideEffect) (h : HartState) → OutputGrows (held_output h.held) (held_output (after_side side h).held)
side_grows ClearsTimer h = stays (held_output h.held)
side_grows Nothing h = side_of_held Nothing h.held
side_grows (Outputs word) h = side_of_held (Outputs word) h.held
side_grows AdvancesTape h = side_of_held AdvancesTape h.held
side_grows (Ends end) h = side_of_held (Ends end) h.held

csrs_grow : (h : HartState) (o : OperandCells) (side : SideEffect) (e : Effect) (pc : ℕ) (csrs : Option CsrFile)
    → StepGrows (held_output h.held) (by_csrs h o side e pc csrs)
csrs_grow h o side e pc None = tt
csrs_grow h o side e pc (Some csrs) =
    let start : HartState = record h { csrs = csrs } in
    let a = after_writes (machine_writes h o e) start in
    subst (λ before. OutputGrows before (held_output (after_side side a.hart).held)) (writes_keep (machine_writes h o e) start) (side_grows side a.hart)

machine_next_grows : (h : HartState) (o : OperandCells) (side : SideEffect) (e : Effect) (next : Next)
    → StepGrows (held_output h.held) (by_next h o side e next)
machine_next_grows h o side e (Goes pc) = csrs_grow h o side e pc (csrs_after_effect h.csrs o e.csr)
machine_next_grows h o side e (Raises cause) = tt
machine_next_grows h o side e Calls = tt
machine_next_grows h o side e Returns = stays (held_output h.held)

reach_grows : (h : HartState) (instr : Instr) (reach : Reach) → StepGrows (held_output h.held) (by_reach h instr reach)
reach_grows h instr (Finds word old_csr side) =
    let o = operand_cells h instr word old_csr in
    let e = machine_effect h instr o in
    machine_next_grows h o side e e.next
reach_grows h instr (NeedsQueue call word) = tt
reach_grows h instr Refused = tt

machine_instr_grows : (h : HartState) (instr : Option Instr) → StepGrows (held_output h.held) (by_instr h instr)
machine_instr_grows h None = tt
machine_instr_grows h (Some instr) = reach_grows h instr (reach_of h instr)

machine_word_grows : (h : HartState) (word : Option ℕ) → StepGrows (held_output h.held) (by_word h word)
machine_word_grows h None = tt
machine_word_grows h (Some word) = machine_instr_grows h (instr_of word)

machine_grows : (code : List ℕ) (h : HartState) → StepGrows (held_output h.held) (machine_step code h)
unfolding machine_step
machine_grows code h = machine_word_grows h (kernel_word_at code h.pc)

mode_grows : (code : List ℕ) (h : HartState) (mode : Mode) → StepGrows (held_output h.held) (step_by_mode code h mode)
mode_grows code h User = user_grows h
mode_grows code h Machine = machine_grows code h

-- What is held after a step has at least the output of before.
pub step-output-grows : (code : List ℕ) (h g : HartState) (probes : List Probe) (did : Did) → hart_step code h ≡ Steps g probes did
    → OutputGrows (held_output h.held) (held_output g.held)
step-output-grows code h g probes did steps = subst (StepGrows (held_output h.held)) steps (mode_grows code h h.csrs.mode)
