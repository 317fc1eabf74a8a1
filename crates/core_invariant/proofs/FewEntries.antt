-- A step of a hart makes no more than six entries, and an event of a core no more than eight.
use Rattle.std.proofs.Common.{◌≡◌, ℕ, suc, ◌+◌, ◌*◌, ◌/◌, ◌%◌, ◌^◌, ◌≤◌, ◌==◌, ◌&&◌, Bool, true, false, List, [], ◌∷◌, ◌++◌, length, slice_get, Option, Some, None, refl, ap, arith, length-append, if◌then◌else◌}
use Rattle.std.proofs.lemmas.Bool.{cond_both}
use Rattle.isa_model.specs.declared.ends.End.{End}
use Rattle.isa_model.specs.declared.latch.Latch.TheVariants as latches
use Rattle.isa_model.specs.declared.instr.Instr.{Instr}
use Rattle.isa_model.specs.declared.instr.Instr.TheVariants.{Lui, Auipc, Jal, Jalr, Branch, Load, Store, AluImm, AluReg, Fence, Ecall, Ebreak, Mret, Csr, CsrImm}
use Rattle.isa_model.specs.Bits.{low_word, two_complement}
use Rattle.isa_model.specs.Arithmetic.{alu_of, is_taken, load_size, store_size, load_result, csr_result}
use Rattle.isa_model.specs.InstrTable.{instr_of}
use Rattle.isa_model.specs.Effect.{Effect, Write, Flow, Constant, Moved, Mixed, Rs1, Rs2, OldCsr, Operands, Next, Goes, Raises, Calls, Returns, effect_of, address, jump, does, load_word, store_word, loaded_flow, csr_effect, csr_flow, is_csr_written, is_mscratch, to, to_reg, result, is_of_multiplier, port_a, ports}
use Rattle.isa_model.specs.Alone.{is_privileged}
use Rattle.hart_model.specs.declared.calls.QueueCall.{QueueCall}
use Rattle.hart_model.specs.declared.calls.QueueCall.TheVariants.{Take, GiveReady, GiveDone}
use Rattle.hart_model.specs.declared.place.Place.{Place}
use Rattle.hart_model.specs.declared.place.Place.TheVariants as places
use Rattle.hart_model.specs.declared.tag.Cell.{Cell}
use Rattle.hart_model.specs.declared.tag.Mode.{Mode}
use Rattle.hart_model.specs.declared.tag.Mode.TheVariants.{User, Machine}
use Rattle.hart_model.specs.declared.tag.Tag.{Tag}
use Rattle.hart_model.specs.Cells.{Bases, blank, place_of}
use Rattle.hart_model.specs.Taint.{user_tag, machine_tag}
use Rattle.hart_model.specs.Csrs.{CsrFile}
use Rattle.hart_model.specs.Ports.{SideEffect}
use Rattle.hart_model.specs.Traps.{interrupt_of}
use Rattle.hart_model.specs.Context.{BodyState, ContextState}
use Rattle.hart_model.specs.HartState.{HartState, bases_of, hart_with_cell}
use Rattle.hart_model.specs.declared.probe.Probe.{Probe}
use Rattle.hart_model.specs.Writes.{CellWrite, HartAndProbes, placed, cell_writes, after_writes}
use Rattle.hart_model.specs.StepResult.{StepResult, Steps, Wants, Wedged}
use Rattle.hart_model.specs.UserStep.{exception, user_operands, user_effect_of_instr, user_effect_of_word, user_effect, user_code_word, user_writes, with_next_count, is_fuel_used, after_user_writes, after_user_effect, user_instr_step, by_interrupt, user_step}
use Rattle.hart_model.specs.MachineStep.{OperandCells, Reach, Finds, NeedsQueue, Refused, machine_bases, operand_tag, machine_effect, machine_writes, csrs_after_effect, by_csrs, by_next, by_reach, by_instr, by_word, reach_of, operand_cells, operand_values, kernel_word_at, machine_step}
use Rattle.hart_model.specs.HartStep.{hart_step, step_by_mode, loaded_writes, take_cell}
use Rattle.core_model.specs.declared.event.Event.{Event}
use Rattle.core_model.specs.declared.event.Event.TheVariants.{Go, Tick}
use Rattle.core_model.specs.Board.{BoardState, take_of}
use Rattle.core_model.specs.BoardStep.{board_step_by_give_done, board_step_by_call, board_step}
use Rattle.core_model.specs.Core.{CoreState, after_step, after_go, after_tick, after_event}

-- an effect that writes at most six latches
abbrev pub IsFew : Effect → Type 0
IsFew e = length e.writes ≤ 6

reg_length : (rd value : ℕ) (flow : Flow) → length (to_reg rd value flow) ≤ 1
reg_length rd value flow = cond_both (rd == 0) [] (to (latches.Reg rd) value flow) (λ (ws : List Write). length ws ≤ 1) (λ t. omega arith) (λ f. omega arith)

result_length : (rd value : ℕ) (flow : Flow) → length (result rd value flow) ≤ 2
result_length rd value flow = let reg = reg_length rd value flow in omega arith

jump_few : (before after : List Write) (target : ℕ) → length (before ++ after) ≤ 6 → length before ≤ 6 → IsFew (jump before after target)
jump_few before after target all some =
    cond_both (target % 4 == 0) (does (before ++ after) (Goes target)) (does before (Raises 0)) (λ (e : Effect). IsFew e) (λ t. all) (λ f. some)

-- at most one for the old value, one for the scratch CSR and one for the register
csr_few : (early_writes : List Write) (rd csr pc old : ℕ) (written : Bool) (new : ℕ) (flow : Flow) → length early_writes ≤ 1 → IsFew (csr_effect early_writes rd csr pc old written new flow)
csr_few early_writes rd csr pc old written new flow few =
    let first : List Write = if rd == 0 then [] else to latches.Res old (Moved OldCsr) in
    let second : List Write = if written && is_mscratch csr then to latches.Scr new flow else [] in
    let one : length first ≤ 1 = cond_both (rd == 0) [] (to latches.Res old (Moved OldCsr)) (λ (ws : List Write). length ws ≤ 1) (λ t. omega arith) (λ f. omega arith) in
    let two : length second ≤ 1 = cond_both (written && is_mscratch csr) (to latches.Scr new flow) [] (λ (ws : List Write). length ws ≤ 1) (λ t. omega arith) (λ f. omega arith) in
    let reg = reg_length rd old (Moved OldCsr) in
    let all = length-append (early_writes ++ first ++ second) (to_reg rd old (Moved OldCsr)) in
    let some = length-append (early_writes ++ first) second in
    let front = length-append early_writes first in
    let sum : length (early_writes ++ first ++ second ++ to_reg rd old (Moved OldCsr)) ≤ 6 = omega arith in
    sum

-- Each row writes at most six.
pub row_few : (instr : Instr) (pc : ℕ) (o : Operands) → IsFew (effect_of instr pc o)
row_few (Lui rd imm20) pc o = let r = result_length rd (2 ^ 12 * imm20) Constant in omega arith
row_few (Auipc rd imm20) pc o = let r = result_length rd (low_word (pc + 2 ^ 12 * imm20)) Constant in omega arith
row_few (Jal rd off) pc o =
    let r = result_length rd (low_word (pc + 4)) Constant in
    jump_few [] (result rd (low_word (pc + 4)) Constant) (low_word (pc + two_complement 32 off)) (omega arith) (omega arith)
row_few (Jalr rd rs1 imm) pc o =
    let r = reg_length rd (low_word (pc + 4)) Constant in
    jump_few (port_a o) (result rd (low_word (pc + 4)) Constant) (address o.rs1 imm / 2 * 2) (omega arith) (omega arith)
row_few (Branch op rs1 rs2 off) pc o =
    cond_both (is_taken op o.rs1 o.rs2) (jump (ports o) [] (low_word (pc + two_complement 32 off))) (does (ports o) (Goes (low_word (pc + 4)))) (λ (e : Effect). IsFew e)
    (λ t. jump_few (ports o) [] (low_word (pc + two_complement 32 off)) (omega arith) (omega arith))
    (λ f. omega arith)
row_few (Load kind rd rs1 imm) pc o =
    let at : ℕ = address o.rs1 imm in
    let early_writes : List Write = port_a o ++ to latches.Res at (Mixed (Rs1 ∷ [])) in
    cond_both (at % load_size kind == 0) (load_word kind rd pc at early_writes o.word) (does early_writes (Raises 4)) (λ (e : Effect). IsFew e) (λ t. loaded o.word) (λ f. omega arith)
  where
    loaded : (word : Option ℕ) → IsFew (load_word kind rd pc (address o.rs1 imm) (port_a o ++ to latches.Res (address o.rs1 imm) (Mixed (Rs1 ∷ []))) word)
    loaded None = omega arith
    loaded (Some word) = let r = reg_length rd (load_result kind word (address o.rs1 imm)) (loaded_flow kind) in omega arith
row_few (Store kind rs2 rs1 imm) pc o =
    let at : ℕ = address o.rs1 imm in
    let early_writes : List Write = ports o ++ to latches.Res at (Mixed (Rs1 ∷ [])) in
    cond_both (at % store_size kind == 0) (store_word kind o.rs2 pc at early_writes o.word) (does early_writes (Raises 6)) (λ (e : Effect). IsFew e) (λ t. stored o.word) (λ f. omega arith)
  where
    stored : (word : Option ℕ) → IsFew (store_word kind o.rs2 pc (address o.rs1 imm) (ports o ++ to latches.Res (address o.rs1 imm) (Mixed (Rs1 ∷ []))) word)
    stored None = omega arith
    stored (Some word) = omega arith
row_few (AluImm op rd rs1 imm) pc o = let r = reg_length rd (alu_of op o.rs1 (two_complement 32 imm)) (Mixed (Rs1 ∷ [])) in omega arith
row_few (AluReg op rd rs1 rs2) pc o =
    let value = alu_of op o.rs1 o.rs2 in
    let flow = Mixed (Rs1 ∷ Rs2 ∷ []) in
    let r = reg_length rd value flow in
    cond_both (is_of_multiplier op) (to latches.Mul value flow) []
    (λ (ws : List Write). length (ports o ++ ws ++ result rd value flow) ≤ 6) (λ t. omega arith) (λ f. omega arith)
row_few (Fence word) pc o = omega arith
row_few Ecall pc o = omega arith
row_few Ebreak pc o = omega arith
row_few Mret pc o = omega arith
row_few (Csr op rd rs1 csr) pc o =
    csr_few (port_a o) rd csr pc o.old_csr (is_csr_written op rs1) (csr_result op o.old_csr o.rs1) (csr_flow op (Rs1 ∷ []) (Moved Rs1)) (omega arith)
row_few (CsrImm op rd uimm csr) pc o =
    csr_few [] rd csr pc o.old_csr (is_csr_written op uimm) (csr_result op o.old_csr uimm) (csr_flow op [] Constant) (omega arith)

-- The cells and the entries of writes are at most as many.
placed_length : (o : Option Place) (cell : Cell) (rest : List CellWrite) → length (placed o cell rest) ≤ length rest + 1
placed_length None cell rest = omega arith
placed_length (Some place) cell rest = omega arith

cells_length : (bases : Bases) (tag : Write → Tag) (ws : List Write) → length (cell_writes bases tag ws) ≤ length ws
cells_length bases tag [] = omega arith
cells_length bases tag (w ∷ ws) =
    let more = cells_length bases tag ws in
    let one = placed_length (place_of bases w.to) (record { value = w.value; tag = tag w }) (cell_writes bases tag ws) in
    omega arith

probes_length : (ws : List CellWrite) (h : HartState) → length (after_writes ws h).probes ≡ length ws
probes_length [] h = refl
probes_length (w ∷ ws) h = ap suc (probes_length ws (hart_with_cell h w.at w.cell))

-- A step makes at most six entries, and what wants the queue has begun with at most six writes.
abbrev pub IsFewStep : StepResult → Type 0
IsFewStep (Steps hart probes did) = length probes ≤ 6
IsFewStep (Wants call early_writes rd next) = length early_writes ≤ 6
IsFewStep Wedged = Unit {0}

follow_few : (a : HartAndProbes) (next : Next) → length a.probes ≤ 6 → IsFewStep (after_user_writes a next)
follow_few a (Goes pc) few = few
follow_few a (Raises cause) few = few
follow_few a Calls few = few
follow_few a Returns few = few

user_instr_few : (h : HartState) (b : BodyState) (o : Option Instr) → IsFew (user_effect_of_instr h b o)
user_instr_few h b None = omega arith
user_instr_few h b (Some instr) =
    cond_both (is_privileged instr) (exception 2) (effect_of instr h.pc (user_operands h b instr)) (λ (e : Effect). IsFew e)
    (λ t. omega arith) (λ f. row_few instr h.pc (user_operands h b instr))

user_word_few : (h : HartState) (b : BodyState) (o : Option ℕ) → IsFew (user_effect_of_word h b o)
user_word_few h b None = omega arith
user_word_few h b (Some word) = user_instr_few h b (instr_of word)

user_effect_few : (h : HartState) (b : BodyState) (e : Effect) → IsFew e → IsFewStep (after_user_effect h b e)
user_effect_few h b e few =
    let ws = user_writes h b e in
    let a : HartAndProbes = after_writes ws h in
    let same = probes_length ws h in
    let less = cells_length (bases_of h.held) (λ w. user_tag b.task_no b.count w.to) e.writes in
    follow_few (record { hart = with_next_count a.hart; probes = a.probes }) e.next (omega arith)

user_held_few : (h : HartState) (held : Option ContextState) → IsFewStep (user_instr_step h held)
user_held_few h None = omega arith
user_held_few h (Some c) = user_effect_few h c.body (user_effect h c.body) (user_word_few h c.body (user_code_word h c.body))

interrupt_few : (h : HartState) (o : Option ℕ) → IsFewStep (by_interrupt h o)
interrupt_few h (Some cause) = omega arith
interrupt_few h None = user_held_few h h.held

user_few : (h : HartState) → IsFewStep (user_step h)
unfolding user_step
user_few h = interrupt_few h (interrupt_of h.csrs (is_fuel_used h.held))

-- in machine mode
machine_writes_few : (h : HartState) (o : OperandCells) (e : Effect) → IsFew e → length (machine_writes h o e) ≤ 6
machine_writes_few h o e few =
    let less = cells_length (machine_bases h.held) (λ w. machine_tag (operand_tag o) w.flow) e.writes in omega arith

csrs_few : (h : HartState) (o : OperandCells) (side : SideEffect) (e : Effect) (pc : ℕ) (csrs : Option CsrFile) → IsFew e → IsFewStep (by_csrs h o side e pc csrs)
csrs_few h o side e pc None few = tt
csrs_few h o side e pc (Some csrs) few =
    let less = machine_writes_few h o e few in
    let same = probes_length (machine_writes h o e) (record h { csrs = csrs }) in
    omega arith

next_few : (h : HartState) (o : OperandCells) (side : SideEffect) (e : Effect) (next : Next) → IsFew e → IsFewStep (by_next h o side e next)
next_few h o side e (Goes pc) few = csrs_few h o side e pc (csrs_after_effect h.csrs o e.csr) few
next_few h o side e (Raises cause) few = tt
next_few h o side e Calls few = tt
next_few h o side e Returns few = omega arith

reach_few : (h : HartState) (instr : Instr) (r : Reach) → IsFewStep (by_reach h instr r)
reach_few h instr (Finds word old_csr side) =
    let o : OperandCells = operand_cells h instr word old_csr in
    let e : Effect = machine_effect h instr o in
    next_few h o side e e.next (row_few instr h.pc (operand_values o))
reach_few h instr (NeedsQueue call word) =
    let o : OperandCells = operand_cells h instr word blank in
    machine_writes_few h o (machine_effect h instr o) (row_few instr h.pc (operand_values o))
reach_few h instr Refused = tt

instr_few : (h : HartState) (o : Option Instr) → IsFewStep (by_instr h o)
instr_few h None = tt
instr_few h (Some instr) = reach_few h instr (reach_of h instr)

word_few : (h : HartState) (o : Option ℕ) → IsFewStep (by_word h o)
word_few h None = tt
word_few h (Some word) = instr_few h (instr_of word)

machine_few : (code : List ℕ) (h : HartState) → IsFewStep (machine_step code h)
unfolding machine_step
machine_few code h = word_few h (kernel_word_at code h.pc)

mode_few : (code : List ℕ) (h : HartState) (mode : Mode) → IsFewStep (step_by_mode code h mode)
mode_few code h User = user_few h
mode_few code h Machine = machine_few code h

-- The answer to a take or a give makes at most eight.
one_length : (b : Bool) (w : CellWrite) → length (if b then [] else w ∷ []) ≤ 1
one_length true w = omega arith
one_length false w = omega arith

loaded_length : (rd : ℕ) (cell : Cell) → length (loaded_writes rd cell) ≤ 2
loaded_length rd cell = let one = one_length (rd == 0) (record { at = places.Reg rd; cell = cell }) in omega arith

take_few : (early_writes : List CellWrite) (rd : ℕ) (got : Option ContextState) (h : HartState) → length early_writes ≤ 6
    → length (after_writes (early_writes ++ loaded_writes rd (take_cell got)) h).probes ≤ 8
take_few early_writes rd got h few =
    let same = probes_length (early_writes ++ loaded_writes rd (take_cell got)) h in
    let both = length-append early_writes (loaded_writes rd (take_cell got)) in
    let two = loaded_length rd (take_cell got) in
    omega arith

give_few : (early_writes : List CellWrite) (h : HartState) → length early_writes ≤ 6 → length (after_writes early_writes h).probes ≤ 8
give_few early_writes h few = let same = probes_length early_writes h in omega arith

-- A step.
pub hart_step_few : (code : List ℕ) (h : HartState) → IsFewStep (hart_step code h)
hart_step_few code h = mode_few code h h.csrs.mode

grown_few : (log probes : List Probe) → length probes ≤ 8 → length (log ++ probes) ≤ length log + 8
grown_few log probes few = let both = length-append log probes in omega arith

call_few : (b : BoardState) (hart : ℕ) (h : HartState) (call : QueueCall) (early_writes : List CellWrite) (rd next : ℕ) (held : Option ContextState)
    → length early_writes ≤ 6 → length (board_step_by_call b hart h call early_writes rd next held).probes ≤ 8
call_few b hart h Take early_writes rd next held few = take_few early_writes rd (take_of b hart).got h few
call_few b hart h GiveReady early_writes rd next None few = omega arith
call_few b hart h GiveDone early_writes rd next None few = omega arith
call_few b hart h GiveReady early_writes rd next (Some held) few = give_few early_writes h few
call_few b hart h GiveDone early_writes rd next (Some held) few = end_few held.end
  where
    end_few : (end : Option End) → length (board_step_by_give_done b hart h early_writes next held end).probes ≤ 8
    end_few None = omega arith
    end_few (Some end) = give_few early_writes h few

-- What a step comes to makes at most eight entries,
board_few : (b : BoardState) (hart : ℕ) (h : HartState) (step : StepResult) → IsFewStep step → length (board_step b hart h step).probes ≤ 8
board_few b hart h (Steps after probes did) few = omega (arith, few)
board_few b hart h (Wants call early_writes rd next) few = call_few b hart h call early_writes rd next h.held few
board_few b hart h Wedged few = omega arith

-- and so it does in a core.
pub step_few : (c : CoreState) (hart : ℕ) (h : HartState) (step : StepResult) → IsFewStep step → length (after_step c hart h step).core.log ≤ length c.log + 8
step_few c hart h step few = grown_few c.log (board_step c.board hart h step).probes (board_few c.board hart h step few)

go_few : (code : List ℕ) (c : CoreState) (hart : ℕ) (o : Option HartState) → length (after_go code c hart o).core.log ≤ length c.log + 8
go_few code c hart None = omega arith
go_few code c hart (Some h) = step_few c hart h (hart_step code h) (hart_step_few code h)

tick_few : (c : CoreState) (hart : ℕ) (o : Option HartState) → length (after_tick c hart o).log ≤ length c.log + 8
tick_few c hart None = omega arith
tick_few c hart (Some h) = omega arith

-- An event makes at most eight entries.
pub event_few : (code : List ℕ) (c : CoreState) (event : Event) → length (after_event code c event).log ≤ length c.log + 8
event_few code c (Go hart) = go_few code c hart (slice_get c.harts hart)
event_few code c (Tick hart) = tick_few c hart (slice_get c.harts hart)
