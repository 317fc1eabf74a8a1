-- Which steps ask the queue, and how short a take begins.
use Rattle.std.proofs.Common.{◌≡◌, ℕ, zero, suc, ◌%◌, ◌≤◌, ◌==◌, ◌&&◌, Bool, true, false, [], ◌∷◌, ◌++◌, length, Option, Some, None, nat_lt, is_none, is_some, option_map, ℤ, if◌then◌else◌, ap, sym, subst, arith}
use Rattle.std.proofs.lemmas.Bool.{cond_both}
use Rattle.isa_model.specs.declared.instr.Instr.{Instr}
use Rattle.isa_model.specs.declared.instr.Instr.TheVariants.{Lui, Auipc, Jal, Jalr, Branch, Load, Store, AluImm, AluReg, Fence, Ecall, Ebreak, Mret, Csr, CsrImm}
use Rattle.isa_model.specs.declared.instr.LoadKind.{LoadKind}
use Rattle.isa_model.specs.declared.instr.LoadKind.TheVariants as loads
use Rattle.isa_model.specs.declared.instr.StoreKind.{StoreKind}
use Rattle.isa_model.specs.declared.instr.StoreKind.TheVariants as stores
use Rattle.isa_model.specs.Arithmetic.{load_size}
use Rattle.isa_model.specs.Effect.{Effect, Next, Goes, Raises, Calls, Returns, Mixed, Rs1, does, to, port_a, effect_of, address, load_word}
use Rattle.isa_model.specs.declared.latch.Latch.TheVariants.{Res}
use Rattle.hart_model.specs.declared.calls.QueueCall.{QueueCall}
use Rattle.hart_model.specs.declared.calls.QueueCall.TheVariants as calls
use Rattle.hart_model.specs.declared.port.Port.{Port}
use Rattle.hart_model.specs.declared.port.Port.TheVariants.{Take, Give, Out, Tape, TapeLeft, Exit, Fault, Ack, OutLeft}
use Rattle.hart_model.specs.declared.place.Place.TheVariants.{Reg}
use Rattle.hart_model.specs.declared.tag.Cell.{Cell}
use Rattle.hart_model.specs.Cells.{blank}
use Rattle.hart_model.specs.Taint.{is_public}
use Rattle.hart_model.specs.Csrs.{CsrFile, csr_cell}
use Rattle.hart_model.specs.Traps.{interrupt_of}
use Rattle.hart_model.specs.Context.{ContextState}
use Rattle.hart_model.specs.HartState.{HartState, hart_cell}
use Rattle.hart_model.specs.Ports.{SideEffect, PortAnswer, Passes, AsksQueue, Refuses, port_load, port_store, give_answer, fault_answer, end_of_code}
use Rattle.hart_model.specs.Writes.{HartAndProbes}
use Rattle.hart_model.specs.UserStep.{user_effect, user_step, user_instr_step, by_interrupt, after_user_writes, is_fuel_used}
use Rattle.hart_model.specs.MachineStep.{Target, AtPlace, AtPort, Nowhere, NeedsQueue, Refused, finds_nothing, csr_reach, enters_nothing, target_of, OperandCells, operand_cells, operand_values, load_by_port, store_by_port, load_reach, store_reach, reach_of, by_csrs, by_next, csrs_after_effect}
use Rattle.isa_model.specs.declared.ends.End.{End}
use Rattle.hart_state.specs.Asked.{HasAsked, BeginsShort}

-- no step in user mode
next-none : (h : HartState) (a : HartAndProbes) (n : Next) → HasAsked h (after_user_writes a n) None
next-none h a (Goes pc) = tt
next-none h a (Raises cause) = tt
next-none h a Calls = tt
next-none h a Returns = tt

instr-none : (h : HartState) (held : Option ContextState) → HasAsked h (user_instr_step h held) None
instr-none h None = tt
instr-none h (Some c) = next-none h _ (user_effect h c.body).next

interrupt-none : (h : HartState) (o : Option ℕ) → HasAsked h (by_interrupt h o) None
interrupt-none h (Some cause) = tt
interrupt-none h None = instr-none h h.held

pub user-none : (h : HartState) → HasAsked h (user_step h) None
unfolding user_step
user-none h = interrupt-none h (interrupt_of h.csrs (is_fuel_used h.held))

-- and none in machine mode that finds what it needs
csrs-none : (h : HartState) (o : OperandCells) (side : SideEffect) (e : Effect) (pc : ℕ) (file : Option CsrFile) → HasAsked h (by_csrs h o side e pc file) None
csrs-none h o side e pc None = tt
csrs-none h o side e pc (Some file) = tt

pub machine-none : (h : HartState) (o : OperandCells) (side : SideEffect) (e : Effect) (n : Next) → HasAsked h (by_next h o side e n) None
machine-none h o side e (Goes pc) = csrs-none h o side e pc (csrs_after_effect h.csrs o e.csr)
machine-none h o side e (Raises cause) = tt
machine-none h o side e Calls = tt
machine-none h o side e Returns = tt

-- a load that the queue has to answer has no word
answer-load : (answer : PortAnswer) (call : QueueCall) (word : Option Cell) → load_by_port answer ≡ NeedsQueue call word → word ≡ None
answer-load (Passes cell side) call word e = absurd (cc e)
answer-load (AsksQueue asked) call word e = cc
answer-load Refuses call word e = absurd (cc e)

pub load-asks : (h : HartState) (kind : LoadKind) (t : Target) (call : QueueCall) (word : Option Cell) → load_reach h kind t ≡ NeedsQueue call word → word ≡ None
load-asks h kind (AtPlace place) call word e = absurd (cc e)
load-asks h loads.W (AtPort port) call word e = answer-load (port_load port h.held) call word e
load-asks h loads.B (AtPort port) call word e = absurd (cc e)
load-asks h loads.H (AtPort port) call word e = absurd (cc e)
load-asks h loads.Bu (AtPort port) call word e = absurd (cc e)
load-asks h loads.Hu (AtPort port) call word e = absurd (cc e)
load-asks h kind Nowhere call word e = absurd (cc e)

-- a store that the queue has to answer is no take
abbrev IsNoTake : QueueCall → Type 0
IsNoTake calls.Take = ⊥
IsNoTake calls.GiveReady = Unit {0}
IsNoTake calls.GiveDone = Unit {0}

abbrev AsksNoTake : PortAnswer → Type 0
AsksNoTake (Passes cell side) = Unit {0}
AsksNoTake (AsksQueue call) = IsNoTake call
AsksNoTake Refuses = Unit {0}

give-asks : (value : ℕ) (has_ended : Bool) → AsksNoTake (give_answer value has_ended)
give-asks zero false = tt
give-asks zero true = tt
give-asks (suc zero) false = tt
give-asks (suc zero) true = tt
give-asks (suc (suc n)) false = tt
give-asks (suc (suc n)) true = tt

fault-asks : (cell : Cell) (end : Option End) → AsksNoTake (fault_answer cell end)
fault-asks cell None = tt
fault-asks cell (Some end) = tt

either : (b : Bool) (x y : PortAnswer) → AsksNoTake x → AsksNoTake y → AsksNoTake (if b then x else y)
either true x y p q = p
either false x y p q = q

port-asks : (port : Port) (cell : Cell) (held : Option ContextState) → AsksNoTake (port_store port cell held)
port-asks Ack cell held = either (is_public cell.tag) _ _ tt tt
port-asks Give cell (Some c) = either (is_public cell.tag) _ _ (give-asks cell.value (is_some c.end)) tt
port-asks Out cell (Some c) = either (nat_lt (length c.body.output) c.body.out_max) _ _ tt tt
port-asks Exit cell (Some c) = either (is_none c.end) _ _ tt tt
port-asks Fault cell (Some c) = either (is_public cell.tag && is_none c.end) _ _ (fault-asks cell (end_of_code c cell.value)) tt
port-asks Take cell (Some c) = tt
port-asks Tape cell (Some c) = tt
port-asks TapeLeft cell (Some c) = tt
port-asks OutLeft cell (Some c) = tt
port-asks Give cell None = tt
port-asks Out cell None = tt
port-asks Exit cell None = tt
port-asks Fault cell None = tt
port-asks Take cell None = tt
port-asks Tape cell None = tt
port-asks TapeLeft cell None = tt
port-asks OutLeft cell None = tt

answer-store : (stored : Cell) (answer : PortAnswer) (call : QueueCall) (word : Option Cell) → AsksNoTake answer → store_by_port stored answer ≡ NeedsQueue call word → IsNoTake call
answer-store stored (Passes cell side) call word p e = absurd (cc e)
answer-store stored (AsksQueue asked) call word p e = let same : asked ≡ call = cc in subst IsNoTake same p
answer-store stored Refuses call word p e = absurd (cc e)

store-asks : (h : HartState) (kind : StoreKind) (stored : Cell) (t : Target) (call : QueueCall) (word : Option Cell)
    → store_reach h kind stored t ≡ NeedsQueue call word → IsNoTake call
store-asks h kind stored (AtPlace place) call word e = absurd (cc e)
store-asks h stores.W stored (AtPort port) call word e = answer-store stored (port_store port stored h.held) call word (port-asks port stored h.held) e
store-asks h stores.B stored (AtPort port) call word e = absurd (cc e)
store-asks h stores.H stored (AtPort port) call word e = absurd (cc e)
store-asks h kind stored Nowhere call word e = absurd (cc e)

-- the writes that an instruction has begun with
any-short : (call : QueueCall) (n : ℕ) → n ≤ 2 → BeginsShort call n
any-short calls.Take n p = p
any-short calls.GiveReady n p = tt
any-short calls.GiveDone n p = tt

no-take-short : (call : QueueCall) (n : ℕ) → IsNoTake call → BeginsShort call n
no-take-short calls.Take n p = absurd p
no-take-short calls.GiveReady n p = tt
no-take-short calls.GiveDone n p = tt

load-short : (kind : LoadKind) (rd rs1 : ℕ) (imm : ℤ) (pc : ℕ) (o : OperandCells) → o.word ≡ None → length (effect_of (Load kind rd rs1 imm) pc (operand_values o)).writes ≤ 2
load-short kind rd rs1 imm pc o none =
    let v = operand_values o in
    let early_writes = port_a v ++ to Res (address v.rs1 imm) (Mixed (Rs1 ∷ [])) in
    let without : v.word ≡ None = ap (λ (w : Option Cell). option_map (λ (c : Cell). c.value) w) none in
    cond_both (address v.rs1 imm % load_size kind == 0) (load_word kind rd pc (address v.rs1 imm) early_writes v.word) (does early_writes (Raises 4))
    (λ (e : Effect). length e.writes ≤ 2)
    (λ t. subst (λ (w : Option ℕ). length (load_word kind rd pc (address v.rs1 imm) early_writes w).writes ≤ 2) (sym without) two)
    (λ f. two)
  where
    two : 2 ≤ 2
    two = omega arith

pub csr-asks : (o : Option Cell) (call : QueueCall) (word : Option Cell) → csr_reach o ≡ NeedsQueue call word → ⊥
csr-asks None call word e = cc e
csr-asks (Some old) call word e = cc e

pub found-asks : (b : Bool) (call : QueueCall) (word : Option Cell) → (if b then finds_nothing else Refused) ≡ NeedsQueue call word → ⊥
found-asks true call word e = cc e
found-asks false call word e = cc e

pub refused-asks : (b : Bool) (call : QueueCall) (word : Option Cell) → (if b then Refused else finds_nothing) ≡ NeedsQueue call word → ⊥
refused-asks true call word e = cc e
refused-asks false call word e = cc e

pub begins-short : (h : HartState) (instr : Instr) (call : QueueCall) (word : Option Cell) → reach_of h instr ≡ NeedsQueue call word
    → BeginsShort call (length (effect_of instr h.pc (operand_values (operand_cells h instr word blank))).writes)
begins-short h (Load kind rd rs1 imm) call word e =
    any-short call _ (load-short kind rd rs1 imm h.pc (operand_cells h (Load kind rd rs1 imm) word blank)
    (load-asks h kind (target_of h.held (address (hart_cell h (Reg rs1)).value imm)) call word e))
begins-short h (Store kind rs2 rs1 imm) call word e =
    no-take-short call _ (store-asks h kind (hart_cell h (Reg rs2)) (target_of h.held (address (hart_cell h (Reg rs1)).value imm)) call word e)
begins-short h (Csr op rd rs1 csr) call word e = absurd (csr-asks (csr_cell h.csrs csr) call word e)
begins-short h (CsrImm op rd uimm csr) call word e = absurd (csr-asks (csr_cell h.csrs csr) call word e)
begins-short h (Jalr rd rs1 imm) call word e = absurd (found-asks (is_public (hart_cell h (Reg rs1)).tag) call word e)
begins-short h Mret call word e = absurd (refused-asks (enters_nothing h.csrs.previous h.held) call word e)
begins-short h (Lui rd imm20) call word e = absurd (cc e)
begins-short h (Auipc rd imm20) call word e = absurd (cc e)
begins-short h (Jal rd off) call word e = absurd (cc e)
begins-short h (Branch op rs1 rs2 off) call word e = absurd (cc e)
begins-short h (AluImm op rd rs1 imm) call word e = absurd (cc e)
begins-short h (AluReg op rd rs1 rs2) call word e = absurd (cc e)
begins-short h (Fence word') call word e = absurd (cc e)
begins-short h Ecall call word e = absurd (cc e)
begins-short h Ebreak call word e = absurd (cc e)
