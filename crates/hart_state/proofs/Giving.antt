-- What an instruction has begun with that asks the queue leaves what is held as it is; and a give has something to give.
use Rattle.std.proofs.Common.{◌≡◌, ℕ, zero, suc, ◌%◌, ◌==◌, ◌&&◌, Bool, true, false, [], ◌∷◌, ◌++◌, length, Option, Some, None, option_map, is_none, is_some, nat_lt, slice_get, if◌then◌else◌, ℤ, refl, ap, sym, subst}
use Rattle.std.proofs.lemmas.Bool.{cond_both}
use Rattle.isa_model.specs.declared.instr.Instr.{Instr}
use Rattle.isa_model.specs.declared.instr.Instr.TheVariants.{Lui, Auipc, Jal, Jalr, Branch, Load, Store, AluImm, AluReg, Fence, Ecall, Ebreak, Mret, Csr, CsrImm}
use Rattle.isa_model.specs.declared.instr.LoadKind.{LoadKind}
use Rattle.isa_model.specs.declared.instr.LoadKind.TheVariants as loads
use Rattle.isa_model.specs.declared.ends.End.{End}
use Rattle.isa_model.specs.declared.instr.StoreKind.{StoreKind}
use Rattle.isa_model.specs.declared.instr.StoreKind.TheVariants as stores
use Rattle.isa_model.specs.declared.latch.Latch.TheVariants as latches
use Rattle.isa_model.specs.Bits.{word_address}
use Rattle.isa_model.specs.Arithmetic.{load_size, store_size}
use Rattle.isa_model.specs.Effect.{Effect, Write, Raises, Mixed, Rs1, does, to, port_a, ports, effect_of, address, load_word, store_word}
use Rattle.hart_model.specs.declared.calls.QueueCall.{QueueCall}
use Rattle.hart_model.specs.declared.port.Port.{Port}
use Rattle.hart_model.specs.declared.port.Port.TheVariants as ports_of
use Rattle.hart_model.specs.declared.place.Place.{Place}
use Rattle.hart_model.specs.declared.place.Place.TheVariants.{Reg, PortA, PortB, Res}
use Rattle.hart_model.specs.declared.place.Place.TheVariants as places
use Rattle.hart_model.specs.declared.tag.Cell.{Cell}
use Rattle.hart_model.specs.declared.tag.Tag.{Tag}
use Rattle.hart_model.specs.Cells.{blank, place_of}
use Rattle.hart_model.specs.Taint.{is_public}
use Rattle.hart_model.specs.Context.{ContextState}
use Rattle.hart_model.specs.HartState.{HartState, hart_cell}
use Rattle.hart_model.specs.Ports.{PortAnswer, Passes, AsksQueue, Refuses, port_at, port_load, port_store, tape_answer, give_answer, fault_answer, end_of_code}
use Rattle.hart_model.specs.Writes.{placed, cell_writes, after_writes}
use Rattle.hart_model.specs.MachineStep.{Target, AtPlace, AtPort, Nowhere, NeedsQueue, OperandCells, machine_bases, place_or_port, target_of, operand_cells, operand_values, load_by_port, store_by_port, load_reach, store_reach, reach_of}
use Rattle.hart_state.specs.Asked.{GivesHeld}
use Rattle.hart_state.proofs.Asking.{load-asks, csr-asks, found-asks, refused-asks}

-- the hart keeps what it holds through the writes of an effect
abbrev Keeps : HartState → (Write → Tag) → Effect → Type 0
Keeps h tag e = (after_writes (cell_writes (machine_bases h.held) tag e.writes) h).hart.held ≡ h.held

load-keeps : (h : HartState) (tag : Write → Tag) (kind : LoadKind) (rd rs1 : ℕ) (imm : ℤ) (o : OperandCells) → o.word ≡ None
    → Keeps h tag (effect_of (Load kind rd rs1 imm) h.pc (operand_values o))
load-keeps h tag kind rd rs1 imm o none =
    let v = operand_values o in
    let early_writes = port_a v ++ to latches.Res (address v.rs1 imm) (Mixed (Rs1 ∷ [])) in
    let without : v.word ≡ None = ap (λ (w : Option Cell). option_map (λ (c : Cell). c.value) w) none in
    cond_both (address v.rs1 imm % load_size kind == 0) (load_word kind rd h.pc (address v.rs1 imm) early_writes v.word) (does early_writes (Raises 4)) (Keeps h tag)
    (λ t. subst (λ (w : Option ℕ). Keeps h tag (load_word kind rd h.pc (address v.rs1 imm) early_writes w)) (sym without) refl)
    (λ f. refl)

-- a port is no place
no-place : (o : Option Place) (p : Option Port) (port : Port) → place_or_port o p ≡ AtPort port → o ≡ None
no-place None p port e = refl
no-place (Some place) p port e = absurd (cc e)

-- a write at no place keeps what is held
last-keeps : (h : HartState) (a b c d : Cell) (o : Option Place) (cell : Cell) → o ≡ None
    → (after_writes (record { at = PortA; cell = a } ∷ record { at = PortB; cell = b } ∷ record { at = Res; cell = c } ∷ record { at = places.Store; cell = d } ∷ placed o cell []) h).hart.held ≡ h.held
last-keeps h a b c d None cell none = refl
last-keeps h a b c d (Some place) cell none = absurd (cc none)

word-keeps : (h : HartState) (tag : Write → Tag) (kind : StoreKind) (imm : ℤ) (o : OperandCells) (word : Option ℕ)
    → place_of (machine_bases h.held) (latches.Mem (word_address (address (operand_values o).rs1 imm))) ≡ None
    → let v = operand_values o in
    Keeps h tag (store_word kind v.rs2 h.pc (address v.rs1 imm) (ports v ++ to latches.Res (address v.rs1 imm) (Mixed (Rs1 ∷ []))) word)
word-keeps h tag kind imm o None none = refl
word-keeps h tag kind imm o (Some word) none = last-keeps h _ _ _ _ _ _ none

store-keeps : (h : HartState) (tag : Write → Tag) (kind : StoreKind) (rs2 rs1 : ℕ) (imm : ℤ) (o : OperandCells)
    → place_of (machine_bases h.held) (latches.Mem (word_address (address (operand_values o).rs1 imm))) ≡ None
    → Keeps h tag (effect_of (Store kind rs2 rs1 imm) h.pc (operand_values o))
store-keeps h tag kind rs2 rs1 imm o none =
    let v = operand_values o in
    let early_writes = ports v ++ to latches.Res (address v.rs1 imm) (Mixed (Rs1 ∷ [])) in
    cond_both (address v.rs1 imm % store_size kind == 0) (store_word kind v.rs2 h.pc (address v.rs1 imm) early_writes v.word) (does early_writes (Raises 6)) (Keeps h tag)
    (λ t. word-keeps h tag kind imm o v.word none)
    (λ f. refl)

-- a store that the queue has to answer is at a port
store-at-port : (h : HartState) (kind : StoreKind) (stored : Cell) (t : Target) (call : QueueCall) (word : Option Cell)
    → store_reach h kind stored t ≡ NeedsQueue call word → (port : Port) × (t ≡ AtPort port)
store-at-port h kind stored (AtPlace place) call word e = absurd (cc e)
store-at-port h stores.W stored (AtPort port) call word e = (port, refl)
store-at-port h stores.B stored (AtPort port) call word e = absurd (cc e)
store-at-port h stores.H stored (AtPort port) call word e = absurd (cc e)
store-at-port h kind stored Nowhere call word e = absurd (cc e)

pub early_writes-keeps : (h : HartState) (tag : Write → Tag) (instr : Instr) (call : QueueCall) (word : Option Cell) → reach_of h instr ≡ NeedsQueue call word
    → Keeps h tag (effect_of instr h.pc (operand_values (operand_cells h instr word blank)))
early_writes-keeps h tag (Load kind rd rs1 imm) call word e =
    load-keeps h tag kind rd rs1 imm (operand_cells h (Load kind rd rs1 imm) word blank)
    (load-asks h kind (target_of h.held (address (hart_cell h (Reg rs1)).value imm)) call word e)
early_writes-keeps h tag (Store kind rs2 rs1 imm) call word e =
    let at = address (hart_cell h (Reg rs1)).value imm in
    let p = store-at-port h kind (hart_cell h (Reg rs2)) (target_of h.held at) call word e in
    store-keeps h tag kind rs2 rs1 imm (operand_cells h (Store kind rs2 rs1 imm) word blank)
    (no-place (place_of (machine_bases h.held) (latches.Mem (word_address at))) (port_at at) p.0 p.1)
early_writes-keeps h tag (Csr op rd rs1 csr) call word e = absurd (csr-asks _ call word e)
early_writes-keeps h tag (CsrImm op rd uimm csr) call word e = absurd (csr-asks _ call word e)
early_writes-keeps h tag (Jalr rd rs1 imm) call word e = absurd (found-asks _ call word e)
early_writes-keeps h tag Mret call word e = absurd (refused-asks _ call word e)
early_writes-keeps h tag (Lui rd imm20) call word e = absurd (cc e)
early_writes-keeps h tag (Auipc rd imm20) call word e = absurd (cc e)
early_writes-keeps h tag (Jal rd off) call word e = absurd (cc e)
early_writes-keeps h tag (Branch op rs1 rs2 off) call word e = absurd (cc e)
early_writes-keeps h tag (AluImm op rd rs1 imm) call word e = absurd (cc e)
early_writes-keeps h tag (AluReg op rd rs1 rs2) call word e = absurd (cc e)
early_writes-keeps h tag (Fence word') call word e = absurd (cc e)
early_writes-keeps h tag Ecall call word e = absurd (cc e)
early_writes-keeps h tag Ebreak call word e = absurd (cc e)

-- What a port asks of the queue with this held: a give has something to give.
abbrev AsksFor : Option ContextState → PortAnswer → Type 0
AsksFor held (Passes cell side) = Unit {0}
AsksFor held (AsksQueue call) = GivesHeld call held
AsksFor held Refuses = Unit {0}

either-asks : (held : Option ContextState) (b : Bool) (x y : PortAnswer) → AsksFor held x → AsksFor held y → AsksFor held (if b then x else y)
either-asks held true x y p q = p
either-asks held false x y p q = q

tape-asks : (held : Option ContextState) (c : ContextState) (o : Option ℕ) → AsksFor held (tape_answer c o)
tape-asks held c None = tt
tape-asks held c (Some word) = tt

load-port-asks : (port : Port) (held : Option ContextState) → AsksFor held (port_load port held)
load-port-asks ports_of.Take None = tt
load-port-asks ports_of.Take (Some c) = tt
load-port-asks ports_of.Tape (Some c) = tape-asks (Some c) c (slice_get c.body.tape c.body.tape_at)
load-port-asks ports_of.Tape None = tt
load-port-asks ports_of.TapeLeft (Some c) = tt
load-port-asks ports_of.TapeLeft None = tt
load-port-asks ports_of.OutLeft (Some c) = tt
load-port-asks ports_of.OutLeft None = tt
load-port-asks ports_of.Give (Some c) = tt
load-port-asks ports_of.Give None = tt
load-port-asks ports_of.Out (Some c) = tt
load-port-asks ports_of.Out None = tt
load-port-asks ports_of.Exit (Some c) = tt
load-port-asks ports_of.Exit None = tt
load-port-asks ports_of.Fault (Some c) = tt
load-port-asks ports_of.Fault None = tt
load-port-asks ports_of.Ack (Some c) = tt
load-port-asks ports_of.Ack None = tt

give-port-asks : (c : ContextState) (value : ℕ) (has_ended : Bool) → AsksFor (Some c) (give_answer value has_ended)
give-port-asks c zero false = tt
give-port-asks c zero true = tt
give-port-asks c (suc zero) false = tt
give-port-asks c (suc zero) true = tt
give-port-asks c (suc (suc n)) false = tt
give-port-asks c (suc (suc n)) true = tt

fault-port-asks : (held : Option ContextState) (cell : Cell) (end : Option End) → AsksFor held (fault_answer cell end)
fault-port-asks held cell None = tt
fault-port-asks held cell (Some end) = tt

store-port-asks : (port : Port) (cell : Cell) (held : Option ContextState) → AsksFor held (port_store port cell held)
store-port-asks ports_of.Ack cell held = either-asks held (is_public cell.tag) _ _ tt tt
store-port-asks ports_of.Give cell (Some c) = either-asks (Some c) (is_public cell.tag) _ _ (give-port-asks c cell.value (is_some c.end)) tt
store-port-asks ports_of.Out cell (Some c) = either-asks (Some c) (nat_lt (length c.body.output) c.body.out_max) _ _ tt tt
store-port-asks ports_of.Exit cell (Some c) = either-asks (Some c) (is_none c.end) _ _ tt tt
store-port-asks ports_of.Fault cell (Some c) = either-asks (Some c) (is_public cell.tag && is_none c.end) _ _ (fault-port-asks (Some c) cell (end_of_code c cell.value)) tt
store-port-asks ports_of.Take cell (Some c) = tt
store-port-asks ports_of.Tape cell (Some c) = tt
store-port-asks ports_of.TapeLeft cell (Some c) = tt
store-port-asks ports_of.OutLeft cell (Some c) = tt
store-port-asks ports_of.Give cell None = tt
store-port-asks ports_of.Out cell None = tt
store-port-asks ports_of.Exit cell None = tt
store-port-asks ports_of.Fault cell None = tt
store-port-asks ports_of.Take cell None = tt
store-port-asks ports_of.Tape cell None = tt
store-port-asks ports_of.TapeLeft cell None = tt
store-port-asks ports_of.OutLeft cell None = tt

by-load : (held : Option ContextState) (answer : PortAnswer) (call : QueueCall) (word : Option Cell) → AsksFor held answer → load_by_port answer ≡ NeedsQueue call word → GivesHeld call held
by-load held (Passes cell side) call word p e = absurd (cc e)
by-load held (AsksQueue asked) call word p e = let same : asked ≡ call = cc in subst (λ (q : QueueCall). GivesHeld q held) same p
by-load held Refuses call word p e = absurd (cc e)

by-store : (held : Option ContextState) (stored : Cell) (answer : PortAnswer) (call : QueueCall) (word : Option Cell) → AsksFor held answer → store_by_port stored answer ≡ NeedsQueue call word
    → GivesHeld call held
by-store held stored (Passes cell side) call word p e = absurd (cc e)
by-store held stored (AsksQueue asked) call word p e = let same : asked ≡ call = cc in subst (λ (q : QueueCall). GivesHeld q held) same p
by-store held stored Refuses call word p e = absurd (cc e)

load-gives : (h : HartState) (kind : LoadKind) (t : Target) (call : QueueCall) (word : Option Cell) → load_reach h kind t ≡ NeedsQueue call word → GivesHeld call h.held
load-gives h kind (AtPlace place) call word e = absurd (cc e)
load-gives h loads.W (AtPort port) call word e = by-load h.held (port_load port h.held) call word (load-port-asks port h.held) e
load-gives h loads.B (AtPort port) call word e = absurd (cc e)
load-gives h loads.H (AtPort port) call word e = absurd (cc e)
load-gives h loads.Bu (AtPort port) call word e = absurd (cc e)
load-gives h loads.Hu (AtPort port) call word e = absurd (cc e)
load-gives h kind Nowhere call word e = absurd (cc e)

store-gives : (h : HartState) (kind : StoreKind) (stored : Cell) (t : Target) (call : QueueCall) (word : Option Cell)
    → store_reach h kind stored t ≡ NeedsQueue call word → GivesHeld call h.held
store-gives h kind stored (AtPlace place) call word e = absurd (cc e)
store-gives h stores.W stored (AtPort port) call word e = by-store h.held stored (port_store port stored h.held) call word (store-port-asks port stored h.held) e
store-gives h stores.B stored (AtPort port) call word e = absurd (cc e)
store-gives h stores.H stored (AtPort port) call word e = absurd (cc e)
store-gives h kind stored Nowhere call word e = absurd (cc e)

pub asks-held : (h : HartState) (instr : Instr) (call : QueueCall) (word : Option Cell) → reach_of h instr ≡ NeedsQueue call word → GivesHeld call h.held
asks-held h (Load kind rd rs1 imm) call word e = load-gives h kind (target_of h.held (address (hart_cell h (Reg rs1)).value imm)) call word e
asks-held h (Store kind rs2 rs1 imm) call word e =
    store-gives h kind (hart_cell h (Reg rs2)) (target_of h.held (address (hart_cell h (Reg rs1)).value imm)) call word e
asks-held h (Csr op rd rs1 csr) call word e = absurd (csr-asks _ call word e)
asks-held h (CsrImm op rd uimm csr) call word e = absurd (csr-asks _ call word e)
asks-held h (Jalr rd rs1 imm) call word e = absurd (found-asks _ call word e)
asks-held h Mret call word e = absurd (refused-asks _ call word e)
asks-held h (Lui rd imm20) call word e = absurd (cc e)
asks-held h (Auipc rd imm20) call word e = absurd (cc e)
asks-held h (Jal rd off) call word e = absurd (cc e)
asks-held h (Branch op rs1 rs2 off) call word e = absurd (cc e)
asks-held h (AluImm op rd rs1 imm) call word e = absurd (cc e)
asks-held h (AluReg op rd rs1 rs2) call word e = absurd (cc e)
asks-held h (Fence word') call word e = absurd (cc e)
asks-held h Ecall call word e = absurd (cc e)
asks-held h Ebreak call word e = absurd (cc e)
