-- Where a hart in machine mode is wedged, case by case (this project's own). That a step is wedged exactly there is the contract of a
-- law in `src/wedge_laws.rt`.
use Rattle.std.specs.Prelude.{◌≡◌, ◌≢◌, ◌↔◌, ℕ, ◌+◌, ◌*◌, ◌/◌, ◌%◌, ◌<◌, ◌⊎◌, Bool, true, List, length, Option, Some, None, IsSome, IsNone, MatchOption, ⊤}
use Rattle.isa_model.specs.declared.instr.Instr.{Instr}
use Rattle.isa_model.specs.declared.instr.Instr.TheVariants.{Jal, Jalr, Branch, Load, Store, Ecall, Ebreak, Mret, Csr, CsrImm}
use Rattle.isa_model.specs.declared.instr.LoadKind.{LoadKind}
use Rattle.isa_model.specs.declared.instr.LoadKind.TheVariants as loads
use Rattle.isa_model.specs.declared.instr.StoreKind.{StoreKind}
use Rattle.isa_model.specs.declared.instr.StoreKind.TheVariants as stores
use Rattle.isa_model.specs.Bits.{low_word, two_complement}
use Rattle.isa_model.specs.Arithmetic.{is_taken, load_size, store_size}
use Rattle.isa_model.specs.InstrTable.{instr_of}
use Rattle.isa_model.specs.Effect.{address, is_csr_written}
use Rattle.hart_model.specs.declared.place.Place.TheVariants.{Reg}
use Rattle.hart_model.specs.declared.port.Port.{Port}
use Rattle.hart_model.specs.declared.port.Port.TheVariants.{Take, Give, Out, Tape, TapeLeft, Exit, Fault, Ack, OutLeft}
use Rattle.hart_model.specs.declared.tag.Mode.TheVariants.{User}
use Rattle.hart_model.specs.declared.tag.Tag.{Tag}
use Rattle.hart_model.specs.declared.tag.Tag.TheVariants.{Public}
use Rattle.hart_model.specs.declared.tag.Cell.{Cell}
use Rattle.hart_model.specs.Csrs.{csr_cell, mscratch, mhartid}
use Rattle.hart_model.specs.Traps.{fuel_cause}
use Rattle.hart_model.specs.Context.{ContextState}
use Rattle.hart_model.specs.HartState.{HartState, hart_cell}
use Rattle.hart_model.specs.StepResult.{Wedged}
use Rattle.hart_model.specs.MachineStep.{Target, AtPlace, AtPort, Nowhere, target_of, kernel_word_at, machine_step}

-- the value and the tag of a register
abbrev pub reg_value : HartState → ℕ → ℕ
reg_value h r = (hart_cell h (Reg r)).value

abbrev pub reg_tag : HartState → ℕ → Tag
reg_tag h r = (hart_cell h (Reg r)).tag

-- the conditions of the ports for a load, by what the hart holds
abbrev pub CanLoad : Port → Option ContextState → Type 0
CanLoad Take None = Unit {0}
CanLoad Tape (Some c) = c.body.tape_at < length c.body.tape
CanLoad TapeLeft (Some c) = Unit {0}
CanLoad OutLeft (Some c) = Unit {0}
CanLoad port held = ⊥

-- the codes of ends
abbrev pub IsEndCode : ℕ → Type 0
IsEndCode code = (code < 8) ⊎ (code ≡ 0x100) ⊎ (code ≡ 0x101) ⊎ (code ≡ 0x102) ⊎ (code ≡ fuel_cause)

-- the conditions of the ports for a store of a cell
abbrev pub CanStore : Port → Cell → Option ContextState → Type 0
CanStore Ack cell held = cell.tag ≡ Public
CanStore Give cell (Some c) = (cell.tag ≡ Public) × (((cell.value ≡ 0) × IsNone c.end) ⊎ ((cell.value ≡ 1) × IsSome c.end))
CanStore Out cell (Some c) = length c.body.output < c.body.out_max
CanStore Exit cell (Some c) = IsNone c.end
CanStore Fault cell (Some c) = (cell.tag ≡ Public) × IsNone c.end × IsEndCode cell.value
CanStore port cell held = ⊥

-- a load or a store of what machine mode doesn't reach, of a part of a port, or against the port's condition
abbrev pub LoadFails : HartState → LoadKind → Target → Type 0
LoadFails h kind (AtPlace place) = ⊥
LoadFails h loads.W (AtPort port) = ¬ CanLoad port h.held
LoadFails h kind (AtPort port) = Unit {0}
LoadFails h kind Nowhere = Unit {0}

abbrev pub StoreFails : HartState → StoreKind → Cell → Target → Type 0
StoreFails h kind cell (AtPlace place) = ⊥
StoreFails h stores.W cell (AtPort port) = ¬ CanStore port cell h.held
StoreFails h kind cell (AtPort port) = Unit {0}
StoreFails h kind cell Nowhere = Unit {0}

-- a target of a jump that is no multiple of 4
abbrev pub IsAstray : ℕ → Type 0
IsAstray target = target % 4 ≢ 0

-- A CSR that there isn't; or a write, other than of mscratch, of one that is read only or of a tagged value.
abbrev pub CsrFails : HartState → ℕ → Bool → Tag → Type 0
CsrFails h csr written tag = (csr_cell h.csrs csr ≡ None) ⊎ ((written ≡ true) × (csr ≢ mscratch) × ((csr ≡ mhartid) ⊎ (tag ≢ Public)))

-- An instruction wedges the hart where it would raise an exception: a call of the environment, a breakpoint, a misaligned target of a
-- jump or a taken branch, a misaligned or a refused access, an illegal use of a CSR; where it jumps by a tagged register or puts a
-- tagged value into a CSR; and where it would enter user mode while nothing is held.
abbrev pub Wedges : HartState → Instr → Type 0
Wedges h Ecall = Unit {0}
Wedges h Ebreak = Unit {0}
Wedges h (Jal rd off) = IsAstray (low_word (h.pc + two_complement 32 off))
Wedges h (Jalr rd rs1 imm) = (reg_tag h rs1 ≢ Public) ⊎ IsAstray (address (reg_value h rs1) imm / 2 * 2)
Wedges h (Branch op rs1 rs2 off) = (is_taken op (reg_value h rs1) (reg_value h rs2) ≡ true) × IsAstray (low_word (h.pc + two_complement 32 off))
Wedges h (Load kind rd rs1 imm) =
    (address (reg_value h rs1) imm % load_size kind ≢ 0) ⊎ LoadFails h kind (target_of h.held (address (reg_value h rs1) imm))
Wedges h (Store kind rs2 rs1 imm) =
    (address (reg_value h rs1) imm % store_size kind ≢ 0) ⊎ StoreFails h kind (hart_cell h (Reg rs2)) (target_of h.held (address (reg_value h rs1) imm))
Wedges h (Csr op rd rs1 csr) = CsrFails h csr (is_csr_written op rs1) (reg_tag h rs1)
Wedges h (CsrImm op rd uimm csr) = CsrFails h csr (is_csr_written op uimm) Public
Wedges h Mret = (h.csrs.previous ≡ User) × (h.held ≡ None)
Wedges h instr = ⊥

-- Where there is no word of the kernel's code at the pc, where it is no instruction, and where its instruction wedges.
abbrev pub WedgesAt : List ℕ → HartState → Type 0
WedgesAt code h = MatchOption (kernel_word_at code h.pc) ⊤ (λ word. MatchOption (instr_of word) ⊤ (λ instr. Wedges h instr))

-- A step in machine mode is wedged exactly there.
abbrev pub WedgedExactly : Type 0
WedgedExactly = (code : List ℕ) (h : HartState) → (machine_step code h ≡ Wedged) ↔ WedgesAt code h
