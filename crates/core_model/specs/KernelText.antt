-- The kernel's code as its text: instructions by their mnemonics, with labels as targets (this project's own).
use Rattle.std.specs.Prelude.{ℕ, zero, suc, ◌+◌, ◌*◌, not, pos, List, [], ◌∷◌, ◌++◌, filter, flat_map, ◌==◌}
use Rattle.isa_model.specs.declared.instr.Instr.{Instr}
use Rattle.isa_model.specs.declared.instr.Instr.TheVariants.{Lui, Jal, Load, Store, AluImm, AluReg, Mret, Csr}
use Rattle.isa_model.specs.declared.instr.Cmp.{Cmp}
use Rattle.isa_model.specs.declared.instr.Cmp.TheVariants.{Beq, Blt}
use Rattle.isa_model.specs.declared.instr.Alu.TheVariants.{Add, Mul}
use Rattle.isa_model.specs.declared.instr.LoadKind.TheVariants as loads
use Rattle.isa_model.specs.declared.instr.StoreKind.TheVariants as stores
use Rattle.isa_model.specs.declared.instr.CsrOp.TheVariants.{Rw, Rs}
use Rattle.hart_model.specs.Cells.{zero_address}
use Rattle.hart_model.specs.declared.port.Port.{Port}
use Rattle.hart_model.specs.declared.port.Port.TheVariants as ports
use Rattle.hart_model.specs.Ports.{port_address}
use Rattle.hart_model.specs.Context.{pc_word, bound_word}
use Rattle.hart_model.specs.Csrs.{mscratch, mepc, mcause, pmpaddr0}

-- the places of the text that a jump or a branch may name
pub data Label : Type 0 where
  Entry Interrupt Timer Service DoYield DoExit DoOut OutFull DoIn TapeEnd Finish Ready Take Idle : Label

-- a label, which stands before the next word; an instruction; a branch or a jump to a label; or a word that is given
pub data Line : Type 0 where
  At : (label : Label) → Line
  Does : (instr : Instr) → Line
  Branches : (op : Cmp) (rs1 rs2 : ℕ) (to : Label) → Line
  Jumps : (rd : ℕ) (to : Label) → Line
  Word : (word : ℕ) → Line

-- the registers that the kernel names
abbrev pub x0 : ℕ
x0 = 0

abbrev pub x5 : ℕ
x5 = 5

abbrev pub x6 : ℕ
x6 = 6

abbrev pub x7 : ℕ
x7 = 7

-- the mnemonics, with their operands in the assembler's order: offset(base) is offset, base
abbrev pub mul : ℕ → ℕ → ℕ → Line
mul rd rs1 rs2 = Does (AluReg Mul rd rs1 rs2)

abbrev pub addi : ℕ → ℕ → ℕ → Line
addi rd rs1 imm = Does (AluImm Add rd rs1 (pos imm))

abbrev pub lui : ℕ → ℕ → Line
lui rd imm20 = Does (Lui rd imm20)

abbrev pub lw : ℕ → ℕ → ℕ → Line
lw rd offset base = Does (Load loads.W rd base (pos offset))

abbrev pub sw : ℕ → ℕ → ℕ → Line
sw rs2 offset base = Does (Store stores.W rs2 base (pos offset))

abbrev pub csrrw : ℕ → ℕ → ℕ → Line
csrrw rd csr rs1 = Does (Csr Rw rd rs1 csr)

abbrev pub csrrs : ℕ → ℕ → ℕ → Line
csrrs rd csr rs1 = Does (Csr Rs rd rs1 csr)

abbrev pub mret : Line
mret = Does Mret

abbrev pub beq : ℕ → ℕ → Label → Line
beq rs1 rs2 to = Branches Beq rs1 rs2 to

abbrev pub blt : ℕ → ℕ → Label → Line
blt rs1 rs2 to = Branches Blt rs1 rs2 to

abbrev pub jal : ℕ → Label → Line
jal rd to = Jumps rd to

-- the word of a slot that keeps a register, as an offset from the slot's address; the pc's; and those of the four bounds
abbrev pub saved : ℕ → ℕ
saved register = 4 * register

abbrev pub saved_pc : ℕ
saved_pc = 4 * pc_word

abbrev pub saved_bound : ℕ → ℕ
saved_bound i = 4 * bound_word i

-- a register of the protection, and a device port's address
abbrev pub pmpaddr : ℕ → ℕ
pmpaddr i = pmpaddr0 + i

abbrev pub port : Port → ℕ
port which = port_address which

-- so many numbers from one on
abbrev pub numbers_from : ℕ → ℕ → List ℕ
numbers_from first zero = []
numbers_from first (suc more) = first ∷ numbers_from (first + 1) more

-- x1 to x31, and these without x5, which holds the slot's address
abbrev pub registers : List ℕ
registers = numbers_from 1 31

abbrev pub registers_but_x5 : List ℕ
registers_but_x5 = filter (λ i. not (i == x5)) registers

-- a store of x0 into the word that is always 0 clears the operand ports and the store latch, and a load of that word the load latch
abbrev pub clear_store : Line
clear_store = sw x0 zero_address x0

abbrev pub clear_load : Line
clear_load = lw x0 zero_address x0

-- a register goes to its slot word, which is written 0 before; the register is 0 then
abbrev pub save_register : ℕ → List Line
save_register i = sw x0 (saved i) x5 ∷ sw i (saved i) x5 ∷ addi i x0 0 ∷ []

-- The first instruction clears the ports and the multiplier before x5 is read. x5 is kept in mscratch meanwhile, which has the slot's
-- address again at the end.
abbrev pub save_lines : List Line
save_lines =
    At Entry
    ∷ mul x0 x0 x0
    ∷ csrrw x5 mscratch x5
    ∷ clear_store
    ∷ clear_load
    ∷ []
    ++ flat_map save_register registers_but_x5
    ++ clear_store
    ∷ csrrs x6 mscratch x0
    ∷ sw x0 (saved x5) x5
    ∷ sw x6 (saved x5) x5
    ∷ addi x6 x0 0
    ∷ clear_store
    ∷ csrrw x0 mscratch x5
    ∷ []

-- by the cause: ECALL is a service, an interrupt is negative, and every other one ends the task
abbrev pub cause_lines : List Line
cause_lines =
    csrrs x6 mepc x0
    ∷ sw x6 saved_pc x5
    ∷ csrrs x7 mcause x0
    ∷ addi x6 x0 8
    ∷ beq x7 x6 Service
    ∷ blt x7 x0 Interrupt
    ∷ sw x7 (port ports.Fault) x0
    ∷ jal x0 Finish
    ∷ []

-- the timer gives the task back; used fuel ends it
abbrev pub interrupt_lines : List Line
interrupt_lines =
    At Interrupt
    ∷ lui x6 0x80000
    ∷ addi x6 x6 7
    ∷ beq x7 x6 Timer
    ∷ sw x7 (port ports.Fault) x0
    ∷ jal x0 Finish
    ∷ At Timer
    ∷ sw x0 (port ports.Ack) x0
    ∷ jal x0 Ready
    ∷ []

-- a service goes on after its ECALL, and is told by a7
abbrev pub service_lines : List Line
service_lines =
    At Service
    ∷ lw x6 saved_pc x5
    ∷ addi x6 x6 4
    ∷ sw x6 saved_pc x5
    ∷ lw x6 (saved 17) x5
    ∷ clear_load
    ∷ beq x6 x0 DoExit
    ∷ addi x7 x0 1
    ∷ beq x6 x7 DoOut
    ∷ addi x7 x0 2
    ∷ beq x6 x7 DoIn
    ∷ addi x7 x0 3
    ∷ beq x6 x7 DoYield
    ∷ addi x6 x0 0
    ∷ addi x7 x0 0x102
    ∷ sw x7 (port ports.Fault) x0
    ∷ jal x0 Finish
    ∷ []

-- the services: yield, exit, out and in
abbrev pub yield_lines : List Line
yield_lines =
    At DoYield
    ∷ addi x6 x0 0
    ∷ jal x0 Ready
    ∷ []

abbrev pub exit_lines : List Line
exit_lines =
    At DoExit
    ∷ addi x6 x0 0
    ∷ lw x6 (saved 10) x5
    ∷ sw x6 (port ports.Exit) x0
    ∷ addi x6 x0 0
    ∷ clear_store
    ∷ clear_load
    ∷ jal x0 Finish
    ∷ []

abbrev pub out_lines : List Line
out_lines =
    At DoOut
    ∷ addi x6 x0 0
    ∷ lw x6 (port ports.OutLeft) x0
    ∷ beq x6 x0 OutFull
    ∷ lw x6 (saved 10) x5
    ∷ sw x6 (port ports.Out) x0
    ∷ addi x6 x0 0
    ∷ clear_store
    ∷ clear_load
    ∷ jal x0 Ready
    ∷ At OutFull
    ∷ addi x7 x0 0x101
    ∷ sw x7 (port ports.Fault) x0
    ∷ jal x0 Finish
    ∷ []

abbrev pub in_lines : List Line
in_lines =
    At DoIn
    ∷ addi x6 x0 0
    ∷ lw x6 (port ports.TapeLeft) x0
    ∷ beq x6 x0 TapeEnd
    ∷ sw x0 (saved 10) x5
    ∷ lw x6 (port ports.Tape) x0
    ∷ sw x6 (saved 10) x5
    ∷ addi x6 x0 0
    ∷ clear_store
    ∷ clear_load
    ∷ jal x0 Ready
    ∷ At TapeEnd
    ∷ addi x7 x0 0x100
    ∷ sw x7 (port ports.Fault) x0
    ∷ jal x0 Finish
    ∷ []

-- an ended task is given back with its slot scrubbed
abbrev pub finish_lines : List Line
finish_lines =
    At Finish
    ∷ []
    ++ flat_map (λ i. sw x0 (saved i) x5 ∷ []) registers
    ++ addi x6 x0 1
    ∷ sw x6 (port ports.Give) x0
    ∷ jal x0 Take
    ∷ []

-- a task that goes on later is given back as it is
abbrev pub ready_lines : List Line
ready_lines =
    At Ready
    ∷ sw x0 (port ports.Give) x0
    ∷ []

-- the next context: its slot's address goes to mscratch, its bounds to the protection, its pc to mepc
abbrev pub take_lines : List Line
take_lines =
    At Take
    ∷ lw x5 (port ports.Take) x0
    ∷ beq x5 x0 Idle
    ∷ csrrw x0 mscratch x5
    ∷ lw x6 (saved_bound 0) x5
    ∷ csrrw x0 (pmpaddr 0) x6
    ∷ lw x6 (saved_bound 1) x5
    ∷ csrrw x0 (pmpaddr 1) x6
    ∷ lw x6 (saved_bound 2) x5
    ∷ csrrw x0 (pmpaddr 2) x6
    ∷ lw x6 (saved_bound 3) x5
    ∷ csrrw x0 (pmpaddr 3) x6
    ∷ lw x6 saved_pc x5
    ∷ csrrw x0 mepc x6
    ∷ []

-- all of this stands between the save part and the restore part
abbrev pub middle_lines : List Line
middle_lines =
    cause_lines
    ++ interrupt_lines
    ++ service_lines
    ++ yield_lines
    ++ exit_lines
    ++ out_lines
    ++ in_lines
    ++ finish_lines
    ++ ready_lines
    ++ take_lines

-- each register from its slot word; x5 is the last
abbrev pub restore_lines : List Line
restore_lines =
    flat_map (λ i. lw i (saved i) x5 ∷ clear_load ∷ []) registers_but_x5
    ++ lw x5 (saved x5) x5
    ∷ clear_load
    ∷ []

-- the return to the task, and the loop of a hart whose take was empty
abbrev pub last_lines : List Line
last_lines =
    mret
    ∷ At Idle
    ∷ jal x0 Idle
    ∷ []

-- the whole text
abbrev pub kernel_lines : List Line
kernel_lines = save_lines ++ middle_lines ++ restore_lines ++ last_lines

-- For demonstration alone: a kernel whose save clears nothing, and then loops.
abbrev pub naive_lines : List Line
naive_lines =
    At Entry
    ∷ csrrw x5 mscratch x5
    ∷ []
    ++ flat_map (λ i. sw i (saved i) x5 ∷ []) registers_but_x5
    ++ Does (Jal x0 (pos 0))
    ∷ []
    ++ take_lines
    ++ restore_lines
    ++ last_lines
