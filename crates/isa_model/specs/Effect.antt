-- What one instruction does: the latches that it writes, in order, each with its value and with what flows into it; the CSR
-- that it writes; and what follows. One row a form. The behaviour is that of the unprivileged manual (RV32I, M and Zicsr); which
-- latches are written, and in which order, is this project's own. Privilege is checked before.
use Rattle.std.specs.Prelude.{◌≡◌, ℕ, ◌+◌, ◌*◌, ◌/◌, ◌%◌, ◌^◌, Bool, true, false, ◌&&◌, not, List, [], ◌∷◌, ◌++◌, Option, None, Some, ℤ, ◌==◌, if◌then◌else◌}
use Rattle.std.specs.List.{list_any}
use Rattle.isa_model.specs.declared.instr.Instr.{Instr}
use Rattle.isa_model.specs.declared.instr.Instr.TheVariants.{Lui, Auipc, Jal, Jalr, Branch, Load, Store, AluImm, AluReg, Fence, Ecall, Ebreak, Mret, Csr, CsrImm}
use Rattle.isa_model.specs.declared.instr.Alu.{Alu}
use Rattle.isa_model.specs.declared.instr.Alu.TheVariants.{Mul, Mulh, Mulhsu, Mulhu, Div, Divu, Rem, Remu}
use Rattle.isa_model.specs.declared.instr.LoadKind.{LoadKind}
use Rattle.isa_model.specs.declared.instr.LoadKind.TheVariants as loads
use Rattle.isa_model.specs.declared.instr.StoreKind.{StoreKind}
use Rattle.isa_model.specs.declared.instr.StoreKind.TheVariants as stores
use Rattle.isa_model.specs.declared.instr.CsrOp.{CsrOp}
use Rattle.isa_model.specs.declared.instr.CsrOp.TheVariants.{Rw}
use Rattle.isa_model.specs.declared.latch.Latch.{Latch}
use Rattle.isa_model.specs.declared.latch.Latch.TheVariants as latches
use Rattle.isa_model.specs.Bits.{low_word, two_complement, word_address}
use Rattle.isa_model.specs.Arithmetic.{alu_of, is_taken, load_size, store_size, load_result, store_result, csr_result}
use Rattle.isa_model.specs.LatchOrder.{same_latch}

-- the value of rs1, the value of rs2, the memory word, the old value of the CSR
pub data Operand : Type 0 where
  Rs1 Rs2 Word OldCsr : Operand

-- where a value comes from: from no operand; it is an operand; it is computed from operands
pub data Flow : Type 0 where
  Constant : Flow
  Moved : (from : Operand) → Flow
  Mixed : (from : List Operand) → Flow

pub record Write : Type 0 where
  pub to : Latch
  pub value : ℕ
  pub flow : Flow

-- the next pc, an exception by its cause, a call of the environment, or the return from a trap
pub data Next : Type 0 where
  Goes : (pc : ℕ) → Next
  Raises : (cause : ℕ) → Next
  Calls : Next
  Returns : Next

-- it goes on at a multiple of 4, if it goes on
abbrev pub GoesAligned : Next → Type 0
GoesAligned (Goes pc) = pc % 4 ≡ 0
GoesAligned (Raises cause) = Unit {0}
GoesAligned Calls = Unit {0}
GoesAligned Returns = Unit {0}

pub record CsrWrite : Type 0 where
  pub csr : ℕ
  pub value : ℕ
  pub flow : Flow

pub record Effect : Type 0 where
  pub writes : List Write
  pub csr : Option CsrWrite
  pub next : Next

-- The values of the operands. The memory word is the aligned word that the access lies in, and None where the access is refused.
pub record Operands : Type 0 where
  pub rs1 : ℕ
  pub rs2 : ℕ
  pub word : Option ℕ
  pub old_csr : ℕ

abbrev pub to : Latch → ℕ → Flow → List Write
to latch value flow = record { to = latch; value = value; flow = flow } ∷ []

-- x0 isn't written
abbrev pub to_reg : ℕ → ℕ → Flow → List Write
to_reg rd value flow = if rd == 0 then [] else to (latches.Reg rd) value flow

abbrev pub port_a : Operands → List Write
port_a o = to latches.PortA o.rs1 (Moved Rs1)

abbrev pub ports : Operands → List Write
ports o = port_a o ++ to latches.PortB o.rs2 (Moved Rs2)

-- Res and rd
abbrev pub result : ℕ → ℕ → Flow → List Write
result rd value flow = to latches.Res value flow ++ to_reg rd value flow

-- the operations of the multiplier, which divides too
abbrev pub is_of_multiplier : Alu → Bool
is_of_multiplier Mul = true
is_of_multiplier Mulh = true
is_of_multiplier Mulhsu = true
is_of_multiplier Mulhu = true
is_of_multiplier Div = true
is_of_multiplier Divu = true
is_of_multiplier Rem = true
is_of_multiplier Remu = true
is_of_multiplier _ = false

-- the multiplier has a latch of its own, from which its result goes to Res
abbrev pub multiplier : Alu → ℕ → Flow → List Write
multiplier op value flow = if is_of_multiplier op then to latches.Mul value flow else []

abbrev pub does : List Write → Next → Effect
does writes next = record { writes = writes; csr = None; next = next }

-- a jump to an address, with the writes before the check of the address and those after it
abbrev pub jump : List Write → List Write → ℕ → Effect
jump before after target = if target % 4 == 0 then does (before ++ after) (Goes target) else does before (Raises 0)

abbrev pub loaded_flow : LoadKind → Flow
loaded_flow loads.W = Moved Word
loaded_flow _ = Mixed (Word ∷ [])

abbrev pub stored_flow : StoreKind → Flow
stored_flow stores.W = Moved Rs2
stored_flow _ = Mixed (Word ∷ Rs2 ∷ [])

abbrev pub load_word : LoadKind → ℕ → ℕ → ℕ → List Write → Option ℕ → Effect
load_word kind rd pc at early_writes None = does early_writes (Raises 5)
load_word kind rd pc at early_writes (Some word) =
    does (early_writes ++ to latches.Load word (Moved Word) ++ to_reg rd (load_result kind word at) (loaded_flow kind)) (Goes (low_word (pc + 4)))

abbrev pub store_word : StoreKind → ℕ → ℕ → ℕ → List Write → Option ℕ → Effect
store_word kind value pc at early_writes None = does early_writes (Raises 7)
store_word kind value pc at early_writes (Some word) =
    does (early_writes ++ to latches.Store value (Moved Rs2) ++ to (latches.Mem (word_address at)) (store_result kind word at value) (stored_flow kind)) (Goes (low_word (pc + 4)))

abbrev pub csr_flow : CsrOp → List Operand → Flow → Flow
csr_flow Rw from flow = flow
csr_flow _ from flow = Mixed (OldCsr ∷ from)

-- Rs and Rc whose operand is x0 or the immediate 0 don't write
abbrev pub is_csr_written : CsrOp → ℕ → Bool
is_csr_written Rw number = true
is_csr_written _ number = not (number == 0)

-- mscratch is the latch Scr
abbrev pub is_mscratch : ℕ → Bool
is_mscratch csr = csr == 0x340

-- Res and rd take the old value; Rw with rd x0 doesn't read
abbrev pub csr_effect : List Write → ℕ → ℕ → ℕ → ℕ → Bool → ℕ → Flow → Effect
csr_effect early_writes rd csr pc old written new flow = record {
  writes = early_writes
      ++ (if rd == 0 then [] else to latches.Res old (Moved OldCsr))
      ++ (if written && is_mscratch csr then to latches.Scr new flow else [])
      ++ to_reg rd old (Moved OldCsr);
  csr = if written && not (is_mscratch csr) then Some (record { csr = csr; value = new; flow = flow }) else None;
  next = Goes (low_word (pc + 4));
}

-- the address of a load, a store or an indirect jump
abbrev pub address : ℕ → ℤ → ℕ
address rs1 imm = low_word (rs1 + two_complement 32 imm)

-- The effect of an instruction at pc by its operands.
abbrev pub effect_of : Instr → ℕ → Operands → Effect
effect_of (Lui rd imm20) pc o = does (result rd (2 ^ 12 * imm20) Constant) (Goes (low_word (pc + 4)))
effect_of (Auipc rd imm20) pc o = does (result rd (low_word (pc + 2 ^ 12 * imm20)) Constant) (Goes (low_word (pc + 4)))
effect_of (Jal rd off) pc o = jump [] (result rd (low_word (pc + 4)) Constant) (low_word (pc + two_complement 32 off))
effect_of (Jalr rd rs1 imm) pc o = jump (port_a o) (result rd (low_word (pc + 4)) Constant) (address o.rs1 imm / 2 * 2)
effect_of (Branch op rs1 rs2 off) pc o =
    if is_taken op o.rs1 o.rs2 then jump (ports o) [] (low_word (pc + two_complement 32 off)) else does (ports o) (Goes (low_word (pc + 4)))
effect_of (Load kind rd rs1 imm) pc o =
    let early_writes = port_a o ++ to latches.Res (address o.rs1 imm) (Mixed (Rs1 ∷ [])) in
    if address o.rs1 imm % load_size kind == 0 then load_word kind rd pc (address o.rs1 imm) early_writes o.word else does early_writes (Raises 4)
effect_of (Store kind rs2 rs1 imm) pc o =
    let early_writes = ports o ++ to latches.Res (address o.rs1 imm) (Mixed (Rs1 ∷ [])) in
    if address o.rs1 imm % store_size kind == 0 then store_word kind o.rs2 pc (address o.rs1 imm) early_writes o.word else does early_writes (Raises 6)
effect_of (AluImm op rd rs1 imm) pc o =
    does (port_a o ++ result rd (alu_of op o.rs1 (two_complement 32 imm)) (Mixed (Rs1 ∷ []))) (Goes (low_word (pc + 4)))
effect_of (AluReg op rd rs1 rs2) pc o =
    let value = alu_of op o.rs1 o.rs2 in
    let flow = Mixed (Rs1 ∷ Rs2 ∷ []) in
    does (ports o ++ multiplier op value flow ++ result rd value flow) (Goes (low_word (pc + 4)))
effect_of (Fence word) pc o = does [] (Goes (low_word (pc + 4)))
effect_of Ecall pc o = does [] Calls
effect_of Ebreak pc o = does [] (Raises 3)
effect_of Mret pc o = does [] Returns
effect_of (Csr op rd rs1 csr) pc o =
    csr_effect (port_a o) rd csr pc o.old_csr (is_csr_written op rs1) (csr_result op o.old_csr o.rs1) (csr_flow op (Rs1 ∷ []) (Moved Rs1))
effect_of (CsrImm op rd uimm csr) pc o =
    csr_effect [] rd csr pc o.old_csr (is_csr_written op uimm) (csr_result op o.old_csr uimm) (csr_flow op [] Constant)

-- whether a latch stands at most once in a list of writes
abbrev pub has_no_repetition : List Write → Bool
has_no_repetition [] = true
has_no_repetition (w ∷ ws) = not (list_any (λ v. same_latch v.to w.to) ws) && has_no_repetition ws
