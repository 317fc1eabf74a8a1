-- What contracts see of an effect in code: each part is the value of the definitions that it stands for (this project's own).
use Rattle.std.specs.Prelude.{ℕ, List, [], ◌∷◌, ◌++◌, Option, None, Some}
use Rattle.isa_model.specs.Effect.{Operand, Rs1, Rs2, Word, OldCsr, Flow, Constant, Moved, Mixed, Write, to, to_reg, CsrWrite, Next, Goes, Raises, Calls, Returns, Operands}
use Rattle.rv_effect.specs.declared.flow.Operand.{Operand as CodeOperand}
use Rattle.rv_effect.specs.declared.flow.Operand.TheVariants as code_operands
use Rattle.rv_effect.specs.declared.flow.Flow.{Flow as CodeFlow}
use Rattle.rv_effect.specs.declared.flow.Flow.TheVariants as code_flows
use Rattle.isa_model.specs.declared.latch.Latch.{Latch}
use Rattle.isa_model.specs.declared.latch.Latch.TheVariants as latches
use Rattle.isa_model.specs.Bits.{word_address}
use Rattle.rv_effect.specs.declared.writes.Traced.{Traced}
use Rattle.rv_effect.specs.declared.writes.RegisterWrite.{RegisterWrite}
use Rattle.rv_effect.specs.declared.writes.UnitWrite.{UnitWrite}
use Rattle.rv_effect.specs.declared.writes.UnitWrite.TheVariants.{Nothing, Multiplies, Loads, Stores, Scratches}
use Rattle.rv_effect.specs.declared.writes.Writes.{Writes as CodeWrites}
use Rattle.rv_effect.specs.declared.effect.CsrWrite.{CsrWrite as CodeCsrWrite}
use Rattle.rv_effect.specs.declared.effect.Next.{Next as CodeNext}
use Rattle.rv_effect.specs.declared.effect.Next.TheVariants as code_next
use Rattle.rv_effect.specs.declared.effect.Operands.{Operands as CodeOperands}

abbrev pub operand_of : CodeOperand → Operand
operand_of code_operands.Rs1 = Rs1
operand_of code_operands.Rs2 = Rs2
operand_of code_operands.Word = Word
operand_of code_operands.OldCsr = OldCsr

abbrev pub flow_of : CodeFlow → Flow
flow_of code_flows.Constant = Constant
flow_of (code_flows.Moved from) = Moved (operand_of from)
flow_of (code_flows.Computed from) = Mixed (operand_of from ∷ [])
flow_of (code_flows.Combined first second) = Mixed (operand_of first ∷ operand_of second ∷ [])

-- the write of a port, if it is written
abbrev pub port_write : Latch → Flow → Option ℕ → List Write
port_write port flow None = []
port_write port flow (Some value) = to port value flow

abbrev pub res_write : Option Traced → List Write
res_write None = []
res_write (Some v) = to latches.Res v.value (flow_of v.flow)

-- what a unit writes before the result, and what after it
abbrev pub before_res : UnitWrite → List Write
before_res (Multiplies value) = to latches.Mul value (Mixed (Rs1 ∷ Rs2 ∷ []))
before_res other = []

abbrev pub after_res : UnitWrite → List Write
after_res Nothing = []
after_res (Multiplies value) = []
after_res (Loads word) = to latches.Load word (Moved Word)
after_res (Stores value at word) = to latches.Store value (Moved Rs2) ++ to (latches.Mem (word_address at)) word.value (flow_of word.flow)
after_res (Scratches v) = to latches.Scr v.value (flow_of v.flow)

abbrev pub register_write : Option RegisterWrite → List Write
register_write None = []
register_write (Some w) = to_reg w.rd w.value.value (flow_of w.value.flow)

-- the writes in order
abbrev pub writes_of : CodeWrites → List Write
writes_of w =
    port_write latches.PortA (Moved Rs1) w.port_a ++ (port_write latches.PortB (Moved Rs2) w.port_b
    ++ (before_res w.unit ++ (res_write w.res ++ (after_res w.unit ++ register_write w.register))))

abbrev pub csr_write_of : CodeCsrWrite → CsrWrite
csr_write_of w = record { csr = w.csr; value = w.value; flow = flow_of w.flow }

abbrev pub optional_csr_write_of : Option CodeCsrWrite → Option CsrWrite
optional_csr_write_of None = None
optional_csr_write_of (Some w) = Some (csr_write_of w)

abbrev pub next_of : CodeNext → Next
next_of (code_next.Goes pc) = Goes pc
next_of (code_next.Raises cause) = Raises cause
next_of code_next.Calls = Calls
next_of code_next.Returns = Returns

abbrev pub operands_of : CodeOperands → Operands
operands_of v = record { rs1 = v.rs1; rs2 = v.rs2; word = v.word; old_csr = v.old_csr }
