-- The fields of an instruction, each in its range whatever the instruction is.
use Rattle.std.specs.Prelude.{ℕ, ◌^◌, ◌<◌, pos}
use Rattle.isa_model.specs.Bits.{IsInBits}
use Rattle.isa_model.specs.Encoding.{IsEven}
use Rattle.asm_line.specs.declared.fields.Fields.{Fields}
use Rattle.asm_line.specs.declared.fields.Target.{Target}
use Rattle.asm_line.specs.declared.fields.Target.TheVariants.{Distance, Label}

-- the fields before any operand
abbrev pub no_fields : Fields
no_fields = record {
  rd = 0;
  rs1 = 0;
  rs2 = 0;
  imm12 = pos 0;
  imm20 = 0;
  shamt = 0;
  uimm = 0;
  csr = 0;
  jump = Distance (pos 0);
  branch = Distance (pos 0);
  number = 0;
}

-- an even distance of so many bits and a sign, or any label
abbrev pub IsTargetIn : ℕ → Target → Type 0
IsTargetIn below (Distance off) = IsInBits below off × IsEven off
IsTargetIn below (Label name) = Unit {0}

pub record AreInRange (f : Fields) : Type 0 where
  pub rd : f.rd < 32
  pub rs1 : f.rs1 < 32
  pub rs2 : f.rs2 < 32
  pub imm12 : IsInBits 11 f.imm12
  pub imm20 : f.imm20 < 2 ^ 20
  pub shamt : f.shamt < 32
  pub uimm : f.uimm < 32
  pub csr : f.csr < 2 ^ 12
  pub jump : IsTargetIn 20 f.jump
  pub branch : IsTargetIn 12 f.branch
  pub number : f.number < 2 ^ 32
