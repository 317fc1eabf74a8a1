-- Rows of the effect table, computed.
use Rattle.std.proofs.Common.{◌≡◌, refl, [], ◌∷◌, Some, None, pos, negsuc}
use Rattle.isa_model.specs.declared.instr.Instr.TheVariants.{Jal, Jalr, Branch, Load, Store, AluImm, AluReg, Csr, CsrImm}
use Rattle.isa_model.specs.declared.instr.LoadKind.TheVariants as loads
use Rattle.isa_model.specs.declared.instr.StoreKind.TheVariants as stores
use Rattle.isa_model.specs.declared.instr.Alu.TheVariants.{Add, And, Mul}
use Rattle.isa_model.specs.declared.instr.Cmp.TheVariants.{Beq, Bne}
use Rattle.isa_model.specs.declared.instr.CsrOp.TheVariants.{Rw, Rs, Rc}
use Rattle.isa_model.specs.declared.latch.Latch.TheVariants as latches
use Rattle.isa_model.specs.Effect.{effect_of, Operands, Moved, Mixed, Rs1, Rs2, Word, OldCsr, Goes, Raises}

abbrev o : Operands
o = record { rs1 = 0x108000; rs2 = 0x1ff; word = Some 0x80a0b0c0; old_csr = 7 }

abbrev refused : Operands
refused = record { rs1 = 0x108000; rs2 = 0x1ff; word = None; old_csr = 7 }

and_of_two : (effect_of (AluReg And 3 1 2) 0x100000 o).writes ≡
    record { to = latches.PortA; value = 0x108000; flow = Moved Rs1 }
    ∷ record { to = latches.PortB; value = 0x1ff; flow = Moved Rs2 }
    ∷ record { to = latches.Res; value = 0; flow = Mixed (Rs1 ∷ Rs2 ∷ []) }
    ∷ record { to = latches.Reg 3; value = 0; flow = Mixed (Rs1 ∷ Rs2 ∷ []) } ∷ []
and_of_two = refl

product_of_two : (effect_of (AluReg Mul 3 1 2) 0x100000 o).writes ≡
    record { to = latches.PortA; value = 0x108000; flow = Moved Rs1 }
    ∷ record { to = latches.PortB; value = 0x1ff; flow = Moved Rs2 }
    ∷ record { to = latches.Mul; value = 0x20ef8000; flow = Mixed (Rs1 ∷ Rs2 ∷ []) }
    ∷ record { to = latches.Res; value = 0x20ef8000; flow = Mixed (Rs1 ∷ Rs2 ∷ []) }
    ∷ record { to = latches.Reg 3; value = 0x20ef8000; flow = Mixed (Rs1 ∷ Rs2 ∷ []) } ∷ []
product_of_two = refl

sum_wraps : (effect_of (AluImm Add 0 1 (negsuc 0x108001)) 0xfffffffc o) ≡ record {
  writes = record { to = latches.PortA; value = 0x108000; flow = Moved Rs1 }
      ∷ record { to = latches.Res; value = 0xfffffffe; flow = Mixed (Rs1 ∷ []) } ∷ [];
  csr = None;
  next = Goes 0;
}
sum_wraps = refl

byte_store : (effect_of (Store stores.B 2 1 (pos 1)) 0x100000 o).writes ≡
    record { to = latches.PortA; value = 0x108000; flow = Moved Rs1 }
    ∷ record { to = latches.PortB; value = 0x1ff; flow = Moved Rs2 }
    ∷ record { to = latches.Res; value = 0x108001; flow = Mixed (Rs1 ∷ []) }
    ∷ record { to = latches.Store; value = 0x1ff; flow = Moved Rs2 }
    ∷ record { to = latches.Mem 0x108000; value = 0x80a0ffc0; flow = Mixed (Word ∷ Rs2 ∷ []) } ∷ []
byte_store = refl

byte_load_to_zero : (effect_of (Load loads.B 0 1 (pos 3)) 0 o).writes ≡
    record { to = latches.PortA; value = 0x108000; flow = Moved Rs1 }
    ∷ record { to = latches.Res; value = 0x108003; flow = Mixed (Rs1 ∷ []) }
    ∷ record { to = latches.Load; value = 0x80a0b0c0; flow = Moved Word } ∷ []
byte_load_to_zero = refl

-- a refused access keeps its ports and Res
refused_store : effect_of (Store stores.W 2 1 (pos 4)) 0x100000 refused ≡ record {
  writes = record { to = latches.PortA; value = 0x108000; flow = Moved Rs1 }
      ∷ record { to = latches.PortB; value = 0x1ff; flow = Moved Rs2 }
      ∷ record { to = latches.Res; value = 0x108004; flow = Mixed (Rs1 ∷ []) } ∷ [];
  csr = None;
  next = Raises 7;
}
refused_store = refl

-- misalignment comes before a refused access
misaligned_load : (effect_of (Load loads.W 2 1 (pos 2)) 0x100000 refused).next ≡ Raises 4
misaligned_load = refl

-- a jump to an address that is no multiple of 4 writes its port alone
odd_target : effect_of (Jalr 2 1 (pos 6)) 0x100004 o ≡ record { writes = record { to = latches.PortA; value = 0x108000; flow = Moved Rs1 } ∷ []; csr = None; next = Raises 0 }
odd_target = refl

bit_zero_cleared : (effect_of (Jalr 2 1 (pos 9)) 0x100004 o).next ≡ Goes 0x108008
bit_zero_cleared = refl

jump_back : (effect_of (Jal 0 (negsuc 3)) 0x100004 o).next ≡ Goes 0x100000
jump_back = refl

not_taken_to_an_odd_target : (effect_of (Branch Beq 1 2 (pos 6)) 0x100004 o).next ≡ Goes 0x100008
not_taken_to_an_odd_target = refl

taken_to_an_odd_target : (effect_of (Branch Bne 1 2 (pos 6)) 0x100004 o).next ≡ Raises 0
taken_to_an_odd_target = refl

scratch_write : (effect_of (Csr Rw 0 5 0x340) 0 o).writes ≡
    record { to = latches.PortA; value = 0x108000; flow = Moved Rs1 }
    ∷ record { to = latches.Scr; value = 0x108000; flow = Moved Rs1 } ∷ []
scratch_write = refl

scratch_read : (effect_of (Csr Rs 6 0 0x340) 0 o).writes ≡
    record { to = latches.PortA; value = 0x108000; flow = Moved Rs1 }
    ∷ record { to = latches.Res; value = 7; flow = Moved OldCsr }
    ∷ record { to = latches.Reg 6; value = 7; flow = Moved OldCsr } ∷ []
scratch_read = refl

clear_of_bits : (effect_of (CsrImm Rc 0 3 0x304) 0 o).csr ≡ Some (record { csr = 0x304; value = 4; flow = Mixed (OldCsr ∷ []) })
clear_of_bits = refl
