-- The kernel's save part and restore part, followed over abstract cells.
use Rattle.std.proofs.Common.{◌≡◌, refl, ℕ, zero, suc, ◌+◌, Bool, ◌&&◌, nat_le, List, [], ◌∷◌, ◌++◌, replicate, drop, take, Some, None, option_map}
use Rattle.core_model.specs.KernelWords.{save_words, restore_words}
use Rattle.symbolic_run.specs.AbstractCell.{AbstractCell, Zero, SlotAddress, PublicAny, PublicNumber, TaskReg, OldSlotWord, AnyTagged, AbstractState}
use Rattle.symbolic_run.specs.AbstractRun.{run_of}

abbrev numbered : (ℕ → AbstractCell) → ℕ → ℕ → List AbstractCell
numbered cell first zero = []
numbered cell first (suc more) = cell first ∷ numbered cell (first + 1) more

-- the words that keep registers
abbrev registers : ℕ → Bool
registers index = nat_le 1 index && nat_le index 31

-- a task was interrupted: its registers are its own, ports may have anything of it, and Scr has the slot's address
abbrev at_save : AbstractState
at_save = record {
  regs = AnyTagged ∷ numbered TaskReg 1 31;
  port_a = AnyTagged;
  port_b = AnyTagged;
  res = AnyTagged;
  load = AnyTagged;
  store = AnyTagged;
  scr = SlotAddress;
  mul = AnyTagged;
  zero = Zero;
  slot = PublicAny ∷ numbered OldSlotWord 1 31 ++ replicate 4 PublicAny;
  data_words = [];
}

-- then each register stands in its word of the slot, no latch is tagged, and x5 and Scr have the slot's address
abbrev after_save : AbstractState
after_save = record {
  regs = AnyTagged ∷ replicate 4 Zero ++ SlotAddress ∷ replicate 26 Zero;
  port_a = SlotAddress;
  port_b = Zero;
  res = PublicNumber 0x100;
  load = Zero;
  store = Zero;
  scr = SlotAddress;
  mul = Zero;
  zero = Zero;
  slot = PublicAny ∷ numbered TaskReg 1 31 ++ replicate 4 PublicAny;
  data_words = [];
}

save_part : run_of registers save_words at_save ≡ Some after_save
save_part = refl

-- nothing of a task is in the hart, and its registers stand in the slot, whose address is in x5 and Scr
abbrev at_restore : AbstractState
at_restore = record {
  regs = AnyTagged ∷ replicate 4 PublicAny ++ SlotAddress ∷ replicate 26 PublicAny;
  port_a = PublicAny;
  port_b = PublicAny;
  res = PublicAny;
  load = PublicAny;
  store = PublicAny;
  scr = SlotAddress;
  mul = PublicAny;
  zero = Zero;
  slot = PublicAny ∷ numbered TaskReg 1 31 ++ replicate 4 PublicAny;
  data_words = [];
}

-- then each register has what its word of the slot has, which is as before, and no other latch is tagged
abbrev after_restore : AbstractState
after_restore = record at_restore {
  regs = AnyTagged ∷ numbered TaskReg 1 31;
  port_a = Zero;
  res = PublicNumber 0x100;
  load = Zero;
}

restore_part : run_of registers restore_words at_restore ≡ Some after_restore
restore_part = refl

-- Without the first word x5 of the task would meet, in PortA, what stood there; without the write of 0 before x1 is stored, x1 would
-- meet the old word of the slot.
without_clearing_ports : run_of registers (drop 1 save_words) at_save ≡ None
without_clearing_ports = refl

without_clearing_word : run_of registers (take 4 save_words ++ drop 5 save_words) at_save ≡ None
without_clearing_word = refl

-- without the last load of the word that is always 0, x5 of the task stays in Load
without_clearing_load : option_map (λ a. a.load) (run_of registers (take 61 restore_words) at_restore) ≡ Some (TaskReg 5)
without_clearing_load = refl

-- a word of the slot that the caller doesn't allow isn't reached: lw x6,0(x5) and sw x0,128(x5)
unreached_pc : run_of registers (0x0002a303 ∷ []) at_restore ≡ None
unreached_pc = refl

unreached_bound : run_of registers (0x0802a023 ∷ []) at_restore ≡ None
unreached_bound = refl

-- the word that is always 0 takes no other: lui x6,0; sw x6,0x100(x0)
unknown_zero : run_of registers (0x00000337 ∷ 0x10602023 ∷ []) at_restore ≡ None
unknown_zero = refl

-- the registers x1 to x4 are the task's, the slot's address is known, and no port has anything of a task
abbrev at_store : AbstractState
at_store = record at_save {
  regs = AnyTagged ∷ numbered TaskReg 1 4 ++ SlotAddress ∷ replicate 26 Zero;
  port_a = Zero;
  port_b = Zero;
  res = Zero;
  load = Zero;
  store = Zero;
  mul = Zero;
}

-- nothing is computed of a register of the task, and none is an address: addi x1,x1,0 and lw x6,0(x1)
computed_of_task : run_of registers (0x00008093 ∷ []) at_store ≡ None
computed_of_task = refl

address_of_task : run_of registers (0x0000a303 ∷ []) at_store ≡ None
address_of_task = refl

-- a register of the task doesn't go over an old word of the slot: sw x1,4(x5)
store_over_old : run_of registers (0x0012a223 ∷ []) at_store ≡ None
store_over_old = refl

-- but over a public one: sw x1,0(x5), where the caller allows word 0
store_over_public : option_map (λ a. a.store) (run_of (λ index. nat_le index 31) (0x0012a023 ∷ []) at_store) ≡ Some (TaskReg 1)
store_over_public = refl

-- bytes aren't stored, and there is no branch: sb x0,4(x5) and beq x0,x0,0
no_bytes : run_of registers (0x00028223 ∷ []) at_restore ≡ None
no_bytes = refl

no_branch : run_of registers (0x00000063 ∷ []) at_restore ≡ None
no_branch = refl
