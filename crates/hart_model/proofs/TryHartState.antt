-- Harts, their cells by place and by latch, and writes, computed.
use Rattle.std.proofs.Common.{◌≡◌, refl, true, [], ◌∷◌, Some, None}
use Rattle.isa_model.specs.declared.latch.Latch.TheVariants as latches
use Rattle.hart_model.specs.declared.place.Place.TheVariants.{Reg, Res, Scr, SlotWord, DataWord}
use Rattle.hart_model.specs.declared.tag.Tag.TheVariants.{Of}
use Rattle.hart_model.specs.declared.tag.Mode.TheVariants.{Machine}
use Rattle.hart_model.specs.declared.tag.Cell.{Cell}
use Rattle.hart_model.specs.declared.probe.Why.TheVariants as whys
use Rattle.hart_model.specs.declared.probe.Side.TheVariants.{Now}
use Rattle.hart_model.specs.Cells.{blank}
use Rattle.hart_model.specs.Csrs.{public}
use Rattle.hart_model.specs.HartState.{boot_hart, tick_of, hart_cell, latch_cell, hart_with_cell}
use Rattle.hart_model.specs.Writes.{after_writes}
use Rattle.hart_model.proofs.SmallTask.{machine_hart, empty_hart}

abbrev tagged : Cell
tagged = record { value = 9; tag = Of 3 1 (latches.Reg 5) }

at_boot : latch_cell (boot_hart 7 0x1324) (latches.Reg 31) ≡ Some blank
at_boot = refl

mode_at_boot : (boot_hart 7 0x1324).csrs.mode ≡ Machine
mode_at_boot = refl

ticked : (tick_of empty_hart).csrs.is_timer_pending ≡ true
ticked = refl

-- each place keeps its own cell
register : hart_cell (hart_with_cell empty_hart (Reg 5) tagged) (Reg 5) ≡ tagged
register = refl

another_register : hart_cell (hart_with_cell empty_hart (Reg 5) tagged) (Reg 6) ≡ blank
another_register = refl

x0_stays : hart_cell (hart_with_cell empty_hart (Reg 0) tagged) (Reg 0) ≡ blank
x0_stays = refl

scratch : latch_cell (hart_with_cell empty_hart Scr tagged) latches.Scr ≡ Some tagged
scratch = refl

scratch_is_the_csr : (hart_with_cell empty_hart Scr tagged).csrs.mscratch ≡ tagged
scratch_is_the_csr = refl

-- by latch: the slot is number 2, at 0x340, and the data word stands at 0x108000
zero_word : latch_cell empty_hart (latches.Mem 0x100) ≡ Some blank
zero_word = refl

slot_word : latch_cell (hart_with_cell machine_hart (SlotWord 17) tagged) (latches.Mem 0x384) ≡ Some tagged
slot_word = refl

word_after_slot : latch_cell machine_hart (latches.Mem 0x3d0) ≡ None
word_after_slot = refl

slot_of_another : latch_cell machine_hart (latches.Mem 0x200) ≡ None
slot_of_another = refl

data_word : latch_cell (hart_with_cell machine_hart (DataWord 0) tagged) (latches.Mem 0x108000) ≡ Some tagged
data_word = refl

word_after_data : latch_cell machine_hart (latches.Mem 0x108004) ≡ None
word_after_data = refl

code_is_no_latch : latch_cell machine_hart (latches.Mem 0x100000) ≡ None
code_is_no_latch = refl

port_is_no_latch : latch_cell machine_hart (latches.Mem 0x700) ≡ None
port_is_no_latch = refl

slot_word_without_context : latch_cell empty_hart (latches.Mem 0x340) ≡ None
slot_word_without_context = refl

-- two writes of one latch make two entries
two_writes : (after_writes (record { at = Res; cell = public 8 } ∷ record { at = Res; cell = tagged } ∷ []) machine_hart).probes ≡
    record { hart = 1; pc = 0x1000; latch = latches.Res; was = 0; now = 8; why = whys.Public }
    ∷ record { hart = 1; pc = 0x1000; latch = latches.Res; was = 8; now = 9; why = whys.Value 3 1 (latches.Reg 5) Now }
    ∷ []
two_writes = refl

-- the latch of a slot word is its address
write_of_a_slot_word : (after_writes (record { at = SlotWord 1; cell = public 8 } ∷ []) machine_hart).probes ≡
    record { hart = 1; pc = 0x1000; latch = latches.Mem 0x344; was = 0; now = 8; why = whys.Public } ∷ []
write_of_a_slot_word = refl
