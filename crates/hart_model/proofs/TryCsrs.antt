-- Control and status registers, traps and interrupts on values that are known.
use Rattle.std.proofs.Common.{◌≡◌, ℕ, refl, true, false, Option, Some, None}
use Rattle.std.specs.Option.{option_and_then}
use Rattle.hart_model.specs.declared.tag.Mode.TheVariants.{User, Machine}
use Rattle.hart_model.specs.declared.tag.Tag.TheVariants.{Many}
use Rattle.hart_model.specs.declared.tag.Cell.{Cell}
use Rattle.hart_model.specs.Csrs.{CsrFile, boot_csrs, csr_cell, with_csr, public}
use Rattle.hart_model.specs.Traps.{csrs_after_trap, csrs_after_mret, interrupt_of}

-- what a CSR of hart 2 reads after a public value was written to it at boot
abbrev written : ℕ → ℕ → Option Cell
written number value = option_and_then (λ (c : CsrFile). csr_cell c number) (with_csr (boot_csrs 2) number (public value))

abbrev mixed : Cell
mixed = record { value = 0x1000; tag = Many }

status_at_boot : csr_cell (boot_csrs 2) 0x300 ≡ Some (public 0)
unfolding csr_cell
status_at_boot = refl

enables_at_boot : csr_cell (boot_csrs 2) 0x304 ≡ Some (public 0x00010080)
unfolding csr_cell
enables_at_boot = refl

protection_at_boot : csr_cell (boot_csrs 2) 0x3a0 ≡ Some (public 0x0b000d00)
unfolding csr_cell
protection_at_boot = refl

number_of_the_hart : csr_cell (boot_csrs 2) 0xf14 ≡ Some (public 2)
unfolding csr_cell
number_of_the_hart = refl

-- MPP keeps 11 and makes 01 and 10 to 00; MIE and MPIE stay, all else is 0
previous_machine : written 0x300 0x00001888 ≡ Some (public 0x00001888)
unfolding csr_cell with_csr
previous_machine = refl

previous_01 : written 0x300 0x00000808 ≡ Some (public 0x00000008)
unfolding csr_cell with_csr
previous_01 = refl

previous_10 : written 0x300 0x00001080 ≡ Some (public 0x00000080)
unfolding csr_cell with_csr
previous_10 = refl

all_of_status : written 0x300 0xffffffff ≡ Some (public 0x00001888)
unfolding csr_cell with_csr
all_of_status = refl

all_of_enables : written 0x304 0xffffffff ≡ Some (public 0x00010080)
unfolding csr_cell with_csr
all_of_enables = refl

direct_vector : written 0x305 0x00001003 ≡ Some (public 0x00001000)
unfolding csr_cell with_csr
direct_vector = refl

word_pc : written 0x341 0x0010000b ≡ Some (public 0x00100008)
unfolding csr_cell with_csr
word_pc = refl

any_cause : written 0x342 0xffffffff ≡ Some (public 0xffffffff)
unfolding csr_cell with_csr
any_cause = refl

ignored_value : written 0x343 7 ≡ Some (public 0)
unfolding csr_cell with_csr
ignored_value = refl

ignored_pending : written 0x344 0xffffffff ≡ Some (public 0)
unfolding csr_cell with_csr
ignored_pending = refl

all_of_protection : written 0x3a0 0xffffffff ≡ Some (public 0x1f1f1f1f)
unfolding csr_cell with_csr
all_of_protection = refl

last_address : written 0x3b3 0xffffffff ≡ Some (public 0xffffffff)
unfolding csr_cell with_csr
last_address = refl

number_is_read_only : written 0xf14 2 ≡ None
unfolding csr_cell with_csr
number_is_read_only = refl

no_such_register : written 0x301 0 ≡ None
unfolding csr_cell with_csr
no_such_register = refl

past_the_addresses : csr_cell (boot_csrs 2) 0x3b4 ≡ None
unfolding csr_cell
past_the_addresses = refl

tagged_scratch : option_and_then (λ (c : CsrFile). csr_cell c 0x340) (with_csr (boot_csrs 2) 0x340 mixed) ≡ Some mixed
unfolding csr_cell with_csr
tagged_scratch = refl

tagged_pc : with_csr (boot_csrs 2) 0x341 mixed ≡ None
unfolding with_csr
tagged_pc = refl

-- even where the write would be ignored
tagged_pending : with_csr (boot_csrs 2) 0x344 mixed ≡ None
unfolding with_csr
tagged_pending = refl

-- user mode with MIE 1, the timer pending
abbrev in_user : CsrFile
in_user = record (boot_csrs 2) { mode = User; is_enabled = true; is_timer_pending = true }

pending_timer : csr_cell in_user 0x344 ≡ Some (public 0x80)
unfolding csr_cell
pending_timer = refl

status_after_trap : csr_cell (csrs_after_trap in_user 8 0x00100004) 0x300 ≡ Some (public 0x00000080)
unfolding csr_cell
status_after_trap = refl

pc_of_trap : csr_cell (csrs_after_trap in_user 8 0x00100004) 0x341 ≡ Some (public 0x00100004)
unfolding csr_cell
pc_of_trap = refl

status_after_trap_in_machine_mode : csr_cell (csrs_after_trap (boot_csrs 2) 2 0x1000) 0x300 ≡ Some (public 0x00001800)
unfolding csr_cell
status_after_trap_in_machine_mode = refl

status_after_return : csr_cell (csrs_after_mret (csrs_after_trap in_user 8 0x00100004)) 0x300 ≡ Some (public 0x00000088)
unfolding csr_cell
status_after_return = refl

fuel_before_timer : interrupt_of in_user true ≡ Some 0x80000010
fuel_before_timer = refl

timer : interrupt_of in_user false ≡ Some 0x80000007
timer = refl

fuel_not_enabled : interrupt_of (record in_user { is_fuel_enabled = false }) true ≡ Some 0x80000007
fuel_not_enabled = refl

none_enabled : interrupt_of (record in_user { is_timer_enabled = false }) false ≡ None
none_enabled = refl

user_without_enable : interrupt_of (record in_user { is_enabled = false }) false ≡ Some 0x80000007
user_without_enable = refl

machine_without_enable : interrupt_of (record in_user { mode = Machine; is_enabled = false }) true ≡ None
machine_without_enable = refl

machine_with_enable : interrupt_of (record in_user { mode = Machine }) true ≡ Some 0x80000010
machine_with_enable = refl
