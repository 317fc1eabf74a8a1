-- Traps and their return (privileged manual, "Machine Status Registers", "Machine Trap-Vector Base-Address Register",
-- "Machine Exception Program Counter", "Machine Cause Register", "Trap-Return Instructions"), and interrupts.
use Rattle.std.specs.Prelude.{ℕ, Bool, true, false, ◌&&◌, Option, Some, None, if◌then◌else◌}
use Rattle.hart_model.specs.declared.tag.Mode.{Mode}
use Rattle.hart_model.specs.declared.tag.Mode.TheVariants.{User, Machine}
use Rattle.hart_model.specs.Csrs.{CsrFile}

-- the file after a trap with this cause at this pc; the new pc is mtvec
abbrev pub csrs_after_trap : CsrFile → ℕ → ℕ → CsrFile
csrs_after_trap c cause pc = record c {
  mode = Machine;
  is_enabled = false;
  was_enabled = c.is_enabled;
  previous = c.mode;
  mepc = pc;
  mcause = cause;
}

-- the file after MRET; the new pc is mepc
abbrev pub csrs_after_mret : CsrFile → CsrFile
csrs_after_mret c = record c {
  mode = c.previous;
  is_enabled = c.was_enabled;
  was_enabled = true;
  previous = User;
}

-- interrupts are taken in user mode, and in machine mode where MIE is set
abbrev pub takes_interrupts : Mode → Bool → Bool
takes_interrupts User is_enabled = true
takes_interrupts Machine is_enabled = is_enabled

-- used fuel, as interrupt 16; it comes before the timer (this project's own)
abbrev pub fuel_cause : ℕ
fuel_cause = 0x80000010

-- the machine timer, interrupt 7
abbrev pub timer_cause : ℕ
timer_cause = 0x80000007

-- the cause that is enabled and pending
abbrev pub interrupt_of : CsrFile → Bool → Option ℕ
interrupt_of c is_fuel_out =
    if takes_interrupts c.mode c.is_enabled then
    (if is_fuel_out && c.is_fuel_enabled then Some fuel_cause
    else if c.is_timer_pending && c.is_timer_enabled then Some timer_cause
    else None)
    else None
