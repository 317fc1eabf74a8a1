-- The control and status registers of this profile (privileged manual, "Machine-Level CSRs"): exactly these exist.
use Rattle.std.specs.Prelude.{ℕ, ◌+◌, ◌-◌, ◌*◌, ◌^◌, Bool, true, false, ◌&&◌, [], ◌∷◌, set, Option, Some, None, nat_le, ◌==◌, if◌then◌else◌}
use Rattle.isa_model.specs.Bits.{bits, word_address}
use Rattle.isa_model.specs.Arithmetic.{bit_of}
use Rattle.hart_model.specs.declared.tag.Mode.{Mode}
use Rattle.hart_model.specs.declared.tag.Mode.TheVariants.{User, Machine}
use Rattle.hart_model.specs.declared.tag.Tag.{Tag}
use Rattle.hart_model.specs.declared.tag.Tag.TheVariants.{Public}
use Rattle.hart_model.specs.declared.tag.Cell.{Cell}
use Rattle.hart_model.specs.Cells.{blank}
use Rattle.hart_model.specs.Pmp.{PmpFile, addr_of, legal_pmpcfg, boot_pmpcfg}

pub record CsrFile : Type 0 where
  pub hart : ℕ  -- mhartid
  pub mode : Mode  -- the present mode, which no CSR shows
  pub is_enabled : Bool  -- mstatus.MIE
  pub was_enabled : Bool  -- mstatus.MPIE
  pub previous : Mode  -- mstatus.MPP
  pub is_timer_enabled : Bool  -- mie bit 7
  pub is_fuel_enabled : Bool  -- mie bit 16
  pub mtvec : ℕ
  pub mscratch : Cell  -- the latch Scr
  pub mepc : ℕ
  pub mcause : ℕ
  pub is_timer_pending : Bool  -- mip bit 7
  pub pmp : PmpFile

-- a hart of this number at boot
abbrev pub boot_csrs : ℕ → CsrFile
boot_csrs hart = record {
  hart = hart;
  mode = Machine;
  is_enabled = false;
  was_enabled = false;
  previous = User;
  is_timer_enabled = true;
  is_fuel_enabled = true;
  mtvec = 0x1000;
  mscratch = blank;
  mepc = 0;
  mcause = 0;
  is_timer_pending = false;
  pmp = record { cfg = boot_pmpcfg; addrs = 0 ∷ 0 ∷ 0 ∷ 0 ∷ [] };
}

-- the numbers
abbrev pub mstatus : ℕ
mstatus = 0x300

abbrev pub mie : ℕ
mie = 0x304

abbrev pub mtvec : ℕ
mtvec = 0x305

abbrev pub mscratch : ℕ
mscratch = 0x340

abbrev pub mepc : ℕ
mepc = 0x341

abbrev pub mcause : ℕ
mcause = 0x342

abbrev pub mtval : ℕ
mtval = 0x343

abbrev pub mip : ℕ
mip = 0x344

abbrev pub pmpcfg0 : ℕ
pmpcfg0 = 0x3a0

abbrev pub pmpaddr0 : ℕ
pmpaddr0 = 0x3b0

abbrev pub mhartid : ℕ
mhartid = 0xf14

abbrev pub is_pmpaddr : ℕ → Bool
is_pmpaddr number = nat_le pmpaddr0 number && nat_le number (pmpaddr0 + 3)

-- MPP, two bits: 00 user, 11 machine
abbrev pub mode_bits : Mode → ℕ
mode_bits User = 0
mode_bits Machine = 3

-- MIE bit 3, MPIE bit 7, MPP bits 12:11
abbrev pub mstatus_value : CsrFile → ℕ
mstatus_value c = 2 ^ 3 * bit_of c.is_enabled + 2 ^ 7 * bit_of c.was_enabled + 2 ^ 11 * mode_bits c.previous

abbrev pub mie_value : CsrFile → ℕ
mie_value c = 2 ^ 7 * bit_of c.is_timer_enabled + 2 ^ 16 * bit_of c.is_fuel_enabled

abbrev pub public : ℕ → Cell
public value = record { value = value; tag = Public }

-- what a read of a CSR gives, by its number; None where there is no such CSR
unfoldable pub csr_cell : CsrFile → ℕ → Option Cell
csr_cell c number =
    if number == mstatus then Some (public (mstatus_value c))
    else if number == mie then Some (public (mie_value c))
    else if number == mtvec then Some (public c.mtvec)
    else if number == mscratch then Some c.mscratch
    else if number == mepc then Some (public c.mepc)
    else if number == mcause then Some (public c.mcause)
    else if number == mtval then Some (public 0)
    else if number == mip then Some (public (2 ^ 7 * bit_of c.is_timer_pending))
    else if number == pmpcfg0 then Some (public c.pmp.cfg)
    else if is_pmpaddr number then Some (public (addr_of c.pmp (number - pmpaddr0)))
    else if number == mhartid then Some (public c.hart)
    else None

-- a written MPP of 01 or 10 becomes 00
abbrev pub legal_mode : ℕ → Mode
legal_mode two_bits = if two_bits == 3 then Machine else User

abbrev pub is_bit_set : ℕ → ℕ → Bool
is_bit_set number value = bits number 1 value == 1

abbrev pub with_mstatus : CsrFile → ℕ → CsrFile
with_mstatus c value = record c { is_enabled = is_bit_set 3 value; was_enabled = is_bit_set 7 value; previous = legal_mode (bits 11 2 value) }

abbrev pub with_mie : CsrFile → ℕ → CsrFile
with_mie c value = record c { is_timer_enabled = is_bit_set 7 value; is_fuel_enabled = is_bit_set 16 value }

abbrev pub with_pmpcfg : CsrFile → ℕ → CsrFile
with_pmpcfg c value = record c { pmp = record { cfg = legal_pmpcfg value; addrs = c.pmp.addrs } }

abbrev pub with_pmpaddr : CsrFile → ℕ → ℕ → CsrFile
with_pmpaddr c i value = record c { pmp = record { cfg = c.pmp.cfg; addrs = set c.pmp.addrs i value } }

-- the file after a write of a CSR other than mscratch, each value made legal; writes of mtval and mip are ignored
abbrev pub with_public_csr : CsrFile → ℕ → ℕ → Option CsrFile
with_public_csr c number value =
    if number == mstatus then Some (with_mstatus c value)
    else if number == mie then Some (with_mie c value)
    else if number == mtvec then Some (record c { mtvec = word_address value })
    else if number == mepc then Some (record c { mepc = word_address value })
    else if number == mcause then Some (record c { mcause = value })
    else if number == mtval then Some c
    else if number == mip then Some c
    else if number == pmpcfg0 then Some (with_pmpcfg c value)
    else if is_pmpaddr number then Some (with_pmpaddr c (number - pmpaddr0) value)
    else None

-- only a public value goes into a CSR other than mscratch (this project's own)
abbrev pub with_csr_by_tag : CsrFile → ℕ → ℕ → Tag → Option CsrFile
with_csr_by_tag c number value Public = with_public_csr c number value
with_csr_by_tag c number value tag = None

-- the file after a write; None where it is refused: no such CSR, mhartid, or a tagged value for one that is not mscratch
unfoldable pub with_csr : CsrFile → ℕ → Cell → Option CsrFile
with_csr c number cell = if number == mscratch then Some (record c { mscratch = cell }) else with_csr_by_tag c number cell.value cell.tag
