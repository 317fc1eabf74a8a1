-- The names that operands may be.
use Rattle.std.specs.Prelude.{ℕ, ◌+◌, Bool, not, ◌&&◌, ◌||◌, nat_le, ◌==◌, if◌then◌else◌, List, [], ◌∷◌, length, slice_index, codes, Option, Some, None}
use Rattle.std.specs.List.{list_all}
use Rattle.std.specs.Str.{bytes_eq}
use Rattle.hart_model.specs.Csrs.{mstatus, mie, mtvec, mscratch, mepc, mcause, mtval, mip, pmpcfg0, pmpaddr0, mhartid}
use Rattle.asm_line.specs.Numbers.{is_decimal_digit, is_lower_case, is_upper_case}

-- the number of a name
abbrev pub number_named : List (List ℕ × ℕ) → List ℕ → Option ℕ
number_named [] text = None
number_named (entry ∷ entries) text = if bytes_eq entry.0 text then Some entry.1 else number_named entries text

-- The registers by number, and by the names of the calling convention (unprivileged manual, "RISC-V Assembly Programmer's
-- Handbook").
abbrev pub register_names : List (List ℕ × ℕ)
register_names =
    (codes "x0", 0) ∷ (codes "x1", 1) ∷ (codes "x2", 2) ∷ (codes "x3", 3) ∷ (codes "x4", 4) ∷ (codes "x5", 5) ∷ (codes "x6", 6)
    ∷ (codes "x7", 7) ∷ (codes "x8", 8) ∷ (codes "x9", 9) ∷ (codes "x10", 10) ∷ (codes "x11", 11) ∷ (codes "x12", 12)
    ∷ (codes "x13", 13) ∷ (codes "x14", 14) ∷ (codes "x15", 15) ∷ (codes "x16", 16) ∷ (codes "x17", 17) ∷ (codes "x18", 18)
    ∷ (codes "x19", 19) ∷ (codes "x20", 20) ∷ (codes "x21", 21) ∷ (codes "x22", 22) ∷ (codes "x23", 23) ∷ (codes "x24", 24)
    ∷ (codes "x25", 25) ∷ (codes "x26", 26) ∷ (codes "x27", 27) ∷ (codes "x28", 28) ∷ (codes "x29", 29) ∷ (codes "x30", 30)
    ∷ (codes "x31", 31)
    ∷ (codes "zero", 0) ∷ (codes "ra", 1) ∷ (codes "sp", 2) ∷ (codes "gp", 3) ∷ (codes "tp", 4)
    ∷ (codes "t0", 5) ∷ (codes "t1", 6) ∷ (codes "t2", 7)
    ∷ (codes "s0", 8) ∷ (codes "fp", 8) ∷ (codes "s1", 9)
    ∷ (codes "a0", 10) ∷ (codes "a1", 11) ∷ (codes "a2", 12) ∷ (codes "a3", 13) ∷ (codes "a4", 14) ∷ (codes "a5", 15)
    ∷ (codes "a6", 16) ∷ (codes "a7", 17)
    ∷ (codes "s2", 18) ∷ (codes "s3", 19) ∷ (codes "s4", 20) ∷ (codes "s5", 21) ∷ (codes "s6", 22) ∷ (codes "s7", 23)
    ∷ (codes "s8", 24) ∷ (codes "s9", 25) ∷ (codes "s10", 26) ∷ (codes "s11", 27)
    ∷ (codes "t3", 28) ∷ (codes "t4", 29) ∷ (codes "t5", 30) ∷ (codes "t6", 31) ∷ []

-- the control and status registers of this profile
abbrev pub csr_names : List (List ℕ × ℕ)
csr_names =
    (codes "mstatus", mstatus) ∷ (codes "mie", mie) ∷ (codes "mtvec", mtvec) ∷ (codes "mscratch", mscratch) ∷ (codes "mepc", mepc)
    ∷ (codes "mcause", mcause) ∷ (codes "mtval", mtval) ∷ (codes "mip", mip) ∷ (codes "pmpcfg0", pmpcfg0)
    ∷ (codes "pmpaddr0", pmpaddr0) ∷ (codes "pmpaddr1", pmpaddr0 + 1) ∷ (codes "pmpaddr2", pmpaddr0 + 2)
    ∷ (codes "pmpaddr3", pmpaddr0 + 3) ∷ (codes "mhartid", mhartid) ∷ []

-- a letter, a digit or `_`
abbrev pub is_name_byte : ℕ → Bool
is_name_byte b = is_lower_case b || is_upper_case b || is_decimal_digit b || (b == 0x5f)

-- whether a text may name a label: 1 to 64 letters, digits and `_`, the first one no digit
abbrev pub is_name : List ℕ → Bool
is_name text =
    nat_le 1 (length text) && nat_le (length text) 64 && list_all is_name_byte text && not (is_decimal_digit (slice_index text 0))
