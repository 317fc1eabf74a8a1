-- Physical memory protection with four entries (privileged manual, "Physical Memory Protection"). That there are exactly four,
-- and that the lock bit is always 0, is this project's profile.
use Rattle.std.specs.Prelude.{◌≡◌, ℕ, zero, suc, ◌+◌, ◌-◌, ◌*◌, ◌/◌, ◌%◌, ◌^◌, ◌⊎◌, min, max, Bool, true, false, ◌&&◌, List, [], ◌∷◌, length, get_or, nat_le, nat_lt, ◌==◌, if◌then◌else◌}
use Rattle.isa_model.specs.Bits.{bits}
use Rattle.isa_model.specs.declared.task.Task.{Task}
use Rattle.hart_model.specs.declared.tag.Mode.{Mode}
use Rattle.hart_model.specs.declared.tag.Mode.TheVariants.{User, Machine}
use Rattle.hart_model.specs.declared.access.Access.{Access}
use Rattle.hart_model.specs.declared.access.Access.TheVariants.{Read, Write, Fetch}
use Rattle.hart_model.specs.declared.region.AddressMatching.{AddressMatching}
use Rattle.hart_model.specs.declared.region.AddressMatching.TheVariants.{Off, Tor, Na4, Napot}
use Rattle.hart_model.specs.declared.region.Region.{Region}

-- the word of pmpcfg0, a byte an entry, and the words of pmpaddr0 to pmpaddr3, each an address divided by 4
pub record PmpFile : Type 0 where
  pub cfg : ℕ
  pub addrs : List ℕ

-- every entry off: machine mode may do every access, user mode none
abbrev pub no_protection : PmpFile
no_protection = record { cfg = 0; addrs = 0 ∷ 0 ∷ 0 ∷ 0 ∷ [] }

-- the configuration byte of entry i: R bit 0, W bit 1, X bit 2, A bits 4:3
abbrev pub cfg_of : PmpFile → ℕ → ℕ
cfg_of p i = bits (8 * i) 8 p.cfg

abbrev pub addr_of : PmpFile → ℕ → ℕ
addr_of p i = get_or p.addrs i 0

-- the A field of a configuration byte
abbrev pub matching_of : ℕ → AddressMatching
matching_of cfg =
    let a = bits 3 2 cfg in if a == 0 then Off else if a == 1 then Tor else if a == 2 then Na4 else Napot

-- how many of the low bits are 1, counted up to `width`
unfoldable pub low_ones : ℕ → ℕ → ℕ
low_ones zero n = 0
low_ones (suc width) n = if n % 2 == 1 then 1 + low_ones width (n / 2) else 0

-- where a top-of-range entry begins: at the address of the entry below, whatever that entry is, and at 0 for entry 0
abbrev pub range_start : PmpFile → ℕ → ℕ
range_start p zero = 0
range_start p (suc i) = 4 * addr_of p i

-- a naturally aligned power of two: k low ones of the address word stand for 2 ^ (k + 3) bytes, from the word without them on
abbrev pub napot_region : ℕ → ℕ → Region
napot_region addr k = record { low = 4 * (addr - (2 ^ k - 1)); high = 4 * (addr - (2 ^ k - 1)) + 2 ^ (k + 3) }

-- the bytes that entry i covers
abbrev pub region_by : PmpFile → ℕ → AddressMatching → Region
region_by p i Off = record { low = 0; high = 0 }
region_by p i Tor = record { low = range_start p i; high = 4 * addr_of p i }
region_by p i Na4 = record { low = 4 * addr_of p i; high = 4 * addr_of p i + 4 }
region_by p i Napot = napot_region (addr_of p i) (low_ones 32 (addr_of p i))

abbrev pub region_of : PmpFile → ℕ → Region
region_of p i = region_by p i (matching_of (cfg_of p i))

-- whether a region has any byte, and whether it has every byte, of an access of `size` bytes
abbrev pub is_touched : Region → ℕ → ℕ → Bool
is_touched r at size = nat_lt (max r.low at) (min r.high (at + size))

abbrev pub is_covered : Region → ℕ → ℕ → Bool
is_covered r at size = nat_le r.low at && nat_le (at + size) r.high

-- the bit of a configuration byte that an access needs
abbrev pub permission_bit : Access → ℕ
permission_bit Read = 0
permission_bit Write = 1
permission_bit Fetch = 2

abbrev pub is_permitted : ℕ → Access → Bool
is_permitted cfg kind = bits (permission_bit kind) 1 cfg == 1

-- The first of these entries that has any byte of the access decides: it has to have all of them and to permit the access.
unfoldable pub is_allowed_by : PmpFile → ℕ → ℕ → Access → List ℕ → Bool
is_allowed_by p at size kind [] = false
is_allowed_by p at size kind (i ∷ is) =
    if is_touched (region_of p i) at size then is_covered (region_of p i) at size && is_permitted (cfg_of p i) kind
    else is_allowed_by p at size kind is

abbrev pub entries : List ℕ
entries = 0 ∷ 1 ∷ 2 ∷ 3 ∷ []

-- Machine mode may do every access, since no entry is locked.
abbrev pub is_allowed : Mode → PmpFile → ℕ → ℕ → Access → Bool
is_allowed Machine p at size kind = true
is_allowed User p at size kind = is_allowed_by p at size kind entries

-- what a written configuration byte becomes: reserved bits 0, and W without R neither
abbrev pub legal_entry : ℕ → ℕ
legal_entry cfg = (if bits 0 1 cfg == 1 then bits 0 2 cfg else 0) + 2 ^ 2 * bits 2 1 cfg + 2 ^ 3 * bits 3 2 cfg

abbrev pub legal_pmpcfg : ℕ → ℕ
legal_pmpcfg word =
    legal_entry (bits 0 8 word) + 2 ^ 8 * legal_entry (bits 8 8 word) + 2 ^ 16 * legal_entry (bits 16 8 word) + 2 ^ 24 * legal_entry (bits 24 8 word)

-- at boot: entry 1 is top of range with R and X (the code), entry 3 is top of range with R and W (the data)
abbrev pub boot_pmpcfg : ℕ
boot_pmpcfg = 0x0b000d00

-- the four bounds of a task, for pmpaddr0 to pmpaddr3: start and end of its code, start and end of its data
abbrev pub bounds_of : Task → List ℕ
bounds_of T = T.code_at / 4 ∷ (T.code_at + 4 * length T.code) / 4 ∷ T.data_at / 4 ∷ (T.data_at + 4 * T.data_len) / 4 ∷ []

-- the protection under which a task runs in user mode
abbrev pub task_pmp : Task → PmpFile
task_pmp T = record { cfg = boot_pmpcfg; addrs = bounds_of T }

-- how many bytes an access may have
abbrev pub IsAccessSize : ℕ → Type 0
IsAccessSize size = (size ≡ 1) ⊎ ((size ≡ 2) ⊎ (size ≡ 4))
