-- Physical memory protection on entries whose answers are known.
use Rattle.std.proofs.Common.{◌≡◌, ℕ, refl, true, false, [], ◌∷◌}
use Rattle.hart_model.specs.declared.access.Access.TheVariants.{Read, Write, Fetch}
use Rattle.hart_model.specs.declared.tag.Mode.TheVariants.{User, Machine}
use Rattle.hart_model.specs.Pmp.{PmpFile, no_protection, region_of, is_allowed, is_allowed_by, low_ones, legal_entry, legal_pmpcfg, boot_pmpcfg}

abbrev file : ℕ → ℕ → ℕ → PmpFile
file cfg first second = record { cfg = cfg; addrs = first ∷ second ∷ 0 ∷ 0 ∷ [] }

-- top of range: from the address below, whether that entry is off, top of range, four bytes or a power of two
range_over_off : region_of (file 0x0900 0x100 0x200) 1 ≡ record { low = 0x400; high = 0x800 }
range_over_off = refl

range_over_range : region_of (file 0x0909 0x100 0x200) 1 ≡ record { low = 0x400; high = 0x800 }
range_over_range = refl

range_over_four_bytes : region_of (file 0x0911 0x100 0x200) 1 ≡ record { low = 0x400; high = 0x800 }
range_over_four_bytes = refl

range_over_power : region_of (file 0x0919 0x101 0x200) 1 ≡ record { low = 0x404; high = 0x800 }
range_over_power = refl

lowest_range : region_of (file 0x09 0x100 0x200) 0 ≡ record { low = 0; high = 0x400 }
lowest_range = refl

-- the end of a range is not in it, and the word before is
word_before_end : is_allowed User (file 0x0900 0x100 0x200) 0x7fc 4 Read ≡ true
unfolding is_allowed_by
word_before_end = refl

word_at_end : is_allowed User (file 0x0900 0x100 0x200) 0x800 4 Read ≡ false
unfolding is_allowed_by
word_at_end = refl

-- a range that ends where it starts or below covers nothing, so the next entry decides
empty_range : is_allowed User (record { cfg = 0x0f0800; addrs = 0x200 ∷ 0x100 ∷ 0x300 ∷ 0 ∷ [] }) 0x400 4 Read ≡ true
unfolding is_allowed_by
empty_range = refl

four_bytes : region_of (file 0x11 0x101 0) 0 ≡ record { low = 0x404; high = 0x408 }
four_bytes = refl

eight_bytes : region_of (file 0x19 0x100 0) 0 ≡ record { low = 0x400; high = 0x408 }
unfolding low_ones
eight_bytes = refl

sixteen_bytes : region_of (file 0x19 0x101 0) 0 ≡ record { low = 0x400; high = 0x410 }
unfolding low_ones
sixteen_bytes = refl

-- 29 low ones are 2 ^ 32 bytes, and 32 of them are 2 ^ 35
upper_four_gigabytes : region_of (file 0x19 0x5fffffff 0) 0 ≡ record { low = 0x100000000; high = 0x200000000 }
unfolding low_ones
upper_four_gigabytes = refl

all_ones : region_of (file 0x19 0xffffffff 0) 0 ≡ record { low = 0; high = 0x800000000 }
unfolding low_ones
all_ones = refl

-- an entry that has some bytes of an access and not all refuses it, whatever the entry above has
straddle : is_allowed User (file 0x1f11 0x100 0xffffffff) 0x402 4 Read ≡ false
unfolding is_allowed_by
straddle = refl

-- the lower entry decides, also where it refuses
lower_refuses : is_allowed User (file 0x1f10 0x100 0xffffffff) 0x400 4 Read ≡ false
unfolding is_allowed_by
lower_refuses = refl

upper_permits : is_allowed User (file 0x1f10 0x100 0xffffffff) 0x404 4 Write ≡ true
unfolding is_allowed_by low_ones
upper_permits = refl

nothing_matches : is_allowed User no_protection 0x400 4 Read ≡ false
unfolding is_allowed_by
nothing_matches = refl

machine_mode : is_allowed Machine no_protection 0x400 4 Write ≡ true
machine_mode = refl

fetch_without_x : is_allowed User (file 0x1b 0xffffffff 0) 0x400 4 Fetch ≡ false
unfolding is_allowed_by low_ones
fetch_without_x = refl

-- W without R becomes neither; X, A and R stay; the lock bit and the two above A become 0
write_alone : legal_entry 0x02 ≡ 0
write_alone = refl

write_and_fetch : legal_entry 0x1e ≡ 0x1c
write_and_fetch = refl

all_bits : legal_pmpcfg 0xffffffff ≡ 0x1f1f1f1f
unfolding low_ones
all_bits = refl

byte_by_byte : legal_pmpcfg 0x9e031a07 ≡ 0x1c031807
byte_by_byte = refl

boot_is_legal : legal_pmpcfg boot_pmpcfg ≡ boot_pmpcfg
boot_is_legal = refl

-- under the boot configuration: code of two words at 0x100000, data of one word at 0x108000
abbrev small_task : PmpFile
small_task = record { cfg = boot_pmpcfg; addrs = 0x40000 ∷ 0x40002 ∷ 0x42000 ∷ 0x42001 ∷ [] }

fetch_of_code : is_allowed User small_task 0x100004 4 Fetch ≡ true
unfolding is_allowed_by
fetch_of_code = refl

load_of_code : is_allowed User small_task 0x100007 1 Read ≡ true
unfolding is_allowed_by
load_of_code = refl

store_into_code : is_allowed User small_task 0x100004 4 Write ≡ false
unfolding is_allowed_by
store_into_code = refl

fetch_past_code : is_allowed User small_task 0x100008 4 Fetch ≡ false
unfolding is_allowed_by
fetch_past_code = refl

store_into_data : is_allowed User small_task 0x108000 4 Write ≡ true
unfolding is_allowed_by
store_into_data = refl

store_past_data : is_allowed User small_task 0x108004 4 Write ≡ false
unfolding is_allowed_by
store_past_data = refl

fetch_of_data : is_allowed User small_task 0x108000 4 Fetch ≡ false
unfolding is_allowed_by
fetch_of_data = refl

load_of_a_slot : is_allowed User small_task 0x200 4 Read ≡ false
unfolding is_allowed_by
load_of_a_slot = refl
