-- The arithmetic of the instructions, by numbers (unprivileged manual, RV32I, "Integer Computational Instructions", "Control
-- Transfer Instructions", "Load and Store Instructions"; M, "Multiplication Operations", "Division Operations"; "Zicsr").
use Rattle.std.specs.Prelude.{ℕ, ◌+◌, ◌-◌, ◌*◌, ◌/◌, ◌%◌, ◌^◌, Bool, ◌&&◌, not, nat_lt, nat_le, int_lt, int_le, ◌==◌, bit_and, bit_or, bit_xor, if◌then◌else◌, ℤ, pos, negsuc, ◌*ℤ◌, int_div, int_rem}
use Rattle.isa_model.specs.Bits.{bits, low_word, two_complement, sign_extend}
use Rattle.isa_model.specs.declared.instr.Alu.{Alu}
use Rattle.isa_model.specs.declared.instr.Alu.TheVariants.{Add, Sub, Sll, Slt, Sltu, Xor, Srl, Sra, Or, And, Mul, Mulh, Mulhsu, Mulhu, Div, Divu, Rem, Remu}
use Rattle.isa_model.specs.declared.instr.Cmp.{Cmp}
use Rattle.isa_model.specs.declared.instr.Cmp.TheVariants.{Beq, Bne, Blt, Bge, Bltu, Bgeu}
use Rattle.isa_model.specs.declared.instr.LoadKind.{LoadKind}
use Rattle.isa_model.specs.declared.instr.LoadKind.TheVariants as loads
use Rattle.isa_model.specs.declared.instr.StoreKind.{StoreKind}
use Rattle.isa_model.specs.declared.instr.StoreKind.TheVariants as stores
use Rattle.isa_model.specs.declared.instr.CsrOp.{CsrOp}
use Rattle.isa_model.specs.declared.instr.CsrOp.TheVariants.{Rw, Rs, Rc}

-- a word as a signed number
abbrev pub signed : ℕ → ℤ
signed a = sign_extend 32 a

abbrev pub bit_of : Bool → ℕ
bit_of b = if b then 1 else 0

-- division of an integer that rounds down: what a shift to the right that copies the sign gives
abbrev pub floor_quotient : ℤ → ℕ → ℤ
floor_quotient (pos n) divisor = pos (n / divisor)
floor_quotient (negsuc n) divisor = negsuc (n / divisor)

-- the high word of a product of two numbers of 32 bits, which fits 64 bits
abbrev pub high_word : ℤ → ℕ
high_word product = two_complement 32 (floor_quotient product (2 ^ 32))

-- Sums, differences and the low word of a product are modulo 2 ^ 32. A shift uses the low five bits of its amount. `int_div` rounds
-- towards zero, so `int_rem` has the sign of the dividend; a division by 0 gives all ones, with the dividend as its remainder. The
-- one quotient that isn't a signed word, -2 ^ 31 by -1, gives 2 ^ 31, which is the word of -2 ^ 31.
abbrev pub alu_of : Alu → ℕ → ℕ → ℕ
alu_of Add a b = low_word (a + b)
alu_of Sub a b = low_word (a + 2 ^ 32 - b)
alu_of Sll a b = low_word (a * 2 ^ (b % 32))
alu_of Slt a b = bit_of (int_lt (signed a) (signed b))
alu_of Sltu a b = bit_of (nat_lt a b)
alu_of Xor a b = bit_xor a b
alu_of Srl a b = a / 2 ^ (b % 32)
alu_of Sra a b = two_complement 32 (floor_quotient (signed a) (2 ^ (b % 32)))
alu_of Or a b = bit_or a b
alu_of And a b = bit_and a b
alu_of Mul a b = low_word (a * b)
alu_of Mulh a b = high_word (signed a *ℤ signed b)
alu_of Mulhsu a b = high_word (signed a *ℤ pos b)
alu_of Mulhu a b = high_word (pos a *ℤ pos b)
alu_of Div a b = if b == 0 then 2 ^ 32 - 1 else two_complement 32 (int_div (signed a) (signed b))
alu_of Divu a b = if b == 0 then 2 ^ 32 - 1 else a / b
alu_of Rem a b = if b == 0 then a else two_complement 32 (int_rem (signed a) (signed b))
alu_of Remu a b = if b == 0 then a else a % b

abbrev pub is_taken : Cmp → ℕ → ℕ → Bool
is_taken Beq a b = a == b
is_taken Bne a b = not (a == b)
is_taken Blt a b = int_lt (signed a) (signed b)
is_taken Bge a b = int_le (signed b) (signed a)
is_taken Bltu a b = nat_lt a b
is_taken Bgeu a b = nat_le b a

-- how many bytes a load or a store moves; its address has to be a multiple of this
abbrev pub load_size : LoadKind → ℕ
load_size loads.B = 1
load_size loads.Bu = 1
load_size loads.H = 2
load_size loads.Hu = 2
load_size loads.W = 4

abbrev pub store_size : StoreKind → ℕ
store_size stores.B = 1
store_size stores.H = 2
store_size stores.W = 4

-- Memory is little endian: byte 0 of a word is its lowest.
abbrev pub byte_of : ℕ → ℕ → ℕ
byte_of word place = bits (8 * place) 8 word

abbrev pub half_of : ℕ → ℕ → ℕ
half_of word place = byte_of word place + 2 ^ 8 * byte_of word (place + 1)

abbrev pub word_of_bytes : ℕ → ℕ → ℕ → ℕ → ℕ
word_of_bytes b0 b1 b2 b3 = b0 + 2 ^ 8 * b1 + 2 ^ 16 * b2 + 2 ^ 24 * b3

-- what a load at an address gives of the word that the address lies in
abbrev pub load_result : LoadKind → ℕ → ℕ → ℕ
load_result loads.B word at = two_complement 32 (sign_extend 8 (byte_of word (at % 4)))
load_result loads.H word at = two_complement 32 (sign_extend 16 (half_of word (at % 4)))
load_result loads.W word at = word
load_result loads.Bu word at = byte_of word (at % 4)
load_result loads.Hu word at = half_of word (at % 4)

-- byte `place` of a word after a store of the low `size` bytes of a value from byte `first` on
abbrev pub stored_byte : ℕ → ℕ → ℕ → ℕ → ℕ → ℕ
stored_byte size word first value place =
    if nat_le first place && nat_lt place (first + size) then byte_of value (place - first) else byte_of word place

abbrev pub stored_word : ℕ → ℕ → ℕ → ℕ → ℕ
stored_word size word first value =
    word_of_bytes (stored_byte size word first value 0) (stored_byte size word first value 1)
    (stored_byte size word first value 2) (stored_byte size word first value 3)

-- what a store at an address makes of the word that the address lies in
abbrev pub store_result : StoreKind → ℕ → ℕ → ℕ → ℕ
store_result stores.B word at value = stored_word 1 word (at % 4) value
store_result stores.H word at value = stored_word 2 word (at % 4) value
store_result stores.W word at value = value

-- what a CSR instruction makes of the old value and its operand
abbrev pub csr_result : CsrOp → ℕ → ℕ → ℕ
csr_result Rw old operand = operand
csr_result Rs old operand = bit_or old operand
csr_result Rc old operand = bit_and old (2 ^ 32 - 1 - operand)
