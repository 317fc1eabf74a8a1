-- The arithmetic on numbers whose results are known.
use Rattle.std.proofs.Common.{◌≡◌, refl, true, false}
use Rattle.isa_model.specs.declared.instr.Alu.TheVariants.{Sub, Sll, Slt, Sltu, Srl, Sra, Mul, Mulh, Mulhsu, Mulhu, Div, Divu, Rem, Remu}
use Rattle.isa_model.specs.declared.instr.Cmp.TheVariants.{Blt, Bge, Bltu, Bgeu}
use Rattle.isa_model.specs.declared.instr.LoadKind.TheVariants as loads
use Rattle.isa_model.specs.declared.instr.StoreKind.TheVariants as stores
use Rattle.isa_model.specs.declared.instr.CsrOp.TheVariants.{Rs, Rc}
use Rattle.isa_model.specs.Arithmetic.{alu_of, is_taken, load_result, store_result, csr_result}

one_less_two : alu_of Sub 1 2 ≡ 0xffffffff
one_less_two = refl

shift_by_33 : alu_of Sll 0x80000001 33 ≡ 2
shift_by_33 = refl

minus_seven_by_two : alu_of Sra 0xfffffff9 1 ≡ 0xfffffffc
minus_seven_by_two = refl

least_by_31 : alu_of Sra 0x80000000 31 ≡ 0xffffffff
least_by_31 = refl

logical_shift : alu_of Srl 0xfffffff9 1 ≡ 0x7ffffffc
logical_shift = refl

least_below_greatest : alu_of Slt 0x80000000 0x7fffffff ≡ 1
least_below_greatest = refl

unsigned_above : alu_of Sltu 0x80000000 0x7fffffff ≡ 0
unsigned_above = refl

low_product : alu_of Mul 0xffffffff 7 ≡ 0xfffffff9
low_product = refl

least_squared : alu_of Mulh 0x80000000 0x80000000 ≡ 0x40000000
least_squared = refl

high_of_minus_seven : alu_of Mulh 0xffffffff 7 ≡ 0xffffffff
high_of_minus_seven = refl

first_alone_signed : alu_of Mulhsu 0xffffffff 0xffffffff ≡ 0xffffffff
first_alone_signed = refl

both_unsigned : alu_of Mulhu 0xffffffff 0xffffffff ≡ 0xfffffffe
both_unsigned = refl

minus_seven_over_two : alu_of Div 0xfffffff9 2 ≡ 0xfffffffd
minus_seven_over_two = refl

minus_seven_over_minus_two : alu_of Div 0xfffffff9 0xfffffffe ≡ 3
minus_seven_over_minus_two = refl

its_remainder : alu_of Rem 0xfffffff9 2 ≡ 0xffffffff
its_remainder = refl

remainder_of_seven : alu_of Rem 7 0xfffffffe ≡ 1
remainder_of_seven = refl

unsigned_quotient : alu_of Divu 0xfffffff9 2 ≡ 0x7ffffffc
unsigned_quotient = refl

unsigned_remainder : alu_of Remu 0xfffffff9 2 ≡ 1
unsigned_remainder = refl

by_zero : alu_of Div 7 0 ≡ 0xffffffff
by_zero = refl

unsigned_by_zero : alu_of Divu 7 0 ≡ 0xffffffff
unsigned_by_zero = refl

remainder_by_zero : alu_of Rem 0xfffffff9 0 ≡ 0xfffffff9
remainder_by_zero = refl

unsigned_remainder_by_zero : alu_of Remu 0xfffffff9 0 ≡ 0xfffffff9
unsigned_remainder_by_zero = refl

least_over_minus_one : alu_of Div 0x80000000 0xffffffff ≡ 0x80000000
least_over_minus_one = refl

no_remainder : alu_of Rem 0x80000000 0xffffffff ≡ 0
no_remainder = refl

minus_one_below_zero : is_taken Blt 0xffffffff 0 ≡ true
minus_one_below_zero = refl

not_at_least : is_taken Bge 0xffffffff 0 ≡ false
not_at_least = refl

unsigned_not_below : is_taken Bltu 0xffffffff 0 ≡ false
unsigned_not_below = refl

at_least_itself : is_taken Bgeu 5 5 ≡ true
at_least_itself = refl

signed_byte : load_result loads.B 0x80a0b0c0 0x1003 ≡ 0xffffff80
signed_byte = refl

unsigned_byte : load_result loads.Bu 0x80a0b0c0 0x1003 ≡ 0x80
unsigned_byte = refl

signed_half : load_result loads.H 0x80a0b0c0 0x1000 ≡ 0xffffb0c0
signed_half = refl

unsigned_half : load_result loads.Hu 0x80a0b0c0 0x1002 ≡ 0x80a0
unsigned_half = refl

byte_stored : store_result stores.B 0x80a0b0c0 0x1001 0x123ff ≡ 0x80a0ffc0
byte_stored = refl

half_stored : store_result stores.H 0x80a0b0c0 0x1002 0x12345 ≡ 0x2345b0c0
half_stored = refl

bits_set : csr_result Rs 0x80 0x8 ≡ 0x88
bits_set = refl

bits_cleared : csr_result Rc 0x88 0x8 ≡ 0x80
bits_cleared = refl
