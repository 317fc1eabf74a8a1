-- What is written of words are printed bytes: none of them ends a line.
use Rattle.std.proofs.Common.{◌≡◌, ℕ, zero, suc, ◌+◌, ◌/◌, ◌%◌, ◌^◌, ◌<◌, Bool, true, false, eqb, leb, nat_le, List, [], ◌∷◌, ◌++◌, codes, Option, Some, None, IfSome, ℤ, pos, negsuc, refl, ◌∙◌, arith}
use Rattle.std.specs.Fmt.{decimal, signed_decimal, digit_glyph}
use Rattle.std.specs.List.{list_all, join_with_byte, AllByRecursion}
use Rattle.std.proofs.lemmas.Bool.{agree_below_at, leb-true, le-leb, and_parts, and_from, cond_both}
use Rattle.std.proofs.lemmas.List.Folds.{list_all-append}
use Rattle.isa_model.specs.declared.instr.Cmp.{Cmp}
use Rattle.isa_model.specs.declared.instr.Cmp.TheVariants.{Beq, Bne, Blt, Bge, Bltu, Bgeu}
use Rattle.isa_model.specs.declared.instr.LoadKind.{LoadKind}
use Rattle.isa_model.specs.declared.instr.LoadKind.TheVariants as loads
use Rattle.isa_model.specs.declared.instr.StoreKind.{StoreKind}
use Rattle.isa_model.specs.declared.instr.StoreKind.TheVariants as stores
use Rattle.isa_model.specs.declared.instr.Alu.{Alu}
use Rattle.isa_model.specs.declared.instr.Alu.TheVariants.{Add, Sub, Sll, Slt, Sltu, Xor, Srl, Sra, Or, And, Mul, Mulh, Mulhsu, Mulhu, Div, Divu, Rem, Remu}
use Rattle.isa_model.specs.declared.instr.CsrOp.{CsrOp}
use Rattle.isa_model.specs.declared.instr.CsrOp.TheVariants.{Rw, Rs, Rc}
use Rattle.isa_model.specs.declared.instr.Instr.{Instr}
use Rattle.isa_model.specs.declared.instr.Instr.TheVariants.{Lui, Auipc, Jal, Jalr, Branch, Load, Store, AluImm, AluReg, Fence, Ecall, Ebreak, Mret, Csr, CsrImm}
use Rattle.isa_model.specs.Bits.{IsInBits}
use Rattle.isa_model.specs.Encoding.{IsInstr, IsImmediate}
use Rattle.isa_model.specs.InstrTable.{instr_of}
use Rattle.isa_model.proofs.TableLaws.{instr_of-valid}
use Rattle.rv_decode.specs.Mnemonics.{branch_name, load_name, store_name, register_name, immediate_name, csr_name, csr_immediate_name}
use Rattle.rv_decode.specs.Text.{hex_digits, register_text, target_text, address_text, csr_text, word_text, instr_line, text_of_instr}
use Rattle.asm_line.specs.Numbers.{is_decimal_digit}
use Rattle.asm_line.proofs.Written.{decimal_text, in_32}
use Rattle.rv_asm.specs.Disassembly.{line_text, lines_of_words}

-- from the blank on
abbrev pub is_printed : ℕ → Bool
is_printed b = nat_le 0x20 b

abbrev pub IsPrinted : List ℕ → Type 0
IsPrinted text = list_all is_printed text ≡ true

printed-append : (xs ys : List ℕ) → IsPrinted xs → IsPrinted ys → IsPrinted (xs ++ ys)
printed-append xs ys h k = list_all-append is_printed xs ys ∙ and_from (list_all is_printed xs) (list_all is_printed ys) h k

-- ---- numbers

digit_printed : (b : ℕ) → is_decimal_digit b ≡ true → is_printed b ≡ true
digit_printed b h = let above = leb-true 0x30 b (and_parts (leb 0x30 b) (leb b 0x39) h).0 in le-leb 0x20 b (omega arith)

digits_printed : (text : List ℕ) → list_all is_decimal_digit text ≡ true → IsPrinted text
digits_printed [] h = refl
digits_printed (b ∷ text) h =
    let parts = and_parts (is_decimal_digit b) (list_all is_decimal_digit text) h in
    and_from (is_printed b) (list_all is_printed text) (digit_printed b parts.0) (digits_printed text parts.1)

decimal_printed : (n : ℕ) → n < 2 ^ 64 → IsPrinted (decimal n)
decimal_printed n small = digits_printed (decimal n) (decimal_text n small).digits

signed_printed : (z : ℤ) → IsInBits 32 z → IsPrinted (signed_decimal z)
signed_printed (pos n) small = decimal_printed n (omega arith)
signed_printed (negsuc n) small = printed-append (codes "-") (decimal (suc n)) refl (decimal_printed (suc n) (omega arith))

glyph_printed : (d : ℕ) → d < 16 → is_printed (digit_glyph false d) ≡ true
glyph_printed d small = agree_below_at (λ k. is_printed (digit_glyph false k)) (λ _. true) 16 d refl small

hex_printed : (count n : ℕ) → IsPrinted (hex_digits count n)
hex_printed zero n = refl
hex_printed (suc count) n =
    printed-append (hex_digits count (n / 16)) (digit_glyph false (n % 16) ∷ []) (hex_printed count (n / 16))
    (and_from (is_printed (digit_glyph false (n % 16))) true (glyph_printed (n % 16) (omega arith)) refl)

-- ---- operands

register_printed : (r : ℕ) → r < 32 → IsPrinted (register_text r)
register_printed r small = printed-append (codes "x") (decimal r) refl (decimal_printed r (omega arith))

target_printed : (z : ℤ) → IsInBits 32 z → IsPrinted (target_text z)
target_printed (pos n) small = printed-append (codes ".+") (decimal n) refl (decimal_printed n (omega arith))
target_printed (negsuc n) small = printed-append (codes ".-") (decimal (n + 1)) refl (decimal_printed (n + 1) (omega arith))

address_printed : (z : ℤ) (r : ℕ) → IsInBits 32 z → r < 32 → IsPrinted (address_text z r)
address_printed z r small register =
    printed-append (signed_decimal z) (codes "(" ++ (register_text r ++ codes ")")) (signed_printed z small)
    (printed-append (codes "(") (register_text r ++ codes ")") refl (printed-append (register_text r) (codes ")") (register_printed r register) refl))

csr_printed : (csr : ℕ) → IsPrinted (csr_text csr)
csr_printed csr = printed-append (codes "0x") (hex_digits 3 csr) refl (hex_printed 3 csr)

word_printed : (word : ℕ) → IsPrinted (word_text word)
word_printed word = printed-append (codes ".word 0x") (hex_digits 8 word) refl (hex_printed 8 word)

-- ---- lines

join_printed : (texts : List (List ℕ)) → AllByRecursion IsPrinted texts → IsPrinted (join_with_byte 0x2c texts)
join_printed [] each = refl
join_printed (text ∷ []) each = each.0
join_printed (text ∷ next ∷ texts) each =
    printed-append text (0x2c ∷ join_with_byte 0x2c (next ∷ texts)) each.0 (printed-append (0x2c ∷ []) (join_with_byte 0x2c (next ∷ texts)) refl (join_printed (next ∷ texts) each.1))

line_printed : (name : List ℕ) (operands : List (List ℕ)) → IsPrinted name → AllByRecursion IsPrinted operands → IsPrinted (instr_line name operands)
line_printed name operands h each =
    printed-append name (codes " " ++ join_with_byte 0x2c operands) h (printed-append (codes " ") (join_with_byte 0x2c operands) refl (join_printed operands each))

branch_printed : (op : Cmp) → IsPrinted (branch_name op)
branch_printed Beq = refl
branch_printed Bne = refl
branch_printed Blt = refl
branch_printed Bge = refl
branch_printed Bltu = refl
branch_printed Bgeu = refl

load_printed : (kind : LoadKind) → IsPrinted (load_name kind)
load_printed loads.B = refl
load_printed loads.H = refl
load_printed loads.W = refl
load_printed loads.Bu = refl
load_printed loads.Hu = refl

store_printed : (kind : StoreKind) → IsPrinted (store_name kind)
store_printed stores.B = refl
store_printed stores.H = refl
store_printed stores.W = refl

operation_printed : (op : Alu) → IsPrinted (register_name op) × IsPrinted (immediate_name op)
operation_printed Add = (refl, refl)
operation_printed Sub = (refl, refl)
operation_printed Sll = (refl, refl)
operation_printed Slt = (refl, refl)
operation_printed Sltu = (refl, refl)
operation_printed Xor = (refl, refl)
operation_printed Srl = (refl, refl)
operation_printed Sra = (refl, refl)
operation_printed Or = (refl, refl)
operation_printed And = (refl, refl)
operation_printed Mul = (refl, refl)
operation_printed Mulh = (refl, refl)
operation_printed Mulhsu = (refl, refl)
operation_printed Mulhu = (refl, refl)
operation_printed Div = (refl, refl)
operation_printed Divu = (refl, refl)
operation_printed Rem = (refl, refl)
operation_printed Remu = (refl, refl)

csr_name_printed : (op : CsrOp) → IsPrinted (csr_name op) × IsPrinted (csr_immediate_name op)
csr_name_printed Rw = (refl, refl)
csr_name_printed Rs = (refl, refl)
csr_name_printed Rc = (refl, refl)

-- an immediate or an amount of a shift
immediate_fits : (op : Alu) (imm : ℤ) → IsImmediate op imm → IsInBits 32 imm
immediate_fits op imm h = grind (arith, in_32)

-- an instruction's text
instr_printed : (instr : Instr) → IsInstr instr → IsPrinted (text_of_instr instr)
instr_printed (Lui rd imm20) h = line_printed (codes "lui") (register_text rd ∷ decimal imm20 ∷ []) refl (register_printed rd h.0, (decimal_printed imm20 (omega arith), tt))
instr_printed (Auipc rd imm20) h = line_printed (codes "auipc") (register_text rd ∷ decimal imm20 ∷ []) refl (register_printed rd h.0, (decimal_printed imm20 (omega arith), tt))
instr_printed (Jal rd off) h = line_printed (codes "jal") (register_text rd ∷ target_text off ∷ []) refl (register_printed rd h.0, (target_printed off (in_32 off 20 (omega arith) h.1), tt))
instr_printed (Jalr rd rs1 imm) h = line_printed (codes "jalr") (register_text rd ∷ address_text imm rs1 ∷ []) refl (register_printed rd h.0, (address_printed imm rs1 (in_32 imm 11 (omega arith) h.2) h.1, tt))
instr_printed (Branch op rs1 rs2 off) h =
    line_printed (branch_name op) (register_text rs1 ∷ register_text rs2 ∷ target_text off ∷ []) (branch_printed op) (register_printed rs1 h.0, (register_printed rs2 h.1, (target_printed off (in_32 off 12 (omega arith) h.2), tt)))
instr_printed (Load kind rd rs1 imm) h =
    line_printed (load_name kind) (register_text rd ∷ address_text imm rs1 ∷ []) (load_printed kind) (register_printed rd h.0, (address_printed imm rs1 (in_32 imm 11 (omega arith) h.2) h.1, tt))
instr_printed (Store kind rs2 rs1 imm) h =
    line_printed (store_name kind) (register_text rs2 ∷ address_text imm rs1 ∷ []) (store_printed kind) (register_printed rs2 h.0, (address_printed imm rs1 (in_32 imm 11 (omega arith) h.2) h.1, tt))
instr_printed (AluImm op rd rs1 imm) h =
    line_printed (immediate_name op) (register_text rd ∷ register_text rs1 ∷ signed_decimal imm ∷ []) (operation_printed op).1 (register_printed rd h.0, (register_printed rs1 h.1, (signed_printed imm (immediate_fits op imm h.2), tt)))
instr_printed (AluReg op rd rs1 rs2) h =
    line_printed (register_name op) (register_text rd ∷ register_text rs1 ∷ register_text rs2 ∷ []) (operation_printed op).0 (register_printed rd h.0, (register_printed rs1 h.1, (register_printed rs2 h.2, tt)))
instr_printed (Fence word) h = cond_both (eqb word 0x0ff0000f) (codes "fence") (word_text word) IsPrinted (λ _. refl) (λ _. word_printed word)
instr_printed Ecall h = refl
instr_printed Ebreak h = refl
instr_printed Mret h = refl
instr_printed (Csr op rd rs1 csr) h =
    line_printed (csr_name op) (register_text rd ∷ csr_text csr ∷ register_text rs1 ∷ []) (csr_name_printed op).0 (register_printed rd h.0, (csr_printed csr, (register_printed rs1 h.1, tt)))
instr_printed (CsrImm op rd uimm csr) h =
    line_printed (csr_immediate_name op) (register_text rd ∷ csr_text csr ∷ decimal uimm ∷ []) (csr_name_printed op).1 (register_printed rd h.0, (csr_printed csr, (decimal_printed uimm (omega arith), tt)))

line_text_printed : (word : ℕ) (found : Option Instr) → IfSome found IsInstr → IsPrinted (line_text word found)
line_text_printed word None h = word_printed word
line_text_printed word (Some instr) h = instr_printed instr h

-- the lines of words
pub lines_printed : (words : List ℕ) → AllByRecursion (λ word. word < 2 ^ 32) words → AllByRecursion IsPrinted (lines_of_words words)
lines_printed [] each = tt
lines_printed (word ∷ words) each = (line_text_printed word (instr_of word) (instr_of-valid word each.0), lines_printed words each.1)
