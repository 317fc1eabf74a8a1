-- The text of each instruction: the manual's assembly syntax, of which this project writes one form. Registers by number,
-- numbers in decimal, one blank after the mnemonic and no other; a target as a distance from the instruction itself.
use Rattle.std.specs.Prelude.{ℕ, zero, suc, ◌+◌, ◌/◌, ◌%◌, false, ◌==◌, if◌then◌else◌, List, [], ◌∷◌, ◌++◌, codes, decimal, ℤ, pos, negsuc}
use Rattle.std.specs.List.{join_with_byte}
use Rattle.std.specs.Fmt.{signed_decimal, digit_glyph}
use Rattle.isa_model.specs.declared.instr.Instr.{Instr}
use Rattle.isa_model.specs.declared.instr.Instr.TheVariants.{Lui, Auipc, Jal, Jalr, Branch, Load, Store, AluImm, AluReg, Fence, Ecall, Ebreak, Mret, Csr, CsrImm}
use Rattle.rv_decode.specs.Mnemonics.{branch_name, load_name, store_name, register_name, immediate_name, csr_name, csr_immediate_name}

-- so many lower case hexadecimal digits of a number
abbrev pub hex_digits : ℕ → ℕ → List ℕ
hex_digits zero number = []
hex_digits (suc count) number = hex_digits count (number / 16) ++ digit_glyph false (number % 16) ∷ []

-- x0 to x31
abbrev pub register_text : ℕ → List ℕ
register_text register = codes "x" ++ decimal register

-- the distance of a target
abbrev pub target_text : ℤ → List ℕ
target_text (pos n) = codes ".+" ++ decimal n
target_text (negsuc n) = codes ".-" ++ decimal (n + 1)

-- an address as an offset from a register
abbrev pub address_text : ℤ → ℕ → List ℕ
address_text offset register = signed_decimal offset ++ (codes "(" ++ (register_text register ++ codes ")"))

abbrev pub csr_text : ℕ → List ℕ
csr_text csr = codes "0x" ++ hex_digits 3 csr

-- a word that no instruction of the listing stands for
abbrev pub word_text : ℕ → List ℕ
word_text word = codes ".word 0x" ++ hex_digits 8 word

-- a mnemonic and its operands
abbrev pub instr_line : List ℕ → List (List ℕ) → List ℕ
instr_line name operands = name ++ (codes " " ++ join_with_byte 0x2c operands)

abbrev pub text_of_instr : Instr → List ℕ
text_of_instr (Lui rd imm20) = instr_line (codes "lui") (register_text rd ∷ decimal imm20 ∷ [])
text_of_instr (Auipc rd imm20) = instr_line (codes "auipc") (register_text rd ∷ decimal imm20 ∷ [])
text_of_instr (Jal rd off) = instr_line (codes "jal") (register_text rd ∷ target_text off ∷ [])
text_of_instr (Jalr rd rs1 imm) = instr_line (codes "jalr") (register_text rd ∷ address_text imm rs1 ∷ [])
text_of_instr (Branch op rs1 rs2 off) = instr_line (branch_name op) (register_text rs1 ∷ register_text rs2 ∷ target_text off ∷ [])
text_of_instr (Load kind rd rs1 imm) = instr_line (load_name kind) (register_text rd ∷ address_text imm rs1 ∷ [])
text_of_instr (Store kind rs2 rs1 imm) = instr_line (store_name kind) (register_text rs2 ∷ address_text imm rs1 ∷ [])
text_of_instr (AluImm op rd rs1 imm) = instr_line (immediate_name op) (register_text rd ∷ register_text rs1 ∷ signed_decimal imm ∷ [])
text_of_instr (AluReg op rd rs1 rs2) = instr_line (register_name op) (register_text rd ∷ register_text rs1 ∷ register_text rs2 ∷ [])
text_of_instr (Fence word) = if word == 0x0ff0000f then codes "fence" else word_text word
text_of_instr Ecall = codes "ecall"
text_of_instr Ebreak = codes "ebreak"
text_of_instr Mret = codes "mret"
text_of_instr (Csr op rd rs1 csr) = instr_line (csr_name op) (register_text rd ∷ csr_text csr ∷ register_text rs1 ∷ [])
text_of_instr (CsrImm op rd uimm csr) = instr_line (csr_immediate_name op) (register_text rd ∷ csr_text csr ∷ decimal uimm ∷ [])
