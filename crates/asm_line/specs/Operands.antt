-- What an operand says. Its first fault is one of three: it names no register, it is no number, or its number is out of range.
use Rattle.std.specs.Prelude.{ℕ, ◌-◌, ◌^◌, Bool, true, false, ◌&&◌, if◌then◌else◌, List, [], ◌∷◌, Option, Some, None, Result, Ok, Err, ℤ}
use Rattle.isa_model.specs.Bits.{two_complement}
use Rattle.asm_line.specs.declared.line.AsmKind.{AsmKind}
use Rattle.asm_line.specs.declared.line.AsmKind.TheVariants.{BadRegister, BadNumber, OutOfRange}
use Rattle.asm_line.specs.declared.fields.Operand.{Operand}
use Rattle.asm_line.specs.declared.fields.Operand.TheVariants.{Rd, Rs1, Rs2, Imm12, Imm20, Shamt, Uimm, Address, Csr, JumpTarget, BranchTarget, Number}
use Rattle.asm_line.specs.declared.fields.Fields.{Fields}
use Rattle.asm_line.specs.declared.fields.Target.{Target}
use Rattle.asm_line.specs.declared.fields.Target.TheVariants.{Distance, Label}
use Rattle.asm_line.specs.Pieces.{is_address, offset_part, register_part}
use Rattle.asm_line.specs.Numbers.{number_of, distance_of, is_within, is_even}
use Rattle.asm_line.specs.Names.{number_named, register_names, csr_names, is_name}

infixl 10 ◌>>=◌
abbrev pub ◌>>=◌ : {A B : Type 0} → Result A AsmKind → (A → Result B AsmKind) → Result B AsmKind
(Ok x) >>= f = f x
(Err kind) >>= f = Err kind

-- a value, or this fault
abbrev pub or_fault : {A : Type 0} → Option A → AsmKind → Result A AsmKind
or_fault None kind = Err kind
or_fault (Some x) kind = Ok x

abbrev pub register : List ℕ → Result ℕ AsmKind
register text = or_fault (number_named register_names text) BadRegister

-- a number from -below to above
abbrev pub in_range : ℕ → ℕ → ℤ → Result ℤ AsmKind
in_range below above number = if is_within below above number then Ok number else Err OutOfRange

abbrev pub number_in : ℕ → ℕ → List ℕ → Result ℤ AsmKind
number_in below above text = or_fault (number_of text) BadNumber >>= λ number. in_range below above number

-- a signed number as a word: its two's complement, where it is in range
abbrev pub word_value : ℤ → ℕ
word_value number = two_complement 32 number

-- a number from 0 to above
abbrev pub unsigned_in : ℕ → List ℕ → Result ℕ AsmKind
unsigned_in above text = number_in 0 above text >>= λ number. Ok (word_value number)

-- any number that fits a word, modulo 2 ^ 32
abbrev pub word_in : List ℕ → Result ℕ AsmKind
word_in text = number_in (2 ^ 31) (2 ^ 32 - 1) text >>= λ number. Ok (word_value number)

-- a CSR by its name, or else by its number
abbrev pub csr_named : Option ℕ → List ℕ → Result ℕ AsmKind
csr_named (Some number) text = Ok number
csr_named None text = unsigned_in (2 ^ 12 - 1) text

abbrev pub csr : List ℕ → Result ℕ AsmKind
csr text = csr_named (number_named csr_names text) text

-- an even distance from -reach to reach - 2
abbrev pub distance_in : ℕ → ℤ → Result Target AsmKind
distance_in reach off = if is_within reach (reach - 2) off && is_even off then Ok (Distance off) else Err OutOfRange

-- a distance, or else a label
abbrev pub target_or_label : ℕ → Option ℤ → List ℕ → Result Target AsmKind
target_or_label reach (Some off) text = distance_in reach off
target_or_label reach None text = if is_name text then Ok (Label text) else Err BadNumber

abbrev pub target : ℕ → List ℕ → Result Target AsmKind
target reach text = target_or_label reach (distance_of text) text

-- The fields with what an operand says.
abbrev pub with_operand : Operand → List ℕ → Fields → Result Fields AsmKind
with_operand Rd text f = register text >>= λ r. Ok (record f { rd = r })
with_operand Rs1 text f = register text >>= λ r. Ok (record f { rs1 = r })
with_operand Rs2 text f = register text >>= λ r. Ok (record f { rs2 = r })
with_operand Imm12 text f = number_in (2 ^ 11) (2 ^ 11 - 1) text >>= λ n. Ok (record f { imm12 = n })
with_operand Imm20 text f = unsigned_in (2 ^ 20 - 1) text >>= λ n. Ok (record f { imm20 = n })
with_operand Shamt text f = unsigned_in 31 text >>= λ n. Ok (record f { shamt = n })
with_operand Uimm text f = unsigned_in 31 text >>= λ n. Ok (record f { uimm = n })
with_operand Address text f =
    register (register_part text) >>= λ r. (number_in (2 ^ 11) (2 ^ 11 - 1) (offset_part text) >>= λ n. Ok (record f { rs1 = r; imm12 = n }))
with_operand Csr text f = csr text >>= λ number. Ok (record f { csr = number })
with_operand JumpTarget text f = target (2 ^ 20) text >>= λ t. Ok (record f { jump = t })
with_operand BranchTarget text f = target (2 ^ 12) text >>= λ t. Ok (record f { branch = t })
with_operand Number text f = word_in text >>= λ n. Ok (record f { number = n })

-- only an address has a shape that is judged before its parts
abbrev pub has_shape : Operand → List ℕ → Bool
has_shape Address text = is_address text
has_shape _ text = true

-- whether there are as many texts as operands, each of its shape
abbrev pub have_shapes : List Operand → List (List ℕ) → Bool
have_shapes [] [] = true
have_shapes (operand ∷ operands) (text ∷ texts) = has_shape operand text && have_shapes operands texts
have_shapes _ _ = false

-- The fields with what operands say, from the left.
abbrev pub with_operands : List Operand → List (List ℕ) → Fields → Result Fields AsmKind
with_operands (operand ∷ operands) (text ∷ texts) f = with_operand operand text f >>= λ g. with_operands operands texts g
with_operands _ _ f = Ok f
