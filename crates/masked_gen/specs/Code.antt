-- The code of a chain of gates over two words, of which each is the exclusive or of two shares. x1 and x2 are the shares of the word that
-- goes through the chain, x3 and x4 those of the other word.
use Rattle.std.specs.Prelude.{ℕ, List, [], ◌∷◌, ◌++◌, codes}
use Rattle.std.specs.List.{flat_map}
use Rattle.masked_gen.specs.declared.gate.Gate.{Gate}
use Rattle.masked_gen.specs.declared.gate.Gate.TheVariants.{Xor, And}

-- the next word of the tape comes to this register, and x10 keeps nothing
abbrev pub taken_into : List ℕ → List (List ℕ)
taken_into register = codes "ecall" ∷ (codes "addi " ++ register ++ codes ",x10,0") ∷ codes "addi x10,x0,0" ∷ []

-- an operation, after which the operand ports and the result are cleared
abbrev pub cleared : List ℕ → List (List ℕ)
cleared operation = operation ∷ codes "add x0,x0,x0" ∷ []

-- The service 2 gives words of the tape: the four shares.
abbrev pub start_lines : List (List ℕ)
start_lines = codes "addi x17,x0,2" ∷ flat_map taken_into (codes "x1" ∷ codes "x2" ∷ codes "x3" ∷ codes "x4" ∷ [])

-- each share by itself
abbrev pub xor_lines : List (List ℕ)
xor_lines = flat_map cleared (codes "xor x1,x1,x3" ∷ codes "xor x2,x2,x4" ∷ [])

-- all four products of shares, with a mask from the tape in x5 between them; nothing stays in x5 to x9
abbrev pub and_lines : List (List ℕ)
and_lines =
    taken_into (codes "x5")
    ++ (flat_map cleared
    (codes "and x6,x1,x4" ∷ codes "xor x6,x6,x5" ∷ codes "and x7,x1,x3" ∷ codes "xor x7,x7,x6" ∷ codes "and x8,x2,x3" ∷ codes "xor x8,x8,x5"
    ∷ codes "and x9,x2,x4" ∷ codes "xor x9,x9,x8" ∷ codes "addi x1,x7,0" ∷ codes "addi x2,x9,0" ∷ [])
    ++ (codes "addi x5,x0,0" ∷ codes "addi x6,x0,0" ∷ codes "addi x7,x0,0" ∷ codes "addi x8,x0,0" ∷ codes "addi x9,x0,0" ∷ []))

abbrev pub gate_lines : Gate → List (List ℕ)
gate_lines Xor = xor_lines
gate_lines And = and_lines

-- The service 1 puts out each share of the result, and the service 0 ends the task.
abbrev pub end_lines : List (List ℕ)
end_lines =
    codes "addi x17,x0,1" ∷ codes "addi x10,x1,0" ∷ codes "ecall" ∷ codes "addi x10,x0,0" ∷ codes "add x0,x0,x0" ∷ codes "addi x10,x2,0"
    ∷ codes "ecall" ∷ codes "addi x10,x0,0" ∷ codes "addi x17,x0,0" ∷ codes "ecall" ∷ []

-- one instruction on each line
abbrev pub code_lines : List Gate → List (List ℕ)
code_lines gates = start_lines ++ (flat_map gate_lines gates ++ end_lines)
