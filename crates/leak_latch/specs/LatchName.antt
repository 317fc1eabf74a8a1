-- The names of latches in texts (this project's own).
use Rattle.std.specs.Prelude.{ℕ, ◌/◌, ◌%◌, ◌^◌, List, [], ◌∷◌, ◌++◌, map, codes, decimal, slice_index}
use Rattle.isa_model.specs.declared.latch.Latch.{Latch}
use Rattle.isa_model.specs.declared.latch.Latch.TheVariants.{Reg, PortA, PortB, Res, Load, Store, Scr, Mul, Mem}

-- the lower case hexadecimal digit of a number below 16
abbrev pub hex_digit_of : ℕ → ℕ
hex_digit_of d = slice_index (codes "0123456789abcdef") d

-- a word in eight lower case hexadecimal digits, the highest first
abbrev pub hex_word_of : ℕ → List ℕ
hex_word_of word = map (λ place. hex_digit_of (word / 16 ^ place % 16)) (7 ∷ 6 ∷ 5 ∷ 4 ∷ 3 ∷ 2 ∷ 1 ∷ 0 ∷ [])

-- a register by its number, a memory word by its address
abbrev pub latch_name : Latch → List ℕ
latch_name (Reg r) = codes "x" ++ decimal r
latch_name PortA = codes "portA"
latch_name PortB = codes "portB"
latch_name Res = codes "res"
latch_name Load = codes "load"
latch_name Store = codes "store"
latch_name Scr = codes "scr"
latch_name Mul = codes "mul"
latch_name (Mem at) = codes "m" ++ hex_word_of at
