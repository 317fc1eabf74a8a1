-- What a chain of gates computes of words that aren't shared: each gate takes the word so far and the other word.
use Rattle.std.specs.Prelude.{ℕ, List, [], ◌∷◌, bit_and, bit_xor}
use Rattle.masked_gen.specs.declared.gate.Gate.{Gate}
use Rattle.masked_gen.specs.declared.gate.Gate.TheVariants.{Xor, And}

abbrev pub gate_value : Gate → ℕ → ℕ → ℕ
gate_value Xor word other = bit_xor word other
gate_value And word other = bit_and word other

abbrev pub chain_value : List Gate → ℕ → ℕ → ℕ
chain_value [] word other = word
chain_value (gate ∷ gates) word other = chain_value gates (gate_value gate word other) other
