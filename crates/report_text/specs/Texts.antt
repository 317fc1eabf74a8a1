-- The texts of numbers and of ends.
use Rattle.std.specs.Prelude.{ℕ, List, ◌++◌, codes, decimal}
use Rattle.std.specs.Int.{to_be_bytes, w32}
use Rattle.hex.specs.Hex.{encode_lower}
use Rattle.isa_model.specs.declared.ends.End.{End}
use Rattle.isa_model.specs.declared.ends.End.TheVariants.{Exited, Faulted, BadCall, TapeEnd, OutFull, OutOfSteps}

-- a word as eight lower case hexadecimal digits, the most significant first
abbrev pub hex_word : ℕ → List ℕ
hex_word word = encode_lower (to_be_bytes w32 word)

-- how a task ended
abbrev pub end_text : End → List ℕ
end_text (Exited code) = codes "exited " ++ hex_word code
end_text (Faulted cause pc) = codes "faulted " ++ (decimal cause ++ (codes " at " ++ hex_word pc))
end_text (BadCall number) = codes "bad-call " ++ hex_word number
end_text TapeEnd = codes "tape-end"
end_text OutFull = codes "out-full"
end_text OutOfSteps = codes "out-of-steps"
