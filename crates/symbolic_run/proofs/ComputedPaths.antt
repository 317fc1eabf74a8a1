-- Paths that the checker computes: which words of the slot they may reach, and their answers.
use Rattle.std.proofs.Common.{ℕ, Bool, true, false, List, replicate}

-- every word of the slot may be reached
abbrev pub every_word : ℕ → Bool
every_word index = true

-- the answers of so many instructions of which none is a branch that is taken
abbrev pub straight : ℕ → List Bool
straight count = replicate count false
