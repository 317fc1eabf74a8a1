-- Lines that are linked one by one.
use Rattle.std.proofs.Common.{◌≡◌, ℕ, List, ◌++◌, Option, Result, Ok, Err}
use Rattle.rv_asm.specs.declared.fault.AsmFault.{AsmFault}
use Rattle.rv_asm.specs.declared.listing.Placed.{Placed}
use Rattle.rv_asm.specs.Assembly.{linked}

-- words, and those of later lines
abbrev pub and_later : List (ℕ × ℕ) → Result (List (ℕ × ℕ)) AsmFault → Result (List (ℕ × ℕ)) AsmFault
and_later words (Ok later) = Ok (words ++ later)
and_later words (Err fault) = Err fault

-- The lines so far are linked, and what is left decides.
pub record AreLinked (find : List ℕ → Option ℕ) (lines : List Placed) (words : List (ℕ × ℕ)) (left : List Placed) : Type 0 where
  pub linked : linked find lines ≡ and_later words (linked find left)
