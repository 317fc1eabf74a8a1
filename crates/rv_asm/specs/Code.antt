-- The words of a line, as code holds them, and the labels, as code looks them up.
use Rattle.std.specs.Prelude.{ℕ, List, [], ◌∷◌, Option, Result, Ok, Err}
use Rattle.std.specs.Map.{lookup}
use Rattle.std.specs.Str.{bytes_eq}
use Rattle.asm_line.specs.declared.line.AsmKind.{AsmKind}
use Rattle.rv_asm.specs.declared.linking.Code.{Code}
use Rattle.rv_asm.specs.declared.linking.Code.TheVariants.{Empty, One, Two}

abbrev pub words_of_code : Code → List ℕ
words_of_code Empty = []
words_of_code (One word) = word ∷ []
words_of_code (Two first second) = first ∷ second ∷ []

abbrev pub words_of_result : Result Code AsmKind → Result (List ℕ) AsmKind
words_of_result (Ok code) = Ok (words_of_code code)
words_of_result (Err kind) = Err kind

abbrev pub place_in : List (List ℕ × ℕ) → List ℕ → Option ℕ
place_in places label = lookup (bytes_eq label) places
