-- What the code answers that reads, by what the numbers say.
use Rattle.std.specs.Prelude.{◌≡◌, ⊤, Result, Ok, Err}
use Rattle.saved_form.specs.declared.numbers.ReadError.{ReadError}
use Rattle.saved_form.specs.declared.numbers.ReadError.TheVariants.{Short as IsShort, Bad as IsBad, Memory}
use Rattle.saved_form.specs.Fields.{FieldFault, Short, Bad, Place, got}
use Rattle.saved_form.specs.Saved.{SavedBoard}

-- The error is the fault that was decided, unless memory ran out.
abbrev pub IsFault : {A : Type 0} → ReadError → Result A FieldFault → Type 0
IsFault (IsShort at) decided = decided ≡ Err (Short at)
IsFault (IsBad at) decided = decided ≡ Err (Bad at)
IsFault Memory decided = ⊤

-- The value, and the place after it, are those that were decided.
abbrev pub Gives : {A : Type 0} → Result A ReadError → Place → Result (A × Place) FieldFault → Type 0
Gives (Ok x) after decided = decided ≡ got x after
Gives (Err error) after decided = IsFault error decided

-- The board is the one that was decided.
abbrev pub Answers : Result SavedBoard ReadError → Result SavedBoard FieldFault → Type 0
Answers (Ok board) decided = decided ≡ Ok board
Answers (Err error) decided = IsFault error decided
