-- What reading answers.
use Rattle.std.specs.Prelude.{◌≡◌, ⊤, List, Result, Ok, Err, Vec}
use Rattle.std.specs.declared.alloc.Global.{Global}
use Rattle.bundle_text.specs.declared.draft.Draft.{Draft}
use Rattle.bundle_text.specs.declared.bundle.Bundle.{Bundle}
use Rattle.bundle_text.specs.declared.bundle.BundleFault.{BundleFault}
use Rattle.bundle_text.specs.declared.bundle.BundleKind.{BundleKind}
use Rattle.bundle_text.specs.declared.bundle.BundleKind.TheVariants.{NotText, UnknownWord, Misplaced, Operands, BadNumber, OutOfRange, Repeated, Missing, Memory}

-- The refusal by this kind is what was decided, unless memory ran out.
abbrev pub IsKind : BundleKind → Type 0 → Type 0
IsKind Memory decided = ⊤
IsKind NotText decided = decided
IsKind UnknownWord decided = decided
IsKind Misplaced decided = decided
IsKind Operands decided = decided
IsKind BadNumber decided = decided
IsKind OutOfRange decided = decided
IsKind Repeated decided = decided
IsKind Missing decided = decided

-- the list of a `Vec` that is answered
abbrev pub vec_items : {A : Type 0} → Result (Vec A Global) BundleKind → Result (List A) BundleKind
vec_items (Ok v) = Ok v.items
vec_items (Err kind) = Err kind

-- The answer of one line is what was decided, unless memory ran out.
abbrev pub Says : {A : Type 0} → Result A BundleKind → Result A BundleKind → Type 0
Says (Ok x) decided = decided ≡ Ok x
Says (Err kind) decided = IsKind kind (decided ≡ Err kind)

-- A line leaves the draft that was decided, unless memory ran out.
abbrev pub Leaves : {U : Type 0} → Result U BundleKind → Draft → Result Draft BundleKind → Type 0
Leaves (Ok u) new decided = decided ≡ Ok new
Leaves (Err kind) new decided = IsKind kind (decided ≡ Err kind)

-- A refusal of a text: by want of memory, with line 0, or by the fault that was decided.
abbrev pub IsRefusal : BundleKind → BundleFault → Result Bundle BundleFault → Type 0
IsRefusal Memory fault decided = fault.line ≡ 0
IsRefusal NotText fault decided = decided ≡ Err fault
IsRefusal UnknownWord fault decided = decided ≡ Err fault
IsRefusal Misplaced fault decided = decided ≡ Err fault
IsRefusal Operands fault decided = decided ≡ Err fault
IsRefusal BadNumber fault decided = decided ≡ Err fault
IsRefusal OutOfRange fault decided = decided ≡ Err fault
IsRefusal Repeated fault decided = decided ≡ Err fault
IsRefusal Missing fault decided = decided ≡ Err fault

-- The answer is the bundle or the first fault, unless memory ran out.
abbrev pub Answers : Result Bundle BundleFault → Result Bundle BundleFault → Type 0
Answers (Ok bundle) decided = decided ≡ Ok bundle
Answers (Err fault) decided = IsRefusal fault.kind fault decided
