-- Texts between commas: there is at least one where anything is left.
use Rattle.std.proofs.Common.{◌≡◌, ℕ, Bool, true, false, List, [], ◌∷◌, length, map, Option, Some, None, option_copied, is_some, not, ◌<◌, Bor, Ok, refl, ap, arith}
use Rattle.asm_line.specs.declared.pieces.Separator.TheVariants.{Comma}
use Rattle.asm_line.specs.Pieces.{pieces, is_separator, trim, texts_after}
use Rattle.asm_line.specs.Operands.{have_shapes, with_operands}
use Rattle.asm_line.specs.declared.fields.Operand.{Operand}
use Rattle.asm_line.specs.declared.fields.Fields.{Fields}
use Rattle.asm_line.proofs.Colons.{IsMore, split_more}

no_operands_more : (ts : List (List ℕ)) → IsMore ts → have_shapes [] (map trim ts) ≡ false
no_operands_more [] h = absurd h
no_operands_more (t ∷ ts) h = refl

pub have_shapes-none : (rest : Option (Bor (List ℕ))) → have_shapes [] (texts_after (option_copied rest)) ≡ not (is_some rest)
have_shapes-none None = refl
have_shapes-none (Some text) = no_operands_more (pieces Comma text.now) (split_more (is_separator Comma) text.now)

pub have_shapes-nil : (operands : List Operand) → 0 < length operands → have_shapes operands [] ≡ false
have_shapes-nil [] h = absurd (omega arith)
have_shapes-nil (operand ∷ operands) h = refl

pub with_operands-nil : (operands : List Operand) (fields : Fields) → with_operands operands [] fields ≡ Ok fields
with_operands-nil [] fields = refl
with_operands-nil (operand ∷ operands) fields = refl

pub negated : (a b : Bool) → not a ≡ b → a ≡ not b
negated true b e = ap not e
negated false b e = ap not e
