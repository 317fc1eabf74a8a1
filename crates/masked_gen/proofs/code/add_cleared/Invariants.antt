-- The operations so far are added.
use Rattle.std.proofs.Common.{◌≡◌, ◌++◌, take}
use Rattle.std.specs.List.{flat_map}
use Rattle.bundle_text.specs.Pieces.{texts}
use Rattle.masked_gen.specs.Code.{cleared}
use Rattle.masked_gen.proofs.code.add_cleared.Given as goal

abbrev pub invariant-loop-operation : goal.invariant-loop-operation
invariant-loop-operation l = l.code ≡ l.initial.code ++ flat_map cleared (texts (take l.operation-index l.operations))
