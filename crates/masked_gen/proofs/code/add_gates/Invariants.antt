-- The lines of the gates so far are added.
use Rattle.std.proofs.Common.{◌≡◌, ◌++◌, take}
use Rattle.std.specs.List.{flat_map}
use Rattle.masked_gen.specs.Code.{gate_lines}
use Rattle.masked_gen.proofs.code.add_gates.Given as goal

abbrev pub invariant-loop-gate : goal.invariant-loop-gate
invariant-loop-gate l = l.code ≡ l.initial.code ++ flat_map gate_lines (take l.gate-index l.gates)
