-- What is written so far, and the bytes of what is left, are the whole.
use Rattle.std.proofs.Common.{◌≡◌, ◌++◌, drop}
use Rattle.std.specs.List.{flat_map}
use Rattle.saved_form.specs.Spelling.{of_hart, bytes_of}
use Rattle.saved_form.proofs.writing.add_harts.Given as goal

abbrev pub invariant-loop-hart : goal.invariant-loop-hart
invariant-loop-hart l = l.out.items ++ bytes_of (flat_map of_hart (drop l.hart-index l.harts)) ≡ l.initial.out.items ++ bytes_of (flat_map of_hart l.harts)
