-- What is written so far, and the text of what is left, are the whole.
use Rattle.std.proofs.Common.{◌≡◌, ◌++◌, drop}
use Rattle.std.specs.List.{flat_map}
use Rattle.bundle_text.specs.Text.{world_text}
use Rattle.bundle_text.proofs.writing.add_worlds.Given as goal

abbrev pub invariant-loop-world : goal.invariant-loop-world
invariant-loop-world l = l.out.items ++ flat_map world_text (drop l.world-index l.worlds) ≡ l.initial.out.items ++ flat_map world_text l.worlds
