-- The changes of the members so far.
use Rattle.std.proofs.Common.{◌≡◌, take}
use Rattle.probe_inspect.specs.Columns.{changes_of}
use Rattle.probe_inspect.proofs.columns.gather.Given as goal

abbrev pub invariant-loop-member : goal.invariant-loop-member
invariant-loop-member l = l.changes.items ≡ changes_of l.rows l.at (take l.member-index l.members)
