-- What is read in all is what was read, and after it what is left.
use Rattle.std.proofs.Common.{◌≡◌, ◌-◌, [], length, take}
use Rattle.saved_form.specs.Fields.{items}
use Rattle.saved_form.specs.Ranges.{any}
use Rattle.saved_form.specs.Reading.{number}
use Rattle.saved_form.proofs.Onward.{onward}
use Rattle.saved_form.proofs.numbers.Numbers.array.Given as goal

abbrev pub invariant-loop-index : goal.invariant-loop-index
invariant-loop-index g l =
    (items (number any) [] g.row.N l.initial.self ≡ onward (number any) (take l.index l.found) (g.row.N - l.index) l.self) × (length l.found ≡ g.row.N)
