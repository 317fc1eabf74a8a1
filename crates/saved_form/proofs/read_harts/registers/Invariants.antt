-- What is read in all is what was read, and after it what is left.
use Rattle.std.proofs.Common.{◌≡◌, ◌-◌, [], length, take}
use Rattle.saved_form.specs.Fields.{items}
use Rattle.saved_form.specs.Reading.{register}
use Rattle.saved_form.proofs.Onward.{onward}
use Rattle.saved_form.proofs.read_harts.registers.Given as goal

abbrev pub invariant-loop-index : goal.invariant-loop-index
invariant-loop-index l =
    (items (register l.pc) [] 31 l.fn.numbers ≡ onward (register l.pc) (take l.index l.found) (31 - l.index) l.numbers) × (length l.found ≡ 31)
